-- A text that is copied to the front of an array of zeros.
use Rattle.std.proofs.Common.{◌≡◌, ℕ, zero, suc, ◌+◌, ◌-◌, ◌<◌, ◌≤◌, ◌≢◌, List, [], ◌∷◌, ◌++◌, length, get_or, set}
use Rattle.std.proofs.Common.{take, refl, sym, ◌∙◌, ap, arith, inl, inr}
use Rattle.std.specs.Prelude.{replicate}
use Rattle.std.proofs.lemmas.Bool.{cases_lt}
use Rattle.std.proofs.lemmas.List.{ext_get_or, get_or-set_same, get_or-set_other, get_or_past, get_or-take}
use Rattle.std.proofs.lemmas.List.{length-append, length-replicate, get_or-replicate, get_or_append_left}
use Rattle.std.proofs.lemmas.List.{get_or-append_right}

pub zeros : (n k : ℕ) → ◌≡◌ {A = ℕ} (get_or (replicate n 0) k 0) 0
zeros n k =
    elim (cases_lt k n) [
      | inl below ↦ get_or-replicate n k 0 0 below
      | inr above ↦ get_or_past (replicate n 0) k 0 (simp length-replicate above)
    ]

short_take : (i : ℕ) (text : List ℕ) → (length (take i text) ≤ i) × (length (take i text) ≤ length text)
short_take zero text = (omega arith, omega arith)
short_take (suc i) [] = (omega arith, omega arith)
short_take (suc i) (x ∷ xs) = let h = short_take i xs in (omega (arith, h.0), omega (arith, h.1))

past_take : (i k : ℕ) (text : List ℕ) → i ≤ k → get_or (take i text) k 0 ≡ 0
past_take i k text h = get_or_past (take i text) k 0 (omega (arith, (short_take i text).0))

past_text : (i k : ℕ) (text : List ℕ) → length text ≤ k → get_or (take i text) k 0 ≡ 0
past_text i k text h = get_or_past (take i text) k 0 (omega (arith, (short_take i text).1))

-- one more byte
pub copy_more : (bytes text : List ℕ) (i : ℕ) → i < length bytes
    → ((k : ℕ) → get_or bytes k 0 ≡ get_or (take i text) k 0) → (k : ℕ)
    → get_or (set bytes i (get_or text i 0)) k 0 ≡ get_or (take (i + 1) text) k 0
copy_more bytes text i room done k =
    elim (cases_lt k i) [
      | inl below ↦ let ne : k ≢ i = omega arith in get_or-set_other bytes i k (get_or text i 0) 0 ne ∙ done k
          ∙ get_or-take i text k 0 below ∙ sym (get_or-take (i + 1) text k 0 (omega arith))
      | inr from ↦ elim (cases_lt i k) [
        | inl above ↦ let ne : k ≢ i = omega arith in get_or-set_other bytes i k (get_or text i 0) 0 ne ∙ done k
            ∙ past_take i k text from ∙ sym (past_take (i + 1) k text (omega arith))
        | inr to ↦ let same : k ≡ i = omega arith in rw same
            (get_or-set_same bytes i (get_or text i 0) 0 room ∙ sym (get_or-take (i + 1) text i 0 (omega arith)))
      ]
    ]

-- the text, and zeros after it
pub copied_all : (bytes text : List ℕ) (n i : ℕ) → length bytes ≡ n → length text ≤ n → length text ≤ i
    → ((k : ℕ) → get_or bytes k 0 ≡ get_or (take i text) k 0) → bytes ≡ text ++ replicate (n - length text) 0
copied_all bytes text n i count fits past done =
    ext_get_or 0 bytes (text ++ replicate (n - length text) 0) (simp (length-append, length-replicate) (omega arith))
    (λ k h.
    elim (cases_lt k (length text)) [
      | inl below ↦ done k ∙ get_or-take i text k 0 (omega arith) ∙ sym (get_or_append_left text (replicate (n - length text) 0) 0 k below)
      | inr above ↦ done k ∙ past_text i k text above ∙ sym
          (get_or-append_right text (replicate (n - length text) 0) (length text) k 0 refl above
          ∙ zeros (n - length text) (k - length text))
    ])

-- the front of an array that is filled up
pub front : (text rest : List ℕ) → take (length text) (text ++ rest) ≡ text
front [] rest = refl
front (x ∷ xs) rest = ap (λ ys. x ∷ ys) (front xs rest)
