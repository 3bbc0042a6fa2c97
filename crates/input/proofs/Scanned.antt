-- What was scanned, and what comes next.
use Rattle.std.proofs.Common.{◌≡◌, ◌∙◌, ℕ, ◌+◌, ◌==◌, ◌||◌, Bool, true, false, List, [], ◌∷◌, ◌++◌, length, Option}
use Rattle.std.proofs.Common.{None, refl, sym, ap, append_assoc, length-append}
use Rattle.std.specs.Prelude.{if◌then◌else◌}
use Rattle.std.proofs.lemmas.List.{append-nil}
use Rattle.input.specs.NumberTexts.{Said, ended, has_lf, said}
use Rattle.input.specs.Scans.{HasScanned, ScannerView, after, list_of, said_from}
use Rattle.input.specs.internal.Lines.{start_of_line}

-- ---- ended lines

pub has_lf-other : (b : ℕ) (xs : List ℕ) → (b == 10) ≡ false → has_lf (xs ++ b ∷ []) ≡ has_lf xs
has_lf-other b [] e = rw e refl
has_lf-other b (x ∷ xs) e = ap (λ t. x == 10 || t) (has_lf-other b xs e)

pub ended-other : (b : ℕ) (xs : List ℕ) → (b == 10) ≡ false → ended (xs ++ b ∷ []) ≡ ended xs
ended-other b [] e = rw e refl
ended-other b (x ∷ xs) e =
    ap (λ t. if x == 10 || t then x ∷ ended (xs ++ b ∷ []) else []) (has_lf-other b xs e)
    ∙ ap (λ l. if x == 10 || has_lf xs then x ∷ l else []) (ended-other b xs e)

or-true : (a : Bool) → (a || true) ≡ true
or-true true = refl
or-true false = refl

has_lf-lf : (xs : List ℕ) → has_lf (xs ++ 10 ∷ []) ≡ true
has_lf-lf [] = refl
has_lf-lf (x ∷ xs) = ap (λ t. x == 10 || t) (has_lf-lf xs) ∙ or-true (x == 10)

pub ended-lf : (xs : List ℕ) → ended (xs ++ 10 ∷ []) ≡ xs ++ 10 ∷ []
ended-lf [] = refl
ended-lf (x ∷ xs) =
    ap (λ t. if t then x ∷ ended (xs ++ 10 ∷ []) else []) (has_lf-lf (x ∷ xs))
    ∙ ap (λ l. x ∷ l) (ended-lf xs)

-- ---- what is said

after-after : (xs ys : List ℕ) (s : Said) → after xs (after ys s) ≡ after (xs ++ ys) s
after-after xs ys s = let as_said : List ℕ → Said = λ l. record { numbers = l; refused = s.refused } in
    ap as_said (sym (append_assoc xs ys s.numbers))

pub scanned_none : (s : ScannerView) → s ≡ record { line = start_of_line; after_cr = false; lines = 0; numbers = 0 } → HasScanned s [] []
unfolding said
scanned_none s e = rw e record { goes_on_so = λ rest. refl; are_ended = refl; count = refl }

-- a byte within a line
pub scanned_byte : (s t : ScannerView) (b : ℕ) (text numbers : List ℕ) → (b == 10) ≡ false
    → ((rest : List ℕ) → said_from s (b ∷ rest) ≡ said_from t rest) → t.numbers ≡ s.numbers
    → HasScanned s text numbers → HasScanned t (text ++ b ∷ []) numbers
scanned_byte s t b text numbers other same count h = record {
  goes_on_so = λ rest. ap said (append_assoc text (b ∷ []) rest) ∙ h.goes_on_so (b ∷ rest) ∙ ap (after numbers) (same rest);
  are_ended = ap said (ended-other b text other) ∙ h.are_ended;
  count = count ∙ h.count;
}

-- the end of a line
pub scanned_line : (s t : ScannerView) (n : Option ℕ) (text numbers : List ℕ)
    → ((rest : List ℕ) → said_from s (10 ∷ rest) ≡ after (list_of n) (said_from t rest))
    → t ≡ record { line = start_of_line; after_cr = false; lines = s.lines + 1; numbers = s.numbers + length (list_of n) }
    → HasScanned s text numbers → HasScanned t (text ++ 10 ∷ []) (numbers ++ list_of n)
scanned_line s t n text numbers same is h = record {
  goes_on_so = λ rest. ap said (append_assoc text (10 ∷ []) rest) ∙ h.goes_on_so (10 ∷ rest)
      ∙ ap (after numbers) (same rest) ∙ after-after numbers (list_of n) (said_from t rest);
  are_ended = ap said (ended-lf text) ∙ h.goes_on_so (10 ∷ []) ∙ ap (after numbers) (same [])
      ∙ ap (λ u. after numbers (after (list_of n) (said_from u []))) is ∙ nothing_after numbers (list_of n);
  count = ap (λ (u : ScannerView). u.numbers) is ∙ ap (λ k. k + length (list_of n)) h.count ∙ sym (length-append numbers (list_of n));
}
  where
    as_said : List ℕ → Said
    as_said l = record { numbers = l; refused = None }

    nothing_after : (xs ys : List ℕ) → as_said (xs ++ (ys ++ [])) ≡ as_said (xs ++ ys)
    nothing_after xs ys = ap (λ l. as_said (xs ++ l)) (append-nil ys)
