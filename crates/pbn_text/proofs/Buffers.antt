-- A buffer that is written from some index on: what is in it up to the new end.
use Rattle.std.proofs.Common.{◌≡◌, ℕ, ◌+◌, ◌-◌, ◌/◌, ◌%◌, ◌^◌, ◌<◌, ◌≤◌, List, [], ◌∷◌, ◌++◌, length, get_or, set}
use Rattle.std.proofs.Common.{take, drop, decimal, inl, inr, refl, sym, ◌∙◌, ap, arith}
use Rattle.std.proofs.Math.Seq.{take-append-add}
use Rattle.std.proofs.lemmas.Bool.{cases_lt}
use Rattle.std.proofs.lemmas.Fmt.{decimal_digit, decimal_step, decimal_nonempty}
use Rattle.std.proofs.lemmas.List.{same_from_push, take_more, drop-take, length-append, length-drop, length-take-le}
use Rattle.std.proofs.lemmas.List.{take-append-drop, take-append-le, drop-append-le, take-take, take_at, drop_at}
use Rattle.std.proofs.lemmas.List.{take_more_set}
use Rattle.std.proofs.lemmas.Slice.{take-put_mid, drop-put_mid}
use borrow.Rule.Slice.PartMut.{put_mid, post_of}

-- a copy of m bytes or more, and m of them
pub take_copied : (buffer piece : List ℕ) (a k m n : ℕ) → a ≤ length buffer → m ≤ length piece → n ≡ a + m
    → take n (put_mid a k buffer piece) ≡ take a buffer ++ take m piece
take_copied buffer piece a k m n within enough is =
    ap (λ t. take t (put_mid a k buffer piece)) (is ∙ ap (λ t. t + m) (sym (length-take-le a buffer within)))
    ∙ take-append-add (take a buffer) (piece ++ post_of a k buffer) m
    ∙ ap (λ xs. take a buffer ++ xs) (take-append-le m piece (post_of a k buffer) enough)

-- a copy of k bytes in place of k bytes
pub length-copied : (buffer piece : List ℕ) (a k : ℕ) → a + k ≤ length buffer → length piece ≡ k → length (put_mid a k buffer piece) ≡ length buffer
length-copied buffer piece a k within long = simp (length-append, length-drop, length-take-le a buffer (omega arith)) (omega (arith, long))

-- a copy, from its start to its end
pub between_copied : (buffer piece : List ℕ) (a k n : ℕ) → a ≤ length buffer → n ≡ a + length piece
    → drop a (take n (put_mid a k buffer piece)) ≡ piece
between_copied buffer piece a k n within is =
    ap (drop a) (take-put_mid a k buffer piece n is within) ∙ drop_at (take a buffer) piece a (length-take-le a buffer within)

-- without the last byte
pub less_one : (buffer front : List ℕ) (last n m : ℕ) → m ≤ length buffer → take m buffer ≡ front ++ last ∷ [] → m ≡ n + 1 → take n buffer ≡ front
less_one buffer front last n m within written is =
    let long : length front ≡ n = omega (arith, length-take-le m buffer within, ap length written, length-append front (last ∷ [])) in
    sym (take-take n m buffer (omega arith)) ∙ ap (take n) written ∙ take_at front (last ∷ []) n long

-- with one more byte
pub one_more : (buffer front : List ℕ) (next n m : ℕ) → n < length buffer → take n buffer ≡ front → m ≡ n + 1
    → take m (set buffer n next) ≡ front ++ next ∷ []
one_more buffer front next n m within written is =
    ap (λ k. take k (set buffer n next)) is ∙ take_more_set buffer n next within ∙ ap (λ xs. xs ++ next ∷ []) written

-- digits that are written up to `end`
pub digits_written : (buffer digits rest : List ℕ) (number end : ℕ) → end ≡ number + length digits
    → drop number buffer ≡ digits ++ rest → drop number (take end buffer) ≡ digits
digits_written buffer digits rest number end is after =
    ap (λ k. drop number (take k buffer)) is ∙ drop-take number (length digits) buffer
    ∙ ap (take (length digits)) after ∙ take_at digits rest (length digits) refl

-- what is written before them leaves them
pub digits_kept : (buffer piece digits : List ℕ) (a k number end : ℕ) → a ≤ length buffer → length piece ≡ k
    → a + k ≤ number → number ≤ end → drop number (take end buffer) ≡ digits
    → drop number (take end (put_mid a k buffer piece)) ≡ digits
digits_kept buffer piece digits a k number end within long before order is =
    let split : end ≡ number + (end - number) = omega arith in
    ap (λ n. drop number (take n (put_mid a k buffer piece))) split
    ∙ drop-take number (end - number) (put_mid a k buffer piece)
    ∙ ap (take (end - number)) (drop-put_mid a k buffer piece number before within long)
    ∙ sym (drop-take number (end - number) buffer)
    ∙ ap (λ n. drop number (take n buffer)) (sym split)
    ∙ is

-- digits, and what comes before them
pub with_digits : (buffer front digits : List ℕ) (from number end : ℕ) → number ≤ length buffer → from ≤ number
    → number ≤ end → drop number (take end buffer) ≡ digits → drop from (take number buffer) ≡ front
    → drop from (take end buffer) ≡ front ++ digits
with_digits buffer front digits from number end within order inside after before =
    let long : length (take number buffer) ≡ number = length-take-le number buffer within in
    let whole : take end buffer ≡ take number buffer ++ digits =
    sym (take-append-drop number (take end buffer)) ∙ ap (λ xs. xs ++ drop number (take end buffer))
    (take-take number end buffer inside) ∙ ap (λ xs. take number buffer ++ xs) after in
    ap (drop from) whole ∙ drop-append-le from (take number buffer) digits (omega (arith, long)) ∙ ap (λ xs. xs ++ digits) before

-- a number has a digit
pub digits_before : (buffer : List ℕ) (n number end : ℕ) → n < 2 ^ 64 → end ≤ length buffer → drop number (take end buffer) ≡ decimal n → number < end
digits_before buffer n number end fits within is = omega (
  arith,
  decimal_nonempty n fits,
  ap length is,
  length-drop number (take end buffer),
  length-take-le end buffer within,
)

-- the number that follows one whose last digit is below nine
next_decimal : (n : ℕ) (front : List ℕ) (last : ℕ) → n + 1 < 2 ^ 64 → last < 57 → decimal n ≡ front ++ last ∷ []
    → decimal (n + 1) ≡ front ++ (last + 1) ∷ []
next_decimal n front last fits below is =
    elim (cases_lt n 10) [
      | inl one ↦
          let parts = same_from_push front [] last (48 + n) (sym is ∙ decimal_digit n one) in
          decimal_digit (n + 1) (omega (arith, parts.1)) ∙ ap (λ x. x ∷ []) (omega (arith, parts.1)) ∙ ap (λ xs. xs ++ (last + 1) ∷ []) (sym parts.0)
      | inr more ↦
          let parts = same_from_push front (decimal (n / 10)) last (48 + n % 10) (sym is ∙ decimal_step n more (omega arith)) in
          let tens : (n + 1) / 10 ≡ n / 10 = omega (arith, parts.1) in
          let ones : 48 + (n + 1) % 10 ≡ last + 1 = omega (arith, parts.1) in
          decimal_step (n + 1) (omega arith) fits
          ∙ ap (λ k. decimal k ++ (48 + (n + 1) % 10) ∷ []) tens
          ∙ ap (λ x. decimal (n / 10) ++ x ∷ []) ones
          ∙ ap (λ xs. xs ++ (last + 1) ∷ []) (sym parts.0)
    ]

-- its last digit is raised
pub digit_raised : (buffer : List ℕ) (n number end : ℕ) → n + 1 < 2 ^ 64 → number ≤ end → end < length buffer → get_or buffer end 0 < 57
    → drop number (take (end + 1) buffer) ≡ decimal n → drop number (take (end + 1) (set buffer end (get_or buffer end 0 + 1))) ≡ decimal (n + 1)
digit_raised buffer n number end fits order within below is =
    let last : ℕ = get_or buffer end 0 in
    let long : length (take end buffer) ≡ end = length-take-le end buffer (omega arith) in
    let now : decimal n ≡ drop number (take end buffer) ++ last ∷ [] =
    sym is ∙ ap (drop number) (take_more buffer end 0 within) ∙ drop-append-le number (take end buffer) (last ∷ []) (omega (arith, long)) in
    ap (drop number) (take_more_set buffer end (last + 1) within)
    ∙ drop-append-le number (take end buffer) ((last + 1) ∷ []) (omega (arith, long))
    ∙ sym (next_decimal n (drop number (take end buffer)) last fits below now)

-- what is written from m on leaves what comes before it
pub kept_before : (buffer old rest : List ℕ) (n m to : ℕ) → take to buffer ≡ take m old ++ rest → n ≤ m
    → m ≤ length old → n ≤ to → take n buffer ≡ take n old
kept_before buffer old rest n m to written order within inside =
    sym (take-take n to buffer inside) ∙ ap (take n) written
    ∙ take-append-le n (take m old) rest (omega (arith, length-take-le m old within)) ∙ take-take n m old order
