-- Numbers that are written in decimal are read back.
use Rattle.std.proofs.Common.{◌≡◌, ◌∙◌, suc, ◌<◌, ◌≤◌, ◌^◌, ℕ, ◌+◌, ◌==◌, true, false, List, [], ◌∷◌, ◌++◌, length}
use Rattle.std.proofs.Common.{None, Some, Ok, refl, ap, arith, append_assoc, All, decimal, rules}
use Rattle.std.specs.Prelude.{flat_map, nat_lt}
use Rattle.std.specs.Char.{digit_value, is_ascii_digit}
use Rattle.std.specs.Str.Parse.{AllDigits, digits_value}
use Rattle.std.proofs.lemmas.Fmt.{decimal_is_IsNumeral, length-decimal-le}
use Rattle.std.proofs.lemmas.Str.Parse.{digit_from_value}
use Rattle.input.specs.NumberTexts.{Said, are_digits, first_line, is_blank, later_lines, line_says, lines_of}
use Rattle.input.specs.NumberTexts.{lines_say, number_of, said, unless_blank, with_lf, with_line, with_number}
use Rattle.input.specs.NumberTexts.{without_first_blanks, without_last_blanks}

-- what a digit is, and isn't
record IsDigit (c : ℕ) : Type 0 where
  digit : is_ascii_digit c ≡ true
  no_lf : (c == 10) ≡ false
  no_cr : (c == 13) ≡ false
  no_blank : is_blank c ≡ false

is_digit_of : (c : ℕ) → digit_value c < 10 → IsDigit c
is_digit_of c h =
    let within = digit_from_value c h in
    record { digit = search rules; no_lf = search rules; no_cr = search rules; no_blank = search rules }

digits_with_lf : (ds rest : List ℕ) → AllDigits 10 ds → with_lf (ds ++ 10 ∷ rest) ≡ ds ++ 10 ∷ with_lf rest
digits_with_lf [] rest h = refl
digits_with_lf (c ∷ cs) rest h = rw (is_digit_of c h.0).no_cr (ap (λ l. c ∷ l) (digits_with_lf cs rest h.1))

digits_first : (ds rest : List ℕ) → AllDigits 10 ds → first_line (ds ++ 10 ∷ rest) ≡ ds
digits_first [] rest h = refl
digits_first (c ∷ cs) rest h = rw (is_digit_of c h.0).no_lf (ap (λ l. c ∷ l) (digits_first cs rest h.1))

digits_later : (ds rest : List ℕ) → AllDigits 10 ds → later_lines (ds ++ 10 ∷ rest) ≡ first_line rest ∷ later_lines rest
digits_later [] rest h = refl
digits_later (c ∷ cs) rest h = rw (is_digit_of c h.0).no_lf (digits_later cs rest h.1)

digits_stay : (ds : List ℕ) → AllDigits 10 ds → without_last_blanks ds ≡ ds
digits_stay [] h = refl
digits_stay (c ∷ cs) h = ap (unless_blank c) (digits_stay cs h.1) ∙ last c cs (is_digit_of c h.0).no_blank
  where
    last : (c : ℕ) (cs : List ℕ) → is_blank c ≡ false → unless_blank c cs ≡ c ∷ cs
    last c [] e = rw e refl
    last c (x ∷ xs) e = refl

digits_begin : (ds : List ℕ) → AllDigits 10 ds → without_first_blanks ds ≡ ds
digits_begin [] h = refl
digits_begin (c ∷ cs) h = rw (is_digit_of c h.0).no_blank refl

digits_all : (ds : List ℕ) → AllDigits 10 ds → are_digits ds ≡ true
digits_all [] h = refl
digits_all (c ∷ cs) h = rw (is_digit_of c h.0).digit (digits_all cs h.1)

digits_number : (ds : List ℕ) (n : ℕ) → 0 < length ds → are_digits ds ≡ true → length ds ≤ 13 → digits_value 10 ds ≡ n
    → n < 2 ^ 40 → number_of ds ≡ Ok (Some n)
digits_number [] n some all few value small = absurd (omega arith)
digits_number (c ∷ cs) n some all few value small =
    let short : nat_lt 13 (length (c ∷ cs)) ≡ false = search rules in
    let below : nat_lt n (2 ^ 40) ≡ true = search rules in
    rw (all, short, value, below) refl

-- a line of a number
line_of_number : (n : ℕ) → n < 2 ^ 40 → line_says (decimal n) ≡ Ok (Some n)
line_of_number n small =
    let numeral = decimal_is_IsNumeral n (omega arith) in
    let digits = numeral.0.1 in
    let few : length (decimal n) ≤ 13 = length-decimal-le 13 n (omega arith) (omega arith) (omega arith) in
    ap (λ l. number_of (without_last_blanks l)) (digits_begin (decimal n) digits)
    ∙ ap number_of (digits_stay (decimal n) digits)
    ∙ digits_number (decimal n) n numeral.0.0 (digits_all (decimal n) digits) few numeral.1 small

read_from : (lines count : ℕ) (numbers : List ℕ) → All (λ n. n < 2 ^ 40) numbers → count + length numbers ≤ 2 ^ 40
    → lines_say lines count (lines_of (flat_map (λ n. decimal n ++ 10 ∷ []) numbers)) ≡ record { numbers = numbers; refused = None }
read_from lines count [] all room = refl
read_from lines count (n ∷ ns) all room =
    let more : List ℕ = flat_map (λ n. decimal n ++ 10 ∷ []) ns in
    let small : n < 2 ^ 40 = all 0 0 (omega arith) in
    let digits = (decimal_is_IsNumeral n (omega arith)).0.1 in
    let after : List ℕ = decimal n ++ 10 ∷ with_lf more in
    let whole : with_lf ((decimal n ++ 10 ∷ []) ++ more) ≡ after =
    ap with_lf (append_assoc (decimal n) (10 ∷ []) more) ∙ digits_with_lf (decimal n) more digits in
    let free : (count == 2 ^ 40) ≡ false = search rules in
    let rest : Said = lines_say (lines + 1) (count + 1) (later_lines after) in
    let numbered : with_line lines count (Ok (Some n)) (λ k. lines_say (lines + 1) k (later_lines after)) ≡ with_number n rest = rw free refl in
    ap (λ w. with_line lines count (line_says (first_line w)) (λ k. lines_say (lines + 1) k (later_lines w))) whole
    ∙ ap (λ l. with_line lines count (line_says l) (λ k. lines_say (lines + 1) k (later_lines after)))
    (digits_first (decimal n) (with_lf more) digits)
    ∙ ap (λ r. with_line lines count r (λ k. lines_say (lines + 1) k (later_lines after))) (line_of_number n small)
    ∙ numbered
    ∙ ap (λ ls. with_number n (lines_say (lines + 1) (count + 1) ls)) (digits_later (decimal n) (with_lf more) digits)
    ∙ ap (with_number n) (read_from (lines + 1) (count + 1) ns (λ k d h. all (suc k) d (omega arith)) (omega arith))

pub read_back : (numbers : List ℕ) → All (λ n. n < 2 ^ 40) numbers → length numbers ≤ 2 ^ 40
    → said (flat_map (λ n. decimal n ++ 10 ∷ []) numbers) ≡ record { numbers = numbers; refused = None }
unfolding said
read_back numbers all room = read_from 0 0 numbers all (omega arith)
