-- Where the lines of a text end.
use Rattle.std.proofs.Common.{◌≡◌, ◌∙◌, ◌≤◌, ℕ, zero, suc, ◌+◌, ◌==◌, Bool, true, false, List, [], ◌∷◌, ◌++◌, length}
use Rattle.std.proofs.Common.{take, get_or, refl, ap, ap₂, arith, eq-eqb}
use Rattle.std.proofs.lemmas.Bool.{and_right, or_parts, or_from, ne_eqb}
use Rattle.input.specs.NumberTexts.{first_line, has_lf, later_lines, starts_with_lf, with_lf}
use Rattle.input.specs.TextLines.{text_lines, unless_empty, without_empty_end}
use Rattle.input.specs.internal.LineEnds.{without_cr}

no_start : (xs : List ℕ) → has_lf xs ≡ false → starts_with_lf xs ≡ false
no_start [] h = refl
no_start (x ∷ xs) h = (or_parts (x == 10) (has_lf xs) h).0

-- a text without LF stays
stays : (xs : List ℕ) → has_lf xs ≡ false → with_lf xs ≡ xs
stays [] h = refl
stays (x ∷ xs) h =
    let later = (or_parts (x == 10) (has_lf xs) h).1 in
    rw (and_right (x == 13) (starts_with_lf xs) (no_start xs later)) (ap (λ l. x ∷ l) (stays xs later))

-- of CR LF only LF is left
ends : (xs more : List ℕ) → has_lf xs ≡ false → with_lf (xs ++ 10 ∷ more) ≡ without_cr xs ++ 10 ∷ with_lf more
ends [] more h = refl
ends (x ∷ []) more h = by_cr (x == 13) refl
  where
    by_cr : (b : Bool) → (x == 13) ≡ b → with_lf (x ∷ 10 ∷ more) ≡ without_cr (x ∷ []) ++ 10 ∷ with_lf more
    by_cr true e = rw e refl
    by_cr false e = rw e refl
ends (x ∷ (y ∷ ys)) more h =
    let later = (or_parts (x == 10) (has_lf (y ∷ ys)) h).1 in
    let other = (or_parts (y == 10) (has_lf ys) later).0 in
    rw (and_right (x == 13) (y == 10) other) (ap (λ l. x ∷ l) (ends (y ∷ ys) more later))

pub no_lf_cr : (xs : List ℕ) → has_lf xs ≡ false → has_lf (without_cr xs) ≡ false
no_lf_cr [] h = refl
no_lf_cr (x ∷ []) h = by_cr (x == 13) refl
  where
    by_cr : (b : Bool) → (x == 13) ≡ b → has_lf (without_cr (x ∷ [])) ≡ false
    by_cr true e = rw e refl
    by_cr false e = rw e h
no_lf_cr (x ∷ (y ∷ ys)) h =
    let parts = or_parts (x == 10) (has_lf (y ∷ ys)) h in
    or_from (x == 10) (has_lf (without_cr (y ∷ ys))) parts.0 (no_lf_cr (y ∷ ys) parts.1)

first : (xs more : List ℕ) → has_lf xs ≡ false → first_line (xs ++ 10 ∷ more) ≡ xs
first [] more h = refl
first (x ∷ xs) more h = let parts = or_parts (x == 10) (has_lf xs) h in rw parts.0 (ap (λ l. x ∷ l) (first xs more parts.1))

later : (xs more : List ℕ) → has_lf xs ≡ false → later_lines (xs ++ 10 ∷ more) ≡ first_line more ∷ later_lines more
later [] more h = refl
later (x ∷ xs) more h = let parts = or_parts (x == 10) (has_lf xs) h in rw parts.0 (later xs more parts.1)

alone : (xs : List ℕ) → has_lf xs ≡ false → first_line xs ≡ xs
alone [] h = refl
alone (x ∷ xs) h = let parts = or_parts (x == 10) (has_lf xs) h in rw parts.0 (ap (λ l. x ∷ l) (alone xs parts.1))

none_later : (xs : List ℕ) → has_lf xs ≡ false → later_lines xs ≡ []
none_later [] h = refl
none_later (x ∷ xs) h = let parts = or_parts (x == 10) (has_lf xs) h in rw parts.0 (none_later xs parts.1)

-- a line ends at the first LF
pub line_ends : (xs more : List ℕ) → has_lf xs ≡ false → text_lines (xs ++ 10 ∷ more) ≡ without_cr xs ∷ text_lines more
line_ends xs more h =
    let front = no_lf_cr xs h in
    ap (λ w. without_empty_end (first_line w ∷ later_lines w)) (ends xs more h)
    ∙ ap (λ l. without_empty_end (l ∷ later_lines (without_cr xs ++ 10 ∷ with_lf more))) (first (without_cr xs) (with_lf more) front)
    ∙ ap (λ ls. without_empty_end (without_cr xs ∷ ls)) (later (without_cr xs) (with_lf more) front)

-- and the last at the end, unless it is empty
pub line_alone : (xs : List ℕ) → has_lf xs ≡ false → text_lines xs ≡ unless_empty xs
line_alone xs h =
    ap (λ w. without_empty_end (first_line w ∷ later_lines w)) (stays xs h)
    ∙ ap (λ l. without_empty_end (l ∷ later_lines xs)) (alone xs h)
    ∙ ap (λ ls. without_empty_end (xs ∷ ls)) (none_later xs h)

-- a line goes on after bytes without LF, but for a CR at their end
goes_on : (xs more : List ℕ) → has_lf xs ≡ false → length xs ≤ length (first_line (with_lf (xs ++ more))) + 1
goes_on [] more h = omega arith
goes_on (x ∷ []) more h = omega arith
goes_on (x ∷ (y ∷ ys)) more h =
    let parts = or_parts (x == 10) (has_lf (y ∷ ys)) h in
    let other = (or_parts (y == 10) (has_lf ys) parts.1).0 in
    let more_than = goes_on (y ∷ ys) more parts.1 in
    rw (and_right (x == 13) (y == 10) other, parts.0) (omega arith)

pub long_line : (xs more : List ℕ) → has_lf xs ≡ false → 2 ≤ length xs
    → (l : List ℕ) × (ls : List (List ℕ)) × (text_lines (xs ++ more) ≡ l ∷ ls) × (length xs ≤ length l + 1)
long_line xs more h some = by_first (first_line (with_lf (xs ++ more))) (later_lines (with_lf (xs ++ more))) refl refl (goes_on xs more h)
  where
    by_first : (l : List ℕ) (ls : List (List ℕ)) → first_line (with_lf (xs ++ more)) ≡ l
        → later_lines (with_lf (xs ++ more)) ≡ ls → length xs ≤ length l + 1
        → (l : List ℕ) × (ls : List (List ℕ)) × (text_lines (xs ++ more) ≡ l ∷ ls) × (length xs ≤ length l + 1)
    by_first [] ls e f long = absurd (omega arith)
    by_first (b ∷ bs) [] e f long = (b ∷ bs, [], ap₂ (λ x y. without_empty_end (x ∷ y)) e f, long)
    by_first (b ∷ bs) (m ∷ ms) e f long = (b ∷ bs, without_empty_end (m ∷ ms), ap₂ (λ x y. without_empty_end (x ∷ y)) e f, long)

-- ---- a CR at the end of a line

pub cr_at_end : (xs : List ℕ) (n : ℕ) → length xs ≡ n + 1 → get_or xs n 0 ≡ 13 → without_cr xs ≡ take n xs
cr_at_end [] n len h = absurd (omega arith)
cr_at_end (x ∷ []) zero len h = rw (eq-eqb x 13 h) refl
cr_at_end (x ∷ []) (suc n) len h = absurd (omega arith)
cr_at_end (x ∷ (y ∷ ys)) zero len h = absurd (omega arith)
cr_at_end (x ∷ (y ∷ ys)) (suc n) len h = ap (λ l. x ∷ l) (cr_at_end (y ∷ ys) n (omega arith) h)

pub no_cr_at_end : (xs : List ℕ) (n : ℕ) → length xs ≡ n + 1 → (get_or xs n 0 ≡ 13 → ⊥) → without_cr xs ≡ xs
no_cr_at_end [] n len h = refl
no_cr_at_end (x ∷ []) zero len h = rw (ne_eqb x 13 h) refl
no_cr_at_end (x ∷ []) (suc n) len h = absurd (omega arith)
no_cr_at_end (x ∷ (y ∷ ys)) zero len h = absurd (omega arith)
no_cr_at_end (x ∷ (y ∷ ys)) (suc n) len h = ap (λ l. x ∷ l) (no_cr_at_end (y ∷ ys) n (omega arith) h)
