-- The number in front of a line, the blanks before it, and what is behind it.
use Rattle.std.proofs.Common.{◌≡◌, ◌∙◌, ◌≤◌, ◌<◌, ℕ, suc, ◌+◌, ◌==◌, ◌||◌, ◌^◌, Bool, true, false, not, List, [], ◌∷◌}
use Rattle.std.proofs.Common.{◌++◌, length, take, drop, Option, None, Some, refl, sym, ap, arith, eqb-true, nat_lt}
use Rattle.std.proofs.Common.{position, cond, lt-ltb, length-append}
use Rattle.std.specs.Prelude.{if◌then◌else◌, Err, Ok, Result}
use Rattle.std.specs.List.{list_all, position_or_len}
use Rattle.std.proofs.lemmas.Bool.{and_parts, ltb-false, or_from, or_parts}
use Rattle.std.proofs.lemmas.Grind.{common_steps}
use Rattle.input.specs.NumberTexts.{are_digits, has_lf, is_blank, line_says, number_of, unless_blank, without_first_blanks, without_last_blanks}
use Rattle.input.specs.internal.LineEnds.{without_cr}
use Rattle.boards.specs.Plans.{Planned, candidate_of}
use Rattle.boards.specs.Text.{board_of}
use Rattle.input.specs.declared.refused_line.LineFault.{LineFault}
use Rattle.input.specs.declared.refused_line.LineFault.TheVariants.{NotANumber, NotTricks, TooMany}
use Rattle.std.specs.Str.Parse.{digits_value}
use Rattle.input.specs.TricksPicked.{behind_word, board_by, first_word, line_tells}
use Rattle.input.specs.Told.{Solved}
use Rattle.input.specs.internal.TricksPicking.{starts}
use Rattle.input.proofs.TellSteps.{long_is_refused}

-- ---- blanks

blank_other : (b : ℕ) → is_blank b ≡ true → ((b == 10) ≡ false) × ((b == 13) ≡ false)
blank_other b h = by_space (b == 32) (b == 9) refl refl h
  where
    by_space : (x y : Bool) → (b == 32) ≡ x → (b == 9) ≡ y → (x || y) ≡ true → ((b == 10) ≡ false) × ((b == 13) ≡ false)
    by_space true y e f h = let is : b ≡ 32 = eqb-true b 32 e in rw is (refl, refl)
    by_space false true e f h = let is : b ≡ 9 = eqb-true b 9 f in rw is (refl, refl)
    by_space false false e f h = absurd cc

pub clean_all : (bs l : List ℕ) → list_all is_blank bs ≡ true → has_lf l ≡ false → has_lf (bs ++ l) ≡ false
clean_all [] l h clean = clean
clean_all (b ∷ bs) l h clean =
    let parts = and_parts (is_blank b) (list_all is_blank bs) h in
    or_from (b == 10) (has_lf (bs ++ l)) (blank_other b parts.0).0 (clean_all bs l parts.1 clean)

pub drops_blanks : (bs l : List ℕ) → list_all is_blank bs ≡ true → without_first_blanks (bs ++ l) ≡ without_first_blanks l
drops_blanks [] l h = refl
drops_blanks (b ∷ bs) l h =
    let parts = and_parts (is_blank b) (list_all is_blank bs) h in
    rw parts.0 (drops_blanks bs l parts.1)

cr_in : (b : ℕ) (xs ys : List ℕ) → is_blank b ≡ true → without_first_blanks (without_cr xs) ≡ ys → without_first_blanks (without_cr (b ∷ xs)) ≡ ys
cr_in b [] ys h e = rw ((blank_other b h).1, h) e
cr_in b (x ∷ xs) ys h e = rw h e

pub drops_cr : (bs l : List ℕ) → list_all is_blank bs ≡ true → without_first_blanks (without_cr (bs ++ l)) ≡ without_first_blanks (without_cr l)
drops_cr [] l h = refl
drops_cr (b ∷ bs) l h =
    let parts = and_parts (is_blank b) (list_all is_blank bs) h in
    cr_in b (bs ++ l) (without_first_blanks (without_cr l)) parts.0 (drops_cr bs l parts.1)

not_true : (b : Bool) → not b ≡ true → b ≡ false
not_true true h = absurd cc
not_true false h = refl

pub started : (l : List ℕ) → starts l ≡ true → without_first_blanks l ≡ l
started [] h = refl
started (b ∷ bs) h = rw (not_true (is_blank b) h) refl

pub started_cr : (l : List ℕ) → starts l ≡ true → without_first_blanks (without_cr l) ≡ without_cr l
started_cr [] h = refl
started_cr (b ∷ []) h = by_cr (b == 13) refl
  where
    by_cr : (x : Bool) → (b == 13) ≡ x → without_first_blanks (without_cr (b ∷ [])) ≡ without_cr (b ∷ [])
    by_cr true e = rw e refl
    by_cr false e = rw (e, not_true (is_blank b) h) refl
started_cr (b ∷ (c ∷ cs)) h = rw (not_true (is_blank b) h) refl

-- a byte more
pub starts_more : (l : List ℕ) (b : ℕ) → 0 < length l → starts l ≡ true → starts (l ++ b ∷ []) ≡ true
starts_more [] b some h = absurd (omega arith)
starts_more (x ∷ xs) b some h = h

pub starts_at : (b : ℕ) → is_blank b ≡ false → starts (b ∷ []) ≡ true
starts_at b h = rw h refl

pub blanks_more : (bs : List ℕ) (b : ℕ) → list_all is_blank bs ≡ true → is_blank b ≡ true → list_all is_blank (bs ++ b ∷ []) ≡ true
blanks_more [] b h e = rw e refl
blanks_more (x ∷ xs) b h e =
    let parts = and_parts (is_blank x) (list_all is_blank xs) h in
    rw parts.0 (blanks_more xs b parts.1 e)

-- ---- the first word

one_more : (n : ℕ) → suc n ≡ 1 + n
one_more n = omega arith

two_more : (n : ℕ) → suc (n + 1) ≡ 1 + n + 1
two_more n = omega arith

pub first_word-take : (l : List ℕ) → first_word l ≡ take (position_or_len is_blank l) l
first_word-take [] = refl
first_word-take (b ∷ bs) = by_blank (first_word-take bs) (is_blank b) refl
  where
    by_blank : first_word bs ≡ take (position_or_len is_blank bs) bs → (x : Bool) → is_blank b ≡ x
        → first_word (b ∷ bs) ≡ take (position_or_len is_blank (b ∷ bs)) (b ∷ bs)
    by_blank later true e = rw e refl
    by_blank later false e = rw e (ap (λ l. b ∷ l) later ∙ ap (λ (n : ℕ). take n (b ∷ bs)) (one_more (position_or_len is_blank bs)))

pub behind_word-drop : (l : List ℕ) → behind_word l ≡ drop (position_or_len is_blank l + 1) l
behind_word-drop [] = refl
behind_word-drop (b ∷ bs) = by_blank (behind_word-drop bs) (is_blank b) refl
  where
    by_blank : behind_word bs ≡ drop (position_or_len is_blank bs + 1) bs → (x : Bool) → is_blank b ≡ x
        → behind_word (b ∷ bs) ≡ drop (position_or_len is_blank (b ∷ bs) + 1) (b ∷ bs)
    by_blank later true e = rw e refl
    by_blank later false e = rw e (later ∙ ap (λ (n : ℕ). drop n (b ∷ bs)) (two_more (position_or_len is_blank bs)))

pub clean_word : (l : List ℕ) → has_lf l ≡ false → has_lf (first_word l) ≡ false
clean_word [] h = refl
clean_word (b ∷ bs) h = by_blank (clean_word bs (or_parts (b == 10) (has_lf bs) h).1) (is_blank b) refl
  where
    by_blank : has_lf (first_word bs) ≡ false → (x : Bool) → is_blank b ≡ x → has_lf (first_word (b ∷ bs)) ≡ false
    by_blank later true e = rw e refl
    by_blank later false e = rw e (or_from (b == 10) (has_lf (first_word bs)) (or_parts (b == 10) (has_lf bs) h).0 later)

pub at_place : (l : List ℕ) (i : ℕ) → position is_blank l ≡ Some i → position_or_len is_blank l ≡ i
at_place l i found = by_test (nat_lt (position_or_len is_blank l) (length l)) refl found
  where
    by_test : (b : Bool) → nat_lt (position_or_len is_blank l) (length l) ≡ b
        → cond b (Some (position_or_len is_blank l)) None ≡ Some i → position_or_len is_blank l ≡ i
    by_test true e found = cc
    by_test false e found = absurd cc

pub no_place : (l : List ℕ) → position is_blank l ≡ None → length l ≤ position_or_len is_blank l
no_place l none = by_test (nat_lt (position_or_len is_blank l) (length l)) refl none
  where
    by_test : (b : Bool) → nat_lt (position_or_len is_blank l) (length l) ≡ b
        → cond b (Some (position_or_len is_blank l)) None ≡ None → length l ≤ position_or_len is_blank l
    by_test true e none = absurd cc
    by_test false e none = ltb-false (position_or_len is_blank l) (length l) e

-- it has no blanks
word_first : (l : List ℕ) → without_first_blanks (first_word l) ≡ first_word l
word_first [] = refl
word_first (b ∷ bs) = by_blank (is_blank b) refl
  where
    by_blank : (x : Bool) → is_blank b ≡ x → without_first_blanks (first_word (b ∷ bs)) ≡ first_word (b ∷ bs)
    by_blank true e = rw e refl
    by_blank false e = rw e (rw e refl)

unless_not : (b : ℕ) (l : List ℕ) → is_blank b ≡ false → unless_blank b l ≡ b ∷ l
unless_not b [] e = rw e refl
unless_not b (c ∷ cs) e = refl

word_last : (l : List ℕ) → without_last_blanks (first_word l) ≡ first_word l
word_last [] = refl
word_last (b ∷ bs) = by_blank (word_last bs) (is_blank b) refl
  where
    by_blank : without_last_blanks (first_word bs) ≡ first_word bs → (x : Bool) → is_blank b ≡ x
        → without_last_blanks (first_word (b ∷ bs)) ≡ first_word (b ∷ bs)
    by_blank later true e = rw e refl
    by_blank later false e = rw e (ap (unless_blank b) later ∙ unless_not b (first_word bs) e)

word_says : (l : List ℕ) → line_says (first_word l) ≡ number_of (first_word l)
word_says l = ap number_of (ap without_last_blanks (word_first l) ∙ word_last l)

-- ---- a line that is too long

word_stays : (l more : List ℕ) → length (first_word l) < length l → first_word (l ++ more) ≡ first_word l
word_stays [] more h = absurd (omega arith)
word_stays (b ∷ bs) more h = by_blank (word_stays bs more) (is_blank b) refl
  where
    by_blank : (length (first_word bs) < length bs → first_word (bs ++ more) ≡ first_word bs) → (x : Bool)
        → is_blank b ≡ x → first_word ((b ∷ bs) ++ more) ≡ first_word (b ∷ bs)
    by_blank later true e = rw e refl
    by_blank later false e = let shorter = rw e at h in rw e (ap (λ w. b ∷ w) (later (omega (arith, shorter))))

word_grows : (l more : List ℕ) → length (first_word l) ≤ length (first_word (l ++ more))
word_grows [] more = omega arith
word_grows (b ∷ bs) more = by_blank (word_grows bs more) (is_blank b) refl
  where
    by_blank : length (first_word bs) ≤ length (first_word (bs ++ more)) → (x : Bool) → is_blank b ≡ x
        → length (first_word (b ∷ bs)) ≤ length (first_word ((b ∷ bs) ++ more))
    by_blank later true e = rw e (omega arith)
    by_blank later false e = rw e (omega (arith, later))

parts_fill : (l : List ℕ) → length l ≤ length (first_word l) + length (behind_word l) + 1
parts_fill [] = omega arith
parts_fill (b ∷ bs) = by_blank (parts_fill bs) (is_blank b) refl
  where
    by_blank : length bs ≤ length (first_word bs) + length (behind_word bs) + 1 → (x : Bool) → is_blank b ≡ x
        → length (b ∷ bs) ≤ length (first_word (b ∷ bs)) + length (behind_word (b ∷ bs)) + 1
    by_blank later true e = rw e (omega arith)
    by_blank later false e = rw e (omega (arith, later))

or-true : (a : Bool) → (a || true) ≡ true
or-true true = refl
or-true false = refl

long_number : (w : List ℕ) → 13 < length w → number_of w ≡ Err NotANumber
long_number [] long = absurd (omega arith)
long_number (d ∷ ds) long =
    let more : nat_lt 13 (length (d ∷ ds)) ≡ true = lt-ltb 13 (length (d ∷ ds)) long in
    rw more (rw (or-true (not (are_digits (d ∷ ds)))) refl)

long_word : (l : List ℕ) → 13 < length (first_word l) → line_says (first_word l) ≡ Err NotANumber
long_word l long = word_says l ∙ long_number (first_word l) long

-- a word is a number, or refused
some_number : (d : ℕ) (ds : List ℕ) → number_of (d ∷ ds) ≡ Ok None → ⊥
some_number d ds h = by_digits (not (are_digits (d ∷ ds)) || nat_lt 13 (length (d ∷ ds))) (nat_lt (digits_value 10 (d ∷ ds)) (2 ^ 40)) refl refl
  where
    by_digits : (x y : Bool) → (not (are_digits (d ∷ ds)) || nat_lt 13 (length (d ∷ ds))) ≡ x → nat_lt (digits_value 10 (d ∷ ds)) (2 ^ 40) ≡ y → ⊥
    by_digits true y e f = let bad = rw e at h in cc
    by_digits false true e f = let bad = rw (e, f) at h in cc
    by_digits false false e f = let bad = rw (e, f) at h in cc

some_word : (l : List ℕ) → starts l ≡ true → 0 < length l → line_says (first_word l) ≡ Ok None → ⊥
some_word [] start some h = absurd (omega arith)
some_word (b ∷ bs) start some h =
    let e = not_true (is_blank b) start in
    let is : first_word (b ∷ bs) ≡ b ∷ first_word bs = rw e refl in
    some_number b (first_word bs) (ap number_of (sym is) ∙ sym (word_says (b ∷ bs)) ∙ h)

module _ (plan : Planned) (count : ℕ) where
  -- what a line tells that begins with no blank
  abbrev pub tells_from : List ℕ → Result (Option Solved) LineFault
  tells_from l = board_by plan count (behind_word l) (line_says (first_word l))

  pub tells_line : (bs l : List ℕ) → list_all is_blank bs ≡ true → starts l ≡ true → line_tells plan count (bs ++ l) ≡ tells_from l
  tells_line bs l blanks start = ap tells_from (drops_blanks bs l blanks ∙ started l start)

  pub tells_cr : (bs l : List ℕ) → list_all is_blank bs ≡ true → starts l ≡ true
      → line_tells plan count (without_cr (bs ++ l)) ≡ tells_from (without_cr l)
  tells_cr bs l blanks start = ap tells_from (drops_cr bs l blanks ∙ started_cr l start)

  -- tricks are short
  long_tricks : (k : ℕ) (behind : List ℕ) → 124 ≤ length behind
      → board_by plan count behind (Ok (Some k)) ≡ (if count == 2 ^ 40 then Err TooMany else Err NotTricks)
  long_tricks k behind long = rw (long_is_refused (board_of plan count k (candidate_of plan k)).deal behind long) refl

  -- so a line that is too long is refused by its beginning
  module _ (l : List ℕ) (b : ℕ) where
    abbrev pub IsRefused : Type 0
    IsRefused = (fault : LineFault) × (tells_from l ≡ Err fault) × (tells_from (l ++ b ∷ []) ≡ Err fault)

    same_number : (r : Result (Option ℕ) LineFault) → line_says (first_word l) ≡ r
        → first_word (l ++ b ∷ []) ≡ first_word l → 124 ≤ length (behind_word l)
        → 124 ≤ length (behind_word (l ++ b ∷ []))
        → (r ≡ Ok None → ⊥) → IsRefused
    same_number (Err fault) e same long longer some = (fault, rw e refl, rw same (rw e refl))
    same_number (Ok None) e same long longer some = absurd (some refl)
    same_number (Ok (Some k)) e same long longer some = by_count (count == 2 ^ 40) refl
      where
        by_count : (x : Bool) → (count == 2 ^ 40) ≡ x → IsRefused
        by_count true f = (
          TooMany,
          rw e (long_tricks k (behind_word l) long ∙ rw f refl),
          rw same (rw e (long_tricks k (behind_word (l ++ b ∷ [])) longer ∙ rw f refl)),
        )
        by_count false f = (
          NotTricks,
          rw e (long_tricks k (behind_word l) long ∙ rw f refl),
          rw same (rw e (long_tricks k (behind_word (l ++ b ∷ [])) longer ∙ rw f refl)),
        )

    pub long_refused : length l ≡ 256 → starts l ≡ true → IsRefused
    long_refused full start = by_word (nat_lt 13 (length (first_word l))) refl
      where
        count_more : length (l ++ b ∷ []) ≡ 257
        count_more = length-append l (b ∷ []) ∙ ap (λ n. n + 1) full

        by_word : (x : Bool) → nat_lt 13 (length (first_word l)) ≡ x → IsRefused
        by_word true e =
            let long : 13 < length (first_word l) = grind (arith, common_steps) in
            let grows = word_grows l (b ∷ []) in
            (NotANumber, rw (long_word l long) refl, rw (long_word (l ++ b ∷ []) (omega (arith, long, grows))) refl)
        by_word false e =
            let short : length (first_word l) ≤ 13 = grind (arith, common_steps) in
            let same = word_stays l (b ∷ []) (omega (arith, short, full)) in
            let fill = parts_fill l in
            let fill_more = parts_fill (l ++ b ∷ []) in
            let as_long = ap length same in
            same_number (line_says (first_word l)) refl same (omega (arith, fill, full, short))
            (omega (arith, fill_more, count_more, as_long, short)) (some_word l start (omega (arith, full)))
