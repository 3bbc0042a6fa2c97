-- What tests refute: of two estimates, and of two tests together.
use Rattle.std.proofs.Common.{◌≡◌, ◌∙◌, ◌&&◌, ◌||◌, ◌==◌, ℕ, IsTrue, Bool, true, false, not, List, Option, arith, ap, refl, sym}
use Rattle.std.specs.Prelude.{nat_le, nat_lt}
use Rattle.std.proofs.lemmas.Bool.{false≢true}
use Rattle.std.proofs.lemmas.Bool.Decides.{nat_tests}
use Rattle.cards.specs.declared.seat.Seat.{Seat}
use Rattle.screens.specs.declared.estimate.Estimate.{Estimate}
use Rattle.screens.specs.declared.gap.Gap.{Gap}
use Rattle.screens.specs.declared.exclusion.Test.{Test}
use Rattle.screens.specs.declared.exclusion.Test.TheVariants.{Never}
use Rattle.screens.specs.declared.stage.Bound.TheVariants.{Least, Greatest}
use Rattle.screens.specs.declared.stage.Stage.{Stage}
use Rattle.conditions.specs.Form.{Amount}
use Rattle.conditions.specs.Meaning.{value_in}
use Rattle.screens.specs.internal.Estimates.{IsEstimate}
use Rattle.screens.specs.internal.Exclusions.{Refutes, excludes, has_truth, is_below}
use Rattle.screens.specs.internal.Gaps.{IsGap, is_open}
use Rattle.screens.proofs.Shifts.{apart}

-- the test that excludes nothing
pub never : (stage : Stage) (fixed : List (Option Seat)) (p : List Seat → Bool) → Refutes stage fixed p Never
never stage fixed p = record { refuted = λ w s deal is_out ok. absurd (false≢true is_out) }

pub gap : (stage : Stage) (fixed : List (Option Seat)) (a b : Amount) (most least : Estimate) (or_equal : Bool) (bounds : Gap) (test : Test)
    → IsEstimate Greatest stage fixed a most → IsEstimate Least stage fixed b least → IsGap most least or_equal bounds
    → ((west south : List Bool) → IsTrue (excludes test west south) → IsTrue (is_open bounds west south))
    → Refutes stage fixed (λ deal. not (is_below or_equal (value_in deal a) (value_in deal b))) test
gap stage fixed a b most least or_equal bounds test is_most is_least is_gap opens = record {
  refuted = λ w s deal is_out ok.
      ap not
      (apart most least or_equal bounds w s (value_in deal a) (value_in deal b) is_gap (is_most.of_each w s deal ok)
      (is_least.of_each w s deal ok) (opens w s is_out));
}

-- the same, of what is true of the same deals
pub alike : (stage : Stage) (fixed : List (Option Seat)) (p q : List Seat → Bool) (test : Test) → ((deal : List Seat) → q deal ≡ p deal)
    → Refutes stage fixed p test → Refutes stage fixed q test
alike stage fixed p q test same is_test = record { refuted = λ w s deal is_out ok. same deal ∙ is_test.refuted w s deal is_out ok }

and_left : (x y : Bool) → x ≡ false → (x && y) ≡ false
and_left x y e = rw e refl

and_right : (x y : Bool) → y ≡ false → (x && y) ≡ false
and_right true y e = e
and_right false y e = refl

or_both : (x y : Bool) → x ≡ false → y ≡ false → (x || y) ≡ false
or_both x y e f = rw (e, f) refl

one_of : (e f r : Bool) → (e ≡ true → r ≡ false) → (f ≡ true → r ≡ false) → (e || f) ≡ true → r ≡ false
one_of true f r left right is_out = left refl
one_of false f r left right is_out = right is_out

two_of : (e f : Bool) → (e && f) ≡ true → (e ≡ true) × (f ≡ true)
two_of true f is_out = (refl, is_out)
two_of false f is_out = absurd (false≢true is_out)

-- one of two tests is enough where both have to hold
pub one_is_enough : (stage : Stage) (fixed : List (Option Seat)) (p q : List Seat → Bool) (left right test : Test)
    → Refutes stage fixed p left → Refutes stage fixed q right
    → ((west south : List Bool) → excludes test west south ≡ (excludes left west south || excludes right west south))
    → Refutes stage fixed (λ deal. p deal && q deal) test
one_is_enough stage fixed p q left right test is_left is_right joined = record {
  refuted = λ w s deal is_out ok.
      one_of (excludes left w s) (excludes right w s) (p deal && q deal)
      (λ e. and_left (p deal) (q deal) (is_left.refuted w s deal e ok)) (λ e. and_right (p deal) (q deal) (is_right.refuted w s deal e ok))
      (sym (joined w s) ∙ is_out);
}

-- both are needed where one has to hold
pub both_are_needed : (stage : Stage) (fixed : List (Option Seat)) (p q : List Seat → Bool) (left right test : Test)
    → Refutes stage fixed p left → Refutes stage fixed q right
    → ((west south : List Bool) → excludes test west south ≡ (excludes left west south && excludes right west south))
    → Refutes stage fixed (λ deal. p deal || q deal) test
both_are_needed stage fixed p q left right test is_left is_right joined = record {
  refuted = λ w s deal is_out ok.
      let two : (excludes left w s ≡ true) × (excludes right w s ≡ true) =
      two_of (excludes left w s) (excludes right w s) (sym (joined w s) ∙ is_out) in
      or_both (p deal) (q deal) (is_left.refuted w s deal two.0 ok) (is_right.refuted w s deal two.1 ok);
}

-- ---- relations

pub less : (m n : ℕ) → nat_lt m n ≡ not (nat_le n m)
less m n = grind (arith, nat_tests)

pub at_most : (m n : ℕ) → nat_le m n ≡ not (nat_lt n m)
at_most m n = grind (arith, nat_tests)

pub equal : (m n : ℕ) → (m == n) ≡ (not (nat_lt m n) && not (nat_lt n m))
equal m n = grind (arith, nat_tests)

pub in_range : (m n v : ℕ) → (nat_le m v && nat_le v n) ≡ (not (nat_lt v m) && not (nat_lt n v))
in_range m n v = grind (arith, nat_tests)

pub out_of_range : (m n v : ℕ) → not (nat_le m v && nat_le v n) ≡ (not (nat_le m v) || not (nat_le v n))
out_of_range m n v = grind (arith, nat_tests)

pub truth_of_not : (truth b : Bool) → has_truth truth (not b) ≡ has_truth (not truth) b
truth_of_not true b = refl
truth_of_not false true = refl
truth_of_not false false = refl

not_either : (x y : Bool) → not (x || y) ≡ (not x && not y)
not_either true y = refl
not_either false y = refl

pub neither : (truth b x y : Bool) → truth ≡ false → b ≡ (x || y) → has_truth truth b ≡ (has_truth truth x && has_truth truth y)
neither true b x y e f = absurd (false≢true (sym e))
neither false b x y e f = rw f (not_either x y)

pub each : (truth b x y : Bool) → truth ≡ true → b ≡ (x && y) → has_truth truth b ≡ (has_truth truth x && has_truth truth y)
each true b x y e f = f
each false b x y e f = absurd (false≢true e)
