-- What is never met is met by no deal around the fixed cards.
use Rattle.std.proofs.Common.{◌≡◌, ◌&&◌, ◌||◌, Bool, true, false, List, Option, inl, inr, refl}
use Rattle.cards.specs.declared.seat.Seat.{Seat}
use Rattle.cards.specs.Fixed.{IsFixed}
use Rattle.conditions.specs.Form.{Form, all_of, any_of, balanced, compare, loose_pattern, loose_shape, negation, pattern, shape, stops, within}
use Rattle.conditions.specs.Meaning.{holds}
use Rattle.screens.specs.Completions.{Keeps}
use Rattle.screens.specs.Never.{is_never_part}
use Rattle.screens.specs.Torn.{is_torn}
use Rattle.screens.proofs.Tearing.{torn}
use Rattle.screens.proofs.Truths.{all_true, both_sides}

neither : (b c : Bool) → b ≡ false → c ≡ false → (b || c) ≡ false
neither b c h i = rw (h, i) refl

none_left : (b c : Bool) → b ≡ false → (b && c) ≡ false
none_left b c h = rw h refl

none_right : (b c : Bool) → c ≡ false → (b && c) ≡ false
none_right true c h = h
none_right false c h = refl

module _ (fixed : List (Option Seat)) (deal : List Seat) (is : IsFixed fixed) (keeps : Keeps fixed deal) where
  whole : (f : Form) (new : Bool) → (new && is_torn fixed f) ≡ true → holds f deal ≡ false
  whole f new h = torn fixed deal f is keeps (all_true new (is_torn fixed f) h).1

  pub sound : (f : Form) (new : Bool) → is_never_part fixed new f ≡ true → holds f deal ≡ false
  sound (any_of a b) new h =
      let two = all_true (is_never_part fixed true a) (is_never_part fixed true b) h in
      neither (holds a deal) (holds b deal) (sound a true two.0) (sound b true two.1)
  sound (all_of a b) new h =
      elim (both_sides (new && is_torn fixed (all_of a b)) (is_never_part fixed false a || is_never_part fixed false b) h) [
        | inl e ↦ whole (all_of a b) new e
        | inr rest ↦
            elim (both_sides (is_never_part fixed false a) (is_never_part fixed false b) rest) [
              | inl e ↦ none_left (holds a deal) (holds b deal) (sound a false e)
              | inr e ↦ none_right (holds a deal) (holds b deal) (sound b false e)
            ]
      ]
  sound (negation a) new h = whole (negation a) new h
  sound (compare a o b) new h = whole (compare a o b) new h
  sound (within a m n) new h = whole (within a m n) new h
  sound (balanced q) new h = whole (balanced q) new h
  sound (shape q ns) new h = whole (shape q ns) new h
  sound (pattern q ns) new h = whole (pattern q ns) new h
  sound (loose_shape q items) new h = whole (loose_shape q items) new h
  sound (loose_pattern q items) new h = whole (loose_pattern q items) new h
  sound (stops q s) new h = whole (stops q s) new h
