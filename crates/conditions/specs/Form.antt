-- A condition's tree without the addresses that its boxes have in memory: two trees are equal if
-- their forms are.
use Rattle.std.specs.Prelude.{ℕ, List, map, if◌then◌else◌, Bool, true, false}
use Rattle.std.specs.List.{list_any}
use Rattle.cards.specs.declared.honours.Honours.{Honours}
use Rattle.cards.specs.declared.hand.Measure.{Measure}
use Rattle.cards.specs.declared.hand.Measure.TheVariants.{Hcp}
use Rattle.cards.specs.declared.order.Order.{Order}
use Rattle.cards.specs.declared.seat.Seat.{Seat}
use Rattle.cards.specs.declared.suit.Suit.{Suit}
use Rattle.conditions.specs.declared.tree.Op.{Op}
use Rattle.conditions.specs.declared.tree.Item.{Item}
use Rattle.conditions.specs.declared.tree.Item.TheVariants.{Length as Counted, Any}
use Rattle.conditions.specs.declared.tree.Count.{Count}
use Rattle.conditions.specs.declared.tree.Count.TheVariants as counts
use Rattle.conditions.specs.declared.tree.Value.{Value}
use Rattle.conditions.specs.declared.tree.Value.TheVariants.{Sum', Number, Count as HandCount, Times}
use Rattle.conditions.specs.declared.tree.Tree.{Tree}
use Rattle.conditions.specs.declared.tree.Tree.TheVariants.{AnyOf', AllOf', Negation', Compare, Within, Balanced}
use Rattle.conditions.specs.declared.tree.Tree.TheVariants.{Shape, Pattern, LooseShape, LoosePattern, Stops}

-- what is counted in a hand
abbrev pub measured : Measure → Seat → Count
measured m q = counts.Total m q

abbrev pub suit_measured : Measure → Seat → Suit → Count
suit_measured m q s = counts.SuitTotal m q s

abbrev pub points : Seat → Count
points q = counts.Total Hcp q

abbrev pub suit_points : Seat → Suit → Count
suit_points q s = counts.SuitTotal Hcp q s

abbrev pub cards_held : Seat → Honours → Count
cards_held q h = counts.Cards q h

abbrev pub suit_cards_held : Seat → Suit → Honours → Count
suit_cards_held q s h = counts.SuitCards q s h

abbrev pub suit_length : Seat → Suit → Count
suit_length q s = counts.Length q s

abbrev pub length_by : Order → Seat → Count
length_by o q = counts.Ordered o q

-- a value: a sum, a number, what is counted, or that many times what is counted
pub data Amount : Type 0 where
  sum : Amount → Amount → Amount
  number : ℕ → Amount
  counted : Count → Amount
  times : ℕ → Count → Amount

-- a tree: a shape and a pattern of four numbers have `shape` and `pattern`, those with an `x` among
-- their items `loose_shape` and `loose_pattern`
pub data Form : Type 0 where
  any_of : Form → Form → Form
  all_of : Form → Form → Form
  negation : Form → Form
  compare : Amount → Op → Amount → Form
  within : Amount → ℕ → ℕ → Form
  balanced : Seat → Form
  shape : Seat → List ℕ → Form
  pattern : Seat → List ℕ → Form
  loose_shape : Seat → List Item → Form
  loose_pattern : Seat → List Item → Form
  stops : Seat → Suit → Form

-- whether an item is `x`, and the number of one that isn't
abbrev pub is_any : Item → Bool
is_any Any = true
is_any (Counted n) = false

abbrev pub number_of : Item → ℕ
number_of Any = 0
number_of (Counted n) = n

-- the shape of some items, and the pattern: an `x` makes it loose
abbrev pub shaped : Seat → List Item → Form
shaped q items =
    if list_any is_any items then loose_shape q items else shape q (map number_of items)

abbrev pub patterned : Seat → List Item → Form
patterned q items =
    if list_any is_any items then loose_pattern q items else pattern q (map number_of items)

abbrev pub amount_of : Value → Amount
amount_of (Sum' p a q b) = sum (amount_of a) (amount_of b)
amount_of (Number n) = number n
amount_of (HandCount c) = counted c
amount_of (Times n c) = times n c

abbrev pub form_of : Tree → Form
form_of (AnyOf' p a q b) = any_of (form_of a) (form_of b)
form_of (AllOf' p a q b) = all_of (form_of a) (form_of b)
form_of (Negation' p a) = negation (form_of a)
form_of (Compare l o r) = compare (amount_of l) o (amount_of r)
form_of (Within v m n) = within (amount_of v) m n
form_of (Balanced q) = balanced q
form_of (Shape q n) = shape q n
form_of (Pattern q n) = pattern q n
form_of (LooseShape q items) = loose_shape q items
form_of (LoosePattern q items) = loose_pattern q items
form_of (Stops q s) = stops q s
