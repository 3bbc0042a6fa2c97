-- Reading from the left with one token in sight, as a function of the tokens that are left: what
-- the parser's own functions return.
use Rattle.std.specs.Prelude.{◌≡◌, ℕ, zero, suc, ◌+◌, ◌*◌, List, [], ◌∷◌, length, Result, Ok, Err, Option, Some, None}
use Rattle.std.specs.Prelude.{Bool, ◌||◌, if◌then◌else◌, slice_get}
use Rattle.cards.specs.declared.honours.Honours.{Honours}
use Rattle.cards.specs.declared.hand.Measure.{Measure as AMeasure}
use Rattle.cards.specs.declared.seat.Seat.{Seat as ASeat}
use Rattle.cards.specs.declared.seat.Seat.TheVariants.{North}
use Rattle.cards.specs.declared.suit.Suit.{Suit as ASuit}
use Rattle.cards.specs.declared.suit.Suit.TheVariants.{Spades}
use Rattle.conditions.specs.declared.tree.Count.{Count}
use Rattle.conditions.specs.declared.tree.Item.{Item}
use Rattle.conditions.specs.declared.tree.Item.TheVariants.{Length, Any}
use Rattle.conditions.specs.declared.tree.Op.{Op}
use Rattle.cond_lang.specs.declared.classes.Bound.{Bound}
use Rattle.cond_lang.specs.declared.classes.Choice.{Choice}
use Rattle.cond_lang.specs.declared.classes.Class.{Class as AClass}
use Rattle.cond_lang.specs.declared.classes.Class.TheVariants.{Suit as AnySuit, Major, Minor, Other, Seat as AnySeat, NorthSouth, EastWest}
use Rattle.cond_lang.specs.declared.classes.Params.{Params}
use Rattle.cond_lang.specs.declared.classes.Params.TheVariants.{Plain, OfSeat, OfSuit, OfBoth}
use Rattle.cond_lang.specs.declared.classes.Quantifier.{Quantifier as AQuantifier}
use Rattle.cond_lang.specs.declared.scanner.Token.{Token}
use Rattle.cond_lang.specs.declared.scanner.Token.TheVariants.{Or, And, Not, Balanced, Shape, Pattern, Quantifier}
use Rattle.cond_lang.specs.declared.scanner.Token.TheVariants.{Stops, Measure, Cards, Len, Ordered}
use Rattle.cond_lang.specs.declared.scanner.Token.TheVariants.{In, X, Seat, Suit, Class, Neighbour, Ranks, Number}
use Rattle.cond_lang.specs.declared.scanner.Token.TheVariants.{Open, Close, Comma, Dash, Plus, Star, Relation, Name}
use Rattle.cond_lang.specs.declared.parser.Refusal.{Refusal}
use Rattle.cond_lang.specs.declared.parser.Refusal.TheVariants.{Syntax, Memory}
use Rattle.conditions.specs.Form.{Amount, sum, number, counted, times, measured, suit_measured, cards_held}
use Rattle.conditions.specs.Form.{suit_cards_held, suit_length, length_by, Form, any_of, all_of}
use Rattle.conditions.specs.Form.{negation, compare, within, balanced, shaped, patterned, stops}
use Rattle.cond_lang.specs.Classes.{bound_to, bind, can_bind, is_member, choice, all_choices, seat_bound_to, seat_beside}
use Rattle.cond_lang.specs.Grammar.{Meaning, Meanings, condition, value, joined}

-- what was read and what is left, or where it stopped
pub data Outcome (A : Type 0) : Type 0 where
  got : A → List Token → Outcome A
  stuck : List Token → Outcome A

abbrev pub Reader : Type 0 → Type 0
Reader A = List Token → Outcome A

abbrev pub after : {A B : Type 0} → Outcome A → (A → Reader B) → Outcome B
after (got x S) f = f x S
after (stuck S) f = stuck S

abbrev pub opened : Reader (Unit {0})
opened (Open ∷ S) = got tt S
opened S = stuck S

abbrev pub closed : Reader (Unit {0})
closed (Close ∷ S) = got tt S
closed S = stuck S

abbrev pub comma : Reader (Unit {0})
comma (Comma ∷ S) = got tt S
comma S = stuck S

abbrev pub dash : Reader (Unit {0})
dash (Dash ∷ S) = got tt S
dash S = stuck S

-- what is read, and then a closing bracket
abbrev pub closing : {A : Type 0} → A → Reader A
closing x S = after (closed S) (λ _ R. got x R)

-- the seat that a class's word means
abbrev pub class_seat : Option ASeat → AClass → Reader ASeat
class_seat None c S = stuck (Class c ∷ S)
class_seat (Some q) c S = got q S

-- a seat, or a neighbour of one
abbrev pub seat : Bound → Reader ASeat
seat E (Seat q ∷ S) = got q S
seat E (Class c ∷ S) = class_seat (seat_bound_to E c) c S
seat E (Neighbour n ∷ Open ∷ S) = after (seat E S) (λ q R. closing (seat_beside n q) R)
seat E (Neighbour n ∷ S) = stuck S
seat E S = stuck S

-- the suit that a class's word means
abbrev pub class_suit : Option ASuit → AClass → Reader ASuit
class_suit None c S = stuck (Class c ∷ S)
class_suit (Some s) c S = got s S

abbrev pub suit : Bound → Reader ASuit
suit E (Suit s ∷ S) = got s S
suit E (Class c ∷ S) = class_suit (bound_to E c) c S
suit E S = stuck S

-- whether some class can be bound
abbrev pub can_quantify : Bound → Bool
can_quantify E =
    can_bind E AnySuit || (can_bind E Major || (can_bind E Minor || (can_bind E Other
    || (can_bind E AnySeat || (can_bind E NorthSouth || can_bind E EastWest)))))

-- a quantifier, where some class can be bound
abbrev pub quantifier : Bound → Reader AQuantifier
quantifier E (Quantifier k ∷ S) = if can_quantify E then got k S else stuck (Quantifier k ∷ S)
quantifier E S = stuck S

-- a class that can be bound
abbrev pub class : Bound → Reader AClass
class E (Class c ∷ S) = if can_bind E c then got c S else stuck (Class c ∷ S)
class E S = stuck S

abbrev pub digits : Reader ℕ
digits (Number n ∷ S) = got n S
digits S = stuck S

abbrev pub ranks : Reader Honours
ranks (Ranks h ∷ S) = got h S
ranks S = stuck S

abbrev pub item : Reader Item
item (Number n ∷ S) = got (Length n) S
item (X ∷ S) = got Any S
item S = stuck S

abbrev pub relation : Reader Op
relation (Relation o ∷ S) = got o S
relation S = stuck S

-- , suit )
abbrev pub comma_suit_close : Bound → Reader ASuit
comma_suit_close E S = after (comma S) (λ _ S. after (suit E S) closing)

-- ) or , suit )
abbrev pub rest_of_measure : Bound → AMeasure → ASeat → Reader Count
rest_of_measure E m q (Comma ∷ S) = after (suit E S) (λ s R. closing (suit_measured m q s) R)
rest_of_measure E m q S = closing (measured m q) S

-- ranks )
abbrev pub ranks_close : Reader Honours
ranks_close S = after (ranks S) closing

-- , ranks )
abbrev pub comma_ranks_close : Reader Honours
comma_ranks_close S = after (comma S) (λ _ S. ranks_close S)

-- suit , ranks )
abbrev pub suit_and_ranks : Bound → ASeat → Reader Count
suit_and_ranks E q S =
    after (suit E S) (λ s S. after (comma_ranks_close S) (λ h R. got (suit_cards_held q s h) R))

-- ranks ) or suit , ranks )
abbrev pub rest_of_cards : Bound → ASeat → Reader Count
rest_of_cards E q (Suit s ∷ S) = suit_and_ranks E q (Suit s ∷ S)
rest_of_cards E q (Class c ∷ S) = suit_and_ranks E q (Class c ∷ S)
rest_of_cards E q S = after (ranks_close S) (λ h R. got (cards_held q h) R)

-- ( seat
abbrev pub open_seat : Bound → Reader ASeat
open_seat E S = after (opened S) (λ _ R. seat E R)

-- ( seat )
abbrev pub seat_in_brackets : Bound → Reader ASeat
seat_in_brackets E S = after (open_seat E S) closing

-- ( seat , suit )
abbrev pub seat_and_suit : Bound → Reader (ASeat × ASuit)
seat_and_suit E S =
    after (open_seat E S) (λ q S. after (comma_suit_close E S) (λ s R. got (q, s) R))

-- ( seat ,
abbrev pub open_seat_comma : Bound → Reader ASeat
open_seat_comma E S = after (open_seat E S) (λ q S. after (comma S) (λ _ R. got q R))

-- number - number
abbrev pub range : Reader (ℕ × ℕ)
range S =
    after (digits S) (λ m S. after (dash S) (λ _ S. after (digits S) (λ n S. got (m, n) S)))

-- how long one of a hand's suits is, by its order among them
abbrev pub suit_count : Bound → Reader Count
suit_count E (Ordered o ∷ S) = after (seat_in_brackets E S) (λ q R. got (length_by o q) R)
suit_count E S = stuck S

unfoldable pub count_of : Bound → Reader Count
count_of E (Measure m ∷ S) = after (open_seat E S) (rest_of_measure E m)
count_of E (Len ∷ S) = after (seat_and_suit E S) (λ p R. got (suit_length p.0 p.1) R)
count_of E (Cards ∷ S) = after (open_seat_comma E S) (λ q R. rest_of_cards E q R)
count_of E S = suit_count E S

-- nothing, or * count
abbrev pub rest_of_number : Bound → ℕ → Reader Amount
rest_of_number E n (Star ∷ S) = after (count_of E S) (λ k R. got (times n k) R)
rest_of_number E n S = got (number n) S

-- a count alone
abbrev pub count_alone : Bound → Reader Amount
count_alone E S = after (count_of E S) (λ k R. got (counted k) R)

-- ( suit )
abbrev pub suit_in_brackets : Bound → Reader ASuit
suit_in_brackets E S = after (opened S) (λ _ S. after (suit E S) closing)

-- a name's arguments
abbrev pub args : Bound → Params → Reader Choice
args E Plain S = got (choice Spades North) S
args E OfSeat S = after (seat_in_brackets E S) (λ q R. got (choice Spades q) R)
args E OfSuit S = after (suit_in_brackets E S) (λ s R. got (choice s North) R)
args E OfBoth S = after (seat_and_suit E S) (λ p R. got (choice p.1 p.0) R)

-- the name of a value, by what the name stands for
abbrev pub value_used : Option Meaning → Bound → ℕ → Reader Amount
value_used (Some (value p f)) E n S = after (args E p S) (λ x R. got (f x) R)
value_used m E n S = stuck (Name n ∷ S)

unfoldable pub number_or_count : Bound → Reader Amount
number_or_count E (Number n ∷ S) = rest_of_number E n S
number_or_count E S = count_alone E S

unfoldable pub atom_of : Meanings → Bound → Reader Amount
atom_of N E (Name n ∷ S) = value_used (slice_get N n) E n S
atom_of N E S = number_or_count E S

unfoldable pub items : Reader (List Item)
items S =
    after (item S) (λ a S. after (dash S) (λ _ S.
    after (item S) (λ b S. after (dash S) (λ _ S.
    after (item S) (λ c S. after (dash S) (λ _ S.
    after (item S) (λ d S. got (a ∷ b ∷ c ∷ d ∷ []) S)))))))

-- ( seat , a - b - c - d )
unfoldable pub seat_and_items : Bound → Reader (ASeat × List Item)
seat_and_items E S =
    after (open_seat E S) (λ q S. after (comma S) (λ _ S.
    after (items S) (λ n S. closing (q, n) S)))

-- what is to be read: a rule of the grammar, or the rest of a chain after its first part
pub data Goal : Type 0 where
  a_cond : Goal
  a_both : Goal
  a_unit : Goal
  ors : Form → Goal
  ands : Form → Goal
  a_value : Goal
  sums : Amount → Goal

-- what it is read as
abbrev pub Of : Goal → Type 0
Of a_cond = Form
Of a_both = Form
Of a_unit = Form
Of (ors a) = Form
Of (ands a) = Form
Of a_value = Amount
Of (sums a) = Amount

abbrev pub Readers : Type 0
Readers = Bound → (g : Goal) → Reader (Of g)

-- op value
abbrev pub compared_by : Readers → Bound → Amount → Reader Form
compared_by r E a S =
    after (relation S) (λ o S. after (r E a_value S) (λ b S. got (compare a o b) S))

-- in number - number, or op value
abbrev pub related_by : Readers → Bound → Amount → Reader Form
related_by r E a (In ∷ S) = after (range S) (λ p S. got (within a p.0 p.1) S)
related_by r E a S = compared_by r E a S

abbrev pub comparing_by : Readers → Bound → Reader Form
comparing_by r E S = after (r E a_value S) (λ a S. related_by r E a S)

abbrev pub sums_by : Meanings → Readers → Bound → Amount → Reader Amount
sums_by N r E a (Plus ∷ S) = after (atom_of N E S) (λ b R. r E (sums (sum a b)) R)
sums_by N r E a S = got a S

-- the name of a condition, or a comparison that begins with one
abbrev pub condition_used_by : Option Meaning → Readers → Bound → ℕ → Reader Form
condition_used_by (Some (condition p f)) r E n S = after (args E p S) (λ x R. got (f x) R)
condition_used_by m r E n S = comparing_by r E (Name n ∷ S)

-- a test with no `not`, no bracket and no quantifier before it
abbrev pub test_by : Meanings → Readers → Bound → Reader Form
test_by N r E (Balanced ∷ S) = after (open_seat E S) (λ q R. closing (balanced q) R)
test_by N r E (Shape ∷ S) = after (seat_and_items E S) (λ p R. got (shaped p.0 p.1) R)
test_by N r E (Pattern ∷ S) = after (seat_and_items E S) (λ p R. got (patterned p.0 p.1) R)
test_by N r E (Stops ∷ S) = after (seat_and_suit E S) (λ p R. got (stops p.0 p.1) R)
test_by N r E (Name n ∷ S) = condition_used_by (slice_get N n) r E n S
test_by N r E S = comparing_by r E S

-- a tree after those of the choices before it
abbrev pub behind : AQuantifier → Option Form → Form → Form
behind k None b = b
behind k (Some a) b = joined k a b

-- the condition S with the suit or the seat in the class's place, if it is one of the class
abbrev pub with_choice_by :
    Readers → Bound → AQuantifier → AClass → List Token → Choice → Option Form
    → Reader (Option Form)
with_choice_by r E k c S s left R =
    if is_member E c s
    then after (r (bind E c s) a_cond S) (λ b Q. got (Some (behind k left b)) Q)
    else got left R

-- no class is without a member
abbrev pub some_tree : Option Form → Reader Form
some_tree None R = stuck R
some_tree (Some t) R = got t R

-- the condition S with each of the choices, one after the other
abbrev pub each_by :
    Readers → Bound → AQuantifier → AClass → List Token → List Choice → Option Form → Reader Form
each_by r E k c S [] left R = some_tree left R
each_by r E k c S (s ∷ ss) left R =
    after (with_choice_by r E k c S s left R) (λ left Q. each_by r E k c S ss left Q)

-- ( cond ) with each suit or seat of the class in its place
abbrev pub bracketed_by : Readers → Bound → AQuantifier → AClass → Reader Form
bracketed_by r E k c S =
    after (opened S) (λ _ S. after (each_by r E k c S all_choices None S) closing)

-- quantifier class ( cond )
abbrev pub quantified_by : Readers → Bound → Reader Form
quantified_by r E S =
    after (quantifier E S) (λ k S. after (class E S) (λ c S. bracketed_by r E k c S))

abbrev pub unit_by : Meanings → Readers → Bound → Reader Form
unit_by N r E (Not ∷ S) = after (r E a_unit S) (λ t R. got (negation t) R)
unit_by N r E (Open ∷ S) = after (r E a_cond S) closing
unit_by N r E (Quantifier k ∷ S) = quantified_by r E (Quantifier k ∷ S)
unit_by N r E S = test_by N r E S

abbrev pub ors_by : Readers → Bound → Form → Reader Form
ors_by r E a (Or ∷ S) = after (r E a_both S) (λ b R. r E (ors (any_of a b)) R)
ors_by r E a S = got a S

abbrev pub ands_by : Readers → Bound → Form → Reader Form
ands_by r E a (And ∷ S) = after (r E a_unit S) (λ b R. r E (ands (all_of a b)) R)
ands_by r E a S = got a S

abbrev pub step : Meanings → Readers → Bound → (g : Goal) → Reader (Of g)
step N r E a_cond S = after (r E a_both S) (λ a R. r E (ors a) R)
step N r E a_both S = after (r E a_unit S) (λ a R. r E (ands a) R)
step N r E a_unit S = unit_by N r E S
step N r E (ors a) S = ors_by r E a S
step N r E (ands a) S = ands_by r E a S
step N r E a_value S = after (atom_of N E S) (λ a R. r E (sums a) R)
step N r E (sums a) S = sums_by N r E a S

unfoldable pub steps : Meanings → ℕ → Readers
steps N zero E g S = stuck S
steps N (suc n) E g S = step N (steps N n) E g S

abbrev pub rank : Goal → ℕ
rank a_cond = 4
rank a_both = 3
rank a_unit = 2
rank a_value = 1
rank (sums a) = 0
rank (ors a) = 0
rank (ands a) = 0

-- as many steps as are enough
unfoldable pub reading : Meanings → Readers
reading N E g S = steps N (suc (rank g + 5 * length S)) E g S

-- A function returned what is read, and left what is left, unless memory ran out.
abbrev pub Gives : {X A : Type 0} → (X → A) → Result X Refusal → List Token → Outcome A → Type 0
Gives view (Ok x) rest o = o ≡ got (view x) rest
Gives view (Err Syntax) rest o = o ≡ stuck rest
Gives view (Err Memory) rest o = Unit {0}

-- the token in sight
abbrev pub front : List Token → Option Token
front [] = None
front (t ∷ S) = Some t
