-- How a form is stored: as a tree of numbers that gives it back, by which proofs tell two forms
-- apart.
use Rattle.std.specs.Prelude.{◌≡◌, ℕ, zero, suc, Bool, true, false, cond, List, [], ◌∷◌, refl}
use Rattle.std.proofs.Common.{sym, ap, ◌∙◌}
use base.Stored.{Gv, gnil, gnum, gcons, Coded}
use Rattle.cards.specs.declared.hand.Measure.{Measure}
use Rattle.cards.specs.declared.honours.Honours.{Honours}
use Rattle.cards.specs.declared.order.Order.{Order}
use Rattle.cards.specs.declared.order.Order.TheVariants.{Longest}
use Rattle.cards.specs.declared.seat.Seat.{Seat}
use Rattle.cards.specs.declared.seat.Seat.TheVariants.{North, East, South, West}
use Rattle.cards.specs.declared.suit.Suit.{Suit}
use Rattle.cards.specs.declared.suit.Suit.TheVariants.{Spades, Hearts, Diamonds, Clubs}
use Rattle.cards.specs.Measures.{measure_number, measure_of_number, measure_back}
use Rattle.cards.specs.Orders.{order_number, order_of_number, order_back}
use Rattle.cards.specs.Pack.{seat_number, seat_of_number, suit_number}
use Rattle.conditions.specs.declared.tree.Item.{Item}
use Rattle.conditions.specs.declared.tree.Item.TheVariants.{Length, Any}
use Rattle.conditions.specs.declared.tree.Op.{Op}
use Rattle.conditions.specs.declared.tree.Op.TheVariants.{Equal, NotEqual, Less}
use Rattle.conditions.specs.declared.tree.Op.TheVariants.{AtMost, More, AtLeast}
use Rattle.conditions.specs.declared.tree.Count.{Count}
use Rattle.conditions.specs.declared.tree.Count.TheVariants as counts
use Rattle.conditions.specs.Form.{Amount, sum, number, counted, times}
use Rattle.conditions.specs.Form.{Form, any_of, all_of, negation, compare, within, balanced}
use Rattle.conditions.specs.Form.{shape, pattern, loose_shape, loose_pattern, stops}
use Rattle.conditions.specs.Questions.{Question, asks_condition, asks_value}

abbrev suit_of_number : ℕ → Suit
suit_of_number zero = Spades
suit_of_number (suc zero) = Hearts
suit_of_number (suc (suc zero)) = Diamonds
suit_of_number _ = Clubs

abbrev op_number : Op → ℕ
op_number Equal = 0
op_number NotEqual = 1
op_number Less = 2
op_number AtMost = 3
op_number More = 4
op_number AtLeast = 5

abbrev op_of_number : ℕ → Op
op_of_number zero = Equal
op_of_number (suc zero) = NotEqual
op_of_number (suc (suc zero)) = Less
op_of_number (suc (suc (suc zero))) = AtMost
op_of_number (suc (suc (suc (suc zero)))) = More
op_of_number _ = AtLeast

seat_back : (q : Seat) → seat_of_number (seat_number q) ≡ q
seat_back North = refl
seat_back East = refl
seat_back South = refl
seat_back West = refl

suit_back : (s : Suit) → suit_of_number (suit_number s) ≡ s
suit_back Spades = refl
suit_back Hearts = refl
suit_back Diamonds = refl
suit_back Clubs = refl

op_back : (o : Op) → op_of_number (op_number o) ≡ o
op_back Equal = refl
op_back NotEqual = refl
op_back Less = refl
op_back AtMost = refl
op_back More = refl
op_back AtLeast = refl

abbrev numbers_stored : List ℕ → Gv
numbers_stored [] = gnil
numbers_stored (n ∷ ns) = gcons (gnum n) (numbers_stored ns)

abbrev number_of : Gv → ℕ
number_of (gnum n) = n
number_of _ = 0

abbrev numbers_of : Gv → List ℕ
numbers_of (gcons n ns) = number_of n ∷ numbers_of ns
numbers_of _ = []

numbers_back : (ns : List ℕ) → numbers_of (numbers_stored ns) ≡ ns
numbers_back [] = refl
numbers_back (n ∷ ns) = ap (λ ms. n ∷ ms) (numbers_back ns)

abbrev seat_stored : Seat → Gv
seat_stored q = gnum (seat_number q)

abbrev seat_from : Gv → Seat
seat_from v = seat_of_number (number_of v)

abbrev suit_stored : Suit → Gv
suit_stored s = gnum (suit_number s)

abbrev suit_from : Gv → Suit
suit_from v = suit_of_number (number_of v)

abbrev measure_stored : Measure → Gv
measure_stored m = gnum (measure_number m)

abbrev measure_from : Gv → Measure
measure_from v = measure_of_number (number_of v)

abbrev order_stored : Order → Gv
order_stored o = gnum (order_number o)

abbrev order_from : Gv → Order
order_from v = order_of_number (number_of v)

abbrev item_number : Item → ℕ
item_number Any = 0
item_number (Length n) = suc n

abbrev item_of_number : ℕ → Item
item_of_number zero = Any
item_of_number (suc n) = Length n

item_back : (i : Item) → item_of_number (item_number i) ≡ i
item_back Any = refl
item_back (Length n) = refl

abbrev items_stored : List Item → Gv
items_stored [] = gnil
items_stored (i ∷ items) = gcons (gnum (item_number i)) (items_stored items)

abbrev items_of : Gv → List Item
items_of (gcons i items) = item_of_number (number_of i) ∷ items_of items
items_of _ = []

items_back : (items : List Item) → items_of (items_stored items) ≡ items
items_back [] = refl
items_back (i ∷ items) =
    ap (λ j. j ∷ items_of (items_stored items)) (item_back i)
    ∙ ap (λ is. i ∷ is) (items_back items)

abbrev truth_stored : Bool → Gv
truth_stored b = gnum (cond b 1 0)

abbrev truth_of_number : ℕ → Bool
truth_of_number zero = false
truth_of_number _ = true

abbrev truth_from : Gv → Bool
truth_from v = truth_of_number (number_of v)

truth_back : (b : Bool) → truth_from (truth_stored b) ≡ b
truth_back true = refl
truth_back false = refl

abbrev honours_stored : Honours → Gv
honours_stored h =
    gcons (gcons (truth_stored h.ace) (truth_stored h.king))
    (gcons (truth_stored h.queen) (gcons (truth_stored h.jack) (truth_stored h.ten)))

abbrev honours_from : Gv → Honours
honours_from (gcons (gcons a k) (gcons q (gcons j t))) =
    record {
      ace = truth_from a;
      king = truth_from k;
      queen = truth_from q;
      jack = truth_from j;
      ten = truth_from t;
    }
honours_from _ = record { ace = false; king = false; queen = false; jack = false; ten = false }

honours_back : (h : Honours) → honours_from (honours_stored h) ≡ h
honours_back h =
    rw (
      truth_back h.ace,
      truth_back h.king,
      truth_back h.queen,
      truth_back h.jack,
      truth_back h.ten,
    ) refl

-- each kind of count is its number and then its parts: a new kind has a line in each of the next
-- three
abbrev count_stored : Count → Gv
count_stored (counts.Total m q) = gcons (gnum 0) (gcons (measure_stored m) (seat_stored q))
count_stored (counts.SuitTotal m q s) =
    gcons (gnum 1) (gcons (measure_stored m) (gcons (seat_stored q) (suit_stored s)))
count_stored (counts.Length q s) = gcons (gnum 2) (gcons (seat_stored q) (suit_stored s))
count_stored (counts.Cards q h) = gcons (gnum 3) (gcons (seat_stored q) (honours_stored h))
count_stored (counts.SuitCards q s h) =
    gcons (gnum 4) (gcons (seat_stored q) (gcons (suit_stored s) (honours_stored h)))
count_stored (counts.Ordered o q) = gcons (gnum 5) (gcons (order_stored o) (seat_stored q))

abbrev count_from : Gv → Count
count_from (gcons (gnum zero) (gcons m q)) = counts.Total (measure_from m) (seat_from q)
count_from (gcons (gnum (suc zero)) (gcons m (gcons q s))) =
    counts.SuitTotal (measure_from m) (seat_from q) (suit_from s)
count_from (gcons (gnum (suc (suc zero))) (gcons q s)) = counts.Length (seat_from q) (suit_from s)
count_from (gcons (gnum (suc (suc (suc zero)))) (gcons q h)) =
    counts.Cards (seat_from q) (honours_from h)
count_from (gcons (gnum (suc (suc (suc (suc zero))))) (gcons q (gcons s h))) =
    counts.SuitCards (seat_from q) (suit_from s) (honours_from h)
count_from (gcons (gnum (suc (suc (suc (suc (suc k)))))) (gcons o q)) =
    counts.Ordered (order_from o) (seat_from q)
count_from _ = counts.Ordered Longest North

count_back : (c : Count) → count_from (count_stored c) ≡ c
count_back (counts.Length q s) = rw (seat_back q, suit_back s) refl
count_back (counts.Total m q) = rw (measure_back m, seat_back q) refl
count_back (counts.SuitTotal m q s) = rw (measure_back m, seat_back q, suit_back s) refl
count_back (counts.Cards q h) =
    ap (λ p. counts.Cards p (honours_from (honours_stored h))) (seat_back q)
    ∙ ap (counts.Cards q) (honours_back h)
count_back (counts.SuitCards q s h) =
    ap
    (λ p. counts.SuitCards p (suit_of_number (suit_number s)) (honours_from (honours_stored h)))
    (seat_back q)
    ∙ ap (λ u. counts.SuitCards q u (honours_from (honours_stored h))) (suit_back s)
    ∙ ap (counts.SuitCards q s) (honours_back h)
count_back (counts.Ordered o q) = rw (order_back o, seat_back q) refl

-- and so each kind of value
abbrev amount_stored : Amount → Gv
amount_stored (sum a b) = gcons (gnum 0) (gcons (amount_stored a) (amount_stored b))
amount_stored (number n) = gcons (gnum 1) (gnum n)
amount_stored (counted c) = gcons (gnum 2) (count_stored c)
amount_stored (times n c) = gcons (gnum 3) (gcons (gnum n) (count_stored c))

abbrev amount_from : Gv → Amount
amount_from (gcons (gnum zero) (gcons a b)) = sum (amount_from a) (amount_from b)
amount_from (gcons (gnum (suc zero)) n) = number (number_of n)
amount_from (gcons (gnum (suc (suc zero))) c) = counted (count_from c)
amount_from (gcons (gnum (suc (suc (suc k)))) (gcons n c)) = times (number_of n) (count_from c)
amount_from _ = number 0

amount_back : (a : Amount) → amount_from (amount_stored a) ≡ a
amount_back (sum a b) =
    ap (λ x. sum x (amount_from (amount_stored b))) (amount_back a)
    ∙ ap (λ x. sum a x) (amount_back b)
amount_back (number n) = refl
amount_back (counted c) = ap counted (count_back c)
amount_back (times n c) = ap (times n) (count_back c)

-- and so each kind of tree
abbrev pub form_stored : Form → Gv
form_stored (any_of a b) = gcons (gnum 0) (gcons (form_stored a) (form_stored b))
form_stored (all_of a b) = gcons (gnum 1) (gcons (form_stored a) (form_stored b))
form_stored (negation a) = gcons (gnum 2) (form_stored a)
form_stored (compare a o b) =
    gcons (gnum 3) (gcons (gnum (op_number o)) (gcons (amount_stored a) (amount_stored b)))
form_stored (balanced q) = gcons (gnum 4) (seat_stored q)
form_stored (shape q ns) = gcons (gnum 5) (gcons (seat_stored q) (numbers_stored ns))
form_stored (pattern q ns) = gcons (gnum 6) (gcons (seat_stored q) (numbers_stored ns))
form_stored (loose_shape q items) = gcons (gnum 7) (gcons (seat_stored q) (items_stored items))
form_stored (loose_pattern q items) = gcons (gnum 8) (gcons (seat_stored q) (items_stored items))
form_stored (within a m n) = gcons (gnum 9) (gcons (amount_stored a) (gcons (gnum m) (gnum n)))
form_stored (stops q s) = gcons (gnum 10) (gcons (seat_stored q) (suit_stored s))

abbrev pub form_from : Gv → Form
form_from (gcons (gnum zero) (gcons a b)) = any_of (form_from a) (form_from b)
form_from (gcons (gnum (suc zero)) (gcons a b)) = all_of (form_from a) (form_from b)
form_from (gcons (gnum (suc (suc zero))) a) = negation (form_from a)
form_from (gcons (gnum (suc (suc (suc zero)))) (gcons o (gcons a b))) =
    compare (amount_from a) (op_of_number (number_of o)) (amount_from b)
form_from (gcons (gnum (suc (suc (suc (suc zero))))) q) = balanced (seat_from q)
form_from (gcons (gnum (suc (suc (suc (suc (suc zero)))))) (gcons q ns)) =
    shape (seat_from q) (numbers_of ns)
form_from (gcons (gnum (suc (suc (suc (suc (suc (suc zero))))))) (gcons q ns)) =
    pattern (seat_from q) (numbers_of ns)
form_from (gcons (gnum (suc (suc (suc (suc (suc (suc (suc zero)))))))) (gcons q items)) =
    loose_shape (seat_from q) (items_of items)
form_from (gcons (gnum (suc (suc (suc (suc (suc (suc (suc (suc zero))))))))) (gcons q items)) =
    loose_pattern (seat_from q) (items_of items)
form_from
    (gcons (gnum (suc (suc (suc (suc (suc (suc (suc (suc (suc zero))))))))))
    (gcons a (gcons m n))) =
    within (amount_from a) (number_of m) (number_of n)
form_from
    (gcons (gnum (suc (suc (suc (suc (suc (suc (suc (suc (suc (suc k))))))))))) (gcons q s)) =
    stops (seat_from q) (suit_from s)
form_from _ = balanced North

pub form_back : (t : Form) → form_from (form_stored t) ≡ t
form_back (any_of a b) =
    ap (λ x. any_of x (form_from (form_stored b))) (form_back a) ∙ ap (any_of a) (form_back b)
form_back (all_of a b) =
    ap (λ x. all_of x (form_from (form_stored b))) (form_back a) ∙ ap (all_of a) (form_back b)
form_back (negation a) = ap negation (form_back a)
form_back (compare a o b) =
    ap (λ x. compare x (op_of_number (op_number o)) (amount_from (amount_stored b))) (amount_back a)
    ∙ ap (λ x. compare a x (amount_from (amount_stored b))) (op_back o)
    ∙ ap (compare a o) (amount_back b)
form_back (balanced q) = ap balanced (seat_back q)
form_back (shape q ns) = rw (seat_back q, numbers_back ns) refl
form_back (pattern q ns) = rw (seat_back q, numbers_back ns) refl
form_back (loose_shape q items) =
    ap (λ p. loose_shape p (items_of (items_stored items))) (seat_back q)
    ∙ ap (loose_shape q) (items_back items)
form_back (loose_pattern q items) =
    ap (λ p. loose_pattern p (items_of (items_stored items))) (seat_back q)
    ∙ ap (loose_pattern q) (items_back items)
form_back (within a m n) = ap (λ x. within x m n) (amount_back a)
form_back (stops q s) = rw (seat_back q, suit_back s) refl

pub one_form : (a b : Form) → form_stored a ≡ form_stored b → a ≡ b
one_form a b e = sym (form_back a) ∙ ap form_from e ∙ form_back b

abbrev pub form_code : Coded Form
form_code = record { code = form_stored; inj = one_form }

abbrev question_stored : Question → Gv
question_stored (asks_condition tree) = gcons (gnum 0) (form_stored tree)
question_stored (asks_value value) = gcons (gnum 1) (amount_stored value)

abbrev question_from : Gv → Question
question_from (gcons (gnum zero) tree) = asks_condition (form_from tree)
question_from (gcons (gnum (suc k)) value) = asks_value (amount_from value)
question_from _ = asks_value (number 0)

question_back : (q : Question) → question_from (question_stored q) ≡ q
question_back (asks_condition tree) = ap asks_condition (form_back tree)
question_back (asks_value value) = ap asks_value (amount_back value)

pub one_question : (a b : Question) → question_stored a ≡ question_stored b → a ≡ b
one_question a b e = sym (question_back a) ∙ ap question_from e ∙ question_back b

abbrev pub question_code : Coded Question
question_code = record { code = question_stored; inj = one_question }
