-- Which token lists spell which tree, by cases on splits of the list:
--     cond  = both ( "or" both )*
--     both  = unit ( "and" unit )*
--     unit  = "not" unit | "(" cond ")" | ( "any" | "every" ) class "(" cond ")" | test
--     class = "suit" | "major" | "minor" | "other" | "seat" | "ns" | "ew"
--     test  = value op value | value "in" number "-" number | "balanced" "(" seat ")"
--           | ( "shape" | "pattern" ) "(" seat "," item "-" item "-" item "-" item ")"
--           | "stops" "(" seat "," suit ")" | use    of the name of a condition
--     item  = number | "x"
--     value = atom ( "+" atom )*
--     atom  = number [ "*" count ] | count | use     of the name of a value
--     count = measure "(" seat [ "," suit ] ")" | "len" "(" seat "," suit ")"
--           | "cards" "(" seat [ "," suit ] "," ranks ")"
--           | ( "longest" | "second" | "shortest" ) "(" seat ")"
--     seat  = "north" | "east" | "south" | "west"
--           | ( "partner" | "left" | "right" ) "(" seat ")"
--     use   = name [ "(" ( seat | suit | seat "," suit ) ")" ]
-- Chains group to the left, and brackets leave no node. Inside the brackets of a class its word
-- is wherever a suit's does, or a seat's: the tree is that of each suit or seat of the class in the
-- word's place, joined by `or` for `any` and by `and` for `every`. A use of a name is the tree, or
-- the value, that the name stands for with these arguments.
--
-- The rules of the words that came later want the W of their addition: where that is empty the
-- grammar is the one without them. E says which classes are bound, and to which suits and seats. N
-- has what each name stands for, by its number.
use Rattle.std.specs.Prelude.{◌≡◌, ℕ, true, List, [], ◌∷◌, ◌++◌, Some, fold, slice_get}
use Rattle.cards.specs.declared.honours.Honours.{Honours}
use Rattle.cards.specs.declared.hand.Measure.{Measure as AMeasure}
use Rattle.cards.specs.declared.order.Order.{Order as AnOrder}
use Rattle.cards.specs.declared.order.Order.TheVariants.{Second}
use Rattle.cards.specs.declared.seat.Seat.{Seat as ASeat}
use Rattle.cards.specs.declared.seat.Seat.TheVariants.{North}
use Rattle.cards.specs.declared.suit.Suit.{Suit as ASuit}
use Rattle.cards.specs.declared.suit.Suit.TheVariants.{Spades}
use Rattle.conditions.specs.declared.tree.Count.{Count}
use Rattle.conditions.specs.declared.tree.Item.{Item}
use Rattle.conditions.specs.declared.tree.Item.TheVariants.{Length, Any}
use Rattle.conditions.specs.declared.tree.Op.{Op}
use Rattle.cond_lang.specs.declared.classes.Bound.{Bound}
use Rattle.cond_lang.specs.declared.classes.Choice.{Choice}
use Rattle.cond_lang.specs.declared.classes.Class.{Class as AClass}
use Rattle.cond_lang.specs.declared.classes.Class.TheVariants.{Seat as AnySeat, NorthSouth, EastWest}
use Rattle.cond_lang.specs.declared.classes.Neighbour.{Neighbour as ANeighbour}
use Rattle.cond_lang.specs.declared.classes.Params.{Params}
use Rattle.cond_lang.specs.declared.classes.Params.TheVariants.{Plain, OfSeat, OfSuit, OfBoth}
use Rattle.cond_lang.specs.declared.classes.Quantifier.{Quantifier as AQuantifier}
use Rattle.cond_lang.specs.declared.classes.Quantifier.TheVariants.{Any as OneOf, Every}
use Rattle.cond_lang.specs.declared.scanner.Token.{Token}
use Rattle.cond_lang.specs.declared.scanner.Token.TheVariants.{Or, And, Not, Balanced, Shape, Pattern, Quantifier}
use Rattle.cond_lang.specs.declared.scanner.Token.TheVariants.{Stops, Measure, Cards, Len, Ordered}
use Rattle.cond_lang.specs.declared.scanner.Token.TheVariants.{In, X, Seat, Class, Neighbour, Ranks, Number, Open}
use Rattle.cond_lang.specs.declared.scanner.Token.TheVariants.{Close, Comma, Dash, Plus, Star, Relation, Name}
use Rattle.conditions.specs.Form.{Amount, sum, number, counted, times, measured, suit_measured, cards_held}
use Rattle.conditions.specs.Form.{suit_cards_held, suit_length, length_by, Form, any_of, all_of}
use Rattle.conditions.specs.Form.{negation, compare, within, balanced, shaped, patterned, stops}
use Rattle.cond_lang.specs.Classes.{bind, can_bind, members, Names, choice, seat_bound_to, seat_beside}

-- what came to the language after its first words: `any`, `every`, `second` and `stops`, then the
-- classes of seats, `partner`, `left` and `right`, and then `*`
pub data Addition : Type 0 where
  quantifiers : Addition
  seats : Addition
  factors : Addition

-- the addition that brought the class
abbrev pub addition_of : AClass → Addition
addition_of AnySeat = seats
addition_of NorthSouth = seats
addition_of EastWest = seats
addition_of c = quantifiers

-- whether the rules have the word of an order
abbrev pub HasOrder : (Addition → Type 0) → AnOrder → Type 0
HasOrder W Second = W quantifiers
HasOrder W o = Unit {0}

-- tokens that name a seat: its word, that of a bound class, or a neighbour of such a seat
pub data SeatOf (W : Addition → Type 0) (E : Bound) : List Token → ASeat → Type 0 where
  by_word : {q : ASeat} → SeatOf W E (Seat q ∷ []) q
  by_bound :
      {c : AClass} {q : ASeat} → W seats → seat_bound_to E c ≡ Some q → SeatOf W E (Class c ∷ []) q
  beside :
      {n : ANeighbour} {Q : List Token} {q : ASeat} → W seats → SeatOf W E Q q
      → SeatOf W E (Neighbour n ∷ Open ∷ Q ++ Close ∷ []) (seat_beside n q)

-- What counts in a hand: the word before `( seat`, the tokens after, and the count of each seat.
-- It is a measure of the hand or of one of its suits, cards of some ranks, or a length.
pub data CountOf (W : Addition → Type 0) (E : Bound)
    : Token → List Token → (ASeat → Count) → Type 0 where
  measure : {m : AMeasure} → CountOf W E (Measure m) (Close ∷ []) (λ q. measured m q)
  measure_in :
      {m : AMeasure} {c : Token} {s : ASuit} → Names E c s
      → CountOf W E (Measure m) (Comma ∷ c ∷ Close ∷ []) (λ q. suit_measured m q s)
  len :
      {c : Token} {s : ASuit} → Names E c s
      → CountOf W E Len (Comma ∷ c ∷ Close ∷ []) (λ q. suit_length q s)
  cards : {h : Honours} → CountOf W E Cards (Comma ∷ Ranks h ∷ Close ∷ []) (λ q. cards_held q h)
  cards_in :
      {c : Token} {s : ASuit} {h : Honours} → Names E c s
      → CountOf W E Cards (Comma ∷ c ∷ Comma ∷ Ranks h ∷ Close ∷ []) (λ q. suit_cards_held q s h)
  ordered_suit :
      {o : AnOrder} → HasOrder W o → CountOf W E (Ordered o) (Close ∷ []) (λ q. length_by o q)

-- what counts in the hand of a seat
pub data CountedOf (W : Addition → Type 0) (E : Bound) : List Token → Count → Type 0 where
  count :
      {c : Token} {Q R : List Token} {q : ASeat} {f : ASeat → Count}
      → CountOf W E c R f → SeatOf W E Q q → CountedOf W E (c ∷ Open ∷ Q ++ R) (f q)

-- what a name stands for: a condition's tree, or a value, with each seat and suit as arguments
pub data Meaning : Type 0 where
  condition : Params → (Choice → Form) → Meaning
  value : Params → (Choice → Amount) → Meaning

-- what the given names stand for, in their order
abbrev pub Meanings : Type 0
Meanings = List Meaning

-- a name's arguments behind it: where it has no seat or no suit, the first one stands for it
pub data ArgsOf (W : Addition → Type 0) (E : Bound) : Params → List Token → Choice → Type 0 where
  no_args : ArgsOf W E Plain [] (choice Spades North)
  seat_arg :
      {Q : List Token} {q : ASeat} → SeatOf W E Q q
      → ArgsOf W E OfSeat (Open ∷ Q ++ Close ∷ []) (choice Spades q)
  suit_arg :
      {c : Token} {s : ASuit} → Names E c s
      → ArgsOf W E OfSuit (Open ∷ c ∷ Close ∷ []) (choice s North)
  both_args :
      {Q : List Token} {q : ASeat} {c : Token} {s : ASuit} → SeatOf W E Q q → Names E c s
      → ArgsOf W E OfBoth (Open ∷ Q ++ Comma ∷ c ∷ Close ∷ []) (choice s q)

-- a number, what counts in a hand, that many times what counts, or the name of a value
pub data AtomOf (W : Addition → Type 0) (N : Meanings) (E : Bound)
    : List Token → Amount → Type 0 where
  a_number : {n : ℕ} → AtomOf W N E (Number n ∷ []) (number n)
  a_count : {T : List Token} {k : Count} → CountedOf W E T k → AtomOf W N E T (counted k)
  multiple :
      {n : ℕ} {T : List Token} {k : Count} → W factors → CountedOf W E T k
      → AtomOf W N E (Number n ∷ Star ∷ T) (times n k)
  named_value :
      {n : ℕ} {p : Params} {f : Choice → Amount} {T : List Token} {x : Choice}
      → slice_get N n ≡ Some (value p f) → ArgsOf W E p T x → AtomOf W N E (Name n ∷ T) (f x)

-- what token lists spell which amounts
abbrev pub Amounts : Type 1
Amounts = List Token → Amount → Type 0

-- atoms with plus signs between them
pub data ValueOf (A : Amounts) : List Token → Amount → Type 0 where
  atom : {T : List Token} {a : Amount} → A T a → ValueOf A T a
  plus :
      {L R : List Token} {a b : Amount} → ValueOf A L a → A R b
      → ValueOf A (L ++ Plus ∷ R) (sum a b)

-- an item of a shape or a pattern
abbrev pub item_token : Item → Token
item_token (Length n) = Number n
item_token Any = X

-- , a - b - c - d )
abbrev pub four : Item → Item → Item → Item → List Token
four a b c d =
    Comma ∷ item_token a ∷ Dash ∷ item_token b ∷ Dash ∷ item_token c ∷ Dash ∷ item_token d
    ∷ Close ∷ []

-- what token lists spell which trees
abbrev pub Forms : Type 1
Forms = List Token → Form → Type 0

-- and with which suits for the classes
abbrev pub FormsAt : Type 1
FormsAt = Bound → Forms

-- a test of a hand: the word before `( seat`, the tokens behind, and the tree of each seat
pub data HandTestOf (W : Addition → Type 0) (E : Bound)
    : Token → List Token → (ASeat → Form) → Type 0 where
  is_balanced : HandTestOf W E Balanced (Close ∷ []) (λ q. balanced q)
  has_shape :
      (a b c d : Item)
      → HandTestOf W E Shape (four a b c d) (λ q. shaped q (a ∷ b ∷ c ∷ d ∷ []))
  has_pattern :
      (a b c d : Item)
      → HandTestOf W E Pattern (four a b c d) (λ q. patterned q (a ∷ b ∷ c ∷ d ∷ []))
  has_stopper :
      {c : Token} {s : ASuit} → W quantifiers → Names E c s
      → HandTestOf W E Stops (Comma ∷ c ∷ Close ∷ []) (λ q. stops q s)

-- one test, of values that V spells, or the name of a condition
pub data TestOf (W : Addition → Type 0) (N : Meanings) (E : Bound) (V : Amounts)
    : List Token → Form → Type 0 where
  comparison :
      {L R : List Token} {a b : Amount} {o : Op} → V L a → V R b
      → TestOf W N E V (L ++ Relation o ∷ R) (compare a o b)
  in_range :
      {L : List Token} {a : Amount} {m n : ℕ} → V L a
      → TestOf W N E V (L ++ In ∷ Number m ∷ Dash ∷ Number n ∷ []) (within a m n)
  of_hand :
      {c : Token} {Q R : List Token} {q : ASeat} {f : ASeat → Form}
      → HandTestOf W E c R f → SeatOf W E Q q → TestOf W N E V (c ∷ Open ∷ Q ++ R) (f q)
  named_condition :
      {n : ℕ} {p : Params} {f : Choice → Form} {T : List Token} {x : Choice}
      → slice_get N n ≡ Some (condition p f) → ArgsOf W E p T x → TestOf W N E V (Name n ∷ T) (f x)

-- `any` of two trees is one of them or both, `every` is both
abbrev pub joined : AQuantifier → Form → Form → Form
joined OneOf a b = any_of a b
joined Every a b = all_of a b

-- conditions, of tests that U spells
mutual
  pub data CondOf (W : Addition → Type 0) (U : FormsAt) : Bound → List Token → Form → Type 0 where
    both : {E : Bound} {T : List Token} {t : Form} → BothOf W U E T t → CondOf W U E T t
    or :
        {E : Bound} {L R : List Token} {a b : Form} → CondOf W U E L a → BothOf W U E R b
        → CondOf W U E (L ++ Or ∷ R) (any_of a b)

  pub data BothOf (W : Addition → Type 0) (U : FormsAt) : Bound → List Token → Form → Type 0 where
    unit : {E : Bound} {T : List Token} {t : Form} → UnitOf W U E T t → BothOf W U E T t
    and :
        {E : Bound} {L R : List Token} {a b : Form} → BothOf W U E L a → UnitOf W U E R b
        → BothOf W U E (L ++ And ∷ R) (all_of a b)

  pub data UnitOf (W : Addition → Type 0) (U : FormsAt) : Bound → List Token → Form → Type 0 where
    not :
        {E : Bound} {T : List Token} {t : Form} → UnitOf W U E T t
        → UnitOf W U E (Not ∷ T) (negation t)
    brackets :
        {E : Bound} {T : List Token} {t : Form} → CondOf W U E T t
        → UnitOf W U E (Open ∷ T ++ Close ∷ []) t
    quantified :
        {E : Bound} {k : AQuantifier} {c : AClass} {T : List Token} {t : Form} {ts : List Form}
        → W (addition_of c) → can_bind E c ≡ true → EachOf W U E c (members E c) T (t ∷ ts)
        → UnitOf W U E (Quantifier k ∷ Class c ∷ Open ∷ T ++ Close ∷ []) (fold (joined k) t ts)
    test : {E : Bound} {T : List Token} {t : Form} → U E T t → UnitOf W U E T t

  -- with each of the suits or seats in the place of the class's word the tokens spell a tree
  pub data EachOf (W : Addition → Type 0) (U : FormsAt)
      : Bound → AClass → List Choice → List Token → List Form → Type 0 where
    none : {E : Bound} {c : AClass} {T : List Token} → EachOf W U E c [] T []
    one_more :
        {E : Bound} {c : AClass} {s : Choice} {ss : List Choice} {T : List Token}
        {t : Form} {ts : List Form}
        → CondOf W U (bind E c s) T t → EachOf W U E c ss T ts
        → EachOf W U E c (s ∷ ss) T (t ∷ ts)

-- the rules of this language, which has all additions
abbrev pub everything : Addition → Type 0
everything a = Unit {0}

abbrev pub SpellsSeat : Bound → List Token → ASeat → Type 0
SpellsSeat E = SeatOf everything E

abbrev pub SpellsCount : Bound → Token → List Token → (ASeat → Count) → Type 0
SpellsCount E = CountOf everything E

abbrev pub SpellsCounted : Bound → List Token → Count → Type 0
SpellsCounted E = CountedOf everything E

abbrev pub SpellsHandTest : Bound → Token → List Token → (ASeat → Form) → Type 0
SpellsHandTest E = HandTestOf everything E

abbrev pub SpellsArgs : Bound → Params → List Token → Choice → Type 0
SpellsArgs E = ArgsOf everything E

abbrev pub SpellsAtom : Meanings → Bound → Amounts
SpellsAtom N E = AtomOf everything N E

abbrev pub SpellsValue : Meanings → Bound → Amounts
SpellsValue N E = ValueOf (SpellsAtom N E)

abbrev pub SpellsTest : Meanings → FormsAt
SpellsTest N E = TestOf everything N E (SpellsValue N E)

abbrev pub SpellsUnit : Meanings → FormsAt
SpellsUnit N = UnitOf everything (SpellsTest N)

abbrev pub SpellsBoth : Meanings → FormsAt
SpellsBoth N = BothOf everything (SpellsTest N)

abbrev pub SpellsCond : Meanings → FormsAt
SpellsCond N = CondOf everything (SpellsTest N)

abbrev pub SpellsEach : Meanings → Bound → AClass → List Choice → List Token → List Form → Type 0
SpellsEach N = EachOf everything (SpellsTest N)
