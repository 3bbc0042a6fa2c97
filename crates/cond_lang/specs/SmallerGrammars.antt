-- Smaller grammars, all of conditions that give no name: one without factors, one without the words
-- of seats too, one without those of quantifiers too, one whose values are atoms alone, one whose
-- only measure is hcp, one in the words that the language had first, and the first grammar: those
-- words without sums. What they spell, the whole grammar spells too.
use Rattle.std.specs.Prelude.{◌≡◌, ◌≢◌, ℕ, List, [], ◌∷◌, ◌++◌, Option, Some, None}
use Rattle.cards.specs.declared.honours.Honours.{Honours}
use Rattle.cards.specs.declared.hand.Measure.TheVariants.{Hcp}
use Rattle.cards.specs.declared.order.Order.{Order as AnOrder}
use Rattle.cards.specs.declared.order.Order.TheVariants.{Second}
use Rattle.cards.specs.declared.seat.Seat.{Seat as ASeat}
use Rattle.cards.specs.declared.suit.Suit.{Suit as ASuit}
use Rattle.conditions.specs.declared.tree.Count.{Count}
use Rattle.conditions.specs.declared.tree.Op.{Op}
use Rattle.cond_lang.specs.declared.classes.Bound.{Bound}
use Rattle.cond_lang.specs.declared.scanner.Token.{Token}
use Rattle.cond_lang.specs.declared.scanner.Token.TheVariants.{Balanced, Shape, Pattern, Quantifier, Stops, Measure}
use Rattle.cond_lang.specs.declared.scanner.Token.TheVariants.{Cards, Len, Ordered, In, X, Seat}
use Rattle.cond_lang.specs.declared.scanner.Token.TheVariants.{Suit, Class, Neighbour, Ranks, Number, Open, Close}
use Rattle.cond_lang.specs.declared.scanner.Token.TheVariants.{Comma, Dash, Plus, Star, Relation, Let, Is, Name}
use Rattle.conditions.specs.Form.{Amount, Form, number, counted, times, points, suit_points, cards_held}
use Rattle.conditions.specs.Form.{suit_cards_held, suit_length, length_by, compare, balanced, shape}
use Rattle.conditions.specs.Form.{pattern}
use Rattle.cond_lang.specs.Classes.{unbound, Names}
use Rattle.cond_lang.specs.Faults.{IsViableIn}
use Rattle.cond_lang.specs.Grammar.{Addition, quantifiers, seats, factors, addition_of, everything, SpellsSeat}
use Rattle.cond_lang.specs.Grammar.{Amounts, SpellsAtom, AtomOf, ValueOf, TestOf, CondOf}

-- the rules with the additions W alone, where no name is given
abbrev pub SpellsWith : (Addition → Type 0) → List Token → Form → Type 0
SpellsWith W T t = CondOf W (λ E. TestOf W [] E (ValueOf (AtomOf W [] E))) unbound T t

-- the addition that brought a word
abbrev pub brought_by : Token → Option Addition
brought_by (Quantifier k) = Some quantifiers
brought_by Stops = Some quantifiers
brought_by (Ordered Second) = Some quantifiers
brought_by (Class c) = Some (addition_of c)
brought_by (Neighbour n) = Some seats
brought_by Star = Some factors
brought_by t = None

-- ---- without factors

abbrev pub no_factors : Addition → Type 0
no_factors quantifiers = Unit {0}
no_factors seats = Unit {0}
no_factors factors = ⊥

abbrev pub SpellsWithoutFactors : List Token → Form → Type 0
SpellsWithoutFactors T t = SpellsWith no_factors T t

-- ---- without the words of seats too

abbrev pub no_seats : Addition → Type 0
no_seats quantifiers = Unit {0}
no_seats seats = ⊥
no_seats factors = ⊥

abbrev pub SpellsWithoutSeats : List Token → Form → Type 0
SpellsWithoutSeats T t = SpellsWith no_seats T t

-- the token is none of `partner`, `left`, `right`, `seat`, `ns`, `ew` and `*`
abbrev pub IsBeforeSeats : Token → Type 0
IsBeforeSeats t = (brought_by t ≢ Some seats) × (brought_by t ≢ Some factors)

-- ---- without those of quantifiers too

abbrev pub no_additions : Addition → Type 0
no_additions a = ⊥

abbrev pub SpellsEarlier : List Token → Form → Type 0
SpellsEarlier T t = SpellsWith no_additions T t

-- nor is it `any`, `every`, `second`, `stops` or a class's word
abbrev pub IsEarlier : Token → Type 0
IsEarlier t = brought_by t ≡ None

-- ---- without sums

abbrev pub SpellsWithoutSums : List Token → Form → Type 0
SpellsWithoutSums T t =
    CondOf everything (λ E. TestOf everything [] E (SpellsAtom [] E)) unbound T t

-- ---- hcp alone

-- what counts, without another measure
pub data HcpCount (E : Bound) : Token → List Token → (ASeat → Count) → Type 0 where
  hcp : HcpCount E (Measure Hcp) (Close ∷ []) (λ q. points q)
  hcp_in :
      {c : Token} {s : ASuit} → Names E c s
      → HcpCount E (Measure Hcp) (Comma ∷ c ∷ Close ∷ []) (λ q. suit_points q s)
  len :
      {c : Token} {s : ASuit} → Names E c s
      → HcpCount E Len (Comma ∷ c ∷ Close ∷ []) (λ q. suit_length q s)
  cards : {h : Honours} → HcpCount E Cards (Comma ∷ Ranks h ∷ Close ∷ []) (λ q. cards_held q h)
  cards_in :
      {c : Token} {s : ASuit} {h : Honours} → Names E c s
      → HcpCount E Cards (Comma ∷ c ∷ Comma ∷ Ranks h ∷ Close ∷ []) (λ q. suit_cards_held q s h)
  ordered_suit : {o : AnOrder} → HcpCount E (Ordered o) (Close ∷ []) (λ q. length_by o q)

pub data HcpCounted (E : Bound) : List Token → Count → Type 0 where
  count :
      {c : Token} {Q R : List Token} {q : ASeat} {f : ASeat → Count}
      → HcpCount E c R f → SpellsSeat E Q q → HcpCounted E (c ∷ Open ∷ Q ++ R) (f q)

pub data SpellsHcpAtom (E : Bound) : List Token → Amount → Type 0 where
  a_number : {n : ℕ} → SpellsHcpAtom E (Number n ∷ []) (number n)
  a_count : {T : List Token} {k : Count} → HcpCounted E T k → SpellsHcpAtom E T (counted k)
  multiple :
      {n : ℕ} {T : List Token} {k : Count} → HcpCounted E T k
      → SpellsHcpAtom E (Number n ∷ Star ∷ T) (times n k)

abbrev pub SpellsWithHcpAlone : List Token → Form → Type 0
SpellsWithHcpAlone T t =
    CondOf everything (λ E. TestOf everything [] E (ValueOf (SpellsHcpAtom E))) unbound T t

-- ---- the first words

-- a number, high card points of a hand or of one of its suits, or a length
pub data SpellsFirstAtom : List Token → Amount → Type 0 where
  a_number : {n : ℕ} → SpellsFirstAtom (Number n ∷ []) (number n)
  hcp :
      {q : ASeat}
      → SpellsFirstAtom (Measure Hcp ∷ Open ∷ Seat q ∷ Close ∷ []) (counted (points q))
  hcp_in :
      {q : ASeat} {s : ASuit}
      → SpellsFirstAtom
      (Measure Hcp ∷ Open ∷ Seat q ∷ Comma ∷ Suit s ∷ Close ∷ []) (counted (suit_points q s))
  len :
      {q : ASeat} {s : ASuit}
      → SpellsFirstAtom
      (Len ∷ Open ∷ Seat q ∷ Comma ∷ Suit s ∷ Close ∷ []) (counted (suit_length q s))

-- ( seat , a - b - c - d )
abbrev pub four_numbers : ASeat → ℕ → ℕ → ℕ → ℕ → List Token
four_numbers q a b c d =
    Open ∷ Seat q ∷ Comma
    ∷ Number a ∷ Dash ∷ Number b ∷ Dash ∷ Number c ∷ Dash ∷ Number d
    ∷ Close ∷ []

-- a test of the first words, of values that V spells
pub data FirstTestOf (V : Amounts) : List Token → Form → Type 0 where
  comparison :
      {L R : List Token} {a b : Amount} {o : Op} → V L a → V R b
      → FirstTestOf V (L ++ Relation o ∷ R) (compare a o b)
  is_balanced : {q : ASeat} → FirstTestOf V (Balanced ∷ Open ∷ Seat q ∷ Close ∷ []) (balanced q)
  has_shape :
      {q : ASeat} {a b c d : ℕ}
      → FirstTestOf V (Shape ∷ four_numbers q a b c d) (shape q (a ∷ b ∷ c ∷ d ∷ []))
  has_pattern :
      {q : ASeat} {a b c d : ℕ}
      → FirstTestOf V (Pattern ∷ four_numbers q a b c d) (pattern q (a ∷ b ∷ c ∷ d ∷ []))

abbrev pub SpellsInFirstWords : List Token → Form → Type 0
SpellsInFirstWords T t =
    CondOf no_additions (λ E. FirstTestOf (ValueOf SpellsFirstAtom)) unbound T t

-- the token was there first: it isn't a measure but hcp, and none of the later words
abbrev pub IsFirst : Token → Type 0
IsFirst (Measure Hcp) = Unit {0}
IsFirst (Measure m) = ⊥
IsFirst Cards = ⊥
IsFirst (Ordered o) = ⊥
IsFirst In = ⊥
IsFirst X = ⊥
IsFirst (Ranks h) = ⊥
IsFirst (Quantifier k) = ⊥
IsFirst Stops = ⊥
IsFirst (Class c) = ⊥
IsFirst (Neighbour n) = ⊥
IsFirst Star = ⊥
IsFirst Let = ⊥
IsFirst Is = ⊥
IsFirst (Name n) = ⊥
IsFirst t = Unit {0}

-- ---- the first grammar

-- the first words, where each value is one atom
abbrev pub SpellsInFirstGrammar : List Token → Form → Type 0
SpellsInFirstGrammar T t = CondOf no_additions (λ E. FirstTestOf SpellsFirstAtom) unbound T t

-- the token was in the first grammar: it is a first one, and no plus
abbrev pub IsOldest : Token → Type 0
IsOldest Plus = ⊥
IsOldest t = IsFirst t

-- some list that begins with it spells a tree in the first grammar
abbrev pub IsViableFirst : List Token → Type 0
IsViableFirst T = IsViableIn SpellsInFirstGrammar T
