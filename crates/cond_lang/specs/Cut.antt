-- A text is cut into pieces, each the longest that fits at its place: words and ranks, numbers,
-- symbols, separators, comments, and bytes that begin none of these.
use Rattle.std.specs.Prelude.{◌≡◌, ℕ, ◌+◌, ◌*◌, ◌-◌, ◌<◌, ◌≤◌, Bool, true, false, not, ◌||◌, ◌&&◌, ◌==◌, List, []}
use Rattle.std.specs.Prelude.{◌∷◌, ◌++◌, length, codes, fold, count_by, map, Option, Some, None, All, Contains}
use Rattle.std.specs.Prelude.{position, if◌then◌else◌}
use Rattle.std.specs.List.{AllByRecursion, filter_map, list_all, list_any}
use Rattle.std.specs.Str.{bytes_eq}
use Rattle.std.specs.Char.{is_ascii_lowercase, is_ascii_digit}
use Rattle.cards.specs.Measures.{measures}
use Rattle.cards.specs.Orders.{orders}
use Rattle.cards.specs.declared.hand.Measure.{Measure as AMeasure}
use Rattle.cards.specs.declared.hand.Measure.TheVariants.{Hcp, Controls, Losers}
use Rattle.cards.specs.declared.honours.Honours.{Honours}
use Rattle.cards.specs.declared.order.Order.{Order as AnOrder}
use Rattle.cards.specs.declared.order.Order.TheVariants.{Longest, Second, Shortest}
use Rattle.cards.specs.declared.seat.Seat.TheVariants.{North, East, South, West}
use Rattle.cards.specs.declared.suit.Suit.TheVariants.{Spades, Hearts, Diamonds, Clubs}
use Rattle.conditions.specs.declared.tree.Op.TheVariants.{Equal, NotEqual, Less, AtMost, More, AtLeast}
use Rattle.cond_lang.specs.declared.classes.Class.TheVariants.{Suit as AnySuit, Major, Minor, Other, Seat as AnySeat, NorthSouth, EastWest}
use Rattle.cond_lang.specs.declared.classes.Neighbour.TheVariants.{Partner, Left, Right}
use Rattle.cond_lang.specs.declared.classes.Quantifier.TheVariants.{Any, Every}
use Rattle.cond_lang.specs.declared.scanner.Token.{Token}
use Rattle.cond_lang.specs.declared.scanner.Token.TheVariants.{Or, And, Not, Balanced, Shape, Pattern, Quantifier}
use Rattle.cond_lang.specs.declared.scanner.Token.TheVariants.{Stops, Measure, Cards, Len, Ordered}
use Rattle.cond_lang.specs.declared.scanner.Token.TheVariants.{In, X, Seat, Suit, Class, Neighbour, Ranks, Number}
use Rattle.cond_lang.specs.declared.scanner.Token.TheVariants.{Open, Close, Comma, Dash, Plus, Star, Relation, Let}
use Rattle.cond_lang.specs.declared.scanner.Token.TheVariants.{Is, Name}
use Rattle.cond_lang.specs.declared.scanner.Placed.{Placed}
use Rattle.cond_lang.specs.declared.scanner.Piece.{Piece}
use Rattle.cond_lang.specs.declared.scanner.Piece.TheVariants.{Separator, Token as TokenPiece, StrayByte, UnknownWord, LongNumber}
use Rattle.conditions.specs.declared.error.CondError.{CondError}
use Rattle.conditions.specs.declared.error.CondError.TheVariants.{Byte, Word, Number as NumberFault}

-- the word of a measure
abbrev pub measure_word : AMeasure → List ℕ
measure_word Hcp = codes "hcp"
measure_word Controls = codes "controls"
measure_word Losers = codes "losers"

-- the word of an order
abbrev pub order_word : AnOrder → List ℕ
order_word Longest = codes "longest"
order_word Second = codes "second"
order_word Shortest = codes "shortest"

-- the known words, each with its token
abbrev pub words : List (List ℕ × Token)
words =
    (codes "or", Or)
    ∷ (codes "and", And)
    ∷ (codes "not", Not)
    ∷ (codes "balanced", Balanced)
    ∷ (codes "shape", Shape)
    ∷ (codes "pattern", Pattern)
    ∷ (codes "any", Quantifier Any)
    ∷ (codes "every", Quantifier Every)
    ∷ (codes "stops", Stops)
    ∷ map (λ m. (measure_word m, Measure m)) measures
    ++ (codes "cards", Cards)
    ∷ (codes "len", Len)
    ∷ map (λ o. (order_word o, Ordered o)) orders
    ++ (codes "in", In)
    ∷ (codes "x", X)
    ∷ (codes "north", Seat North)
    ∷ (codes "east", Seat East)
    ∷ (codes "south", Seat South)
    ∷ (codes "west", Seat West)
    ∷ (codes "seat", Class AnySeat)
    ∷ (codes "ns", Class NorthSouth)
    ∷ (codes "ew", Class EastWest)
    ∷ (codes "partner", Neighbour Partner)
    ∷ (codes "left", Neighbour Left)
    ∷ (codes "right", Neighbour Right)
    ∷ (codes "spades", Suit Spades)
    ∷ (codes "hearts", Suit Hearts)
    ∷ (codes "diamonds", Suit Diamonds)
    ∷ (codes "clubs", Suit Clubs)
    ∷ (codes "suit", Class AnySuit)
    ∷ (codes "major", Class Major)
    ∷ (codes "minor", Class Minor)
    ∷ (codes "other", Class Other)
    ∷ (codes "let", Let)
    ∷ (codes "is", Is)
    ∷ []

-- the symbols, each with its token
abbrev pub symbols : List (List ℕ × Token)
symbols =
    (codes "(", Open)
    ∷ (codes ")", Close)
    ∷ (codes ",", Comma)
    ∷ (codes "-", Dash)
    ∷ (codes "+", Plus)
    ∷ (codes "*", Star)
    ∷ (codes "==", Relation Equal)
    ∷ (codes "!=", Relation NotEqual)
    ∷ (codes "<", Relation Less)
    ∷ (codes "<=", Relation AtMost)
    ∷ (codes ">", Relation More)
    ∷ (codes ">=", Relation AtLeast)
    ∷ []

-- a space, a tab, a line feed or a carriage return
abbrev pub is_separator : ℕ → Bool
is_separator c = c == 32 || (c == 9 || (c == 10 || c == 13))

-- a comment goes from its sign `#` to the next line feed, which isn't part of it, or to the end
abbrev pub is_comment_sign : ℕ → Bool
is_comment_sign c = c == 35

abbrev pub is_in_comment : ℕ → Bool
is_in_comment c = not (c == 10)

-- the text doesn't go on with such a byte
abbrev pub EndsRun : (ℕ → Bool) → List ℕ → Type 0
EndsRun f [] = Unit {0}
EndsRun f (c ∷ rest) = f c ≡ false

-- such bytes alone, at least one, and as long as it goes
pub record IsRun (f : ℕ → Bool) (p rest : List ℕ) : Type 0 where
  pub some : 0 < length p
  pub all : AllByRecursion (λ c. f c ≡ true) p
  pub ends : EndsRun f rest

-- letters that are ranks: `a`, `k`, `q`, `j` and `t`, none of them twice
abbrev pub is_rank : ℕ → Bool
is_rank c = c == 97 || (c == 107 || (c == 113 || (c == 106 || c == 116)))

abbrev pub are_ranks : List ℕ → Bool
are_ranks p = list_all (λ c. is_rank c && (count_by (λ d. d == c) p == 1)) p

-- the ranks that letters name
abbrev pub has_letter : ℕ → List ℕ → Bool
has_letter c p = list_any (λ d. d == c) p

abbrev pub named_by : List ℕ → Honours
named_by p =
    record {
      ace = has_letter 97 p;
      king = has_letter 107 p;
      queen = has_letter 113 p;
      jack = has_letter 106 p;
      ten = has_letter 116 p;
    }

-- the number that decimal digits write
abbrev pub decimal : List ℕ → ℕ
decimal digits = fold (λ n c. 10 * n + (c - 48)) 0 digits

-- no known word has these letters
abbrev pub IsUnknown : List ℕ → Type 0
IsUnknown p = (t : Token) → Contains words (p, t) → ⊥

-- the text begins with this symbol
pub record BeginsWithSymbol (q text : List ℕ) : Type 0 where
  pub token : Token
  pub more : List ℕ
  pub known : Contains symbols (q, token)
  pub begins : text ≡ q ++ more

-- no symbol begins the text
abbrev pub BeginsWithNone : List ℕ → Type 0
BeginsWithNone text = (q : List ℕ) → BeginsWithSymbol q text → ⊥

-- p is a piece of this kind if rest follows it
pub data IsPiece : List ℕ → List ℕ → Piece → Type 0 where
  blank : {c : ℕ} {rest : List ℕ} → is_separator c ≡ true → IsPiece (c ∷ []) rest Separator
  comment :
      {c : ℕ} {p rest : List ℕ} → is_comment_sign c ≡ true → IsRun is_in_comment (c ∷ p) rest
      → IsPiece (c ∷ p) rest Separator
  word :
      {p rest : List ℕ} {t : Token} → IsRun is_ascii_lowercase p rest → Contains words (p, t)
      → IsPiece p rest (TokenPiece t)
  ranks :
      {p rest : List ℕ} → IsRun is_ascii_lowercase p rest → are_ranks p ≡ true
      → IsPiece p rest (TokenPiece (Ranks (named_by p)))
  no_word :
      {p rest : List ℕ} → IsRun is_ascii_lowercase p rest → IsUnknown p → are_ranks p ≡ false
      → IsPiece p rest UnknownWord
  number :
      {p rest : List ℕ} → IsRun is_ascii_digit p rest → length p ≤ 4
      → IsPiece p rest (TokenPiece (Number (decimal p)))
  long : {p rest : List ℕ} → IsRun is_ascii_digit p rest → 4 < length p → IsPiece p rest LongNumber
  symbol :
      {p rest : List ℕ} {t : Token} → Contains symbols (p, t)
      → ((q : List ℕ) → BeginsWithSymbol q (p ++ rest) → length q ≤ length p)
      → IsPiece p rest (TokenPiece t)
  stray :
      {c : ℕ} {rest : List ℕ}
      → is_separator c ≡ false → is_comment_sign c ≡ false
      → is_ascii_lowercase c ≡ false → is_ascii_digit c ≡ false → BeginsWithNone (c ∷ rest)
      → IsPiece (c ∷ []) rest StrayByte

-- pieces of a text, and what each of them is
abbrev pub Pieces : Type 0
Pieces = List (List ℕ × Piece)

-- the text is these pieces, one after another, each a piece by the rules P
pub data CutOf (P : List ℕ → List ℕ → Piece → Type 0) : List ℕ → Pieces → Type 0 where
  end : CutOf P [] []
  piece :
      {p rest : List ℕ} {k : Piece} {ps : Pieces} → 0 < length p → P p rest k → CutOf P rest ps
      → CutOf P (p ++ rest) ((p, k) ∷ ps)

-- the same by the rules of this language
abbrev pub IsCut : List ℕ → Pieces → Type 0
IsCut text pieces = CutOf IsPiece text pieces

-- ---- names

-- the names that a text gives as far as it is read, and whether its last token is `let`
pub record Naming : Type 0 where
  pub given : List (List ℕ)
  pub after_let : Bool

abbrev pub no_names : Naming
no_names = record { given = []; after_let = false }

-- the number of a given name
abbrev pub name_number : Naming → List ℕ → Option ℕ
name_number N p = position (λ q. bytes_eq q p) N.given

-- what letters are that are no known word and no ranks, by the number of the name if it is given:
-- after `let` they are a new name
abbrev pub name_or : Naming → Option ℕ → Piece
name_or N (Some n) = TokenPiece (Name n)
name_or N None = if N.after_let then TokenPiece (Name (length N.given)) else UnknownWord

abbrev pub names_with : Naming → List ℕ → Option ℕ → List (List ℕ)
names_with N p (Some n) = N.given
names_with N p None = if N.after_let then N.given ++ p ∷ [] else N.given

-- what a piece is behind these names
abbrev pub named_piece : Naming → List ℕ × Piece → Piece
named_piece N (p, UnknownWord) = name_or N (name_number N p)
named_piece N (p, k) = k

-- the names after it
abbrev pub naming_after : Naming → List ℕ × Piece → Naming
naming_after N (p, Separator) = N
naming_after N (p, UnknownWord) =
    record { given = names_with N p (name_number N p); after_let = false }
naming_after N (p, TokenPiece Let) = record { given = N.given; after_let = true }
naming_after N (p, k) = record { given = N.given; after_let = false }

abbrev pub named_from : Naming → Pieces → Pieces
named_from N [] = []
named_from N (p ∷ ps) = (p.0, named_piece N p) ∷ named_from (naming_after N p) ps

-- A run of letters that is no known word and no ranks is a name if the token before it is `let`, or
-- if it is spelled like one that was after a `let` before it in the text. Names are numbered from 0
-- in the order in which they first come.
abbrev pub named : Pieces → Pieces
named ps = named_from no_names ps

-- the names after these pieces
abbrev pub naming_behind : Naming → Pieces → Naming
naming_behind N [] = N
naming_behind N (p ∷ ps) = naming_behind (naming_after N p) ps

-- the text gives these names, in this order
pub record HasNames (text : List ℕ) (names : List (List ℕ)) : Type 0 where
  pub pieces : Pieces
  pub cut : IsCut text pieces
  pub given : names ≡ (naming_behind no_names pieces).given

-- ---- tokens

-- each piece's kind with the offset of its first byte, for pieces that begin at the offset `at`
abbrev pub placed_from : ℕ → Pieces → List (ℕ × Piece)
placed_from at [] = []
placed_from at (p ∷ ps) = (at, p.1) ∷ placed_from (at + length p.0) ps

-- a piece that is a token gives it with its offset, and no other gives one
abbrev pub token_at : ℕ → Piece → Option Placed
token_at at (TokenPiece t) = Some (record { token = t; at = at })
token_at at k = None

-- a faulty piece gives its fault with its offset, and no other gives one
abbrev pub fault_at : ℕ → Piece → Option CondError
fault_at at StrayByte = Some (Byte at)
fault_at at UnknownWord = Some (Word at)
fault_at at LongNumber = Some (NumberFault at)
fault_at at k = None

-- the piece has no fault: it is a token, a separator or a comment
abbrev pub IsSound : List ℕ × Piece → Type 0
IsSound p = (at : ℕ) → fault_at at p.1 ≡ None

-- the tokens of sound pieces, each with its offset
abbrev pub tokens_of : Pieces → List Placed
tokens_of ps = filter_map (λ p. token_at p.0 p.1) (placed_from 0 ps)

-- no piece of the text is faulty, and these are its tokens
pub record HasTokens (text : List ℕ) (tokens : List Placed) : Type 0 where
  pub pieces : Pieces
  pub cut : IsCut text pieces
  pub clean : All IsSound (named pieces)
  pub found : tokens ≡ tokens_of (named pieces)
