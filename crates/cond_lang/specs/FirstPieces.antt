-- The pieces that a text had in the first language, which had none of the later words, no ranks, no
-- comments, no carriage returns and no `+`.
use Rattle.std.specs.Prelude.{◌≡◌, ℕ, ◌<◌, ◌≤◌, Bool, true, false, ◌||◌, ◌==◌, List, [], ◌∷◌, ◌++◌, length, codes, All, Contains}
use Rattle.std.specs.Char.{is_ascii_lowercase, is_ascii_digit}
use Rattle.cards.specs.declared.hand.Measure.TheVariants.{Hcp}
use Rattle.cards.specs.declared.seat.Seat.TheVariants.{North, East, South, West}
use Rattle.cards.specs.declared.suit.Suit.TheVariants.{Spades, Hearts, Diamonds, Clubs}
use Rattle.conditions.specs.declared.tree.Op.TheVariants.{Equal, NotEqual, Less, AtMost, More, AtLeast}
use Rattle.cond_lang.specs.declared.scanner.Token.{Token}
use Rattle.cond_lang.specs.declared.scanner.Token.TheVariants.{Or, And, Not, Balanced, Shape, Pattern, Measure, Len}
use Rattle.cond_lang.specs.declared.scanner.Token.TheVariants.{Seat, Suit, Number, Open, Close, Comma, Dash, Relation}
use Rattle.cond_lang.specs.declared.scanner.Piece.{Piece}
use Rattle.cond_lang.specs.declared.scanner.Piece.TheVariants.{Separator, Token as TokenPiece, StrayByte, UnknownWord, LongNumber}
use Rattle.cond_lang.specs.Cut.{IsRun, decimal, Pieces, CutOf, IsCut}
use Rattle.cond_lang.specs.SmallerGrammars.{IsOldest}

-- the first words, each with its token
abbrev pub first_words : List (List ℕ × Token)
first_words =
    (codes "or", Or)
    ∷ (codes "and", And)
    ∷ (codes "not", Not)
    ∷ (codes "balanced", Balanced)
    ∷ (codes "shape", Shape)
    ∷ (codes "pattern", Pattern)
    ∷ (codes "hcp", Measure Hcp)
    ∷ (codes "len", Len)
    ∷ (codes "north", Seat North)
    ∷ (codes "east", Seat East)
    ∷ (codes "south", Seat South)
    ∷ (codes "west", Seat West)
    ∷ (codes "spades", Suit Spades)
    ∷ (codes "hearts", Suit Hearts)
    ∷ (codes "diamonds", Suit Diamonds)
    ∷ (codes "clubs", Suit Clubs)
    ∷ []

-- the first symbols, each with its token
abbrev pub first_symbols : List (List ℕ × Token)
first_symbols =
    (codes "(", Open)
    ∷ (codes ")", Close)
    ∷ (codes ",", Comma)
    ∷ (codes "-", Dash)
    ∷ (codes "==", Relation Equal)
    ∷ (codes "!=", Relation NotEqual)
    ∷ (codes "<", Relation Less)
    ∷ (codes "<=", Relation AtMost)
    ∷ (codes ">", Relation More)
    ∷ (codes ">=", Relation AtLeast)
    ∷ []

-- a space, a tab or a line feed
abbrev pub is_first_separator : ℕ → Bool
is_first_separator c = c == 32 || (c == 9 || c == 10)

-- no first word has these letters
abbrev pub IsUnknownThen : List ℕ → Type 0
IsUnknownThen p = (t : Token) → Contains first_words (p, t) → ⊥

-- the text begins with this first symbol
pub record BeginsWithFirst (q text : List ℕ) : Type 0 where
  pub token : Token
  pub more : List ℕ
  pub known : Contains first_symbols (q, token)
  pub begins : text ≡ q ++ more

-- p was a piece of this kind if rest follows it
pub data IsFirstPiece : List ℕ → List ℕ → Piece → Type 0 where
  blank :
      {c : ℕ} {rest : List ℕ} → is_first_separator c ≡ true → IsFirstPiece (c ∷ []) rest Separator
  word :
      {p rest : List ℕ} {t : Token} → IsRun is_ascii_lowercase p rest → Contains first_words (p, t)
      → IsFirstPiece p rest (TokenPiece t)
  no_word :
      {p rest : List ℕ} → IsRun is_ascii_lowercase p rest → IsUnknownThen p
      → IsFirstPiece p rest UnknownWord
  number :
      {p rest : List ℕ} → IsRun is_ascii_digit p rest → length p ≤ 4
      → IsFirstPiece p rest (TokenPiece (Number (decimal p)))
  long :
      {p rest : List ℕ} → IsRun is_ascii_digit p rest → 4 < length p
      → IsFirstPiece p rest LongNumber
  symbol :
      {p rest : List ℕ} {t : Token} → Contains first_symbols (p, t)
      → ((q : List ℕ) → BeginsWithFirst q (p ++ rest) → length q ≤ length p)
      → IsFirstPiece p rest (TokenPiece t)
  stray :
      {c : ℕ} {rest : List ℕ}
      → is_first_separator c ≡ false → is_ascii_lowercase c ≡ false → is_ascii_digit c ≡ false
      → ((q : List ℕ) → BeginsWithFirst q (c ∷ rest) → ⊥)
      → IsFirstPiece (c ∷ []) rest StrayByte

-- the text was these pieces, one after another
abbrev pub IsFirstCut : List ℕ → Pieces → Type 0
IsFirstCut text pieces = CutOf IsFirstPiece text pieces

-- the text has no `#` and no carriage return
abbrev pub HasFirstBytes : List ℕ → Type 0
HasFirstBytes text = (Contains text 35 → ⊥) × (Contains text 13 → ⊥)

-- the piece isn't a later word, ranks or `+`
abbrev pub IsOldestPiece : Piece → Type 0
IsOldestPiece (TokenPiece t) = IsOldest t
IsOldestPiece k = Unit {0}

-- the text has nothing that the first language lacked
pub record IsFirstText (text : List ℕ) : Type 0 where
  pub bytes : HasFirstBytes text
  pub oldest : (pieces : Pieces) → IsCut text pieces → All (λ p. IsOldestPiece p.1) pieces
