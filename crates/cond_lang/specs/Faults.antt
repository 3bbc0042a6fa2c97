-- Why a text is refused, and where.
use Rattle.std.specs.Prelude.{◌≡◌, ℕ, ◌+◌, ◌<◌, ◌≤◌, List, ◌∷◌, ◌++◌, All, length, take, Option, Some, None, slice_get}
use Rattle.std.specs.List.{sum_by}
use Rattle.cond_lang.specs.declared.scanner.Token.{Token}
use Rattle.cond_lang.specs.declared.scanner.Placed.{Placed}
use Rattle.cond_lang.specs.declared.scanner.Piece.{Piece}
use Rattle.conditions.specs.declared.error.CondError.{CondError}
use Rattle.conditions.specs.declared.error.CondError.TheVariants.{TooLong, Byte, Word, Number, Syntax, TooManyParts, Memory}
use Rattle.conditions.specs.declared.limits.TheConstants.{MOST_PARTS}
use Rattle.conditions.specs.Limits.{parts_of}
use Rattle.cond_lang.specs.Cut.{Pieces, IsCut, named, IsSound, fault_at, HasTokens}
use Rattle.cond_lang.specs.Definitions.{Spells}
use Rattle.cond_lang.specs.Text.{kinds}

-- ---- faulty pieces

-- how many bytes the pieces have together
abbrev pub bytes_of : Pieces → ℕ
bytes_of ps = sum_by (λ p. length p.0) ps

-- some pieces of the text are sound, and the one after them has this fault
pub record HasFault (text : List ℕ) (fault : CondError) : Type 0 where
  pub pieces : Pieces
  pub cut : IsCut text pieces
  pub before : Pieces
  pub faulty : List ℕ × Piece
  pub after : Pieces
  pub parts : named pieces ≡ before ++ faulty ∷ after
  pub clean : All IsSound before
  pub found : fault_at (bytes_of before) faulty.1 ≡ Some fault

-- ---- tokens that spell nothing

-- some list that begins with it spells something by the rules S
abbrev pub IsViableIn : {A : Type 0} → (List Token → A → Type 0) → List Token → Type 0
IsViableIn {A} S T = (more : List Token) × (t : A) × S (T ++ more) t

-- n is the first fault by the rules S: the n tokens before it are viable, and with the next one
-- they aren't; or there is no next one, and the whole list spells nothing
pub record IsFirstFaultIn {A : Type 0} (S : List Token → A → Type 0) (T : List Token) (n : ℕ)
    : Type 0 where
  pub within : n ≤ length T
  pub before : IsViableIn S (take n T)
  pub with_it : n < length T → IsViableIn S (take (n + 1) T) → ⊥
  pub at_end : n ≡ length T → (t : A) → S T t → ⊥

-- the same by the rules of this language
abbrev pub IsViable : List Token → Type 0
IsViable T = IsViableIn Spells T

abbrev pub IsFirstFault : List Token → ℕ → Type 0
IsFirstFault T n = IsFirstFaultIn Spells T n

-- the token's offset, or the end
abbrev pub offset_or : Option Placed → ℕ → ℕ
offset_or None end = end
offset_or (Some s) end = s.at

-- the offset of token n, or the end of the text
abbrev pub offset_of : List Placed → ℕ → ℕ → ℕ
offset_of placed end n = offset_or (slice_get placed n) end

-- at is the offset of the first fault by the rules S
abbrev pub IsPlaceIn : {A : Type 0} → (List Token → A → Type 0) → List Placed → ℕ → ℕ → Type 0
IsPlaceIn S placed end at =
    (n : ℕ) × IsFirstFaultIn S (kinds placed) n × (at ≡ offset_of placed end n)

-- the text has no faulty piece, its tokens spell nothing by the rules S, and this is where they go
-- wrong
pub record HasSyntaxFaultIn {A : Type 0} (S : List Token → A → Type 0) (text : List ℕ) (at : ℕ)
    : Type 0 where
  pub tokens : List Placed
  pub cut : HasTokens text tokens
  pub place : IsPlaceIn S tokens (length text) at

-- ---- texts of too many parts

-- the text has no fault: by the rules S it spells something, which has more parts than the limit
pub record HasTooManyIn {A : Type 0} (S : List Token → A → Type 0) (parts : A → ℕ)
    (text : List ℕ) : Type 0 where
  pub tokens : List Placed
  pub cut : HasTokens text tokens
  pub spelled : A
  pub spells : S (kinds tokens) spelled
  pub more : MOST_PARTS < parts spelled

-- a refusal is given only when it is due; memory can run out at any text
abbrev pub IsDueIn :
    {A : Type 0} → (List Token → A → Type 0) → (A → ℕ) → List ℕ → CondError → Type 0
IsDueIn S parts text TooLong = 1024 < length text
IsDueIn S parts text (Byte at) = HasFault text (Byte at)
IsDueIn S parts text (Word at) = HasFault text (Word at)
IsDueIn S parts text (Number at) = HasFault text (Number at)
IsDueIn S parts text (Syntax at) = HasSyntaxFaultIn S text at
IsDueIn S parts text TooManyParts = HasTooManyIn S parts text
IsDueIn S parts text Memory = Unit {0}

-- The same of conditions: at is the offset of the first token that no condition goes on with, or
-- the end.
abbrev pub IsPlace : List Placed → ℕ → ℕ → Type 0
IsPlace placed end at = IsPlaceIn Spells placed end at

abbrev pub HasSyntaxFault : List ℕ → ℕ → Type 0
HasSyntaxFault text at = HasSyntaxFaultIn Spells text at

abbrev pub IsDue : List ℕ → CondError → Type 0
IsDue text e = IsDueIn Spells parts_of text e
