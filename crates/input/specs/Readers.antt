-- How far an input was read.
use Rattle.std.specs.Prelude.{◌≡◌, ◌≤◌, ℕ, ◌+◌, ◌-◌, ◌^◌, List, [], ◌∷◌, ◌++◌, drop, length, take}
use Rattle.std.specs.Prelude.{Option, None, Result, Ok, Err}
use Rattle.std.specs.Io.KnownBytes.{Consumes, IsAtEnd}
use Rattle.input.specs.RecordScans.{IsWithin, spells_from}
use Rattle.input.specs.Texts.{MayEnd, Spelled, after, refused_with, spelled}
use Rattle.input.specs.declared.records.reader.BoardReader.{BoardReader}
use Rattle.input.specs.declared.records.reader.Next.{Next}
use Rattle.input.specs.declared.records.reader.Next.TheVariants.{Board, Last, End}
use Rattle.input.specs.declared.records.reader.ReadFault.{ReadFault}
use Rattle.input.specs.declared.records.reader.ReadFault.TheVariants.{Refused, Input}

-- the bytes of the piece that weren't read, and how many the input gave in all
unfoldable pub unread : BoardReader → List ℕ
unread r = drop r.from (take r.to r.piece)

abbrev pub left : BoardReader → ℕ
left r = r.taken + (r.to - r.from)

-- what is spelled from there on, where the input goes on so
unfoldable pub unread_spells : BoardReader → List ℕ → Spelled
unread_spells r rest = spells_from r.scanner (unread r ++ rest)

pub record IsReady (r : BoardReader) : Type 0 where
  pub within : r.from ≤ r.to
  pub piece : r.to ≤ length r.piece
  pub few : left r ≤ 2 ^ 50
  pub room : IsWithin r.scanner r.taken

-- it holds no more than the input gave
abbrev pub IsFed : BoardReader → ℕ → Type 0
IsFed r given = left r ≤ given

-- the next piece of the input, or its end
pub record Fills (r s : BoardReader) (before after : Option (List ℕ)) : Type 0 where
  pub given : List ℕ
  pub consumed : Consumes before after given
  pub goes_on : (rest : List ℕ) → unread_spells r (given ++ rest) ≡ unread_spells s rest

-- what was read, by what the input gave for it
abbrev pub Tells : (r s : BoardReader) → Result Next ReadFault → List ℕ → Type 0
Tells r s (Ok (Board board)) given =
    (rest : List ℕ) → unread_spells r (given ++ rest) ≡ after (board ∷ []) (unread_spells s rest)
Tells r s (Ok (Last board)) given =
    unread_spells r given ≡ record { boards = board ∷ []; refused = None }
Tells r s (Ok End) given = unread_spells r given ≡ record { boards = []; refused = None }
Tells r s (Err (Refused line)) given = unread_spells r given ≡ refused_with line
Tells r s (Err Input) given = MayEnd (λ rest. unread_spells r (given ++ rest))

-- the input is at its end
abbrev pub EndsAll : Result Next ReadFault → Option (List ℕ) → Type 0
EndsAll (Ok (Last board)) after = IsAtEnd after
EndsAll (Ok End) after = IsAtEnd after
EndsAll _ after = Unit {0}

pub record ReadsNext (r s : BoardReader) (result : Result Next ReadFault)
    (before after : Option (List ℕ)) : Type 0 where
  pub given : List ℕ
  pub consumed : Consumes before after given
  pub at_end : EndsAll result after
  pub tells : Tells r s result given

-- how often the input failed
abbrev pub InputFaults : {T : Type 0} → Result T ReadFault → (old new : ℕ) → Type 0
InputFaults (Err Input) old new = new ≡ old + 1
InputFaults (Err (Refused line)) old new = new ≡ old
InputFaults (Ok value) old new = new ≡ old

-- at the end of the input, where nothing is left of the piece
abbrev pub TellsEnd : BoardReader → Result Next ReadFault → Type 0
TellsEnd r (Ok (Board board)) = ⊥
TellsEnd r (Ok (Last board)) = unread_spells r [] ≡ record { boards = board ∷ []; refused = None }
TellsEnd r (Ok End) = unread_spells r [] ≡ record { boards = []; refused = None }
TellsEnd r (Err (Refused line)) = unread_spells r [] ≡ refused_with line
TellsEnd r (Err Input) = ⊥

-- what holds where a board was read and more may come
abbrev pub OnBoard : Result Next ReadFault → Type 0 → Type 0
OnBoard (Ok (Board board)) P = P
OnBoard _ P = Unit {0}

-- it has read nothing
abbrev pub IsFresh : BoardReader → Type 0
IsFresh r = (text : List ℕ) → unread_spells r text ≡ spelled text
