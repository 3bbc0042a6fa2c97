-- What a text spells: boards, up to a line that is refused.
use Rattle.std.specs.Prelude.{◌≡◌, ◌≤◌, ℕ, ◌+◌, ◌^◌, nat_lt, unwrap_or}
use Rattle.std.specs.Prelude.{List, [], ◌∷◌, ◌++◌, Option, None, Some, Result, Ok, Err}
use Rattle.std.specs.Prelude.{if◌then◌else◌}
use Rattle.input.specs.NumberTexts.{lines_of}
use Rattle.input.specs.Games.{game_says, has, no_game, with_tag}
use Rattle.input.specs.Kinds.{kind_of}
use Rattle.input.specs.Places.{begin, is_empty, is_in_tag, new_line, place_after, step_at}
use Rattle.input.specs.declared.records.fault.RecordFault.{RecordFault}
use Rattle.input.specs.declared.records.fault.RecordFault.TheVariants.{NotATag, TooLong}
use Rattle.input.specs.declared.records.fault.RefusedRecord.{RefusedRecord}
use Rattle.input.specs.declared.records.game.Told.{Told}
use Rattle.input.specs.declared.records.kind.TagKind.{TagKind}
use Rattle.input.specs.declared.records.line.LineStep.{LineStep}
use Rattle.input.specs.declared.records.line.LineStep.TheVariants.{On, Whole, Wrong}
use Rattle.input.specs.declared.records.reading.Reading.{Reading}

-- the boards of the games that end before the line that is refused, and that one, if there is one
pub record Spelled : Type 0 where
  pub boards : List Told
  pub refused : Option RefusedRecord

abbrev pub refused_with : RefusedRecord → Spelled
refused_with line = record { boards = []; refused = Some line }

abbrev pub refused_at : Reading → RecordFault → Spelled
refused_at s fault = refused_with (record { line = s.lines + 1; fault = fault })

-- these boards, and then those
abbrev pub after : List Told → Spelled → Spelled
after boards later = record { boards = boards ++ later.boards; refused = later.refused }

-- what comes next may be without a board: none is sure by now
pub record MayEnd (next : List ℕ → Spelled) : Type 0 where
  pub rest : List ℕ
  pub none : (next rest).boards ≡ []

abbrev pub list_of : Option Told → List Told
list_of None = []
list_of (Some board) = board ∷ []

-- ---- what was read, and what comes next: `next` says what is spelled from there on

abbrev pub begin_text : Reading
begin_text = record { line = begin; lines = 0; game = no_game; last = 0 }

-- the game ends
abbrev pub says_and : Reading → Result (Option Told) RefusedRecord → (Reading → Spelled) → Spelled
says_and s (Err line) next = refused_with line
says_and s (Ok None) next = next (record s { game = no_game })
says_and s (Ok (Some board)) next =
    after (board ∷ []) (next (record s { game = no_game; last = board.board.number }))

abbrev pub ends_game : Reading → (Reading → Spelled) → Spelled
ends_game s next = says_and s (game_says s.last s.game) next

-- a tag ends: a game that has such a tag ends before it
abbrev pub with_last_tag : TagKind → Reading → Reading
with_last_tag kind s = record s { game = with_tag kind s.line.value (s.lines + 1) s.game }

abbrev pub takes_tag : Option TagKind → Reading → (Reading → Spelled) → Spelled
takes_tag None s next = next s
takes_tag (Some kind) s next =
    if has kind s.game then ends_game s (λ t. next (with_last_tag kind t))
    else next (with_last_tag kind s)

-- a byte of a line
abbrev pub steps : LineStep → Reading → (Reading → Spelled) → Spelled
steps On s next = next s
steps Whole s next = takes_tag (kind_of s.line.name) s next
steps Wrong s next = refused_at s NotATag

abbrev pub reads_byte : Reading → ℕ → (Reading → Spelled) → Spelled
reads_byte s b next =
    if nat_lt s.line.column 4096
    then steps (step_at s.line.part b) (record s { line = place_after s.line b }) next
    else refused_at s TooLong

-- a line ends: an empty one ends the game
abbrev pub after_line : Reading → Reading
after_line s = record s { line = new_line s.line; lines = s.lines + 1 }

abbrev pub ends_line : Reading → (Reading → Spelled) → Spelled
ends_line s next =
    if is_in_tag s.line.part then refused_at s NotATag
    else (if is_empty s.line then ends_game s (λ t. next (after_line t))
    else next (after_line s))

-- ---- lines

abbrev pub line_spells : Reading → List ℕ → (Reading → Spelled) → Spelled
line_spells s [] next = ends_line s next
line_spells s (b ∷ bs) next = reads_byte s b (λ t. line_spells t bs next)

abbrev pub nothing_more : Reading → Spelled
nothing_more s = record { boards = []; refused = None }

-- the last game ends after the last line
abbrev pub lines_spell : Reading → List (List ℕ) → Spelled
lines_spell s [] = ends_game s nothing_more
lines_spell s (l ∷ ls) = line_spells s l (λ t. lines_spell t ls)

-- what a text spells
unfoldable pub spelled : List ℕ → Spelled
spelled text = lines_spell begin_text (lines_of text)

-- ---- how far a text can come within this many bytes
pub record InRoom (s : Reading) (bytes : ℕ) : Type 0 where
  pub lines : s.lines ≤ bytes
  pub last : s.last ≤ 2 ^ 40 + bytes
  pub number : unwrap_or s.game.number 0 ≤ 2 ^ 40
