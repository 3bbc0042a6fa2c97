-- What a `show` writes: the boards that the input has, with their tricks, under the labels of the
-- options, or else of the game of the first board.
use Rattle.std.specs.Prelude.{◌≡◌, ◌++◌, ℕ, Bool, false, List, Option, Result, Ok, Err, length}
use Rattle.std.specs.Prelude.{nat_lt}
use Rattle.std.specs.Io.KnownBytes.{Consumes}
use Rattle.std.specs.Option.{option_or}
use Rattle.boards.specs.Headings.{HeadingView, no_heading}
use Rattle.boards.specs.declared.format.Format.{Format}
use Rattle.boards.specs.declared.show.Show.{Show}
use Rattle.boards.specs.TricksLines.{TricksView}
use Rattle.boards.specs.Captions.{captions_in}
use Rattle.notations.specs.Formats.{layout_solved}
use Rattle.input.specs.Readers.{IsFresh, ReadsNext}
use Rattle.input.specs.Shown.{EndsBy, Shows}
use Rattle.input.specs.Texts.{MayEnd, spelled}
use Rattle.input.specs.declared.records.reader.BoardReader.{BoardReader}
use Rattle.input.specs.declared.records.reader.Next.{Next}
use Rattle.input.specs.declared.records.reader.Next.TheVariants.{Board, Last}
use Rattle.input.specs.declared.records.reader.ReadFault.{ReadFault}
use Rattle.input.specs.declared.records.reader.ReadFault.TheVariants as read
use Rattle.input.specs.declared.records.shown.ShowFault.{ShowFault}

-- each label that is given, or else that of the game
abbrev pub labelled : (given game : HeadingView) → HeadingView
labelled given game = record {
  event = option_or given.event game.event;
  site = option_or given.site game.site;
  date = option_or given.date game.date;
}

-- the labels that the first read of the input tells: those of the game of the first board
abbrev pub labels_told : Result Next ReadFault → HeadingView
labels_told (Ok (Board told)) = told.heading
labels_told (Ok (Last told)) = told.heading
labels_told _ = no_heading

abbrev pub are_known : TricksView → Bool
are_known tricks = nat_lt 0 (length tricks.digits)

-- whether the first board has tricks: then they are expected of the others
abbrev pub expects : Result Next ReadFault → Bool
expects (Ok (Board told)) = are_known told.tricks
expects (Ok (Last told)) = are_known told.tricks
expects _ = false

-- a line that the first read refused ends it, unless the output fails
abbrev pub GoesOn : Result Next ReadFault → Result ℕ ShowFault → Type 0
GoesOn (Ok next) result = Unit {0}
GoesOn (Err (read.Refused line)) result = EndsBy (read.Refused line) result
GoesOn (Err read.Input) result = ⊥

-- the first read of the input failed: nothing is written, and what the input gave may go on so
-- that no board comes
pub record FailsFirst (before after old new : Option (List ℕ)) : Type 0 where
  pub given : List ℕ
  pub consumed : Consumes before after given
  pub no_board : MayEnd (λ rest. spelled (given ++ rest))
  pub nothing : new ≡ old

-- boards were shown in this format, with these hands, under those labels that it writes
pub record ShowsUnder (format : Format) (show : Show) (given : HeadingView)
    (result : Result ℕ ShowFault) (before after old new : Option (List ℕ)) : Type 0 where
  -- what was read first, by a reader that had read nothing
  pub start : BoardReader
  pub next : BoardReader
  pub first : Result Next ReadFault
  pub rest : Option (List ℕ)
  pub fresh : IsFresh start
  pub reads : ReadsNext start next first before rest
  pub goes_on : GoesOn first result
  pub shows : Shows
      (layout_solved format show (captions_in format (labelled given (labels_told first)))
      (expects first)) result before after old new
