-- What a printer makes of its pen.
use Rattle.std.specs.Prelude.{◌≡◌, ℕ, List, Bool, false, ⊤}
use Prim.{⊥}
use Rattle.boards.specs.Headings.{HeadingView}
use Rattle.notations.specs.declared.pen.Pen.{Pen}
use Rattle.notations.specs.declared.pen.Pen.TheVariants as pen
use Rattle.boards.specs.declared.format.Format.{Format}
use Rattle.boards.specs.declared.format.Format.TheVariants.{Pbn, Numbers}
use Rattle.boards.specs.declared.show.Show.{Show}
use Rattle.boards.specs.declared.show.Seats.TheVariants.{All}
use Rattle.boards.specs.TricksLines.{TricksView, nothing_known}

abbrev pub format_of : Pen → Format
format_of (pen.Games printer) = Pbn
format_of (pen.Letters format letters) = format
format_of pen.Numbers = Numbers

-- what was printed last: a printer of games has it, and for the others it is in the buffer
abbrev pub text_of : Pen → List ℕ → List ℕ
text_of (pen.Games printer) buffer = printer.text
text_of _ buffer = buffer

-- a printer of games writes this heading
abbrev pub IsUnder : HeadingView → Pen → Type 0
IsUnder heading (pen.Games printer) = printer.heading ≡ heading
IsUnder heading _ = ⊤

-- a printer of games writes all hands, and no tricks
abbrev pub Writes : Show → TricksView → Pen → Type 0
Writes show tricks (pen.Games printer) = (show.seats ≡ All) × (tricks ≡ nothing_known)
Writes show tricks _ = ⊤

-- it is one only where all hands are written, and there are no tricks
abbrev pub IsFor : Show → (tricks : Bool) → Pen → Type 0
IsFor show tricks (pen.Games printer) = (show.seats ≡ All) × (tricks ≡ false)
IsFor show tricks _ = ⊤

-- it is a printer of games
abbrev pub IsPlain : Pen → Type 0
IsPlain (pen.Games printer) = ⊤
IsPlain _ = ⊥
