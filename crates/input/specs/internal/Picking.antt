-- How far picking has come.
use Rattle.std.specs.Prelude.{◌≡◌, ℕ, List, ◌++◌, Option, None, length, MatchResult, Result, Ok, Err}
use Rattle.std.specs.Io.KnownBytes.{Consumes}
use Rattle.boards.specs.declared.board.Board.{Board}
use Rattle.boards.specs.Layouts.{Layout}
use Rattle.boards.specs.Text.{boards_of, text_of}
use Rattle.input.specs.NumberTexts.{said}
use Rattle.input.specs.Outcomes.{FaultsOf, InputFaultsOf, PicksOf}
use Rattle.input.specs.Scans.{HasScanned, ScannerView}
use Rattle.input.specs.declared.numbers.fault.PickFault.{PickFault}
use Rattle.boards.specs.Plans.{Planned}
use Rattle.sinks.specs.Appended.{AppendsAll}

-- these bytes were scanned, and the boards of their numbers were written, by a notation that has
-- printed them
pub record PickedSoFar (layout : Layout) (has_printed : List Board → Type 0) (plan : Planned)
    (s : ScannerView) (given : List ℕ) (base now : Option (List ℕ)) : Type 0 where
  pub numbers : List ℕ
  pub scanned : HasScanned s given numbers
  pub bytes : AppendsAll base now (text_of layout plan numbers)
  pub printed : has_printed (boards_of plan numbers)

-- all boards were written, and the footer is left
pub record PickedAll (layout : Layout) (has_printed : List Board → Type 0) (plan : Planned)
    (boards : ℕ) (given : List ℕ) (base now : Option (List ℕ)) : Type 0 where
  pub numbers : List ℕ
  pub says : said given ≡ record { numbers = numbers; refused = None }
  pub boards_are : boards ≡ length numbers
  pub bytes : AppendsAll base now (text_of layout plan numbers)
  pub printed : has_printed (boards_of plan numbers)

-- the input gave some bytes, and the boards of their numbers were written
pub record PickedFrom (layout : Layout) (has_printed : List Board → Type 0) (plan : Planned)
    (s : ScannerView) (before after base now : Option (List ℕ)) : Type 0 where
  pub given : List ℕ
  pub consumed : Consumes before after given
  pub so_far : PickedSoFar layout has_printed plan s given base now

-- further bytes were taken, and the boards of the lines that they end written
abbrev pub TakesMore : Layout → (has has_more : List Board → Type 0) → Planned → (s t : ScannerView)
    → List ℕ → (old new : Option (List ℕ)) → Type 0
TakesMore layout has has_more plan s t text old new =
    (given : List ℕ) (base : Option (List ℕ)) → PickedSoFar layout has plan s given base old
    → PickedSoFar layout has_more plan t (given ++ text) base new

-- a fault within further bytes ended it, whatever comes after them
abbrev pub EndsWithin : Layout → (List Board → Type 0) → Planned → ScannerView → List ℕ → PickFault
    → (old new : Option (List ℕ)) → Type 0
EndsWithin layout has plan s text fault old new =
    (given rest : List ℕ) (base : Option (List ℕ)) → PickedSoFar layout has plan s given base old
    → PicksOf layout plan (given ++ (text ++ rest)) (Err fault) base new

-- what further bytes do
abbrev pub Takes : {T : Type 0} → Layout → (has has_more : List Board → Type 0) → Planned
    → (s t : ScannerView) → List ℕ → Result T PickFault → (old new : Option (List ℕ)) → Type 0
Takes layout has has_more plan s t text r old new = MatchResult r
    (λ _. TakesMore layout has has_more plan s t text old new)
    (λ fault. EndsWithin layout has plan s text fault old new)

-- what the end of the input does, before the footer
abbrev pub Ends : Layout → (has has_more : List Board → Type 0) → Planned → ScannerView
    → Result ℕ PickFault → (old new : Option (List ℕ)) → Type 0
Ends layout has has_more plan s (Ok boards) old new =
    (given : List ℕ) (base : Option (List ℕ)) → PickedSoFar layout has plan s given base old
    → PickedAll layout has_more plan boards given base new
Ends layout has has_more plan s (Err fault) old new =
    (given : List ℕ) (base : Option (List ℕ)) → PickedSoFar layout has plan s given base old
    → PicksOf layout plan given (Err fault) base new

-- what the end of the input does, with the footer
abbrev pub EndsWith : Layout → (List Board → Type 0) → Planned → ScannerView
    → Result ℕ PickFault → (old new : Option (List ℕ)) → Type 0
EndsWith layout has plan s result old new =
    (given : List ℕ) (base : Option (List ℕ)) → PickedSoFar layout has plan s given base old
    → PicksOf layout plan given result base new

-- the output failed once if the result says so, and else not; the input didn't
abbrev pub FaultsIn : {T : Type 0} → Result T PickFault → (old new : ℕ) → Type 0
FaultsIn (Ok value) old new = new ≡ old
FaultsIn (Err fault) old new = FaultsOf fault old new × ((n : ℕ) → InputFaultsOf fault n n)
