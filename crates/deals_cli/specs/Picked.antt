-- Boards that are picked by their candidates' numbers, each with the tricks that its line tells, or
-- without.
use Rattle.std.specs.Prelude.{ℕ, Bool, true, false, List, Option, Result, Ok, Err}
use Rattle.boards.specs.Headings.{HeadingView}
use Rattle.boards.specs.declared.format.Format.{Format}
use Rattle.boards.specs.declared.show.Show.{Show}
use Rattle.notations.specs.Formats.{layout_showing}
use Rattle.input.specs.Outcomes.{Picks}
use Rattle.input.specs.declared.numbers.fault.PickFault.{PickFault}
use Rattle.boards.specs.Plans.{Planned}
use Rattle.input.specs.TricksPicked.{text_picks}
use Rattle.input.specs.Told.{TellsBy}

abbrev pub PicksAs : {T : Type 0} → (tricks : Bool) → Format → Show → HeadingView → Planned
    → Result T PickFault → (before after old new : Option (List ℕ)) → Type 0
PicksAs false format show heading plan (Ok value) before after old new =
    (boards : ℕ)
    × Picks (layout_showing format show heading) plan (Ok boards) before after old new
PicksAs false format show heading plan (Err fault) before after old new =
    Picks (layout_showing format show heading) plan (Err fault) before after old new
PicksAs true format show heading plan result before after old new =
    TellsBy (record { format = format; show = show; heading = heading }) (text_picks plan)
    result before after old new
