-- The text of a plan in Portable Bridge Notation, under the plan's heading. PBN has no footer.
use Rattle.std.specs.Prelude.{ℕ, List}
use Rattle.conditions.specs.Form.{Form}
use Rattle.pbn_text.specs.Games.{pbn}
use Rattle.boards.specs.Plans.{Planned}
use Rattle.boards.specs.Text.{text_in}

abbrev pub text : Planned → Form → List ℕ
text plan form = text_in (pbn plan.heading) plan form
