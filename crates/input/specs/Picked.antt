-- The text that is written for a text of numbers.
use Rattle.std.specs.Prelude.{ℕ, List, [], ◌++◌, length, Option, None, Some}
use Rattle.boards.specs.Layouts.{Layout}
use Rattle.boards.specs.Text.{boards_of, text_of}
use Rattle.input.specs.NumberTexts.{Said}
use Rattle.input.specs.declared.refused_line.RefusedLine.{RefusedLine}
use Rattle.boards.specs.Plans.{Planned}

-- the footer, of as many candidates as there are numbers; there is none where a line is refused
abbrev pub footer_of : Layout → Planned → List ℕ → Option RefusedLine → List ℕ
footer_of layout plan numbers None = layout.footer (boards_of plan numbers) (length numbers)
footer_of layout plan numbers (Some line) = []

-- the header, the boards of the numbers in order, and the footer. Of the plan its seed, its fixed
-- cards, its first board and its setting count
abbrev pub picked_text : Layout → Planned → Said → List ℕ
picked_text layout plan s =
    text_of layout plan s.numbers ++ footer_of layout plan s.numbers s.refused
