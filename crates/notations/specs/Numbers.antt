-- The numbers of candidates, a line each: what `find` prints, and `pick` reads.
use Rattle.std.specs.Prelude.{ℕ, List, [], ◌++◌, codes, decimal}
use Rattle.boards.specs.declared.board.Board.{Board}
use Rattle.boards.specs.Layouts.{Layout, ends_with}

-- the number of the candidate that the board was dealt from
abbrev pub number_line : Board → List ℕ
number_line board = decimal board.candidate ++ codes "\n"

-- the notation: a line for each board, and nothing before or after them
abbrev pub numbers : Layout
numbers = record { header = []; board = number_line; footer = ends_with [] }
