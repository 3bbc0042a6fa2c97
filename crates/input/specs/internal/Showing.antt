-- How far boards were shown.
use Rattle.std.specs.Prelude.{◌≡◌, ℕ, List, ◌++◌, Option, length}
use Rattle.std.specs.Io.KnownBytes.{Consumes}
use Rattle.boards.specs.Layouts.{SolvedLayout}
use Rattle.input.specs.Readers.{unread_spells}
use Rattle.input.specs.Shown.{text_of_told}
use Rattle.input.specs.Texts.{after, spelled}
use Rattle.input.specs.declared.records.game.Told.{Told}
use Rattle.input.specs.declared.records.reader.BoardReader.{BoardReader}
use Rattle.sinks.specs.Appended.{AppendsAll}

-- the input gave some bytes, and the boards that they begin with were written
pub record ShownFrom (layout : SolvedLayout) (r : BoardReader) (count : ℕ)
    (before now base out : Option (List ℕ)) : Type 0 where
  pub boards : List Told
  pub given : List ℕ
  pub consumed : Consumes before now given
  pub spells : (rest : List ℕ) → spelled (given ++ rest) ≡ after boards (unread_spells r rest)
  pub count_is : count ≡ length boards
  pub bytes : AppendsAll base out (text_of_told layout boards)
