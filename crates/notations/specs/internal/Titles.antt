-- How much room titles take.
use Rattle.std.specs.Prelude.{ℕ, ◌+◌, ◌*◌, ◌≤◌, List, length}
use Rattle.boards.specs.Room.{room}

-- a text takes no more room than this many characters of ASCII
pub record IsWithin (chars : ℕ) (text : List ℕ) : Type 0 where
  pub wide : room 5 text ≤ 5 * chars
  pub narrow : room 4 text ≤ 4 * chars

-- what was added to a text has at most these bytes, and takes no more room than these characters
-- of ASCII
pub record AddsAtMost (bytes chars : ℕ) (old new : List ℕ) : Type 0 where
  pub most : length new ≤ length old + bytes
  pub wide : room 5 new ≤ room 5 old + 5 * chars
  pub narrow : room 4 new ≤ room 4 old + 4 * chars
