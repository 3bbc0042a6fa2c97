-- The line on a condition that no deal meets.
use Rattle.std.specs.Prelude.{ℕ, nat_lt, if◌then◌else◌, Bool, true, false, List, ◌++◌, Option, None}
use Rattle.std.specs.Prelude.{Some, codes, decimal}
use Rattle.cards.specs.declared.seat.Seat.{Seat}
use Rattle.cond_lang.specs.Form.{Form, all_of, any_of, within}
use Rattle.screens.specs.Never.{is_never}

-- the first of the two, if there is one
abbrev pub first_of : Option (ℕ × ℕ) → Option (ℕ × ℕ) → Option (ℕ × ℕ)
first_of None q = q
first_of p q = p

-- the ends of the first range that are turned, and for which no deal meets the tree
abbrev pub turned_range : List (Option Seat) → Form → Option (ℕ × ℕ)
turned_range fixed (any_of a b) =
    if is_never fixed (any_of a b)
    then first_of (turned_range fixed a) (turned_range fixed b) else None
turned_range fixed (all_of a b) = first_of (turned_range fixed a) (turned_range fixed b)
turned_range fixed (within a m n) = if nat_lt n m then Some (m, n) else None
turned_range fixed _ = None

-- the two ends of a range
abbrev pub ends : ℕ → ℕ → List ℕ
ends m n = decimal m ++ codes "-" ++ decimal n

-- the note on a range whose ends are turned
unfoldable pub turned_line : ℕ → ℕ → List ℕ
turned_line m n =
    codes "note: no deal meets this condition: in " ++ ends m n
    ++ codes " has its ends turned; write in " ++ ends n m ++ codes "\n"

-- the note, by that range; without one it tells whether no deal at all meets the condition, or
-- none with the cards that are fixed
abbrev pub note_line : Bool → Option (ℕ × ℕ) → List ℕ
note_line always (Some (m, n)) = turned_line m n
note_line true None = codes "note: no deal meets this condition, by its numbers alone\n"
note_line false None =
    codes "note: no deal with these cards meets this condition, by its numbers alone\n"
