-- Conditions that no deal around some fixed cards meets. What it is worth is the clause `sound` of
-- `is_never`.
use Rattle.std.specs.Prelude.{◌&&◌, ◌||◌, nat_le, Bool, true, false, List, Option, Some}
use Rattle.cards.specs.declared.seat.Seat.{Seat}
use Rattle.conditions.specs.Form.{Form, all_of, any_of}
use Rattle.conditions.specs.Limits.{parts_of}
use Rattle.screens.specs.declared.unmet.never.TheConstants.{MOST_LOOKED_AT}
use Rattle.screens.specs.Torn.{is_torn}

-- no deal meets the tree. Of a conjunction that was looked at as a whole the parts aren't looked at
-- again, but for alternatives in them
abbrev pub is_never_part : List (Option Seat) → Bool → Form → Bool
is_never_part fixed new (any_of a b) = is_never_part fixed true a && is_never_part fixed true b
is_never_part fixed new (all_of a b) =
    (new && is_torn fixed (all_of a b))
    || (is_never_part fixed false a || is_never_part fixed false b)
is_never_part fixed new f = new && is_torn fixed f

abbrev pub is_never : List (Option Seat) → Form → Bool
is_never fixed f = nat_le (parts_of f) MOST_LOOKED_AT && is_never_part fixed true f
