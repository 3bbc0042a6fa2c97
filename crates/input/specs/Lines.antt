-- What a line of tricks tells of a deal. It may end with a blank and the deal that it is for.
use Rattle.std.specs.Prelude.{ℕ, ◌-◌, ◌==◌, ◌&&◌, ◌||◌, Bool, List, length, take, drop, nat_le}
use Rattle.std.specs.Prelude.{Option, Some, None, Result, Ok, Err, bytes_eq, codes, true}
use Rattle.std.specs.Prelude.{if◌then◌else◌}
use Rattle.std.specs.Int.{is_in_range}
use Rattle.std.specs.List.{list_all}
use Rattle.boards.specs.TricksLines.{TricksView, told}
use Rattle.cards.specs.declared.seat.Seat.{Seat}
use Rattle.pbn_text.specs.Games.{deal_text}
use Rattle.input.specs.declared.refused_line.LineFault.{LineFault}
use Rattle.input.specs.declared.refused_line.LineFault.TheVariants.{NotTricks, OtherDeal}

-- a rank as games write it, the dot between suits, or the blank between hands
abbrev pub is_of_deal : ℕ → Bool
is_of_deal b =
    is_in_range 50 57 b
    || (b == 65 || (b == 74 || (b == 75 || (b == 81 || (b == 84 || (b == 46 || b == 32))))))

-- a blank, `N:` and four hands, which have 67 bytes with the blanks between them
abbrev pub is_deal_end : List ℕ → Bool
is_deal_end end = bytes_eq (take 3 end) (codes " N:") && list_all is_of_deal (drop 3 end)

abbrev pub end_of : List ℕ → List ℕ
end_of line = drop (length line - 70) line

abbrev pub has_deal : List ℕ → Bool
has_deal line = nat_le 70 (length line) && is_deal_end (end_of line)

-- the line before that end, and the deal
abbrev pub before_deal : List ℕ → List ℕ
before_deal line = take (length line - 70) line

abbrev pub deal_value : List ℕ → List ℕ
deal_value line = drop 1 (end_of line)

-- the tricks, unless there are none, or the line is for another deal
abbrev pub if_same : Option TricksView → Bool → Result TricksView LineFault
if_same None same = Err NotTricks
if_same (Some tricks) same = if same then Ok tricks else Err OtherDeal

-- what a line tells of a deal
unfoldable pub told_of : List Seat → List ℕ → Result TricksView LineFault
told_of deal line =
    if has_deal line
    then if_same (told (before_deal line)) (bytes_eq (deal_value line) (deal_text deal))
    else if_same (told line) true
