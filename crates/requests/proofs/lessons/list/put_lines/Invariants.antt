use Rattle.std.proofs.Common.{◌≡◌, ◌++◌, length, map, string_bytes}
use Rattle.std.specs.List.{flat_map}
use Rattle.requests.specs.Lessons.{line_of}
use Rattle.requests.specs.internal.Groups.{lesson_at}
use Rattle.requests.proofs.lessons.list.put_lines.Given as goal

-- with the lines that are left it is what it will be
abbrev pub invariant-loop-rest : goal.invariant-loop-rest
invariant-loop-rest l =
    string_bytes l.out ++ flat_map line_of (map lesson_at l.rest)
    ≡ string_bytes l.initial.out ++ flat_map line_of (map lesson_at l.rows)

abbrev pub decreases-loop-rest : goal.decreases-loop-rest
decreases-loop-rest l = length l.rest
