use Rattle.std.proofs.Common.{◌≡◌, ◌++◌, length, map, string_bytes}
use Rattle.std.specs.List.{flat_map}
use Rattle.requests.specs.Lessons.{group_text}
use Rattle.requests.specs.internal.Groups.{title_and_lessons}
use Rattle.requests.proofs.lessons.list.put_groups.Given as goal

-- with the groups that are left it is what it will be
abbrev pub invariant-loop-rest : goal.invariant-loop-rest
invariant-loop-rest l =
    string_bytes l.out ++ flat_map group_text (map title_and_lessons l.rest)
    ≡ string_bytes l.initial.out ++ flat_map group_text (map title_and_lessons l.groups)

abbrev pub decreases-loop-rest : goal.decreases-loop-rest
decreases-loop-rest l = length l.rest
