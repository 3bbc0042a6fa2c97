use Rattle.std.proofs.Common.{◌≡◌, length, map}
use Rattle.requests.specs.Lessons.{lesson_among, lesson_named}
use Rattle.requests.specs.internal.Groups.{title_and_lessons}
use Rattle.requests.proofs.lessons.list.named.Given as goal

-- what is left of the groups says the same as all of them
abbrev pub invariant-loop-rest : goal.invariant-loop-rest
invariant-loop-rest l =
    lesson_among (map title_and_lessons l.rest) l.name ≡ lesson_named l.name

abbrev pub decreases-loop-rest : goal.decreases-loop-rest
decreases-loop-rest l = length l.rest
