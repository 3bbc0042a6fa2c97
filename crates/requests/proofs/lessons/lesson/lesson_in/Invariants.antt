use Rattle.std.proofs.Common.{◌≡◌, length, map}
use Rattle.requests.specs.Lessons.{lesson_in}
use Rattle.requests.specs.internal.Groups.{lesson_at}
use Rattle.requests.proofs.lessons.lesson.lesson_in.Given as goal

-- what is left of the rows says the same as all of them
abbrev pub invariant-loop-rows : goal.invariant-loop-rows
invariant-loop-rows l =
    lesson_in (map lesson_at l.rows) l.name ≡ lesson_in (map lesson_at l.fn.rows) l.name

abbrev pub decreases-loop-rows : goal.decreases-loop-rows
decreases-loop-rows l = length l.rows
