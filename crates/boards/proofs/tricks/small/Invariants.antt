use Rattle.std.proofs.Common.{◌≡◌, take, map}
use Rattle.std.specs.Char.{to_ascii_lowercase}
use Rattle.boards.proofs.tricks.small.Given as goal

abbrev pub invariant-loop-digit : goal.invariant-loop-digit
invariant-loop-digit l = l.digits.items ≡ map to_ascii_lowercase (take l.digit-index l.tricks)
