use Rattle.std.proofs.Common.{◌≡◌, ◌+◌, drop}
use Rattle.std.specs.List.{position_or_len}
use Rattle.std.specs.Str.{bytes_eq}
use Rattle.cond_lang.proofs.naming.number_of.Given as goal

abbrev pub invariant-loop-number : goal.invariant-loop-number
invariant-loop-number l =
    position_or_len (λ q. bytes_eq q.now l.letters) l.names ≡ l.number + position_or_len (λ q. bytes_eq q.now l.letters) (drop l.number l.names)
