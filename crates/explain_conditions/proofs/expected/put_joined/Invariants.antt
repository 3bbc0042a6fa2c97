use Rattle.std.proofs.Common.{◌≡◌, ◌++◌, length, map, string_bytes}
use Rattle.explain_conditions.specs.Expected.{joined}
use Rattle.explain_conditions.proofs.expected.put_joined.Given as goal

abbrev pub invariant-loop-terms : goal.invariant-loop-terms
invariant-loop-terms l = string_bytes l.out ++ joined (map (λ p. p.now) l.names) l.terms
    ≡ string_bytes l.initial.out ++ joined (map (λ p. p.now) l.names) l.initial.terms

abbrev pub decreases-loop-terms : goal.decreases-loop-terms
decreases-loop-terms l = length l.terms
