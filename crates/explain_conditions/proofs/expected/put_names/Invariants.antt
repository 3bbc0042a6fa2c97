use Rattle.std.proofs.Common.{◌≡◌, ◌+◌, ◌≤◌, ◌++◌, length, map}
use Rattle.explain_conditions.specs.Expected.{names_from, wanted}
use Rattle.explain_conditions.specs.internal.Kinds.{in_set, of_value}
use Rattle.explain_conditions.proofs.expected.put_names.Given as goal

abbrev pub invariant-loop-names : goal.invariant-loop-names
invariant-loop-names l =
    (l.terms.items ++ names_from (wanted l.of_values (of_value l.can) (in_set l.can)) l.number (map (λ p. p.now) l.names)
    ≡ l.initial.terms.items ++ names_from (wanted l.of_values (of_value l.can) (in_set l.can)) 0 (map (λ p. p.now) l.initial.names))
    × (l.number + length l.names ≤ 5121)

abbrev pub decreases-loop-names : goal.decreases-loop-names
decreases-loop-names l = length l.names
