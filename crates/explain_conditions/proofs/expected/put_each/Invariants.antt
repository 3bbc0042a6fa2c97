use Rattle.std.proofs.Common.{◌≡◌, ◌++◌, take}
use Rattle.explain_conditions.specs.Expected.{each}
use Rattle.explain_conditions.specs.internal.Kinds.{in_set}
use Rattle.explain_conditions.proofs.expected.put_each.Given as goal

abbrev pub invariant-loop-kind : goal.invariant-loop-kind
invariant-loop-kind l =
    l.terms.items ≡ l.initial.terms.items ++ each (in_set l.can) l.part (take l.kind-index l.kinds)
