-- Of the questions so far nothing is counted yet.
use Rattle.std.proofs.Common.{◌≡◌, [], All, map}
use Rattle.statistics.specs.internal.Kept.{CountsOne}
use Rattle.statistics.proofs.each.Each.new.Given as goal

abbrev pub invariant-loop-question : goal.invariant-loop-question
invariant-loop-question l = record {
  asked : map (λ one. one.asked) l.ones.items ≡ l.yielded;
  counted : All (λ one. CountsOne one []) l.ones.items;
}
