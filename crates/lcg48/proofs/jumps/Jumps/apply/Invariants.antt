use Rattle.lcg48.proofs.Digits.{JumpsOn}
use Rattle.lcg48.proofs.jumps.Jumps.apply.Given as goal

abbrev pub invariant-loop-place : goal.invariant-loop-place
invariant-loop-place l = record {
  jumps : JumpsOn l.from l.steps l.place l.generator l.rest;
}
