use Rattle.std.proofs.Common.{◌+◌, ◌≤◌, length}
use Rattle.cond_lang.proofs.Scanned.{IsNamedTo}
use Rattle.cond_lang.proofs.scanner.names_of.Given as goal

abbrev pub invariant-loop-rest : goal.invariant-loop-rest
invariant-loop-rest l = record {
  told : IsNamedTo l.fn.text l.names l.rest;
  few : length l.names.given + length l.rest ≤ length l.fn.text;
}

abbrev pub decreases-loop-rest : goal.decreases-loop-rest
decreases-loop-rest l = length l.rest
