use Rattle.std.proofs.Common.{◌≡◌, ◌≤◌, drop}
use Rattle.input.specs.DealValues.{gives, none_given}
use Rattle.input.proofs.records.deal_value.given_by_bytes.Given as goal

abbrev pub invariant-loop-byte : goal.invariant-loop-byte
invariant-loop-byte l = record {
  same : gives l.first l.part l.given (drop l.byte-index l.hands) ≡ gives l.first 0 none_given l.hands;
  part : l.part ≤ 15;
}
