use Rattle.std.proofs.Common.{◌∙◌, ap, arith, get_or}
use Rattle.input.proofs.HandBytes.{bits, in_bits}
use Rattle.input.proofs.records.hand_value.bit_in.Goals as goal

pub returns : goal.returns
returns c = c.from-2.ensures ∙ ap (λ i. get_or bits i 0) c.from.ensures ∙ in_bits c.args.byte (omega arith)
