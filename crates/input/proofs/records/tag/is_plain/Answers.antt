use Rattle.std.proofs.Common.{◌∙◌, ap, arith, false, get_or}
use Rattle.input.proofs.PlainBytes.{in_table, table}
use Rattle.input.proofs.records.tag.is_plain.Goals as goal

pub returns : goal.returns
returns c = ap (λ i. get_or table i false) c.from.ensures ∙ in_table c.args.byte (omega arith)
