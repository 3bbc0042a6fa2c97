use Rattle.std.proofs.Common.{◌∙◌, ap, arith, false, get_or}
use Rattle.input.proofs.NameBytes.{in_table, table}
use Rattle.input.proofs.records.line.is_name_byte.Goals as goal

pub returns : goal.returns
returns c = ap (λ i. get_or table i false) c.from.ensures ∙ in_table c.args.byte (omega arith)
