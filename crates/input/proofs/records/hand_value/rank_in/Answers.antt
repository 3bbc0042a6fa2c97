use Rattle.std.proofs.Common.{◌≡◌, ◌∙◌, ap, arith, get_or}
use Rattle.input.specs.DealValues.{rank_in}
use Rattle.input.proofs.Ranks.{at_most, in_table, table}
use Rattle.input.proofs.records.hand_value.rank_in.Goals as goal

pub returns-clause-value : goal.returns-clause-value
returns-clause-value c = c.from-2.ensures ∙ ap (λ i. get_or table i 0) c.from.ensures ∙ in_table c.args.byte (omega arith)

pub returns-clause-range : goal.returns-clause-range
returns-clause-range c =
    let is : c.from-2.result ≡ rank_in c.args.byte = c.from-2.ensures ∙ ap (λ i. get_or table i 0) c.from.ensures
    ∙ in_table c.args.byte (omega arith) in
    rw is (at_most c.args.byte)
