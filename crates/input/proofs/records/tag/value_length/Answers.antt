use Rattle.std.proofs.Common.{arith, sym}
use Rattle.std.proofs.lemmas.List.{length-take-le}
use Rattle.input.proofs.records.tag.value_length.Goals as goal

pub slice_bounds-are_surely_plain-end : goal.slice_bounds-are_surely_plain-end
slice_bounds-are_surely_plain-end c = sym (length-take-le 69 c.args.text.now (omega (arith, c.if-text-gt-DEAL.true)))
