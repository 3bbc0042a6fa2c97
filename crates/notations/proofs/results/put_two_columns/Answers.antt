use Rattle.std.proofs.Common.{◌∙◌, ◌++◌, ap, sym, decimal, arith}
use Rattle.notations.specs.Columns.{two_columns}
use Rattle.notations.proofs.TwoColumns.{one_digit, two_digits}
use Rattle.notations.proofs.results.put_two_columns.Goals as goal

pub returns-then-number-lt10-clause-text : goal.returns-then-number-lt10-clause-text
returns-then-number-lt10-clause-text c =
    let number = c.number_of-number.result in
    c.put.ensures.text
    ∙ ap (λ xs. c.args.text.now ++ xs) (sym (one_digit number c.if-number-lt10.true) ∙ ap two_columns c.number_of-number.ensures)

pub returns-else-number-lt10-clause-text : goal.returns-else-number-lt10-clause-text
returns-else-number-lt10-clause-text c =
    let number = c.number_of-number.result in
    c.put_number.ensures.text
    ∙ ap (λ n. c.args.text.now ++ decimal n) c.from.ensures
    ∙ ap (λ xs. c.args.text.now ++ xs) (sym (two_digits number c.if-number-lt10.false (omega arith)) ∙ ap two_columns c.number_of-number.ensures)
