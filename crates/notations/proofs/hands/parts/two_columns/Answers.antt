use Rattle.std.proofs.Common.{◌≡◌, ◌+◌, ◌/◌, ◌%◌, ◌-◌, ◌∷◌, [], ◌++◌, ◌∙◌, length, decimal, ap, sym, arith}
use Rattle.std.proofs.lemmas.Fmt.{decimal_digit, decimal_step}
use Rattle.notations.specs.Columns.{spaces}
use Rattle.notations.proofs.hands.parts.two_columns.Goals as goal

pub returns-then-number-lt10-clause-value : goal.returns-then-number-lt10-clause-value
returns-then-number-lt10-clause-value c =
    ap (λ digits. spaces (2 - length digits) ++ digits) (sym (decimal_digit c.args.number c.if-number-lt10.true))

pub returns-else-number-lt10-clause-value : goal.returns-else-number-lt10-clause-value
returns-else-number-lt10-clause-value c =
    let number = c.args.number in
    let digits : decimal number ≡ (48 + number / 10) ∷ (48 + number % 10) ∷ [] =
    decimal_step number (omega arith) (omega arith) ∙ ap (λ xs. xs ++ (48 + number % 10) ∷ []) (decimal_digit (number / 10) (omega arith)) in
    ap (λ xs. spaces (2 - length xs) ++ xs) (sym digits)
