use Rattle.std.proofs.Common.{◌++◌, ◌∙◌, take, ap}
use Rattle.boards.specs.Letters.{suit_letters}
use Rattle.boards.proofs.Sets.{less_one}
use Rattle.boards.proofs.buffer.SuitLetters.put.Goals as goal

pub returns-clause-text : goal.returns-clause-text
returns-clause-text c =
    c.put_first.ensures.text
    ∙ ap (λ n. c.args.text.now ++ take n c.with_dot-entry.result) c.from.ensures
    ∙ ap (λ xs. c.args.text.now ++ xs) (less_one c.with_dot-entry.result (suit_letters c.args.hand.now c.args.suit)
    0x2E _ c.with_dot-entry.ensures.text c.with_dot-entry.ensures.count)
