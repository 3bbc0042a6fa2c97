use Rattle.std.proofs.Common.{◌≡◌, ◌+◌, ◌++◌, ◌∙◌, take, length, get_or, ap, arith}
use Rattle.cards.specs.Hands.{length_of}
use Rattle.boards.specs.Letters.{suit_letters}
use Rattle.pbn_text.proofs.Suits.{length-suit_letters}
use Rattle.pbn_text.proofs.Buffers.{take_copied}
use Rattle.pbn_text.proofs.printer.put_suit.Goals as goal

pub returns-clause-written : goal.returns-clause-written
returns-clause-written c =
    let text = c.with_dot-text.result in
    take_copied c.args.buffer.now c.copy_from_slice.new.self c.args.start _ (get_or text 15 0 + 1) _ (omega arith)
    (omega arith) (omega (arith, c.from.ensures))
    ∙ ap (λ xs. take c.args.start c.args.buffer.now ++ take (get_or text 15 0 + 1) xs) c.copy_from_slice.ensures.after
    ∙ ap (λ xs. take c.args.start c.args.buffer.now ++ xs)
    c.with_dot-text.ensures.text

pub returns-clause-len : goal.returns-clause-len
returns-clause-len c =
    let count : length (suit_letters c.args.hand.now c.args.suit) ≡ length_of c.args.hand.now c.args.suit =
    length-suit_letters c.args.hand.now c.args.suit in
    omega (arith, count)
