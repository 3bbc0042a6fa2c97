use Rattle.std.proofs.Common.{◌++◌, ◌∷◌, [], ◌∙◌, take, sym, ap, arith}
use Rattle.std.proofs.lemmas.List.{append_assoc}
use Rattle.pbn_text.specs.Games.{hand_text}
use Rattle.pbn_text.proofs.Suits.{thirteen_of}
use Rattle.pbn_text.proofs.Buffers.{less_one}
use Rattle.pbn_text.proofs.printer.put_hand.Goals as goal

pub returns : goal.returns
returns c =
    let cards = thirteen_of c.args.deal.now c.args.seat c.hand.result c.hand.ensures.partition c.hand.ensures.value in
    let front = take c.args.start c.args.buffer.now in
    less_one c.put_suits-end.new.buffer (front ++ hand_text c.hand.result) 0x2E _ c.put_suits-end.result
    (omega (arith, cards)) (c.put_suits-end.ensures.written
    ∙ sym (append_assoc front (hand_text c.hand.result) (0x2E ∷ []))) (omega (arith, cards))
    ∙ ap (λ hand. front ++ hand_text hand) c.hand.ensures.value
