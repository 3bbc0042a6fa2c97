use Rattle.std.proofs.Common.{◌≡◌, ◌++◌, ◌∙◌, take, ap, arith}
use Rattle.pbn_text.specs.Games.{hand_text}
use Rattle.pbn_text.proofs.Suits.{thirteen_of}
use Rattle.pbn_text.proofs.reference.put_hand.Goals as goal

pub returns-clause-items : goal.returns-clause-items
returns-clause-items c =
    let end : 16 ≡ c.write_hand-end.result = omega (
      arith,
      c.write_hand-end.ensures.len,
      thirteen_of c.args.deal.now c.args.seat c.hand.result c.hand.ensures.partition c.hand.ensures.value,
    ) in
    c.put.ensures.items ∙ ap (λ n. c.args.text.now.items ++ take n c.write_hand-end.new.buffer) end
    ∙ ap (λ xs. c.args.text.now.items ++ xs) (c.write_hand-end.ensures.written
    ∙ ap hand_text c.hand.ensures.value)
