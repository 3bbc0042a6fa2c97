use Rattle.std.proofs.Common.{◌++◌, ◌∷◌, [], ◌∙◌, length, ap}
use Rattle.boards.proofs.Sets.{set_letters-of}
use Rattle.boards.proofs.buffer.SuitLetters.with_dot.Goals as goal

pub returns-clause-count : goal.returns-clause-count
returns-clause-count c = c.entry.ensures.len ∙ ap length (set_letters-of c.rank_set.result c.args.hand.now c.args.suit c.rank_set.ensures.bits)

pub returns-clause-text : goal.returns-clause-text
returns-clause-text c = c.entry.ensures.text ∙ ap (λ xs. xs ++ 0x2E ∷ [])
    (set_letters-of c.rank_set.result c.args.hand.now c.args.suit c.rank_set.ensures.bits)
