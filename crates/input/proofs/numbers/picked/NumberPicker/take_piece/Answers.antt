use Rattle.std.proofs.lemmas.Grind.{common_steps}
use Rattle.std.proofs.Common.{◌+◌, ◌++◌, ◌∷◌, [], take, drop, get_or, subst, arith}
use Rattle.input.specs.internal.Picking.{EndsWithin}
use Rattle.input.proofs.Pieces.{broken_at, cut_at}
use Rattle.input.proofs.numbers.picked.NumberPicker.take_piece.Goals as goal

pub returns-in-Err-clause-takes : goal.returns-in-Err-clause-takes
returns-in-Err-clause-takes g c given rest base p =
    let i = c.loop-byte.byte-index in
    let piece = c.args.piece.now in
    let plan_is = c.loop-byte.invariant.plan in
    let before = given ++ take i piece in
    let later = drop (i + 1) piece ++ rest in
    broken_at (g.N.Notation.layout c.args.notation.now) (g.N.Notation.layout c.loop-byte.notation)
    (g.N.Notation.has_printed c.loop-byte.notation) c.args.self.now.plan c.loop-byte.self.scanner c.in-Err.fault
    before (get_or piece i 0 ∷ later) (given ++ (piece ++ rest))
    base (g.S.Sink.bytes c.loop-byte.sink) (g.S.Sink.bytes c.take_byte.new.sink)
    c.loop-byte.invariant.layout (cut_at given piece rest i c.loop-byte-test.true)
    (subst (λ q. EndsWithin (g.N.Notation.layout c.loop-byte.notation) (g.N.Notation.has_printed c.loop-byte.notation)
    q c.loop-byte.self.scanner (get_or piece i 0 ∷ []) c.in-Err.fault (g.S.Sink.bytes c.loop-byte.sink)
    (g.S.Sink.bytes c.take_byte.new.sink)) plan_is c.in-Err.ensures.takes before later base)
    (c.loop-byte.invariant.picked given base p)

pub loop-byte-preserved : goal.loop-byte-preserved
loop-byte-preserved g c = grind (arith, common_steps)

pub returns-clause-takes : goal.returns-clause-takes
returns-clause-takes g c = grind (arith, common_steps)
