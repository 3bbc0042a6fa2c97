use Rattle.std.proofs.Common.{◌≡◌, ◌≤◌, ◌⊎◌, ◌∙◌, Some, ap, arith, subst}
use Rattle.std.proofs.lemmas.Result.{MatchResult-from_err, MatchResult-weaker}
use Rattle.sinks.specs.Appended.{append_known, AppendsPart}
use Rattle.cards.specs.Fixed.{IsFixed}
use Rattle.lanes.specs.Prefixes.{IsPrefix}
use Rattle.dealrun.specs.MergedVerdicts.{boards_taken}
use Rattle.lanes.specs.Jobs.{verdicts_for}
use Rattle.dealrun.specs.internal.Writing.{WriterBrokeOff, WriterSoFar}
use Rattle.dealrun.proofs.Endings.{closed, footer_broken}
use Rattle.dealrun.proofs.Finals.{stands_broken}
use Rattle.dealrun.proofs.Wholes.{still}
use Rattle.dealrun.proofs.writer.Writer.write_rest.Goals as goal

pub returns-in_err-write_boards-clause-ends : goal.returns-in_err-write_boards-clause-ends
returns-in_err-write_boards-clause-ends g c base form h =
    let p = c.args.self.now.plan in
    let w = c.write_boards.new.self in
    let e = c.in_err-write_boards.ensures in
    let kept = still p c.args.self.now.lanes.items w.lanes.items (λ k vs. IsPrefix vs (verdicts_for p form k))
    h.so_far.in_turn.long e.lanes h.parts in
    let broke = subst (λ q. WriterBrokeOff (g.N.Notation.layout c.args.notation.now) q w.lanes.items w.progress.taken
    w.progress.boards base (g.S.Sink.bytes c.write_boards.new.sink)) e.plan (e.wrote base h.so_far) in
    let stands = stands_broken (g.N.Notation.layout c.args.notation.now) p form w.lanes.items w.progress.taken
    w.progress.boards base (g.S.Sink.bytes c.write_boards.new.sink) c.args.self.now.some
    (omega (arith, w.few, ap (λ q. q.count) e.plan)) (λ k d lt _. (kept k d lt).1) broke in
    MatchResult-from_err c.from_residual.result _ _ c.from_residual.ensures.0 (λ _. stands)

pub returns-clause-ends : goal.returns-clause-ends
returns-clause-ends g c base form h =
    let p = c.args.self.now.plan in
    let layout = g.N.Notation.layout c.args.notation.now in
    let layout_now = g.N.Notation.layout c.write_boards.new.notation in
    let w = c.write_boards.new.self in
    let e = c.in_ok-write_boards.ensures in
    let mid = g.S.Sink.bytes c.write_boards.new.sink in
    let new = g.S.Sink.bytes c.put_footer.new.sink in
    let has = g.N.Notation.has_printed c.write_boards.new.notation in
    let le : w.progress.taken ≤ p.count = omega (arith, w.few, ap (λ q. q.count) e.plan) in
    let ended : (w.progress.taken ≡ p.count) ⊎ (p.limit ≡ Some w.progress.boards) =
    subst (λ q. (w.progress.taken ≡ q.count) ⊎ (q.limit ≡ Some w.progress.boards)) e.plan (e.end base form h) in
    let fixed : IsFixed p.fixed = subst (λ q. IsFixed q.fixed) e.plan c.fixed-fixed.ensures.fixed in
    let kept = still p c.args.self.now.lanes.items w.lanes.items (λ k vs. IsPrefix vs (verdicts_for p form k))
    h.so_far.in_turn.long e.lanes h.parts in
    let so_far = subst (λ q. WriterSoFar layout has q w.lanes.items w.progress.taken w.progress.boards base mid) e.plan (e.wrote base h.so_far) in
    let boards = boards_taken p w.lanes.items w.progress.taken in
    let footer : layout_now.footer boards w.progress.taken ≡ layout.footer boards w.progress.taken =
    ap (λ l. l.footer boards w.progress.taken) e.layout in
    MatchResult-weaker c.put_footer.result (c.put_footer.ensures.bytes boards so_far.printed)
    (λ _ at. closed layout has p form w.lanes.items w.progress.taken w.progress.boards base mid c.args.self.now.some
    le so_far kept ended new w.progress.fewer fixed (at ∙ ap (append_known mid) footer))
    (λ _ part. footer_broken layout has p form w.lanes.items w.progress.taken w.progress.boards base mid
    c.args.self.now.some le so_far kept ended new (subst (AppendsPart mid new) footer part))
