use Rattle.std.proofs.Common.{◌≡◌, length, arith}
use Rattle.std.proofs.lemmas.Result.{MatchResult-from_err}
use Rattle.dealrun.proofs.Advance.{begins, begins_broken}
use Rattle.dealrun.proofs.writer.Writer.write_header_and_boards.Goals as goal

pub returns-in_err-put_all-clause-wrote : goal.returns-in_err-put_all-clause-wrote
returns-in_err-put_all-clause-wrote g c =
    let w = c.args.self.now in
    let fresh = c.requires.fresh in
    let long : length w.lanes.items ≡ w.plan.workers = omega (arith, w.lanes.ok.0, w.long) in
    let broke = begins_broken (g.N.Notation.layout c.args.notation.now) c.header.result.now w.plan w.lanes.items
    w.progress.taken w.progress.boards (g.S.Sink.bytes c.args.sink.now) (g.S.Sink.bytes c.put_all.new.sink) long
    fresh.lanes fresh.taken fresh.boards c.header.ensures c.in_err-put_all.ensures.bytes in
    MatchResult-from_err c.from_residual.result _ _ c.from_residual.ensures.0 (λ _. broke)

pub returns-clause-wrote : goal.returns-clause-wrote
returns-clause-wrote g c =
    let w = c.args.self.now in
    let fresh = c.requires.fresh in
    let long : length w.lanes.items ≡ w.plan.workers = omega (arith, w.lanes.ok.0, w.long) in
    c.write_boards.ensures.wrote (g.S.Sink.bytes c.args.sink.now)
    (begins (g.N.Notation.layout c.args.notation.now) (g.N.Notation.has_printed c.args.notation.now)
    c.header.result.now w.plan w.lanes.items w.progress.taken w.progress.boards (g.S.Sink.bytes c.args.sink.now)
    (g.S.Sink.bytes c.put_all.new.sink) long fresh.lanes fresh.taken fresh.boards c.header.ensures
    c.in_ok-put_all.ensures.bytes c.requires.printed)
