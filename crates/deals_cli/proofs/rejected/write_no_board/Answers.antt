use Rattle.std.proofs.Common.{◌≡◌, ◌<◌, ◌∙◌, [], ap, arith, subst}
use Rattle.sinks.specs.Appended.{AppendsAll, AppendsPart, append_known}
use Rattle.boards.proofs.Results.{at_err, at_ok}
use Rattle.deals_cli.proofs.Rejecting.{all_lanes, breaks_footer, closes, header_broken, limit_is}
use Rattle.deals_cli.proofs.rejected.write_no_board.Goals as goal

pub returns-then-is_err-clause-ends : goal.returns-then-is_err-clause-ends
returns-then-is_err-clause-ends g c form none =
    let plan = c.args.plan.now in
    let some : 0 < plan.workers = omega (arith, c.workers-workers.ensures.value, c.workers-workers.ensures.range.0) in
    let part = at_err _ _ c.put_all.result c.if-is_err.ensures.value c.put_all.ensures.bytes in
    let broken = header_broken (g.N.Notation.layout c.args.notation.now) plan form c.header.result.now
    (g.O.Sink.bytes c.args.out.now) (g.O.Sink.bytes c.put_all.new.sink) some c.header.ensures part in
    record { lanes = broken.lanes; boards = 0; stands = broken.stands }

pub returns-in-Ok-clause-ends : goal.returns-in-Ok-clause-ends
returns-in-Ok-clause-ends g c form none =
    let plan = c.args.plan.now in
    let layout = g.N.Notation.layout c.args.notation.now in
    let old = g.O.Sink.bytes c.args.out.now in
    let mid = g.O.Sink.bytes c.put_all.new.sink in
    let new = g.O.Sink.bytes c.put_footer.new.sink in
    let some : 0 < plan.workers = omega (arith, c.workers-workers.ensures.value, c.workers-workers.ensures.range.0) in
    let limit = limit_is c.limit-limit.result plan.limit c.limit-limit.ensures.value c.limit-limit.ensures.some in
    let head : mid ≡ append_known old layout.header =
    at_ok _ _ c.put_all.result c.if-is_err.ensures.value c.put_all.ensures.bytes ∙ ap (append_known old) c.header.ensures in
    let foot : AppendsAll mid new (layout.footer [] plan.count) =
    subst (λ n. AppendsAll mid new (layout.footer [] n)) c.count.ensures.value (c.in-Ok.ensures.bytes [] c.requires.printed) in
    let ends = closes layout (g.N.Notation.has_printed c.args.notation.now) plan form old mid none some limit head
    c.requires.printed new c.fixed-fixed.ensures.fixed foot in
    record {
      text = ends.text_is;
      candidates_are = c.count-in-Ok.ensures.value ∙ ends.candidates_are;
      few = (omega arith, omega (arith, c.count-in-Ok.ensures.value));
    }

pub returns-in-Err-clause-ends : goal.returns-in-Err-clause-ends
returns-in-Err-clause-ends g c form none =
    let plan = c.args.plan.now in
    let layout = g.N.Notation.layout c.args.notation.now in
    let old = g.O.Sink.bytes c.args.out.now in
    let mid = g.O.Sink.bytes c.put_all.new.sink in
    let new = g.O.Sink.bytes c.put_footer.new.sink in
    let some : 0 < plan.workers = omega (arith, c.workers-workers.ensures.value, c.workers-workers.ensures.range.0) in
    let limit = limit_is c.limit-limit.result plan.limit c.limit-limit.ensures.value c.limit-limit.ensures.some in
    let head : mid ≡ append_known old layout.header =
    at_ok _ _ c.put_all.result c.if-is_err.ensures.value c.put_all.ensures.bytes ∙ ap (append_known old) c.header.ensures in
    let part : AppendsPart mid new (layout.footer [] plan.count) =
    subst (λ n. AppendsPart mid new (layout.footer [] n)) c.count.ensures.value (c.in-Err.ensures.bytes [] c.requires.printed) in
    record {
      lanes = all_lanes plan form;
      boards = 0;
      stands = breaks_footer layout (g.N.Notation.has_printed c.args.notation.now) plan form old mid none some limit head c.requires.printed new part;
    }
