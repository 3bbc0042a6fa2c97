use Rattle.std.proofs.Common.{◌∙◌, List, subst, sym}
use Rattle.cards.specs.declared.seat.Seat.{Seat}
use Rattle.sinks.specs.Sinks.{AppendsOrBreaksOff}
use Rattle.statistics.specs.declared.kept.Kept.{Kept}
use Rattle.statistics.specs.internal.Counters.{Counts, asked_of, body_text}
use Rattle.statistics.specs.internal.Kept.{asked_each}
use Rattle.statistics.proofs.Bodies.{alone_body, each_body, one_body, two_body}
use Rattle.statistics.proofs.kept.Kept.put_body.Goals as goal

pub returns-in-Alone-clause-bytes : goal.returns-in-Alone-clause-bytes
returns-in-Alone-clause-bytes g c =
    subst (λ (kept : Kept). (deals : List (List Seat)) → Counts kept deals
    → AppendsOrBreaksOff (g.S.Sink.bytes c.args.sink.now) (g.S.Sink.bytes c.put_piece.new.sink) c.put_piece.result
    (body_text c.args.style (asked_of kept) deals c.args.tried)) (sym c.in-Alone.is)
    (λ deals h. subst (AppendsOrBreaksOff (g.S.Sink.bytes c.args.sink.now) (g.S.Sink.bytes c.put_piece.new.sink) c.put_piece.result)
    (c.alone_text.ensures ∙ alone_body c.args.style c.count.result deals c.args.tried (c.count.ensures.value ∙ h)) c.put_piece.ensures.bytes)

pub returns-in-Rows-clause-bytes : goal.returns-in-Rows-clause-bytes
returns-in-Rows-clause-bytes g c =
    subst (λ (kept : Kept). (deals : List (List Seat)) → Counts kept deals
    → AppendsOrBreaksOff (g.S.Sink.bytes c.args.sink.now) (g.S.Sink.bytes c.put.new.sink) c.put.result
    (body_text c.args.style (asked_of kept) deals c.args.tried)) (sym c.in-Rows.is)
    (λ deals h. subst (AppendsOrBreaksOff (g.S.Sink.bytes c.args.sink.now) (g.S.Sink.bytes c.put.new.sink) c.put.result)
    (one_body c.args.style c.in-Rows.one c.widths.result deals c.args.tried c.widths.ensures.kept c.widths.ensures.widths h) c.put.ensures.bytes)

pub returns-in-Cells-clause-bytes : goal.returns-in-Cells-clause-bytes
returns-in-Cells-clause-bytes g c =
    subst (λ (kept : Kept). (deals : List (List Seat)) → Counts kept deals
    → AppendsOrBreaksOff (g.S.Sink.bytes c.args.sink.now) (g.S.Sink.bytes c.put-in-Cells.new.sink)
    c.put-in-Cells.result (body_text c.args.style (asked_of kept) deals c.args.tried)) (sym c.in-Cells.is)
    (λ deals h. subst (AppendsOrBreaksOff (g.S.Sink.bytes c.args.sink.now) (g.S.Sink.bytes c.put-in-Cells.new.sink) c.put-in-Cells.result)
    (two_body c.args.style c.in-Cells.two deals c.args.tried c.put-in-Cells.ensures.kept h) c.put-in-Cells.ensures.bytes)

pub returns-in-Each-clause-bytes : goal.returns-in-Each-clause-bytes
returns-in-Each-clause-bytes g c =
    subst (λ (kept : Kept). (deals : List (List Seat)) → Counts kept deals
    → AppendsOrBreaksOff (g.S.Sink.bytes c.args.sink.now) (g.S.Sink.bytes c.put-in-Each.new.sink) c.put-in-Each.result
    (body_text c.args.style (asked_of kept) deals c.args.tried)) (sym c.in-Each.is)
    (λ deals h. subst (AppendsOrBreaksOff (g.S.Sink.bytes c.args.sink.now) (g.S.Sink.bytes c.put-in-Each.new.sink) c.put-in-Each.result)
    (each_body c.args.style (asked_each c.in-Each.each) deals c.args.tried) (c.put-in-Each.ensures.bytes deals h))
