use Rattle.std.proofs.Common.{List, subst, sym}
use Rattle.cards.specs.declared.seat.Seat.{Seat}
use Rattle.sinks.specs.Appended.{AppendsAll}
use Rattle.sinks.specs.Sinks.{AppendsOrBreaksOff}
use Rattle.statistics.specs.declared.kept.Kept.{Kept}
use Rattle.statistics.specs.Counting.{json_questions}
use Rattle.statistics.specs.internal.Counters.{Counts, asked_of}
use Rattle.statistics.proofs.Objects.{one_question, two_questions}
use Rattle.statistics.proofs.Parts.{no_part}
use Rattle.statistics.proofs.kept.Kept.put_questions.Goals as goal

pub returns-in-Alone-clause-bytes : goal.returns-in-Alone-clause-bytes
unfolding json_questions
returns-in-Alone-clause-bytes g c =
    subst (λ (kept : Kept). (deals : List (List Seat)) → Counts kept deals
    → AppendsAll (g.S.Sink.bytes c.args.sink.now) (g.S.Sink.bytes c.args.sink.now) (json_questions (asked_of kept) deals)) (sym c.in-Alone.is)
    (λ deals h. no_part (g.S.Sink.bytes c.args.sink.now))

pub returns-in-Rows-clause-bytes : goal.returns-in-Rows-clause-bytes
returns-in-Rows-clause-bytes g c =
    subst (λ (kept : Kept). (deals : List (List Seat)) → Counts kept deals
    → AppendsOrBreaksOff (g.S.Sink.bytes c.args.sink.now) (g.S.Sink.bytes c.put_json.new.sink) c.put_json.result
    (json_questions (asked_of kept) deals)) (sym c.in-Rows.is)
    (λ deals h. subst (AppendsOrBreaksOff (g.S.Sink.bytes c.args.sink.now) (g.S.Sink.bytes c.put_json.new.sink) c.put_json.result)
    (one_question c.in-Rows.one deals c.put_json.ensures.kept h) c.put_json.ensures.bytes)

pub returns-in-Cells-clause-bytes : goal.returns-in-Cells-clause-bytes
returns-in-Cells-clause-bytes g c =
    subst (λ (kept : Kept). (deals : List (List Seat)) → Counts kept deals
    → AppendsOrBreaksOff (g.S.Sink.bytes c.args.sink.now) (g.S.Sink.bytes c.put_json-in-Cells.new.sink)
    c.put_json-in-Cells.result (json_questions (asked_of kept) deals)) (sym c.in-Cells.is)
    (λ deals h. subst (AppendsOrBreaksOff (g.S.Sink.bytes c.args.sink.now) (g.S.Sink.bytes c.put_json-in-Cells.new.sink) c.put_json-in-Cells.result)
    (two_questions c.in-Cells.two deals c.put_json-in-Cells.ensures.kept h) c.put_json-in-Cells.ensures.bytes)

pub returns-in-Each-clause-bytes : goal.returns-in-Each-clause-bytes
unfolding json_questions
returns-in-Each-clause-bytes g c =
    subst (λ (kept : Kept). (deals : List (List Seat)) → Counts kept deals
    → AppendsOrBreaksOff (g.S.Sink.bytes c.args.sink.now) (g.S.Sink.bytes c.put_parts.new.sink) c.put_parts.result
    (json_questions (asked_of kept) deals)) (sym c.in-Each.is)
    c.put_parts.ensures.bytes
