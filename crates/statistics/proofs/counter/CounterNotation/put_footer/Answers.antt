use Rattle.std.proofs.Common.{subst, sym}
use Rattle.sinks.specs.Sinks.{AppendsOrBreaksOff}
use Rattle.boards.specs.declared.style.TableStyle.{TableStyle}
use Rattle.statistics.specs.Counting.{count_text}
use Rattle.statistics.specs.internal.Counters.{asked_of, deals_of}
use Rattle.statistics.proofs.counter.CounterNotation.put_footer.Goals as goal

pub returns-in-Table-clause-bytes : goal.returns-in-Table-clause-bytes
returns-in-Table-clause-bytes g c boards h =
    subst (λ (style : TableStyle). AppendsOrBreaksOff (g.S.Sink.bytes c.args.sink.now) (g.S.Sink.bytes c.put_table.new.sink) c.put_table.result
    (count_text style (asked_of c.args.self.now.kept) (deals_of boards) c.args.tried)) (sym c.in-Table.is)
    (c.put_table.ensures.bytes (deals_of boards) h)

pub returns-in-Csv-clause-bytes : goal.returns-in-Csv-clause-bytes
unfolding count_text
returns-in-Csv-clause-bytes g c boards h =
    subst (λ (style : TableStyle). AppendsOrBreaksOff (g.S.Sink.bytes c.args.sink.now) (g.S.Sink.bytes c.put_body.new.sink) c.put_body.result
    (count_text style (asked_of c.args.self.now.kept) (deals_of boards) c.args.tried)) (sym c.in-Csv.is)
    (c.put_body.ensures.bytes (deals_of boards) h)

pub returns-in-Html-clause-bytes : goal.returns-in-Html-clause-bytes
returns-in-Html-clause-bytes g c boards h =
    subst (λ (style : TableStyle). AppendsOrBreaksOff (g.S.Sink.bytes c.args.sink.now) (g.S.Sink.bytes c.put_page.new.sink) c.put_page.result
    (count_text style (asked_of c.args.self.now.kept) (deals_of boards) c.args.tried)) (sym c.in-Html.is)
    (c.put_page.ensures.bytes (deals_of boards) h)

pub returns-in-Json-clause-bytes : goal.returns-in-Json-clause-bytes
returns-in-Json-clause-bytes g c boards h =
    subst (λ (style : TableStyle). AppendsOrBreaksOff (g.S.Sink.bytes c.args.sink.now) (g.S.Sink.bytes c.put_json.new.sink) c.put_json.result
    (count_text style (asked_of c.args.self.now.kept) (deals_of boards) c.args.tried)) (sym c.in-Json.is)
    (c.put_json.ensures.bytes (deals_of boards) h)
