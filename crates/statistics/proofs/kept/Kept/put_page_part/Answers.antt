use Rattle.std.proofs.Common.{◌≡◌, ◌∙◌, length, subst, sym}
use Rattle.sinks.specs.Appended.{AppendsAll}
use Rattle.sinks.specs.Sinks.{AppendsOrBreaksOff}
use Rattle.statistics.specs.internal.Counters.{asked_of}
use Rattle.statistics.proofs.Boards.{deals_counted}
use Rattle.statistics.proofs.Bodies.{none_on_page, some_on_page}
use Rattle.statistics.proofs.Parts.{no_part}
use Rattle.statistics.proofs.kept.Kept.put_page_part.Goals as goal

pub returns-then-deals-eq0-clause-bytes : goal.returns-then-deals-eq0-clause-bytes
returns-then-deals-eq0-clause-bytes g c deals h =
    let none : length deals ≡ 0 = sym (c.deals.ensures.value ∙ deals_counted c.args.self.now deals h) ∙ c.if-deals-eq0.true in
    subst (AppendsAll (g.S.Sink.bytes c.args.sink.now) (g.S.Sink.bytes c.args.sink.now))
    (sym (none_on_page (asked_of c.args.self.now) deals none)) (no_part (g.S.Sink.bytes c.args.sink.now))

pub returns-else-deals-eq0-clause-bytes : goal.returns-else-deals-eq0-clause-bytes
returns-else-deals-eq0-clause-bytes g c deals h =
    let same : c.deals.result ≡ length deals = c.deals.ensures.value ∙ deals_counted c.args.self.now deals h in
    subst (AppendsOrBreaksOff (g.S.Sink.bytes c.args.sink.now) (g.S.Sink.bytes c.put_body.new.sink) c.put_body.result)
    (some_on_page (asked_of c.args.self.now) deals (λ none. c.if-deals-eq0.false (same ∙ none))) (c.put_body.ensures.bytes deals h)
