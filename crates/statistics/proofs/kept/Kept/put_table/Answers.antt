use Rattle.std.proofs.Common.{◌≡◌, ◌++◌, ◌∙◌, [], codes, if◌then◌else◌, ◌==◌, length, subst, sym}
use Rattle.std.proofs.lemmas.Result.{MatchResult-from_err}
use Rattle.sinks.specs.Appended.{AppendsAll, AppendsPart}
use Rattle.sinks.specs.Sinks.{AppendsOrBreaksOff}
use Rattle.statistics.specs.Counting.{count_text, table_text}
use Rattle.statistics.specs.Sentence.{sentence}
use Rattle.statistics.specs.internal.Counters.{asked_of}
use Rattle.statistics.proofs.Bodies.{sentence_is, told_of_none, told_of_some}
use Rattle.statistics.proofs.Boards.{deals_counted}
use Rattle.statistics.proofs.Parts.{part_more, then_either}
use Rattle.statistics.proofs.kept.Kept.put_table.Goals as goal

pub returns-in_err-put_piece-clause-bytes : goal.returns-in_err-put_piece-clause-bytes
unfolding count_text
returns-in_err-put_piece-clause-bytes g c deals h =
    let n : c.deals.result ≡ length deals = c.deals.ensures.value ∙ deals_counted c.args.self.now deals h in
    let broken = part_more (g.S.Sink.bytes c.args.sink.now) (g.S.Sink.bytes c.put_piece.new.sink) (sentence (length deals) c.args.tried ++ codes "\n")
    (if length deals == 0 then [] else table_text (asked_of c.args.self.now) deals)
    (subst (AppendsPart (g.S.Sink.bytes c.args.sink.now) (g.S.Sink.bytes c.put_piece.new.sink))
    (c.sentence_line.ensures ∙ sentence_is c.deals.result (length deals) c.args.tried n)
    c.in_err-put_piece.ensures.bytes) in
    MatchResult-from_err c.from_residual.result _ _ c.from_residual.ensures.0 (λ _. broken)

pub returns-then-deals-eq0-clause-bytes : goal.returns-then-deals-eq0-clause-bytes
returns-then-deals-eq0-clause-bytes g c deals h =
    let n : c.deals.result ≡ length deals = c.deals.ensures.value ∙ deals_counted c.args.self.now deals h in
    let none : length deals ≡ 0 = sym (c.deals-2.ensures.value ∙ deals_counted c.args.self.now deals h) ∙ c.if-deals-eq0.true in
    subst (AppendsAll (g.S.Sink.bytes c.args.sink.now) (g.S.Sink.bytes c.put_piece.new.sink))
    (c.sentence_line.ensures ∙ sentence_is c.deals.result (length deals) c.args.tried n
    ∙ told_of_none (asked_of c.args.self.now) deals c.args.tried none) c.in_ok-put_piece.ensures.bytes

pub returns-else-deals-eq0-clause-bytes : goal.returns-else-deals-eq0-clause-bytes
returns-else-deals-eq0-clause-bytes g c deals h =
    let n : c.deals.result ≡ length deals = c.deals.ensures.value ∙ deals_counted c.args.self.now deals h in
    let same : c.deals-2.result ≡ length deals = c.deals-2.ensures.value ∙ deals_counted c.args.self.now deals h in
    subst (AppendsOrBreaksOff (g.S.Sink.bytes c.args.sink.now) (g.S.Sink.bytes c.put_body.new.sink) c.put_body.result)
    (told_of_some (asked_of c.args.self.now) deals c.args.tried (λ none. c.if-deals-eq0.false (same ∙ none)))
    (then_either c.put_body.result (g.S.Sink.bytes c.args.sink.now) (g.S.Sink.bytes c.put_piece.new.sink) (g.S.Sink.bytes c.put_body.new.sink)
    (sentence (length deals) c.args.tried ++ codes "\n") (table_text (asked_of c.args.self.now) deals)
    (subst (AppendsAll (g.S.Sink.bytes c.args.sink.now) (g.S.Sink.bytes c.put_piece.new.sink))
    (c.sentence_line.ensures ∙ sentence_is c.deals.result (length deals) c.args.tried n)
    c.in_ok-put_piece.ensures.bytes)
    (c.put_body.ensures.bytes deals h))
