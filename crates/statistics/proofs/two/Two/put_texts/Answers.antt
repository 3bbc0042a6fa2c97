use Rattle.std.proofs.Common.{◌++◌, List, ℕ, codes, subst}
use Rattle.std.proofs.lemmas.Result.{MatchResult-from_err}
use Rattle.sinks.specs.Appended.{AppendsAll, AppendsPart}
use Rattle.sinks.specs.Sinks.{AppendsOrBreaksOff}
use Rattle.statistics.proofs.Parts.{part_more, then_either}
use Rattle.statistics.proofs.two.Two.put_texts.Goals as goal

pub returns-in_err-put_between-clause-bytes : goal.returns-in_err-put_between-clause-bytes
returns-in_err-put_between-clause-bytes g c =
    let broken = part_more (g.S.Sink.bytes c.args.sink.now) (g.S.Sink.bytes c.put_between.new.sink)
    (codes "{\"of\":" ++ c.args.self.now.of.asked.string ++ codes ",\"by\":")
    (codes "" ++ c.args.self.now.by.string ++ codes ",\"values\":[")
    (subst (λ (s : List ℕ). AppendsPart (g.S.Sink.bytes c.args.sink.now) (g.S.Sink.bytes c.put_between.new.sink)
    (codes "{\"of\":" ++ s ++ codes ",\"by\":")) c.string.ensures c.in_err-put_between.ensures.bytes) in
    MatchResult-from_err c.from_residual.result _ _ c.from_residual.ensures.0 (λ _. broken)

pub returns-clause-bytes : goal.returns-clause-bytes
returns-clause-bytes g c =
    then_either c.put_between-2.result (g.S.Sink.bytes c.args.sink.now) (g.S.Sink.bytes c.put_between.new.sink)
    (g.S.Sink.bytes c.put_between-2.new.sink)
    (codes "{\"of\":" ++ c.args.self.now.of.asked.string ++ codes ",\"by\":") (codes "" ++ c.args.self.now.by.string ++ codes ",\"values\":[")
    (subst (λ (s : List ℕ). AppendsAll (g.S.Sink.bytes c.args.sink.now) (g.S.Sink.bytes c.put_between.new.sink)
    (codes "{\"of\":" ++ s ++ codes ",\"by\":")) c.string.ensures c.in_ok-put_between.ensures.bytes)
    (subst (λ (s : List ℕ). AppendsOrBreaksOff (g.S.Sink.bytes c.put_between.new.sink)
    (g.S.Sink.bytes c.put_between-2.new.sink) c.put_between-2.result (codes "" ++ s ++ codes ",\"values\":["))
    c.by_string.ensures c.put_between-2.ensures.bytes)
