use Rattle.std.proofs.Common.{◌≡◌, ◌++◌, [], Bool, false, if◌then◌else◌, subst, sym, rules}
use Rattle.std.proofs.lemmas.Result.{MatchResult-from_err}
use Rattle.sinks.specs.Sinks.{AppendsOrBreaksOff}
use Rattle.conditions.specs.Questions.{is_condition}
use Rattle.statistics.specs.internal.Lines.{line_text}
use Rattle.statistics.proofs.Parts.{part_more, then_either}
use Rattle.statistics.proofs.two.Two.put_totals.Goals as goal

pub returns-in_err-put_line-clause-bytes : goal.returns-in_err-put_line-clause-bytes
returns-in_err-put_line-clause-bytes g c =
    let broken = part_more (g.S.Sink.bytes c.args.sink.now) (g.S.Sink.bytes c.put_line.new.sink) (line_text c.args.self.now c.args.all)
    (if is_condition c.args.self.now.of.asked.question then [] else line_text c.args.self.now c.args.mean)
    c.in_err-put_line.ensures.bytes in
    MatchResult-from_err c.from_residual.result _ _ c.from_residual.ensures.0 (λ _. broken)

pub returns-else-is_condition-clause-bytes : goal.returns-else-is_condition-clause-bytes
returns-else-is_condition-clause-bytes g c =
    let e : is_condition c.args.self.now.of.asked.question ≡ false = search rules in
    subst (λ (b : Bool). AppendsOrBreaksOff (g.S.Sink.bytes c.args.sink.now)
    (g.S.Sink.bytes c.put_line-else-is_condition.new.sink) c.put_line-else-is_condition.result
    (line_text c.args.self.now c.args.all ++ (if b then [] else line_text c.args.self.now c.args.mean))) (sym e)
    (then_either c.put_line-else-is_condition.result (g.S.Sink.bytes c.args.sink.now)
    (g.S.Sink.bytes c.put_line.new.sink) (g.S.Sink.bytes c.put_line-else-is_condition.new.sink)
    (line_text c.args.self.now c.args.all) (line_text c.args.self.now c.args.mean)
    c.in_ok-put_line.ensures.bytes c.put_line-else-is_condition.ensures.bytes)
