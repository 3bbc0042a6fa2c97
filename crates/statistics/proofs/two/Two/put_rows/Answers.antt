use Rattle.std.proofs.Common.{◌∙◌, arith, rules, ℕ, List, subst, sym, ap}
use Rattle.std.proofs.lemmas.Result.{MatchResult-from_err}
use Rattle.sinks.specs.Appended.{AppendsAll, AppendsPart}
use Rattle.statistics.specs.declared.two.table.Line.{Line}
use Rattle.statistics.specs.internal.Lines.{IsLine, line_text, row_of, two_row}
use Rattle.statistics.specs.internal.Texts.{rows_of_one}
use Rattle.statistics.proofs.Parts.{all_broken, all_more}
use Rattle.statistics.proofs.Shading.{is_line}
use Rattle.statistics.proofs.two.Two.put_rows.Goals as goal

pub put_line-requires-clause-line : goal.put_line-requires-clause-line
put_line-requires-clause-line g c =
    subst (λ (line : Line). IsLine c.args.self.now line)
    (sym (c.of_row.ensures ∙ ap (λ (most : ℕ). row_of c.args.style most c.loop-number.number)
    c.loop-number.invariant.most))
    (is_line c.args.self.now c.args.style c.loop-number.number
    (omega (arith, c.loop-number.invariant.counts, c.loop-number-test.true)) c.loop-number.invariant.first
    (omega (arith, c.loop-number.invariant.end, c.loop-number-test.true)))

pub returns-in_err-put_line-clause-bytes : goal.returns-in_err-put_line-clause-bytes
returns-in_err-put_line-clause-bytes g c =
    let f : ℕ → List ℕ = two_row c.args.self.now c.args.style in
    let broken = all_broken (g.S.Sink.bytes c.args.sink.now) (g.S.Sink.bytes c.loop-number.sink) (g.S.Sink.bytes c.put_line.new.sink) f
    (rows_of_one c.args.self.now.of).first c.loop-number.number (rows_of_one c.args.self.now.of).end
    c.loop-number.invariant.first (omega (arith, c.loop-number.invariant.end))
    c.loop-number.invariant.bytes (subst (λ (line : Line). AppendsPart (g.S.Sink.bytes c.loop-number.sink)
    (g.S.Sink.bytes c.put_line.new.sink) (line_text c.args.self.now line))
    (c.of_row.ensures ∙ ap (λ (most : ℕ). row_of c.args.style most c.loop-number.number)
    c.loop-number.invariant.most) c.in_err-put_line.ensures.bytes) in
    MatchResult-from_err c.from_residual.result _ _ c.from_residual.ensures.0 (λ _. broken)

pub loop-number-preserved : goal.loop-number-preserved
loop-number-preserved g c =
    let f : ℕ → List ℕ = two_row c.args.self.now c.args.style in
    record {
      most = c.loop-number.invariant.most;
      bytes = all_more (g.S.Sink.bytes c.args.sink.now) (g.S.Sink.bytes c.loop-number.sink) (g.S.Sink.bytes c.put_line.new.sink) f
          (rows_of_one c.args.self.now.of).first c.loop-number.number c.loop-number.invariant.first
          c.loop-number.invariant.bytes (subst (λ (line : Line). AppendsAll (g.S.Sink.bytes c.loop-number.sink)
          (g.S.Sink.bytes c.put_line.new.sink) (line_text c.args.self.now line))
          (c.of_row.ensures ∙ ap (λ (most : ℕ). row_of c.args.style most c.loop-number.number)
          c.loop-number.invariant.most) c.in_ok-put_line.ensures.bytes);
      faults = search rules;
      first = omega arith;
      end = c.loop-number.invariant.end;
      counts = c.loop-number.invariant.counts;
      within = omega (arith, c.loop-number.invariant.end, c.loop-number-test.true);
    }
