use Rattle.std.proofs.Common.{arith, rules, ℕ, List, subst}
use Rattle.std.proofs.lemmas.Result.{MatchResult-from_err}
use Rattle.sinks.specs.Appended.{AppendsAll, AppendsPart}
use Rattle.statistics.specs.internal.Lines.{cell_piece}
use Rattle.statistics.specs.internal.PageLines.{columns_of_two}
use Rattle.statistics.proofs.Parts.{all_broken, all_more}
use Rattle.statistics.proofs.Shading.{can_shade}
use Rattle.statistics.proofs.two.Two.put_cells.Goals as goal

pub cell_piece-requires-clause-shaded : goal.cell_piece-requires-clause-shaded
cell_piece-requires-clause-shaded g c =
    can_shade c.args.self.now c.args.line c.loop-column.column c.requires.line c.loop-column.invariant.first
    (omega (arith, c.loop-column.invariant.end, c.loop-column-test.true))

pub returns-in_err-put_piece-clause-bytes : goal.returns-in_err-put_piece-clause-bytes
returns-in_err-put_piece-clause-bytes g c =
    let f : ℕ → List ℕ = cell_piece c.args.self.now c.args.line in
    let broken = all_broken (g.S.Sink.bytes c.args.sink.now) (g.S.Sink.bytes c.loop-column.sink) (g.S.Sink.bytes c.put_piece.new.sink) f
    (columns_of_two c.args.self.now).first c.loop-column.column (columns_of_two c.args.self.now).end
    c.loop-column.invariant.first (omega (arith, c.loop-column.invariant.end))
    c.loop-column.invariant.bytes (subst (AppendsPart (g.S.Sink.bytes c.loop-column.sink)
    (g.S.Sink.bytes c.put_piece.new.sink)) c.cell_piece.ensures c.in_err-put_piece.ensures.bytes) in
    MatchResult-from_err c.from_residual.result _ _ c.from_residual.ensures.0 (λ _. broken)

pub loop-column-preserved : goal.loop-column-preserved
loop-column-preserved g c =
    let f : ℕ → List ℕ = cell_piece c.args.self.now c.args.line in
    record {
      bytes = all_more (g.S.Sink.bytes c.args.sink.now) (g.S.Sink.bytes c.loop-column.sink) (g.S.Sink.bytes c.put_piece.new.sink) f
          (columns_of_two c.args.self.now).first c.loop-column.column c.loop-column.invariant.first
          c.loop-column.invariant.bytes (subst (AppendsAll (g.S.Sink.bytes c.loop-column.sink)
          (g.S.Sink.bytes c.put_piece.new.sink)) c.cell_piece.ensures c.in_ok-put_piece.ensures.bytes);
      faults = search rules;
      first = omega arith;
      end = c.loop-column.invariant.end;
      counts = c.loop-column.invariant.counts;
      within = omega (arith, c.loop-column.invariant.end, c.loop-column-test.true);
    }
