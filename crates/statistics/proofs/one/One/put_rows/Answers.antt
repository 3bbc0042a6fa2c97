use Rattle.std.proofs.Common.{arith, rules, ℕ, List, subst}
use Rattle.std.proofs.lemmas.Result.{MatchResult-from_err}
use Rattle.sinks.specs.Appended.{AppendsAll, AppendsPart}
use Rattle.statistics.specs.internal.Texts.{one_row, rows_of_one}
use Rattle.statistics.proofs.Most.{most_at}
use Rattle.statistics.proofs.Parts.{all_broken, all_more}
use Rattle.statistics.proofs.one.One.put_rows.Goals as goal

pub row-requires-clause-most : goal.row-requires-clause-most
row-requires-clause-most g c =
    let most = most_at c.args.self.now.counts (rows_of_one c.args.self.now) c.loop-number.number
    c.loop-number.invariant.first (omega (arith, c.loop-number.invariant.end)) in
    omega (arith, most, c.requires.widths.most)

pub returns-in_err-put_piece-clause-bytes : goal.returns-in_err-put_piece-clause-bytes
returns-in_err-put_piece-clause-bytes g c =
    let f : ℕ → List ℕ = one_row c.args.style c.args.widths c.args.self.now in
    let broken = all_broken (g.S.Sink.bytes c.args.sink.now) (g.S.Sink.bytes c.loop-number.sink) (g.S.Sink.bytes c.put_piece.new.sink) f
    (rows_of_one c.args.self.now).first c.loop-number.number (rows_of_one c.args.self.now).end
    c.loop-number.invariant.first (omega (arith, c.loop-number.invariant.end))
    c.loop-number.invariant.bytes (subst (AppendsPart (g.S.Sink.bytes c.loop-number.sink)
    (g.S.Sink.bytes c.put_piece.new.sink)) c.row.ensures c.in_err-put_piece.ensures.bytes) in
    MatchResult-from_err c.from_residual.result _ _ c.from_residual.ensures.0 (λ _. broken)

pub loop-number-preserved : goal.loop-number-preserved
loop-number-preserved g c =
    let f : ℕ → List ℕ = one_row c.args.style c.args.widths c.args.self.now in
    record {
      bytes = all_more (g.S.Sink.bytes c.args.sink.now) (g.S.Sink.bytes c.loop-number.sink) (g.S.Sink.bytes c.put_piece.new.sink) f
          (rows_of_one c.args.self.now).first c.loop-number.number c.loop-number.invariant.first
          c.loop-number.invariant.bytes (subst (AppendsAll (g.S.Sink.bytes c.loop-number.sink)
          (g.S.Sink.bytes c.put_piece.new.sink)) c.row.ensures c.in_ok-put_piece.ensures.bytes);
      faults = search rules;
      first = omega arith;
      end = c.loop-number.invariant.end;
      counts = c.loop-number.invariant.counts;
      within = omega (arith, c.loop-number.invariant.end, c.loop-number-test.true);
    }
