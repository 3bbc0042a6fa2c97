use Rattle.std.proofs.Common.{arith, rules, ℕ, List, ap, ap₂, subst, ◌∙◌, ◌||◌}
use Rattle.std.proofs.lemmas.Result.{MatchResult-from_err}
use Rattle.sinks.specs.Appended.{AppendsAll, AppendsPart}
use Rattle.statistics.specs.Json.{json_pair}
use Rattle.statistics.specs.internal.Items.{after, has_some, pair_kept}
use Rattle.statistics.specs.internal.PageLines.{columns_of_two}
use Rattle.statistics.proofs.Items.{items_broken, items_more, some_yet}
use Rattle.statistics.proofs.two.Two.put_row_pairs.Goals as goal

pub returns-in_err-some-clause-bytes : goal.returns-in_err-some-clause-bytes
returns-in_err-some-clause-bytes g c =
    let f : ℕ → List ℕ = pair_kept c.args.self.now c.args.row in
    let broken = items_broken (g.S.Sink.bytes c.args.sink.now) (g.S.Sink.bytes c.loop-column.sink) (g.S.Sink.bytes c.put_item.new.sink) f c.args.any
    (columns_of_two c.args.self.now).first c.loop-column.column (columns_of_two c.args.self.now).end
    c.loop-column.invariant.first (omega (arith, c.loop-column.invariant.end))
    c.loop-column.invariant.bytes
    (subst (AppendsPart (g.S.Sink.bytes c.loop-column.sink) (g.S.Sink.bytes c.put_item.new.sink))
    (ap₂ after c.loop-column.invariant.some (c.json_pair.ensures
    ∙ ap (json_pair c.args.row c.loop-column.column) c.cell.ensures)) c.in_err-some.ensures.bytes) in
    MatchResult-from_err c.from_residual.result _ _ c.from_residual.ensures.0 (λ _. broken)

pub loop-column-preserved : goal.loop-column-preserved
loop-column-preserved g c =
    let f : ℕ → List ℕ = pair_kept c.args.self.now c.args.row in
    record {
      some = some_yet f c.args.any c.loop-column.some c.in_ok-some.some (columns_of_two c.args.self.now).first
          c.loop-column.column c.loop-column.invariant.first
          c.loop-column.invariant.some (c.in_ok-some.ensures.any
          ∙ ap (λ (item : List ℕ). c.loop-column.some || has_some item)
          (c.json_pair.ensures ∙ ap (json_pair c.args.row c.loop-column.column) c.cell.ensures));
      bytes = items_more (g.S.Sink.bytes c.args.sink.now) (g.S.Sink.bytes c.loop-column.sink) (g.S.Sink.bytes c.put_item.new.sink) f c.args.any
          (columns_of_two c.args.self.now).first c.loop-column.column c.loop-column.invariant.first
          c.loop-column.invariant.bytes
          (subst (AppendsAll (g.S.Sink.bytes c.loop-column.sink) (g.S.Sink.bytes c.put_item.new.sink))
          (ap₂ after c.loop-column.invariant.some (c.json_pair.ensures
          ∙ ap (json_pair c.args.row c.loop-column.column) c.cell.ensures)) c.in_ok-some.ensures.bytes);
      faults = search rules;
      first = omega arith;
      end = c.loop-column.invariant.end;
      counts = c.loop-column.invariant.counts;
      within = omega (arith, c.loop-column.invariant.end, c.loop-column-test.true);
    }
