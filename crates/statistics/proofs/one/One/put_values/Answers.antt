use Rattle.std.proofs.Common.{arith, rules, ℕ, false, List, ap, ap₂, subst, ◌∙◌, ◌||◌}
use Rattle.std.proofs.lemmas.Result.{MatchResult-from_err}
use Rattle.sinks.specs.Appended.{AppendsAll, AppendsPart}
use Rattle.statistics.specs.Json.{json_value}
use Rattle.statistics.specs.internal.Items.{after, has_some, value_kept}
use Rattle.statistics.specs.internal.Texts.{rows_of_one}
use Rattle.statistics.proofs.Items.{items_broken, items_more, some_yet}
use Rattle.statistics.proofs.one.One.put_values.Goals as goal

pub returns-in_err-any-clause-bytes : goal.returns-in_err-any-clause-bytes
returns-in_err-any-clause-bytes g c =
    let f : ℕ → List ℕ = value_kept c.args.self.now in
    let broken = items_broken (g.S.Sink.bytes c.args.sink.now) (g.S.Sink.bytes c.loop-number.sink) (g.S.Sink.bytes c.put_item.new.sink) f false
    (rows_of_one c.args.self.now).first c.loop-number.number (rows_of_one c.args.self.now).end
    c.loop-number.invariant.first (omega (arith, c.loop-number.invariant.end))
    c.loop-number.invariant.bytes
    (subst (AppendsPart (g.S.Sink.bytes c.loop-number.sink) (g.S.Sink.bytes c.put_item.new.sink))
    (ap₂ after c.loop-number.invariant.some (c.json_value.ensures
    ∙ ap (json_value c.loop-number.number) c.count_of.ensures)) c.in_err-any.ensures.bytes) in
    MatchResult-from_err c.from_residual.result _ _ c.from_residual.ensures.0 (λ _. broken)

pub loop-number-preserved : goal.loop-number-preserved
loop-number-preserved g c =
    let f : ℕ → List ℕ = value_kept c.args.self.now in
    record {
      some = some_yet f false c.loop-number.any c.in_ok-any.any (rows_of_one c.args.self.now).first c.loop-number.number c.loop-number.invariant.first
          c.loop-number.invariant.some (c.in_ok-any.ensures.any
          ∙ ap (λ (item : List ℕ). c.loop-number.any || has_some item)
          (c.json_value.ensures ∙ ap (json_value c.loop-number.number) c.count_of.ensures));
      bytes = items_more (g.S.Sink.bytes c.args.sink.now) (g.S.Sink.bytes c.loop-number.sink) (g.S.Sink.bytes c.put_item.new.sink) f false
          (rows_of_one c.args.self.now).first c.loop-number.number c.loop-number.invariant.first
          c.loop-number.invariant.bytes
          (subst (AppendsAll (g.S.Sink.bytes c.loop-number.sink) (g.S.Sink.bytes c.put_item.new.sink))
          (ap₂ after c.loop-number.invariant.some (c.json_value.ensures
          ∙ ap (json_value c.loop-number.number) c.count_of.ensures)) c.in_ok-any.ensures.bytes);
      faults = search rules;
      first = omega arith;
      end = c.loop-number.invariant.end;
      counts = c.loop-number.invariant.counts;
      within = omega (arith, c.loop-number.invariant.end, c.loop-number-test.true);
    }
