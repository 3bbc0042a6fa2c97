use Rattle.std.proofs.Common.{◌≡◌, ◌∙◌, rules, sym, ap}
use Rattle.std.proofs.lemmas.Result.{MatchResult-from_err}
use Rattle.lcg48.specs.Sequence.{step, value_of}
use Rattle.dealrun.specs.Values.{line}
use Rattle.sinks.specs.Appended.{append_known}
use Rattle.sinks.proofs.SinkLemmas.{append_known-nil}
use Rattle.dealrun.proofs.ValueLemmas.{lines-none, lines_appended, next_line, part_of_lines, state-more, state-none}
use Rattle.dealrun.proofs.values.stream.Goals as goal

pub loop-init : goal.loop-init
loop-init g c = record {
  state = state-none c.args.seed c.seeded-generator.result c.seeded-generator.ensures;
  bytes = sym (append_known-nil (g.S.Sink.bytes c.args.sink.now)) ∙ ap (append_known (g.S.Sink.bytes c.args.sink.now)) (sym (lines-none c.args.seed));
  faults = search rules;
}

pub returns-in_err-put_all-clause-bytes : goal.returns-in_err-put_all-clause-bytes
returns-in_err-put_all-clause-bytes g c =
    let state = c.nrand.ensures.stepped ∙ ap step c.loop.invariant.state in
    let text : c.as_slice.result.now ≡ next_line c.args.seed c.loop.counter =
    c.as_slice.ensures.value ∙ (c.line_of.ensures ∙ ap line (c.nrand.ensures.value ∙ ap value_of state)) in
    let part = part_of_lines c.args.seed c.loop.counter c.args.count c.as_slice.result.now c.loop-test.true text
    c.loop.invariant.bytes c.in_err-put_all.ensures.bytes in
    MatchResult-from_err c.from_residual.result _ _ c.from_residual.ensures.0 (λ _. part)

pub loop-preserved : goal.loop-preserved
loop-preserved g c =
    let state = c.nrand.ensures.stepped ∙ ap step c.loop.invariant.state in
    let text : c.as_slice.result.now ≡ next_line c.args.seed c.loop.counter =
    c.as_slice.ensures.value ∙ (c.line_of.ensures ∙ ap line (c.nrand.ensures.value ∙ ap value_of state)) in
    record {
      state = state ∙ sym (state-more c.args.seed c.loop.counter);
      bytes = lines_appended (g.S.Sink.bytes c.args.sink.now) (g.S.Sink.bytes c.loop.sink)
          (g.S.Sink.bytes c.put_all.new.sink) c.args.seed c.loop.counter c.as_slice.result.now text
          c.loop.invariant.bytes c.in_ok-put_all.ensures.bytes;
      faults = search rules;
    }
