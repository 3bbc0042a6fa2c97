use Rattle.std.proofs.Common.{◌≡◌, ◌<◌, ◌≤◌, ◌∙◌, ℕ, List, arith, rules, get_or, length, ap, subst, sym, take}
use Rattle.std.proofs.lemmas.List.{take_all}
use Rattle.std.proofs.lemmas.Result.{MatchResult-from_err}
use Rattle.sinks.specs.Appended.{AppendsAll, AppendsPart}
use Rattle.statistics.specs.Answers.{answers_of}
use Rattle.statistics.specs.Counting.{part_of}
use Rattle.statistics.specs.internal.Kept.{CountsOne, KeptOne}
use Rattle.statistics.proofs.Questions.{numbered, numbered-map, parts_broken, parts_more}
use Rattle.statistics.proofs.each.Each.put_parts.Goals as goal

pub returns-in_err-put_part-clause-bytes : goal.returns-in_err-put_part-clause-bytes
returns-in_err-put_part-clause-bytes g c deals h =
    let f : ℕ × KeptOne → List ℕ = λ (p : ℕ × KeptOne). part_of c.args.style deals (p.0, p.1.asked) in
    let ones : List KeptOne = c.args.self.now.ones in
    let one : KeptOne = c.one-item.result in
    let many : length c.deref-one-items.result.now ≡ length ones = ap length c.loop-index.invariant.items in
    let lt : c.loop-index.index < length ones = omega (arith, many, c.loop-index-test.true, c.loop-index.auto.index-end) in
    let is : get_or ones c.loop-index.index one ≡ one = ap (λ (xs : List KeptOne). get_or xs c.loop-index.index one)
    (sym c.loop-index.invariant.items) ∙ sym c.one-item.is in
    let counts : CountsOne one (answers_of one.asked.question deals) =
    subst (λ (o : KeptOne). CountsOne o (answers_of o.asked.question deals)) is (h.ones c.loop-index.index one lt)
    in
    let broken = parts_broken (g.S.Sink.bytes c.args.sink.now) (g.S.Sink.bytes c.loop-index.sink)
    (g.S.Sink.bytes c.put_part.new.sink) f ones c.loop-index.index one lt is
    (c.loop-index.invariant.bytes deals h) (c.in_err-put_part.ensures.bytes (answers_of one.asked.question deals) counts) in
    MatchResult-from_err c.from_residual.result _ _ c.from_residual.ensures.0
    (λ _. subst (AppendsPart (g.S.Sink.bytes c.args.sink.now) (g.S.Sink.bytes c.put_part.new.sink))
    (sym (numbered-map (λ (o : KeptOne). o.asked) (part_of c.args.style deals) 1 ones)) broken)

pub loop-index-preserved : goal.loop-index-preserved
loop-index-preserved g c =
    let ones : List KeptOne = c.args.self.now.ones in
    let one : KeptOne = c.one-item.result in
    let many : length c.deref-one-items.result.now ≡ length ones = ap length c.loop-index.invariant.items in
    let lt : c.loop-index.index < length ones = omega (arith, many, c.loop-index-test.true, c.loop-index.auto.index-end) in
    let is : get_or ones c.loop-index.index one ≡ one = ap (λ (xs : List KeptOne). get_or xs c.loop-index.index one)
    (sym c.loop-index.invariant.items) ∙ sym c.one-item.is in
    record {
      items = c.loop-index.invariant.items;
      bytes = λ deals h.
          let counts : CountsOne one (answers_of one.asked.question deals) =
          subst (λ (o : KeptOne). CountsOne o (answers_of o.asked.question deals)) is
          (h.ones c.loop-index.index one lt) in
          parts_more (g.S.Sink.bytes c.args.sink.now) (g.S.Sink.bytes c.loop-index.sink)
          (g.S.Sink.bytes c.put_part.new.sink) (λ (p : ℕ × KeptOne). part_of c.args.style deals (p.0, p.1.asked))
          ones c.loop-index.index one lt is (c.loop-index.invariant.bytes deals h)
          (c.in_ok-put_part.ensures.bytes (answers_of one.asked.question deals) counts);
      faults = search rules;
      within = omega (arith, lt);
    }

pub returns-clause-bytes : goal.returns-clause-bytes
returns-clause-bytes g c deals h =
    let f : ℕ × KeptOne → List ℕ = λ (p : ℕ × KeptOne). part_of c.args.style deals (p.0, p.1.asked) in
    let ones : List KeptOne = c.args.self.now.ones in
    let many : length c.deref-one-items.result.now ≡ length ones = ap length c.loop-index.invariant.items in
    let all : length ones ≤ c.loop-index.index = omega (arith, many, c.loop-index-test.false, c.loop-index.auto.index-end) in
    subst (AppendsAll (g.S.Sink.bytes c.args.sink.now) (g.S.Sink.bytes c.loop-index.sink))
    (ap (numbered f 1) (take_all c.loop-index.index ones all)
    ∙ sym (numbered-map (λ (o : KeptOne). o.asked) (part_of c.args.style deals) 1 ones))
    (c.loop-index.invariant.bytes deals h)
