use Rattle.std.proofs.Common.{◌≡◌, ◌∙◌, ◌<◌, ◌+◌, ◌^◌, ◌∷◌, [], length, refl, sym, ap, subst, rules, arith}
use Rattle.std.proofs.lemmas.List.Elements.{All-tail}
use Rattle.notations.specs.Formats.{header_with_tricks, layout_in}
use Rattle.boards.specs.Plans.{candidate_of}
use Rattle.boards.specs.Text.{board_of}
use Rattle.input.specs.Told.{Tells, Written, text_tells, written_by}
use Rattle.input.specs.declared.tricks.line.LineEnd.TheVariants.{Last}
use Rattle.input.specs.internal.Telling.{ToldFrom, ToldLast}
use Rattle.input.proofs.TellSteps.{any_lines, goes_on_told, header_broken, none_if, nothing_told}
use Rattle.input.proofs.tricks.teller.tell.Goals as goal

pub returns-in-Err-clause-tells : goal.returns-in-Err-clause-tells
returns-in-Err-clause-tells g c =
    let p = c.args.printer.now in
    let header : (layout_in p.format p.show p.heading p.tricks).header ≡ header_with_tricks p.format p.heading = rw c.requires.ready refl in
    let part = rw header at (rw c.header.ensures at c.in-Err.ensures.bytes) in
    header_broken (written_by p) (text_tells c.args.plan.now c.args.numbers.now) (g.I.Source.rest c.args.input.now)
    (g.S.Sink.bytes c.args.sink.now) (g.S.Sink.bytes c.put_all.new.sink) part

pub loop-number-init : goal.loop-number-init
loop-number-init g c =
    let p = c.args.printer.now in
    let header : (layout_in p.format p.show p.heading p.tricks).header ≡ header_with_tricks p.format p.heading = rw c.requires.ready refl in
    let put = rw header at (rw c.header.ensures at c.in-Ok.ensures.bytes) in
    record {
      ready = c.requires.ready;
      same = refl;
      count = omega arith;
      below = c.requires.below;
      told = nothing_told (written_by p) c.args.plan.now c.args.numbers.now (g.I.Source.rest c.args.input.now)
          (g.S.Sink.bytes c.args.sink.now) (g.S.Sink.bytes c.put_all.new.sink) put;
      faults = search rules;
      input = refl;
    }

pub returns-in-Ok-tell_board-clause-tells : goal.returns-in-Ok-tell_board-clause-tells
returns-in-Ok-tell_board-clause-tells g c =
    let plan = c.args.plan.now in
    let numbers = c.args.numbers.now in
    let k = c.in-Some.number.now in
    let others = c.in-Some.others.now in
    let lines = c.loop-number.lines in
    let start = g.I.Source.rest c.args.input.now in
    let base = g.S.Sink.bytes c.args.sink.now in
    let W = written_by c.loop-number.printer in
    let cut : c.loop-number.rest.now ≡ k ∷ others = search rules in
    let is : c.board_after-board.result ≡ board_of plan lines k (candidate_of plan k) = search rules in
    let so_far : ToldFrom W plan numbers lines (k ∷ others) start (g.I.Source.rest c.loop-number.input) base (g.S.Sink.bytes c.watch.new.self) =
    rw (c.loop-number.invariant.same, ← cut, c.watch.ensures.bytes) c.loop-number.invariant.told in
    let last : c.in-Ok-tell_board.end ≡ Last = c.is_last.ensures.yes c.if-is_last.true in
    let told = c.in-Ok-tell_board.ensures.takes plan k is numbers others start base so_far in
    let at_last : ToldLast W plan numbers (lines + 1) others start (g.I.Source.rest c.tell_board.new.input) base
    (g.S.Sink.bytes c.tell_board.new.sink) = rw last at told in
    let w_last = subst (λ (w : Written). ToldLast w plan numbers (lines + 1) others start
    (g.I.Source.rest c.tell_board.new.input) base (g.S.Sink.bytes c.tell_board.new.sink))
    (sym c.tell_board.ensures.same) at_last in
    let tells = c.end_last.ensures.ends plan numbers others start (g.I.Source.rest c.tell_board.new.input) base (search rules) w_last in
    subst (λ (w : Written). Tells w plan numbers c.end_last.result start (g.I.Source.rest c.tell_board.new.input) base
    (g.S.Sink.bytes c.end_last.new.sink)) (c.tell_board.ensures.same ∙ c.loop-number.invariant.same) tells

pub returns-in-Ok-tell_board-clause-input : goal.returns-in-Ok-tell_board-clause-input
returns-in-Ok-tell_board-clause-input g c =
    rw (c.in-Ok-tell_board.ensures.input, c.loop-number.invariant.input) (c.end_last.ensures.input (g.I.Source.faults c.args.input.now))

pub returns-in-Err-tell_board-clause-tells : goal.returns-in-Err-tell_board-clause-tells
returns-in-Err-tell_board-clause-tells g c =
    let plan = c.args.plan.now in
    let numbers = c.args.numbers.now in
    let k = c.in-Some.number.now in
    let others = c.in-Some.others.now in
    let lines = c.loop-number.lines in
    let start = g.I.Source.rest c.args.input.now in
    let base = g.S.Sink.bytes c.args.sink.now in
    let W = written_by c.loop-number.printer in
    let cut : c.loop-number.rest.now ≡ k ∷ others = search rules in
    let is : c.board_after-board.result ≡ board_of plan lines k (candidate_of plan k) = search rules in
    let so_far : ToldFrom W plan numbers lines (k ∷ others) start (g.I.Source.rest c.loop-number.input) base (g.S.Sink.bytes c.watch.new.self) =
    rw (c.loop-number.invariant.same, ← cut, c.watch.ensures.bytes) c.loop-number.invariant.told in
    rw (← c.loop-number.invariant.same) (c.in-Err-tell_board.ensures.takes plan k is numbers others start base so_far)

pub loop-number-preserved : goal.loop-number-preserved
loop-number-preserved g c =
    let plan = c.args.plan.now in
    let numbers = c.args.numbers.now in
    let k = c.in-Some.number.now in
    let others = c.in-Some.others.now in
    let lines = c.loop-number.lines in
    let start = g.I.Source.rest c.args.input.now in
    let base = g.S.Sink.bytes c.args.sink.now in
    let W = written_by c.loop-number.printer in
    let cut : c.loop-number.rest.now ≡ k ∷ others = search rules in
    let is : c.board_after-board.result ≡ board_of plan lines k (candidate_of plan k) = search rules in
    let so_far : ToldFrom W plan numbers lines (k ∷ others) start (g.I.Source.rest c.loop-number.input) base (g.S.Sink.bytes c.watch.new.self) =
    rw (c.loop-number.invariant.same, ← cut, c.watch.ensures.bytes) c.loop-number.invariant.told in
    let other = c.is_last.ensures.other c.if-is_last.false in
    let told = c.in-Ok-tell_board.ensures.takes plan k is numbers others start base so_far in
    let count = c.loop-number.invariant.count in
    let len = ap length cut in
    let below = rw cut at c.loop-number.invariant.below in
    record {
      ready = c.tell_board.ensures.ready;
      same = c.tell_board.ensures.same ∙ c.loop-number.invariant.same;
      count = omega (arith, count, len);
      below = All-tail (λ k. k < 2 ^ 40) k others below;
      told = rw (← c.loop-number.invariant.same) (goes_on_told W plan numbers others lines c.in-Ok-tell_board.end
          start (g.I.Source.rest c.tell_board.new.input) base (g.S.Sink.bytes c.tell_board.new.sink) other told);
      faults = search rules;
      input = search rules;
    }

pub returns-in-Ok-pass_over-clause-tells : goal.returns-in-Ok-pass_over-clause-tells
returns-in-Ok-pass_over-clause-tells g c =
    let plan = c.args.plan.now in
    let numbers = c.args.numbers.now in
    let lines = c.loop-number.lines in
    let start = g.I.Source.rest c.args.input.now in
    let base = g.S.Sink.bytes c.args.sink.now in
    let W = written_by c.loop-number.printer in
    let none : c.loop-number.rest.now ≡ [] = none_if c.loop-number.rest.now c.in_default.ensures.variant.1 in
    let so_far : ToldFrom W plan numbers lines [] start (g.I.Source.rest c.loop-number.input) base (g.S.Sink.bytes c.watch-2.new.self) =
    rw (c.loop-number.invariant.same, ← none, c.watch-2.ensures.bytes) c.loop-number.invariant.told in
    let passed = c.in-Ok-pass_over.ensures.ends W plan numbers start base (g.S.Sink.bytes c.watch-2.new.self) so_far in
    rw (← c.loop-number.invariant.same) (c.end_last-in-Ok-pass_over.ensures.ends plan numbers [] start
    (g.I.Source.rest c.pass_over.new.input) base refl (any_lines W plan numbers passed.0 lines start
    (g.I.Source.rest c.pass_over.new.input) base (g.S.Sink.bytes c.watch-2.new.self) passed.1))

pub returns-in-Ok-pass_over-clause-input : goal.returns-in-Ok-pass_over-clause-input
returns-in-Ok-pass_over-clause-input g c =
    rw (c.in-Ok-pass_over.ensures.input, c.loop-number.invariant.input)
    (c.end_last-in-Ok-pass_over.ensures.input (g.I.Source.faults c.args.input.now))
