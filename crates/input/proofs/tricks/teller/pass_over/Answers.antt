use Rattle.std.proofs.Common.{◌≡◌, rules, arith}
use Rattle.input.specs.declared.tricks.line.LineEnd.TheVariants.{Nothing}
use Rattle.input.proofs.TellSteps.{empty_line, more_line, nothing_left, over_failed}
use Rattle.input.proofs.tricks.teller.pass_over.Goals as goal

pub returns-in_default-clause-ends : goal.returns-in_default-clause-ends
returns-in_default-clause-ends g c w plan numbers before base now h =
    let fails = rw c.in_default.is at c.read_line.ensures.failed in
    over_failed w plan numbers c.read_line.new.line.items c.loop-turn.before before
    (g.I.Source.rest c.loop-turn.input) (g.I.Source.rest c.read_line.new.input) base now
    fails (c.loop-turn.invariant.told w plan numbers before base now h)

pub returns-then-is_nothing-clause-ends : goal.returns-then-is_nothing-clause-ends
returns-then-is_nothing-clause-ends g c w plan numbers before base now h =
    let none : c.in-Ok.end ≡ Nothing = c.is_nothing.ensures.yes c.if-is_nothing.true in
    let read = rw none at c.in-Ok.ensures.reads in (
      c.loop-turn.before,
      nothing_left w plan numbers c.read_line.new.line.items c.loop-turn.before before
          (g.I.Source.rest c.loop-turn.input) (g.I.Source.rest c.read_line.new.input) base now
          read (c.loop-turn.invariant.told w plan numbers before base now h),
    )

pub returns-then-not-is_empty_line-clause-ends : goal.returns-then-not-is_empty_line-clause-ends
returns-then-not-is_empty_line-clause-ends g c w plan numbers before base now h =
    let other = c.is_nothing.ensures.other c.if-is_nothing.false in
    let more = rw c.as_slice.ensures.value at (c.is_empty_line.ensures.more c.if-not-is_empty_line.true) in
    rw c.refused.ensures (more_line w plan numbers c.read_line.new.line.items c.loop-turn.before before
    (g.I.Source.rest c.loop-turn.input) (g.I.Source.rest c.read_line.new.input) base now
    c.in-Ok.end c.in-Ok.ensures.reads other more (c.loop-turn.invariant.told w plan numbers before base now h))

pub loop-turn-preserved : goal.loop-turn-preserved
loop-turn-preserved g c =
    let empty = c.is_empty_line.ensures.empty c.if-not-is_empty_line.false in
    let none = rw c.as_slice.ensures.value at empty.1 in
    let read = rw empty.0 at c.in-Ok.ensures.reads in
    let on = rw empty.0 at c.in-Ok.ensures.advances in
    let turn = c.loop-turn.invariant.turn in
    record {
      lines = search rules;
      turn = omega (arith, on.0, turn);
      few = omega (arith, on.0, on.1, turn);
      told = λ w plan numbers before base now h. empty_line w plan numbers c.read_line.new.line.items
          c.loop-turn.before before (g.I.Source.rest c.loop-turn.input) (g.I.Source.rest c.read_line.new.input) base
          now
          read.0 read.1 none (c.loop-turn.invariant.told w plan numbers before base now h);
      faults = search rules;
    }
