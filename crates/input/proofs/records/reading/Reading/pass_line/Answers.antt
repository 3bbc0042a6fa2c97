use Rattle.std.proofs.Common.{◌≡◌, [], Some, ap, arith, false, rules}
use Rattle.std.specs.Prelude.{None}
use Rattle.input.specs.Games.{has}
use Rattle.input.specs.declared.records.game.Game.{Game}
use Rattle.input.specs.declared.records.reading.Reading.{Reading}
use Rattle.input.proofs.ScanSteps.{line_with, other_line}
use Rattle.input.proofs.records.reading.Reading.pass_line.Goals as goal

pub returns-in_default-clause-passed : goal.returns-in_default-clause-passed
returns-in_default-clause-passed c passed name next =
    let is : c.args.kind ≡ None = search rules in
    other_line c.args.self.now c.leave_tag.new.self c.args.kind name c.args.value.now next is (c.leave_tag.ensures name c.args.value.now)

pub returns-in_default-clause-room : goal.returns-in_default-clause-room
returns-in_default-clause-room c n before =
    rw (c.leave_tag.ensures [] []) (record { lines = omega (arith, before.lines); last = omega (arith, before.last); number = before.number })

pub returns-clause-passed : goal.returns-clause-passed
returns-clause-passed c passed name next =
    let s = c.args.self.now in
    let with_game : Game → Reading = λ g. record s { game = g } in
    let is : c.args.kind ≡ Some c.in-Some.kind = search rules in
    let free : has c.in-Some.kind s.game ≡ false = search rules in
    line_with c.in-Some.kind s (with_game c.add_tag.new.self) c.leave_tag-2.new.self c.args.kind name c.args.value.now
    next is free (ap with_game c.add_tag.ensures.value) (c.leave_tag-2.ensures name c.args.value.now)

pub returns-clause-room : goal.returns-clause-room
returns-clause-room c n before =
    rw (c.leave_tag-2.ensures [] []) (record {
      lines = omega (arith, before.lines);
      last = omega (arith, before.last);
      number = c.add_tag.ensures.most before.number;
    })
