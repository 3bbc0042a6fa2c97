use Rattle.std.proofs.Common.{◌≡◌, ◌∙◌, ap, arith, false, rules, sym, true}
use Rattle.input.specs.Places.{is_empty, is_in_tag}
use Rattle.input.specs.Texts.{after, after_line, list_of}
use Rattle.input.specs.internal.Endings.{told_if}
use Rattle.input.proofs.ScanSteps.{at_empty_line}
use Rattle.input.proofs.records.reading.Reading.end_line.Goals as goal

pub returns-in-Ok-clause-ends : goal.returns-in-Ok-clause-ends
returns-in-Ok-clause-ends c next =
    let s = c.args.self.now in
    let off : is_in_tag s.line.part ≡ false = search rules in
    let empty : is_empty s.line ≡ true = search rules in
    at_empty_line s next _ off empty (c.in-Ok.ensures.ends (λ t. next (after_line t))
    ∙ ap (λ t. after (list_of (told_if c.in-Ok.ended c.end_game.new.told)) (next t))
    (sym c.leave_line-in-Ok.ensures))

pub returns-in-Ok-clause-room : goal.returns-in-Ok-clause-room
returns-in-Ok-clause-room c n before =
    let room = c.in-Ok.ensures.room n before in
    rw c.leave_line-in-Ok.ensures (record { lines = omega (arith, c.in-Ok.ensures.lines, before.lines); last = room.last; number = room.number })

pub returns-in-Err-clause-refused : goal.returns-in-Err-clause-refused
returns-in-Err-clause-refused c next =
    let s = c.args.self.now in
    let off : is_in_tag s.line.part ≡ false = search rules in
    let empty : is_empty s.line ≡ true = search rules in
    at_empty_line s next _ off empty (c.in-Err.ensures.refused (λ t. next (after_line t)))
