use Rattle.std.proofs.Common.{◌≡◌, ◌∙◌, ◌+◌, Some, ap, rules, sym, true}
use Rattle.input.specs.Games.{has}
use Rattle.input.specs.Kinds.{kind_of}
use Rattle.input.specs.Texts.{after, list_of, with_last_tag}
use Rattle.input.specs.internal.Endings.{told_if}
use Rattle.input.proofs.Rooms.{added}
use Rattle.input.proofs.ScanSteps.{at_such_tag}
use Rattle.input.proofs.records.reading.Reading.take_tag.Goals as goal

pub returns-in-Ok-clause-takes : goal.returns-in-Ok-clause-takes
returns-in-Ok-clause-takes c next =
    let s = c.args.self.now in
    let kind = c.in-Some.kind in
    let is : kind_of s.line.name ≡ Some kind = search rules in
    let such : has kind s.game ≡ true = search rules in
    at_such_tag kind s next _ is such (c.in-Ok.ensures.ends (λ t. next (with_last_tag kind t))
    ∙ ap (λ t. after (list_of (told_if c.in-Ok.ended c.end_game.new.told)) (next t))
    (sym c.add_tag-in-Ok.ensures.value))

pub returns-in-Err-clause-refused : goal.returns-in-Err-clause-refused
returns-in-Err-clause-refused c next =
    let s = c.args.self.now in
    let kind = c.in-Some.kind in
    let is : kind_of s.line.name ≡ Some kind = search rules in
    let such : has kind s.game ≡ true = search rules in
    at_such_tag kind s next _ is such (c.in-Err.ensures.refused (λ t. next (with_last_tag kind t)))

pub returns-in-Ok-clause-room : goal.returns-in-Ok-clause-room
returns-in-Ok-clause-room c n before =
    let room = c.in-Ok.ensures.room n before in
    added c.in-Some.kind c.end_game.new.self c.add_tag-in-Ok.new.self (n + 1) c.add_tag-in-Ok.ensures.value
    (c.add_tag-in-Ok.ensures.number room.number) room
