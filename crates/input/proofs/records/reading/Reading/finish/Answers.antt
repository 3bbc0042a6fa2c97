use Rattle.std.proofs.Common.{◌≡◌, false, rules}
use Rattle.input.specs.Places.{is_in_tag}
use Rattle.input.proofs.ScanSteps.{at_end, after_all}
use Rattle.input.proofs.records.reading.Reading.finish.Goals as goal

pub returns-clause-ends : goal.returns-clause-ends
returns-clause-ends c =
    let s = c.args.self.now in
    let off : is_in_tag s.line.part ≡ false = search rules in
    after_all s c.end_game.new.self c.end_game.new.told c.end_game.result off c.end_game.ensures.ends

pub returns-clause-refused : goal.returns-clause-refused
returns-clause-refused c =
    let s = c.args.self.now in
    let off : is_in_tag s.line.part ≡ false = search rules in
    at_end s c.end_game.result off c.end_game.ensures.refused
