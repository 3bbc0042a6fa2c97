use Rattle.std.proofs.Common.{◌≡◌, take, true}
use Rattle.std.specs.List.{list_all}
use Rattle.input.specs.Places.{is_name_byte}
use Rattle.input.proofs.records.tag.name_length.Given as goal

abbrev pub invariant-loop-i : goal.invariant-loop-i
invariant-loop-i l = list_all is_name_byte (take l.i l.text) ≡ true
