use Rattle.std.proofs.Common.{◌≡◌, ◌≤◌, take, true}
use Rattle.std.specs.List.{list_all}
use Rattle.input.specs.internal.TagTexts.{is_plain}
use Rattle.input.proofs.records.tag.are_surely_plain.Given as goal

abbrev pub invariant-loop-byte : goal.invariant-loop-byte
invariant-loop-byte l = l.last ≤ 60 → list_all is_plain (take l.byte-index l.part) ≡ true
