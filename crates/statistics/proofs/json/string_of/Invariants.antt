use Rattle.std.proofs.Common.{◌≡◌, ◌≤◌, ◌++◌, codes, length, take}
use Rattle.std.specs.List.{flat_map}
use Rattle.statistics.specs.Json.{string_byte}
use Rattle.statistics.proofs.json.string_of.Given as goal

abbrev pub invariant-loop-byte : goal.invariant-loop-byte
invariant-loop-byte l = record {
  string : l.string.items ≡ codes "\"" ++ flat_map string_byte (take l.byte-index l.text);
  within : l.byte-index ≤ length l.text;
}
