use Rattle.std.proofs.Common.{◌≡◌, ◌++◌, map, string_bytes, take}
use Rattle.sinks.specs.Shown.{shown}
use Rattle.sinks.proofs.shown.put_shown.Given as goal

abbrev pub invariant-loop-byte : goal.invariant-loop-byte
invariant-loop-byte l =
    string_bytes l.out ≡ string_bytes l.initial.out ++ map shown (take l.byte-index l.bytes)
