use Rattle.std.proofs.Common.{◌≡◌, length, drop}
use Rattle.std.specs.List.{list_all}
use Rattle.std.specs.Str.{chars}
use Rattle.boards.specs.Captions.{is_printable}
use Rattle.boards.proofs.caption.are_printable.Given as goal

abbrev pub invariant-loop-letter : goal.invariant-loop-letter
invariant-loop-letter l =
    list_all is_printable (drop (length l.yielded) (chars l.text)) ≡ list_all is_printable (chars l.text)
