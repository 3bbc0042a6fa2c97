use Rattle.std.proofs.Common.{◌≡◌, ◌+◌, drop}
use Rattle.cond_lang.specs.Cut.{is_in_comment}
use Rattle.cond_lang.specs.Runs.{run}
use Rattle.cond_lang.proofs.scanner.comment_len.Given as goal

abbrev pub invariant-loop-i : goal.invariant-loop-i
invariant-loop-i l = run is_in_comment l.text ≡ l.i + run is_in_comment (drop l.i l.text)
