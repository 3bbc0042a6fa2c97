use Rattle.std.proofs.Common.{◌≡◌, ◌+◌, drop}
use Rattle.std.specs.Char.{is_ascii_digit}
use Rattle.cond_lang.specs.Runs.{run}
use Rattle.cond_lang.proofs.scanner.digit_run_len.Given as goal

abbrev pub invariant-loop-i : goal.invariant-loop-i
invariant-loop-i l = run is_ascii_digit l.text ≡ l.i + run is_ascii_digit (drop l.i l.text)
