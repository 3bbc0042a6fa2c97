use Rattle.std.proofs.Common.{sym}
use Rattle.std.specs.Char.{is_ascii_digit}
use Rattle.cond_lang.proofs.Runs.{run_all}
use Rattle.cond_lang.proofs.Symbols.{symbol_len}
use Rattle.cond_lang.proofs.scanner.first_piece.Goals as goal

pub number_piece-requires : goal.number_piece-requires
number_piece-requires c = rw c.digit_run_len-count.ensures.value (run_all is_ascii_digit c.args.text.now)

pub returns-in-Some-clause-some : goal.returns-in-Some-clause-some
returns-in-Some-clause-some c = (symbol_len c.args.text.now (c.in-Some.token, c.in-Some.count) (sym c.in-Some.ensures)).0

pub returns-in-Some-clause-within : goal.returns-in-Some-clause-within
returns-in-Some-clause-within c = (symbol_len c.args.text.now (c.in-Some.token, c.in-Some.count) (sym c.in-Some.ensures)).1
