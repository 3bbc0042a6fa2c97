use Rattle.input.proofs.ReadBack.{read_back}
use Rattle.input.proofs.numbers.laws.decimal_lines_are_read_back.Goals as goal

pub returns : goal.returns
returns c numbers all room = read_back numbers all room
