use Rattle.statistics.proofs.AddingTwo.{cells_of_column, cells_of_row}
use Rattle.statistics.proofs.laws.cells_sum_to_all.Goals as goal

pub returns-clause-row : goal.returns-clause-row
returns-clause-row c of by deals n = cells_of_row of by deals n

pub returns-clause-column : goal.returns-clause-column
returns-clause-column c of by deals m = cells_of_column of by deals m
