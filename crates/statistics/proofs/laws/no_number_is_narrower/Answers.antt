use Rattle.statistics.proofs.Widths.{commas_wide}
use Rattle.statistics.proofs.laws.no_number_is_narrower.Goals as goal

pub returns : goal.returns
returns c = commas_wide
