-- What is before the first byte of a line.
use Rattle.input.specs.Scans.{LineView}
use Rattle.input.specs.declared.numbers.line.NumberPart.TheVariants.{Blank}

abbrev pub start_of_line : LineView
start_of_line = record { part = Blank; value = 0; digits = 0 }
