-- How far a text was scanned.
use Rattle.std.specs.Prelude.{◌≡◌, ℕ, ◌+◌, ◌||◌, Bool, not, length, nat_lt}
use Rattle.std.specs.Prelude.{List, [], ◌∷◌, ◌++◌, Option, None, Some, Result, Err}
use Rattle.std.specs.Prelude.{if◌then◌else◌}
use Rattle.std.specs.Str.Parse.{digits_value_after}
use Rattle.input.specs.NumberTexts.{Said, are_digits, ended, first_line}
use Rattle.input.specs.NumberTexts.{later_lines, line_says}
use Rattle.input.specs.NumberTexts.{lines_say, number_in, said, with_lf, with_line}
use Rattle.input.specs.NumberTexts.{without_last_blanks}
use Rattle.input.specs.declared.numbers.line.NumberPart.{NumberPart}
use Rattle.input.specs.declared.numbers.line.NumberPart.TheVariants.{Blank, Digits, Over}
use Rattle.input.specs.declared.refused_line.LineFault.{LineFault}
use Rattle.input.specs.declared.refused_line.LineFault.TheVariants.{NotANumber}

-- how far a line was read: this many digits, and the number that they write
pub record LineView : Type 0 where
  pub part : NumberPart
  pub value : ℕ
  pub digits : ℕ

-- what a line says that goes on with these bytes, after digits and after a number
abbrev pub digits_and : ℕ → ℕ → List ℕ → Result (Option ℕ) LineFault
digits_and value count ds =
    if not (are_digits ds) || nat_lt 13 (count + length ds) then Err NotANumber
    else number_in (digits_value_after 10 value ds)

abbrev pub number_and : ℕ → List ℕ → Result (Option ℕ) LineFault
number_and value [] = number_in value
number_and value (b ∷ bs) = Err NotANumber

abbrev pub goes_on : NumberPart → ℕ → ℕ → List ℕ → Result (Option ℕ) LineFault
goes_on Blank value digits rest = line_says rest
goes_on Digits value digits rest = digits_and value digits (without_last_blanks rest)
goes_on Over value digits rest = number_and value (without_last_blanks rest)

abbrev pub line_from : LineView → List ℕ → Result (Option ℕ) LineFault
line_from line rest = goes_on line.part line.value line.digits rest

-- how far a text was scanned: its line, whether a CR came last, and how many lines and numbers
-- there were
pub record ScannerView : Type 0 where
  pub line : LineView
  pub after_cr : Bool
  pub lines : ℕ
  pub numbers : ℕ

-- what a text says from there on, if it goes on so
abbrev pub said_in : ScannerView → List ℕ → Said
said_in s rest =
    with_line s.lines s.numbers (line_from s.line (first_line rest))
    (λ n. lines_say (s.lines + 1) n (later_lines rest))

abbrev pub said_from : ScannerView → List ℕ → Said
said_from s rest = said_in s (with_lf (if s.after_cr then 13 ∷ rest else rest))

-- these numbers, and then those
abbrev pub after : List ℕ → Said → Said
after numbers later = record { numbers = numbers ++ later.numbers; refused = later.refused }

abbrev pub list_of : Option ℕ → List ℕ
list_of None = []
list_of (Some n) = n ∷ []

-- this text was scanned: its ended lines say these numbers, and nothing is refused so far
pub record HasScanned (s : ScannerView) (text numbers : List ℕ) : Type 0 where
  pub goes_on_so : (rest : List ℕ) → said (text ++ rest) ≡ after numbers (said_from s rest)
  pub are_ended : said (ended text) ≡ record { numbers = numbers; refused = None }
  pub count : s.numbers ≡ length numbers
