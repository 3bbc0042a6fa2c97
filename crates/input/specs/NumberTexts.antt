-- What a text of numbers says: a number a line, each below 2^40, and at most 2^40 of them.
use Rattle.std.specs.Prelude.{ℕ, ◌+◌, ◌^◌, ◌==◌, ◌||◌, ◌&&◌, Bool, true, false, not, length, nat_lt}
use Rattle.std.specs.Prelude.{List, [], ◌∷◌, Option, None, Some, Result, Ok, Err}
use Rattle.std.specs.Prelude.{if◌then◌else◌}
use Rattle.std.specs.Char.{is_ascii_digit}
use Rattle.std.specs.Str.Parse.{digits_value}
use Rattle.input.specs.declared.refused_line.LineFault.{LineFault}
use Rattle.input.specs.declared.refused_line.LineFault.TheVariants.{NotANumber, NotBelow, TooMany}
use Rattle.input.specs.declared.refused_line.RefusedLine.{RefusedLine}

-- ---- lines

abbrev pub starts_with_lf : List ℕ → Bool
starts_with_lf [] = false
starts_with_lf (b ∷ bs) = b == 10

-- the text with LF for each CR LF
abbrev pub with_lf : List ℕ → List ℕ
with_lf [] = []
with_lf (b ∷ bs) = if b == 13 && starts_with_lf bs then with_lf bs else b ∷ with_lf bs

-- what is before the first LF, and the lines after it: a last one may be without LF
abbrev pub first_line : List ℕ → List ℕ
first_line [] = []
first_line (b ∷ bs) = if b == 10 then [] else b ∷ first_line bs

abbrev pub later_lines : List ℕ → List (List ℕ)
later_lines [] = []
later_lines (b ∷ bs) = if b == 10 then first_line bs ∷ later_lines bs else later_lines bs

abbrev pub lines_of : List ℕ → List (List ℕ)
lines_of text = first_line (with_lf text) ∷ later_lines (with_lf text)

-- the text up to its last LF: what its ended lines are read from
abbrev pub has_lf : List ℕ → Bool
has_lf [] = false
has_lf (b ∷ bs) = b == 10 || has_lf bs

abbrev pub ended : List ℕ → List ℕ
ended [] = []
ended (b ∷ bs) = if has_lf (b ∷ bs) then b ∷ ended bs else []

-- ---- a line

-- a space or a tab
abbrev pub is_blank : ℕ → Bool
is_blank b = b == 32 || b == 9

-- without the spaces and tabs in front, and without those at the end
abbrev pub without_first_blanks : List ℕ → List ℕ
without_first_blanks [] = []
without_first_blanks (b ∷ bs) = if is_blank b then without_first_blanks bs else b ∷ bs

abbrev pub unless_blank : ℕ → List ℕ → List ℕ
unless_blank b [] = if is_blank b then [] else b ∷ []
unless_blank b (c ∷ cs) = b ∷ c ∷ cs

abbrev pub without_last_blanks : List ℕ → List ℕ
without_last_blanks [] = []
without_last_blanks (b ∷ bs) = unless_blank b (without_last_blanks bs)

abbrev pub are_digits : List ℕ → Bool
are_digits [] = true
are_digits (b ∷ bs) = is_ascii_digit b && are_digits bs

-- a number is below 2^40
abbrev pub number_in : ℕ → Result (Option ℕ) LineFault
number_in n = if nat_lt n (2 ^ 40) then Ok (Some n) else Err NotBelow

-- and is written in 1 to 13 digits; where nothing is there is none
abbrev pub number_of : List ℕ → Result (Option ℕ) LineFault
number_of [] = Ok None
number_of (d ∷ ds) =
    if not (are_digits (d ∷ ds)) || nat_lt 13 (length (d ∷ ds)) then Err NotANumber
    else number_in (digits_value 10 (d ∷ ds))

-- what a line says: a number, nothing, or what is wrong with it
abbrev pub line_says : List ℕ → Result (Option ℕ) LineFault
line_says line = number_of (without_last_blanks (without_first_blanks line))

-- ---- a text

-- the numbers of the lines up to the first that is refused, and that one, if there is one
pub record Said : Type 0 where
  pub numbers : List ℕ
  pub refused : Option RefusedLine

-- the line after this many lines is refused
abbrev pub refused_after : ℕ → LineFault → Said
refused_after lines fault = record {
  numbers = [];
  refused = Some (record { line = lines + 1; fault = fault });
}

abbrev pub with_number : ℕ → Said → Said
with_number n later = record { numbers = n ∷ later.numbers; refused = later.refused }

-- a line that says this, after this many lines with this many numbers; and what the lines after it
-- say, by how many numbers come before those
abbrev pub with_line : ℕ → ℕ → Result (Option ℕ) LineFault → (ℕ → Said) → Said
with_line lines count (Err fault) later = refused_after lines fault
with_line lines count (Ok None) later = later count
with_line lines count (Ok (Some n)) later =
    if count == 2 ^ 40 then refused_after lines TooMany else with_number n (later (count + 1))

abbrev pub lines_say : ℕ → ℕ → List (List ℕ) → Said
lines_say lines count [] = record { numbers = []; refused = None }
lines_say lines count (l ∷ ls) =
    with_line lines count (line_says l) (λ n. lines_say (lines + 1) n ls)

-- what a text says
unfoldable pub said : List ℕ → Said
said text = lines_say 0 0 (lines_of text)
