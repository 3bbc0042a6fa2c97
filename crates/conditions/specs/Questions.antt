-- A question about a deal: whether a condition holds, or what number a value is.
use Rattle.std.specs.Prelude.{ℕ, ◌+◌, ◌*◌, ◌≤◌, Bool, true, false, cond, List}
use Rattle.cards.specs.declared.seat.Seat.{Seat}
use Rattle.conditions.specs.declared.limits.TheConstants.{MOST_PARTS}
use Rattle.conditions.specs.Bounds.{greatest_of}
use Rattle.conditions.specs.Form.{Amount, Form}
use Rattle.conditions.specs.Limits.{AddsNumbersUpTo, IsWithinLimits, atoms_of, parts_of}
use Rattle.conditions.specs.Meaning.{holds, value_in}

pub data Question : Type 0 where
  asks_condition : Form → Question
  asks_value : Amount → Question

abbrev pub is_condition : Question → Bool
is_condition (asks_condition tree) = true
is_condition (asks_value value) = false

-- the answer of a deal: of a condition 1 if it holds and 0 if it doesn't, of a value its number
abbrev pub answer : Question → List Seat → ℕ
answer (asks_condition tree) deal = cond (holds tree deal) 1 0
answer (asks_value value) deal = value_in deal value

-- the parts of a question
abbrev pub parts_asked : Question → ℕ
parts_asked (asks_condition tree) = parts_of tree
parts_asked (asks_value value) = atoms_of value

-- the greatest answer that a deal can give
abbrev pub greatest_answer : Question → ℕ
greatest_answer (asks_condition tree) = 1
greatest_answer (asks_value value) = greatest_of value

-- no question has a greater answer: a value adds up 16,384 numbers of at most 9,999, or that many
-- times counts of at most 40
abbrev pub most_answer : ℕ
most_answer = MOST_PARTS * (9999 * 40)

-- how many rows a table of the answers can have, that of the answer 0 included
abbrev pub rows_of : Question → ℕ
rows_of question = greatest_answer question + 1

-- the limits of a value: at most 16,384 atoms, and each number at most 9,999
pub record IsSmall (value : Amount) : Type 0 where
  pub few : atoms_of value ≤ MOST_PARTS
  pub small : AddsNumbersUpTo 9999 value

-- the limits of a question
abbrev pub IsAskable : Question → Type 0
IsAskable (asks_condition tree) = IsWithinLimits tree
IsAskable (asks_value value) = IsSmall value
