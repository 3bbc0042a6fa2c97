-- What is told of some answers: how often a number is among them, which ones came, and their mean.
use Rattle.std.specs.Prelude.{ℕ, ◌+◌, ◌-◌, ◌*◌, ◌==◌, Bool, List, [], ◌∷◌, count_by}
use Rattle.std.specs.Prelude.{fold, if◌then◌else◌, map, max, min}
use Rattle.std.specs.List.{range_with_len, sum_by}
use Rattle.cards.specs.declared.seat.Seat.{Seat}
use Rattle.conditions.specs.Questions.{Question, answer}

-- the answers of these deals to a question
abbrev pub answers_of : Question → List (List Seat) → List ℕ
answers_of question deals = map (answer question) deals

-- how often n is among the answers
abbrev pub count_of : ℕ → List ℕ → ℕ
count_of n answers = count_by (λ a. a == n) answers

-- the least and the greatest of the answers, of which there are some
abbrev pub least_of : List ℕ → ℕ
least_of [] = 0
least_of (a ∷ answers) = fold min a answers

abbrev pub greatest_of : List ℕ → ℕ
greatest_of answers = fold max 0 answers

-- the numbers that have a row: of a condition `no` and `yes`, of a value those from the least to
-- the greatest that came
abbrev pub rows : Bool → List ℕ → List ℕ
rows is_condition answers =
    if is_condition then range_with_len 0 2
    else range_with_len (least_of answers) (greatest_of answers + 1 - least_of answers)

-- how many deals the longest of some rows has
abbrev pub most_in : List ℕ → List ℕ → ℕ
most_in numbers answers = fold max 0 (map (λ n. count_of n answers) numbers)

-- the sum of the squares
abbrev pub squares : List ℕ → ℕ
squares answers = sum_by (λ a. a * a) answers
