-- What a counter keeps of the deals that it was given.
use Rattle.std.specs.Prelude.{◌≡◌, ◌≤◌, ◌<◌, ◌+◌, ◌*◌, ◌^◌, ◌==◌, ℕ, List, length, max, min}
use Rattle.std.specs.Prelude.{All, [], ◌∷◌, ◌++◌, if◌then◌else◌, map, slice_index, slice_set, sum}
use Rattle.cards.specs.declared.seat.Seat.{Seat}
use Rattle.conditions.specs.Questions.{rows_of}
use Rattle.statistics.specs.declared.sums.Sums.{Sums}
use Rattle.statistics.specs.Answers.{answers_of, count_of, greatest_of, least_of, squares}
use Rattle.statistics.specs.Counting.{TitledQuestion, most_counted, most_deals}
use Rattle.statistics.specs.TwoQuestions.{Pairs, cell, in_column, of_columns, of_rows}

-- the sums of some answers
abbrev pub sums_of : List ℕ → Sums
sums_of answers = record {
  deals = length answers;
  sum = sum answers;
  squares = squares answers;
  least = least_of answers;
  greatest = greatest_of answers;
}

-- and those of one answer more
abbrev pub with_one : Sums → ℕ → Sums
with_one sums answer = record {
  deals = sums.deals + 1;
  sum = sums.sum + answer;
  squares = sums.squares + answer * answer;
  least = if sums.deals == 0 then answer else min sums.least answer;
  greatest = max sums.greatest answer;
}

-- the square of an answer that is counted is at most that
abbrev pub most_squared : ℕ
most_squared = 2 ^ 40

-- the sums are those of few and small answers
pub record AreSmall (sums : Sums) : Type 0 where
  pub deals : sums.deals ≤ most_deals
  pub sum : sums.sum ≤ sums.deals * most_counted
  pub squares : sums.squares ≤ sums.deals * most_squared
  pub least : sums.least ≤ most_counted
  pub greatest : sums.greatest ≤ most_counted

-- the number at each index is the one that f gives it
abbrev pub IsListOf : (ℕ → ℕ) → List ℕ → Type 0
IsListOf f numbers = (n : ℕ) → n < length numbers → slice_index numbers n ≡ f n

-- no number is greater
abbrev pub AreUpTo : ℕ → List ℕ → Type 0
AreUpTo most numbers = (n : ℕ) → slice_index numbers n ≤ most

-- the number at an index is so much more
abbrev pub with_more : List ℕ → ℕ → ℕ → List ℕ
with_more numbers n amount = slice_set numbers n (slice_index numbers n + amount)

-- of one question: the sums of the answers, and how often each number is among them
pub record KeptOne : Type 0 where
  pub asked : TitledQuestion
  pub sums : Sums
  pub counts : List ℕ

-- with one answer more
abbrev pub with_answer : KeptOne → ℕ → KeptOne
with_answer one answer = record {
  asked = one.asked;
  sums = with_one one.sums answer;
  counts = with_more one.counts answer 1;
}

pub record IsKeptOne (one : KeptOne) : Type 0 where
  pub rows : length one.counts ≡ rows_of one.asked.question
  pub few : length one.counts ≤ most_counted
  pub sums : AreSmall one.sums
  pub within : one.sums.greatest < length one.counts
  pub counted : AreUpTo one.sums.deals one.counts

-- the answers are what was counted
pub record CountsOne (one : KeptOne) (answers : List ℕ) : Type 0 where
  pub sums : one.sums ≡ sums_of answers
  pub counts : IsListOf (λ n. count_of n answers) one.counts

-- of several questions: how many deals there are, and of each question what is kept of it
pub record KeptEach : Type 0 where
  pub deals : ℕ
  pub ones : List KeptOne

pub record IsKeptEach (each : KeptEach) : Type 0 where
  pub few : each.deals ≤ most_deals
  pub alike : All (λ one. one.sums.deals ≡ each.deals) each.ones

abbrev pub asked_each : KeptEach → List TitledQuestion
asked_each each = map (λ one. one.asked) each.ones

-- the deals are what was counted
pub record CountsEach (each : KeptEach) (deals : List (List Seat)) : Type 0 where
  pub number : each.deals ≡ length deals
  pub ones : All (λ one. CountsOne one (answers_of one.asked.question deals)) each.ones

-- one deal more was counted
pub record IsCounted (deal : List Seat) (old new : KeptOne) : Type 0 where
  pub asked : new.asked ≡ old.asked
  pub number : new.sums.deals ≡ old.sums.deals + 1
  pub counted : (deals : List (List Seat))
      → CountsOne old (answers_of old.asked.question deals)
      → CountsOne new (answers_of old.asked.question (deals ++ deal ∷ []))

-- of two questions: besides what is kept of the rows' question, the sums of the columns' answers,
-- how many deals each cell has, row by row, and of each column its deals and the sum of their rows
pub record KeptTwo : Type 0 where
  pub of : KeptOne
  pub by : TitledQuestion
  pub by_sums : Sums
  pub cells : List ℕ
  pub column_deals : List ℕ
  pub column_sums : List ℕ

-- with one pair more
abbrev pub with_pair : KeptTwo → ℕ → ℕ → KeptTwo
with_pair two row column = record {
  of = with_answer two.of row;
  by = two.by;
  by_sums = with_one two.by_sums column;
  cells = with_more two.cells (row * length two.column_deals + column) 1;
  column_deals = with_more two.column_deals column 1;
  column_sums = with_more two.column_sums column row;
}

pub record IsKeptTwo (two : KeptTwo) : Type 0 where
  pub rows : IsKeptOne two.of
  pub columns : length two.column_deals ≡ rows_of two.by.question
  pub alike : length two.column_sums ≡ length two.column_deals
  pub area : length two.cells ≡ length two.of.counts * length two.column_deals
  pub few : length two.cells ≤ 2 ^ 20
  pub sums : AreSmall two.by_sums
  pub within : two.by_sums.greatest < length two.column_deals
  pub deals : two.by_sums.deals ≡ two.of.sums.deals
  pub in_cells : AreUpTo two.of.sums.deals two.cells
  pub in_columns : AreUpTo two.of.sums.deals two.column_deals
  pub sums_fit : (m : ℕ)
      → slice_index two.column_sums m ≤ slice_index two.column_deals m * most_counted

-- the cell of a row and a column
abbrev pub cell_at : KeptTwo → ℕ → ℕ → ℕ
cell_at two n m = slice_index two.cells (n * length two.column_deals + m)

-- the pairs are what was counted
pub record CountsTwo (two : KeptTwo) (pairs : Pairs) : Type 0 where
  pub rows : CountsOne two.of (of_rows pairs)
  pub sums : two.by_sums ≡ sums_of (of_columns pairs)
  pub cells : (n m : ℕ) → n < length two.of.counts → m < length two.column_deals
      → cell_at two n m ≡ cell pairs n m
  pub column_deals : IsListOf (λ m. length (in_column m pairs)) two.column_deals
  pub column_sums : IsListOf (λ m. sum (in_column m pairs)) two.column_sums
