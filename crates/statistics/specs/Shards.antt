-- How the csv tables of two lists of deals add up to that of both.
use Rattle.std.specs.Prelude.{◌≡◌, ℕ, ◌+◌, ◌==◌, List, [], ◌++◌, codes, decimal, if◌then◌else◌}
use Rattle.std.specs.List.{flat_map}
use Rattle.statistics.specs.Counting.{Subject, by_each, by_one, by_two, deals_alone}
use Rattle.statistics.specs.Csv.{csv_counts, csv_total}

-- a line of a table: what is before its count, and the counts that two tables have there
pub record Line : Type 0 where
  pub label : List ℕ
  pub one : ℕ
  pub two : ℕ

-- the line with this count: none if it is 0
abbrev pub counted : List ℕ → ℕ → List ℕ
counted label count =
    if count == 0 then [] else label ++ codes "," ++ decimal count ++ codes "\n"

-- the tables have the same lines, but for their counts, and those of the third are the sums
pub record LinesAddUp (one two both : List ℕ) : Type 0 where
  pub head : List ℕ
  pub lines : List Line
  pub one_is : one ≡ head ++ flat_map (λ l. counted l.label l.one) lines
  pub two_is : two ≡ head ++ flat_map (λ l. counted l.label l.two) lines
  pub both_is : both ≡ head ++ flat_map (λ l. counted l.label (l.one + l.two)) lines

-- the numbers of deals, and those of candidates, of the third table are the sums
pub record TotalsAddUp (one two both : List ℕ) : Type 0 where
  pub deals : ℕ × ℕ
  pub tried : ℕ × ℕ
  pub one_is : one ≡ csv_total deals.0 tried.0
  pub two_is : two ≡ csv_total deals.1 tried.1
  pub both_is : both ≡ csv_total (deals.0 + deals.1) (tried.0 + tried.1)

-- the numbers of candidates and of deals of the third table are the sums, and so are its lines
pub record PartsAddUp (one two both : List ℕ) : Type 0 where
  pub deals : ℕ × ℕ
  pub tried : ℕ × ℕ
  pub lines : List Line
  pub one_is : one ≡ csv_counts deals.0 tried.0 ++ flat_map (λ l. counted l.label l.one) lines
  pub two_is : two ≡ csv_counts deals.1 tried.1 ++ flat_map (λ l. counted l.label l.two) lines
  pub both_is :
      both ≡ csv_counts (deals.0 + deals.1) (tried.0 + tried.1)
      ++ flat_map (λ l. counted l.label (l.one + l.two)) lines

-- the third table of a subject is the sum of two, line by line
abbrev pub AddUp : Subject → (one two both : List ℕ) → Type 0
AddUp deals_alone one two both = TotalsAddUp one two both
AddUp (by_one asked) one two both = LinesAddUp one two both
AddUp (by_two of by) one two both = LinesAddUp one two both
AddUp (by_each asked) one two both = PartsAddUp one two both
