-- The tables as comma-separated values: only the numbers that came have lines.
use Rattle.std.specs.Prelude.{ℕ, ◌==◌, Bool, List, [], ◌++◌, codes, decimal, if◌then◌else◌}
use Rattle.std.specs.List.{flat_map}
use Rattle.statistics.specs.Answers.{count_of, rows}
use Rattle.statistics.specs.Columns.{plain_label}
use Rattle.statistics.specs.TwoQuestions.{Kinds, Pairs, cell, columns, of_rows}

-- how many deals of how many candidates
unfoldable pub csv_total : ℕ → ℕ → List ℕ
csv_total deals candidates =
    codes "deals,candidates\n" ++ decimal deals ++ codes "," ++ decimal candidates ++ codes "\n"

-- the line of a number that came
abbrev pub csv_row : Bool → ℕ → ℕ → List ℕ
csv_row is_condition n count =
    if count == 0 then []
    else plain_label is_condition n ++ codes "," ++ decimal count ++ codes "\n"

unfoldable pub csv_one : Bool → List ℕ → List ℕ
csv_one is_condition answers =
    codes "value,deals\n"
    ++ flat_map (λ n. csv_row is_condition n (count_of n answers)) (rows is_condition answers)

-- of several questions: how many candidates and deals there are, as answers to question 0
unfoldable pub csv_counts : ℕ → ℕ → List ℕ
csv_counts deals candidates =
    codes "question,value,deals\n0,candidates," ++ decimal candidates
    ++ codes "\n0,deals," ++ decimal deals ++ codes "\n"

-- and the lines of the question of this number
abbrev pub csv_numbered_row : ℕ → Bool → ℕ → ℕ → List ℕ
csv_numbered_row question is_condition n count =
    if count == 0 then []
    else decimal question ++ codes "," ++ plain_label is_condition n ++ codes "," ++ decimal count
    ++ codes "\n"

unfoldable pub csv_numbered : ℕ → Bool → List ℕ → List ℕ
csv_numbered question is_condition answers =
    flat_map (λ n. csv_numbered_row question is_condition n (count_of n answers))
    (rows is_condition answers)

-- the line of a pair that came
abbrev pub csv_cell : Kinds → ℕ → ℕ → ℕ → List ℕ
csv_cell kinds n m count =
    if count == 0 then []
    else plain_label kinds.of_condition n ++ codes "," ++ plain_label kinds.by_condition m
    ++ codes "," ++ decimal count ++ codes "\n"

unfoldable pub csv_two : Kinds → Pairs → List ℕ
csv_two kinds pairs =
    codes "value,by,deals\n"
    ++ flat_map
    (λ n. flat_map (λ m. csv_cell kinds n m (cell pairs n m)) (columns kinds pairs))
    (rows kinds.of_condition (of_rows pairs))
