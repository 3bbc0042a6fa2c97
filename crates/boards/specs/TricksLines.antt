-- A line that tells of a board's tricks: what may come in it, and what it tells.
use Rattle.std.specs.Prelude.{◌≡◌, ◌⊎◌, ◌≤◌, ℕ, ◌==◌, ◌&&◌, ◌||◌, Bool, List, [], ◌∷◌, ◌++◌, length}
use Rattle.std.specs.Prelude.{Option, None, Some, All, bytes_eq, codes, map}
use Rattle.std.specs.Prelude.{if◌then◌else◌}
use Rattle.std.specs.Char.{is_ascii_alphanumeric, is_ascii_digit, to_ascii_lowercase}
use Rattle.std.specs.Int.{is_in_range}
use Rattle.std.specs.List.{list_all, slice_split}

-- what is known of a board. `digits`: the tricks of declarer North, South, East and West, each in
-- notrump, spades, hearts, diamonds and clubs, in small letters. `score`: par for one side.
-- `contract`: a contract that scores par. What isn't known is empty
pub record TricksView : Type 0 where
  pub digits : List ℕ
  pub score : List ℕ
  pub contract : List ℕ

abbrev pub nothing_known : TricksView
nothing_known = record { digits = []; score = []; contract = [] }

-- ---- words

-- a number of tricks: 0 to 9, or a to d for 10 to 13, also in capitals
abbrev pub is_tricks : ℕ → Bool
is_tricks b = is_ascii_digit b || (is_in_range 97 100 b || is_in_range 65 68 b)

-- the twenty of a board
abbrev pub are_tricks : List ℕ → Bool
are_tricks word = length word == 20 && list_all is_tricks word

abbrev pub is_side : List ℕ → Bool
is_side word = bytes_eq word (codes "NS") || bytes_eq word (codes "EW")

-- one to four digits
abbrev pub are_points : List ℕ → Bool
are_points word = is_in_range 1 4 (length word) && list_all is_ascii_digit word

abbrev pub are_with_par : (tricks side points : List ℕ) → Bool
are_with_par tricks side points = are_tricks tricks && (is_side side && are_points points)

-- a letter, a digit, or one of + - * = , /
abbrev pub is_contract_byte : ℕ → Bool
is_contract_byte b =
    is_ascii_alphanumeric b
    || (b == 43 || (b == 45 || (b == 42 || (b == 61 || (b == 44 || b == 47)))))

-- one to 24 of these
abbrev pub is_contract : List ℕ → Bool
is_contract word = is_in_range 1 24 (length word) && list_all is_contract_byte word

-- ---- a line

-- its words: single spaces part them
abbrev pub words_of : List ℕ → List (List ℕ)
words_of line = slice_split (λ b. b == 32) line

-- the digits of tricks, and then the score of par and a contract
abbrev pub known : (tricks score contract : List ℕ) → TricksView
known tricks score contract = record {
  digits = map to_ascii_lowercase tricks;
  score = score;
  contract = contract;
}

-- what words tell: `-` that nothing is known; else the tricks alone, or with par, or with par and
-- its contract
abbrev pub told_by : List (List ℕ) → Option TricksView
told_by (tricks ∷ []) =
    if bytes_eq tricks (codes "-") then Some nothing_known
    else (if are_tricks tricks then Some (known tricks [] []) else None)
told_by (tricks ∷ side ∷ points ∷ []) =
    if are_with_par tricks side points
    then Some (known tricks (side ++ (32 ∷ points)) []) else None
told_by (tricks ∷ side ∷ points ∷ contract ∷ []) =
    if are_with_par tricks side points && is_contract contract
    then Some (known tricks (side ++ (32 ∷ points)) contract) else None
told_by _ = None

-- what a line tells of a board's tricks, if it does
unfoldable pub told : List ℕ → Option TricksView
told line = told_by (words_of line)

-- ---- what holds of all that a line tells

-- a digit in small letters
abbrev pub IsSmallDigit : ℕ → Type 0
IsSmallDigit b = ((48 ≤ b) × (b ≤ 57)) ⊎ ((97 ≤ b) × (b ≤ 100))

pub record IsTold (t : TricksView) : Type 0 where
  pub digits : (t.digits ≡ []) ⊎ (length t.digits ≡ 20)
  pub are_small : All IsSmallDigit t.digits
  -- there is a score only with tricks, and a contract only with a score
  pub score : length t.score ≤ 7
  pub with_digits : t.digits ≡ [] → t.score ≡ []
  pub contract : length t.contract ≤ 24
  pub with_score : t.score ≡ [] → t.contract ≡ []
