-- What an option was given, by the rows of a parse.
use Rattle.std.specs.Prelude.{ℕ, Bool, false, not, List, [], ◌∷◌, Option, Some, None, is_some}
use Rattle.std.specs.Prelude.{codes, option_map, unwrap_or, if◌then◌else◌}
use Rattle.std.specs.Option.{option_and_then, option_map_or}
use Rattle.std.specs.Str.{bytes_eq}
use Rattle.std.specs.Str.Parse.{digits_value, without_leading_plus}
use Rattle.clap.specs.Words.{Row, Text, first_of, one_of}

-- the number that an option was given in decimal, if it was given
abbrev pub number_in : Text → List Row → Option ℕ
number_in id rows = option_map (λ t. digits_value 10 (without_leading_plus t)) (one_of id rows)

abbrev pub number_or : ℕ → Text → List Row → ℕ
number_or default id rows = unwrap_or (number_in id rows) default

-- clap reads a flag as the text `true` if it is given, and else as `false`
abbrev pub is_set : Text → List Row → Bool
is_set id rows = option_map_or (λ t. bytes_eq t (codes "true")) (first_of id rows) false

-- what a word means in a table of words, in just this case
abbrev pub meant_by : {A : Type 0} → List (Text × A) → Text → Option A
meant_by [] word = None
meant_by (p ∷ table) word = if bytes_eq word p.0 then Some p.1 else meant_by table word

-- what the word means that an option was given
abbrev pub choice_in : {A : Type 0} → List (Text × A) → Text → List Row → Option A
choice_in table id rows = option_and_then (meant_by table) (first_of id rows)

-- an option was given a word that means nothing
abbrev pub is_unknown : {A : Type 0} → List (Text × A) → Text → List Row → Bool
is_unknown table id rows =
    option_map_or (λ word. not (is_some (meant_by table word))) (first_of id rows) false
