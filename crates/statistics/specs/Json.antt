-- JSON: one object, for programs. Of the numbers only those that came have items.
use Rattle.std.specs.Prelude.{ℕ, ◌+◌, ◌/◌, ◌%◌, ◌==◌, nat_lt, Bool, List, [], ◌∷◌, ◌++◌, codes, decimal}
use Rattle.std.specs.Prelude.{drop, if◌then◌else◌, sum}
use Rattle.std.specs.List.{flat_map}
use Rattle.statistics.specs.Answers.{count_of, rows, squares}
use Rattle.statistics.specs.TwoQuestions.{Kinds, Pairs, cell, columns, of_rows}

-- 0 to 9 and a to f
abbrev pub hex_digit : ℕ → ℕ
hex_digit n = if nat_lt n 10 then 0x30 + n else 0x57 + n

-- a byte in a string that no letter stands for: a control character as four digits
abbrev pub plain_byte : ℕ → List ℕ
plain_byte byte =
    if nat_lt byte 0x20 then codes "\\u00" ++ hex_digit (byte / 16) ∷ hex_digit (byte % 16) ∷ []
    else byte ∷ []

-- a byte in a string: quotes, backslashes and control characters are escaped
unfoldable pub string_byte : ℕ → List ℕ
string_byte byte =
    if byte == 0x22 then codes "\\\""
    else if byte == 0x5C then codes "\\\\"
    else if byte == 0x08 then codes "\\b"
    else if byte == 0x09 then codes "\\t"
    else if byte == 0x0A then codes "\\n"
    else if byte == 0x0C then codes "\\f"
    else if byte == 0x0D then codes "\\r"
    else plain_byte byte

-- a text as a string
abbrev pub string_of : List ℕ → List ℕ
string_of text = codes "\"" ++ flat_map string_byte text ++ codes "\""

-- items, each with a comma before it, as an array has them: without the first comma
abbrev pub array : List ℕ → List ℕ
array items = codes "[" ++ drop 1 items ++ codes "]"

-- a number that came, and how many deals have it
unfoldable pub json_value : ℕ → ℕ → List ℕ
json_value n count =
    if count == 0 then [] else codes ",[" ++ decimal n ++ codes "," ++ decimal count ++ codes "]"

-- the sum of a value's answers, and that of their squares
abbrev pub json_sums : Bool → List ℕ → List ℕ
json_sums is_condition answers =
    if is_condition then []
    else codes ",\"sum\":" ++ decimal (sum answers)
    ++ codes ",\"squares\":" ++ decimal (squares answers)

-- one question, whose text is this string
unfoldable pub json_one : Bool → List ℕ → List ℕ → List ℕ
json_one is_condition string answers =
    codes "{\"of\":" ++ string ++ codes ",\"values\":"
    ++ array (flat_map (λ n. json_value n (count_of n answers)) (rows is_condition answers))
    ++ json_sums is_condition answers ++ codes "}"

-- a pair that came, and how many deals have it
unfoldable pub json_pair : ℕ → ℕ → ℕ → List ℕ
json_pair n m count =
    if count == 0 then []
    else codes ",[" ++ decimal n ++ codes "," ++ decimal m ++ codes "," ++ decimal count
    ++ codes "]"

-- two questions
unfoldable pub json_two : Kinds → List ℕ → List ℕ → Pairs → List ℕ
json_two kinds of_string by_string pairs =
    codes "{\"of\":" ++ of_string ++ codes ",\"by\":" ++ by_string ++ codes ",\"values\":"
    ++ array (flat_map
    (λ n. flat_map (λ m. json_pair n m (cell pairs n m)) (columns kinds pairs))
    (rows kinds.of_condition (of_rows pairs)))
    ++ codes "}"

-- the whole object, of the questions' texts
unfoldable pub json_object : ℕ → ℕ → List ℕ → List ℕ
json_object deals candidates questions =
    codes "{\"candidates\":" ++ decimal candidates ++ codes ",\"deals\":" ++ decimal deals
    ++ codes ",\"questions\":[" ++ questions ++ codes "]}\n"
