-- What the values of tags say of a board's number, dealer and vulnerability.
use Rattle.std.specs.Prelude.{ℕ, ◌^◌, ◌==◌, ◌&&◌, ◌||◌, Bool, false, not, nat_le}
use Rattle.std.specs.Prelude.{List, [], ◌∷◌, length, map, bytes_eq, codes}
use Rattle.std.specs.Prelude.{Option, None, Some, if◌then◌else◌}
use Rattle.std.specs.Char.{is_ascii_digit, to_ascii_lowercase}
use Rattle.std.specs.List.{list_all}
use Rattle.std.specs.Str.Parse.{digits_value}
use Rattle.boards.specs.declared.setting.Vul.{Vul}
use Rattle.boards.specs.declared.setting.Vul.TheVariants.{Neither, NorthSouth, EastWest, Both}
use Rattle.boards.specs.Captions.{caption_of}
use Rattle.cards.specs.declared.seat.Seat.{Seat}
use Rattle.cards.specs.declared.seat.Seat.TheVariants.{North, East, South, West}

-- YYYY.MM.DD
abbrev pub is_date : List ℕ → Bool
is_date (a ∷ b ∷ c ∷ d ∷ e ∷ f ∷ g ∷ h ∷ k ∷ l ∷ []) =
    list_all is_ascii_digit (a ∷ b ∷ c ∷ d ∷ [])
    && (e == 46 && (list_all is_ascii_digit (f ∷ g ∷ [])
    && (h == 46 && list_all is_ascii_digit (k ∷ l ∷ []))))
is_date _ = false

-- these stand for an event or a site that isn't known, or is that of the game before
abbrev pub is_no_label : List ℕ → Bool
is_no_label value = bytes_eq value (codes "?") || bytes_eq value (codes "#")

-- no backslash is before a sign
abbrev pub is_unescaped : List ℕ → Bool
is_unescaped value = list_all (λ byte. not (byte == 0x5C)) value

unfoldable pub label_in : List ℕ → Option (List ℕ)
label_in value =
    if is_no_label value then None
    else (if is_unescaped value then caption_of value else None)

unfoldable pub date_in : List ℕ → Option (List ℕ)
date_in value = if is_date value then Some value else None

-- a number from 1 to 2^40 in decimal; 0 for anything else
unfoldable pub number_in : List ℕ → ℕ
number_in value =
    if list_all is_ascii_digit value && nat_le (digits_value 10 value) (2 ^ 40)
    then digits_value 10 value else 0

-- nothing is known
abbrev pub is_unknown : List ℕ → Bool
is_unknown value = bytes_eq value (codes "?")

unfoldable pub dealer_in : List ℕ → Option Seat
dealer_in value =
    if bytes_eq value (codes "N") then Some North
    else (if bytes_eq value (codes "E") then Some East
    else (if bytes_eq value (codes "S") then Some South
    else (if bytes_eq value (codes "W") then Some West else None)))

-- a word in capitals or small letters
unfoldable pub is_word : List ℕ → List ℕ → Bool
is_word word value = bytes_eq (map to_ascii_lowercase value) (map to_ascii_lowercase word)

unfoldable pub vulnerable_in : List ℕ → Option Vul
vulnerable_in value =
    if is_word (codes "none") value || (is_word (codes "-") value || is_word (codes "love") value)
    then Some Neither
    else (if is_word (codes "ns") value then Some NorthSouth
    else (if is_word (codes "ew") value then Some EastWest
    else (if is_word (codes "all") value || is_word (codes "both") value then Some Both
    else None)))

-- what may tell of tricks: nothing that does has more bytes
unfoldable pub short_in : List ℕ → List ℕ
short_in value = if nat_le (length value) 24 then value else []
