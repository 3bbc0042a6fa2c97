-- The line of a text where a condition goes wrong, and the carets below the fault.
use Rattle.std.specs.Prelude.{◌≡◌, ◌≢◌, ◌⊎◌, ℕ, ◌+◌, ◌-◌, ◌<◌, ◌≤◌, min, max}
use Rattle.std.specs.Prelude.{Bool, true, false, ◌==◌, ◌&&◌, ◌||◌, nat_le, nat_lt, if◌then◌else◌}
use Rattle.std.specs.Prelude.{List, [], ◌∷◌, ◌++◌, codes, drop, length, map, replicate}
use Rattle.std.specs.Prelude.{slice_index, slice_range, take}
use Rattle.std.specs.Char.{is_ascii_lowercase, is_ascii_digit}
use Rattle.cond_lang.specs.Runs.{run}
use Rattle.sinks.specs.Shown.{shown}

-- ---- which line

-- a line feed, or a carriage return
abbrev pub ends_line : ℕ → Bool
ends_line c = c == 10 || c == 13

-- the first n bytes are the text without the ends of lines after it
pub record IsWithoutEnds (text : List ℕ) (n : ℕ) : Type 0 where
  pub within : n ≤ length text
  pub ends : (k : ℕ) → n ≤ k → k < length text → ends_line (slice_index text k) ≡ true
  pub some : 0 < n → ends_line (slice_index text (n - 1)) ≡ false

-- where the first caret is: at the fault, or after the last byte of the last line
abbrev pub IsPlace : List ℕ → ℕ → ℕ → Type 0
IsPlace text at place =
    ((at < length text) × (place ≡ at)) ⊎ ((length text ≤ at) × IsWithoutEnds text place)

-- the line of the text that has the place: from `start` up to `end` there is no line feed, and one
-- is before it and after it, unless the text begins or ends there
pub record IsLineAt (text : List ℕ) (place start end : ℕ) : Type 0 where
  pub from : start ≤ place
  pub to : place ≤ end
  pub within : end ≤ length text
  pub begins : 0 < start → slice_index text (start - 1) ≡ 10
  pub one : (k : ℕ) → start ≤ k → k < end → slice_index text k ≢ 10
  pub ends : end < length text → slice_index text end ≡ 10

-- a line without a carriage return at its end
abbrev pub without_return : List ℕ → List ℕ
without_return line =
    if slice_index line (length line - 1) == 13 then take (length line - 1) line else line

-- ---- how wide the fault is

-- an equals sign is first
abbrev pub begins_with_equals : List ℕ → Bool
begins_with_equals [] = false
begins_with_equals (c ∷ s) = c == 61

-- `=`, `!`, `<` or `>`: with an equals sign after it, one comparison of two bytes
abbrev pub begins_comparison : ℕ → Bool
begins_comparison c = c == 61 || (c == 33 || (c == 60 || c == 62))

-- how many bytes the token has that a text begins with: all its letters, all its digits, two of a
-- comparison with an equals sign, else one; one at the end of the text
abbrev pub token_len : List ℕ → ℕ
token_len [] = 1
token_len (c ∷ s) =
    if is_ascii_lowercase c then run is_ascii_lowercase (c ∷ s)
    else (if is_ascii_digit c then run is_ascii_digit (c ∷ s)
    else (if begins_comparison c && begins_with_equals s then 2 else 1))

-- ---- what is shown

-- the first byte that is shown of a line of n bytes, and how many are: all of at most 72, and of a
-- longer line 68 around the column of the fault
abbrev pub first_shown : ℕ → ℕ → ℕ
first_shown n column = if nat_le n 72 then 0 else min (column - 34) (n - 68)

abbrev pub count_shown : ℕ → ℕ
count_shown n = if nat_le n 72 then n else 68

-- two such bytes where the line is cut
abbrev pub where_cut : Bool → ℕ → List ℕ
where_cut cut c = if cut then replicate 2 c else []

-- the bytes of the line from `first` up to `after`, with two dots where it is cut
unfoldable pub shown_line : List ℕ → ℕ → ℕ → List ℕ
shown_line line first after =
    codes "  " ++ where_cut (nat_lt 0 first) 46 ++ map shown (slice_range line first after)
    ++ where_cut (nat_lt after (length line)) 46 ++ codes "\n"

-- this many carets, the first below the line's byte at the column
unfoldable pub caret_line : ℕ → ℕ → ℕ → List ℕ
caret_line first column count =
    codes "  " ++ where_cut (nat_lt 0 first) 32 ++ replicate (column - first) 32
    ++ replicate count 94 ++ codes "\n"

-- the line, and a caret below each byte of the fault that is shown, at least one
abbrev pub excerpt : List ℕ → ℕ → ℕ → List ℕ
excerpt line column width =
    let first = first_shown (length line) column in
    let after = first + count_shown (length line) in
    shown_line line first after ++ caret_line first column (max 1 (min width (after - column)))

-- the excerpt of a text with a fault at a byte, or at its end
pub record IsExcerpt (text : List ℕ) (at : ℕ) (written : List ℕ) : Type 0 where
  pub place : ℕ
  pub is_place : IsPlace text at place
  pub start : ℕ
  pub end : ℕ
  pub is_line : IsLineAt text place start end
  pub is :
      let line = without_return (slice_range text start end) in
      written ≡ excerpt line (place - start) (token_len (drop at text))
