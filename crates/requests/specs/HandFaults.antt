-- What is wrong with a text that is refused.
use Rattle.std.specs.Prelude.{◌≡◌, ◌<◌, ℕ, ◌+◌, List, Some, length, slice_index, true, false}
use Rattle.std.specs.Char.{to_ascii_uppercase}
use Rattle.requests.specs.declared.hand_fault.HandFault.{HandFault}
use Rattle.requests.specs.declared.hand_fault.HandFault.TheVariants.{LowerCase, TenAsDigits, Unknown}
use Rattle.requests.specs.declared.hand_fault.HandFault.TheVariants.{Dots, Twice, TooMany, Held}
use Rattle.requests.specs.PredealtHands.{GivenHands, has_card, has_room, has_three_dots}
use Rattle.requests.specs.PredealtHands.{is_hand_byte, is_rank_letter, seat_given, times_in}

-- the byte at this index is neither a dot nor the letter of a rank
pub record IsUnread (text : List ℕ) (i : ℕ) : Type 0 where
  pub within : i < length text
  pub unread : is_hand_byte (slice_index text i) ≡ false

-- the byte at this index isn't the letter of a rank in lower case either
pub record IsStray (text : List ℕ) (i : ℕ) : Type 0 where
  pub unread : IsUnread text i
  pub no_letter : is_rank_letter (to_ascii_uppercase (slice_index text i)) ≡ false

-- the letter of a rank in lower case
pub record HasLowerCase (text : List ℕ) : Type 0 where
  pub place : ℕ
  pub unread : IsUnread text place
  pub letter : is_rank_letter (to_ascii_uppercase (slice_index text place)) ≡ true

-- the digits of ten
pub record HasTen (text : List ℕ) : Type 0 where
  pub place : ℕ
  pub one : slice_index text place ≡ 0x31
  pub nought : slice_index text (place + 1) ≡ 0x30

-- what a fault says of a text beside the hands before it
abbrev pub IsFaultOf : GivenHands → List ℕ → HandFault → Type 0
IsFaultOf earlier text LowerCase = HasLowerCase text
IsFaultOf earlier text TenAsDigits = HasTen text
IsFaultOf earlier text (Unknown i) = IsStray text i
IsFaultOf earlier text Dots = has_three_dots text ≡ false
IsFaultOf earlier text (Twice c) = 1 < times_in text c
IsFaultOf earlier text TooMany = has_room text ≡ false
IsFaultOf earlier text (Held c seat) =
    (has_card text c ≡ true) × (seat_given earlier c ≡ Some seat)
