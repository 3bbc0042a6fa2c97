-- What is known of the options of a subcommand after a parse without a fault.
use Rattle.std.specs.Prelude.{◌≡◌, ◌≤◌, ◌⊎◌, ℕ, true, List, Some, None, codes, pos}
use Rattle.clap.specs.Facts.{parser_of_value}
use Rattle.clap.specs.ValueTests.{accepts}
use Rattle.clap.specs.Words.{IsSignedIn, IsUnsignedIn, read_as, without_minus}
use Rattle.clap.specs.Walk.{Row, Rule, Text, one_of, reading_by}

-- the option has a value, which its parser accepts
pub record HasValue (a : Rule) (rows : List Row) : Type 0 where
  pub text : Text
  pub read : one_of a.id rows ≡ Some (read_as (reading_by a) text)
  pub passed : accepts a.ignore_case (parser_of_value a.parser) text ≡ true

-- the option was given a number of 32 bits
pub record Gives32 (id : Text) (rows : List Row) : Type 0 where
  pub text : Text
  pub read : one_of id rows ≡ Some (without_minus text)
  pub passed : IsSignedIn (pos 0) (pos 4294967295) text

-- the option was given a number, at most this one
pub record GivesUpTo (most : ℕ) (id : Text) (rows : List Row) : Type 0 where
  pub text : Text
  pub read : one_of id rows ≡ Some text
  pub passed : IsUnsignedIn 0 most text
  pub fits : most ≤ 18446744073709551615

abbrev pub Gives64 : Text → List Row → Type 0
Gives64 = GivesUpTo 18446744073709551615

-- the option was given no value, or such a number
abbrev pub MayGive32 : Text → List Row → Type 0
MayGive32 id rows = (one_of id rows ≡ None) ⊎ Gives32 id rows

abbrev pub MayGive64 : Text → List Row → Type 0
MayGive64 id rows = (one_of id rows ≡ None) ⊎ Gives64 id rows

-- the options of `stream`
pub record StreamValues (rows : List Row) : Type 0 where
  pub seed : Gives32 (codes "seed") rows
  pub count : GivesUpTo 1099511627776 (codes "count") rows

-- the options of a search
pub record SearchValues (rows : List Row) : Type 0 where
  pub seed : Gives32 (codes "seed") rows
  pub candidates : MayGive64 (codes "candidates") rows
  pub first : MayGive64 (codes "first") rows
  pub lane : MayGive32 (codes "lane") rows
  pub boards : MayGive32 (codes "boards") rows

-- the options of what deals: a `make`, a `find`, a `count` or a `pick`
pub record DealingValues (rows : List Row) : Type 0 where
  pub search : SearchValues rows
  pub first_board : MayGive64 (codes "first-board") rows
