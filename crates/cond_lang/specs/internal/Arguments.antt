-- The sixteen choices of a suit and a seat, and which of them are a name's arguments.
use Rattle.std.specs.Prelude.{ℕ, zero, suc, ◌+◌, ◌*◌, ◌/◌, ◌%◌, ◌==◌, Bool, true}
use Rattle.cards.specs.Pack.{seat_number, seat_of_number, suit_number}
use Rattle.cards.specs.declared.suit.Suit.{Suit}
use Rattle.cards.specs.declared.suit.Suit.TheVariants.{Spades, Hearts, Diamonds, Clubs}
use Rattle.cond_lang.specs.declared.classes.Choice.{Choice}
use Rattle.cond_lang.specs.declared.classes.Params.{Params}
use Rattle.cond_lang.specs.declared.classes.Params.TheVariants.{Plain, OfSeat, OfSuit, OfBoth}
use Rattle.cond_lang.specs.Classes.{choice}

-- whether the choice is of the parameters alone: the first stands for what isn't one
abbrev pub is_argument : Params → Choice → Bool
is_argument Plain x = (suit_number x.suit + seat_number x.seat) == 0
is_argument OfSeat x = suit_number x.suit == 0
is_argument OfSuit x = seat_number x.seat == 0
is_argument OfBoth x = true

-- the place of a choice among the sixteen
abbrev pub place_of : Choice → ℕ
place_of x = 4 * suit_number x.suit + seat_number x.seat

abbrev pub suit_of_number : ℕ → Suit
suit_of_number zero = Spades
suit_of_number (suc zero) = Hearts
suit_of_number (suc (suc zero)) = Diamonds
suit_of_number _ = Clubs

-- the choice with this place
abbrev pub argument_at : ℕ → Choice
argument_at n = choice (suit_of_number (n / 4)) (seat_of_number (n % 4))
