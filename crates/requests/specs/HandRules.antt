-- What is said of a text that is refused.
use Rattle.std.specs.Prelude.{ℕ, ◌/◌, List, [], ◌∷◌, ◌++◌, codes, slice_index_or}
use Rattle.requests.specs.declared.hand_fault.HandFault.{HandFault}
use Rattle.requests.specs.declared.hand_fault.HandFault.TheVariants.{LowerCase, TenAsDigits, Unknown}
use Rattle.requests.specs.declared.hand_fault.HandFault.TheVariants.{Dots, Twice, TooMany, Held}
use Rattle.cards.specs.declared.seat.Seat.{Seat}
use Rattle.cards.specs.declared.seat.Seat.TheVariants.{North, East, South, West}
use Rattle.cards.specs.Pack.{rank_of}

-- the words of the ranks, the ace first
abbrev pub rank_words : List (List ℕ)
rank_words =
    codes "ace" ∷ codes "king" ∷ codes "queen" ∷ codes "jack" ∷ codes "ten" ∷ codes "nine"
    ∷ codes "eight" ∷ codes "seven" ∷ codes "six" ∷ codes "five" ∷ codes "four" ∷ codes "three"
    ∷ codes "two" ∷ []

abbrev pub rank_word : ℕ → List ℕ
rank_word rank = slice_index_or rank_words rank []

-- the words of the suits, by their numbers
abbrev pub suit_words : ℕ → List ℕ
suit_words number =
    slice_index_or (codes " of spades" ∷ codes " of hearts" ∷ codes " of diamonds"
    ∷ codes " of clubs" ∷ []) number []

-- a card's name: the king of spades
abbrev pub card_words : ℕ → List ℕ
card_words c = codes "the " ++ rank_word (rank_of c) ++ suit_words (c / 13)

abbrev pub holder_words : Seat → List ℕ
holder_words North = codes " is north's"
holder_words East = codes " is east's"
holder_words South = codes " is south's"
holder_words West = codes " is west's"

-- what a hand's text takes, or which card is there twice
abbrev pub rule_of : HandFault → List ℕ
rule_of LowerCase = codes "ranks are capital letters, A K Q J T 9 8 7 6 5 4 3 2"
rule_of TenAsDigits = codes "a ten is written T"
rule_of (Unknown i) =
    codes "write A K Q J T 9 8 7 6 5 4 3 2 and dots, without the cards that may be any"
rule_of Dots = codes "three dots separate spades, hearts, diamonds and clubs, as AKQ32.K..A"
rule_of (Twice c) = card_words c ++ codes " is there twice"
rule_of TooMany = codes "a hand has 13 cards at most"
rule_of (Held c seat) = card_words c ++ holder_words seat
