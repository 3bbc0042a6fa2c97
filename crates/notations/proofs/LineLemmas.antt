-- The lines of a record, from the parts that are written.
use Rattle.std.proofs.Common.{◌≡◌, ℕ, ◌-◌, Bool, List, ◌++◌, max, refl, codes}
use Rattle.std.specs.Prelude.{Option, None, Some}
use Rattle.std.proofs.lemmas.List.{append_assoc}
use Rattle.cards.specs.declared.suit.Suit.{Suit}
use Rattle.notations.specs.Columns.{columns, spaces}
use Rattle.notations.specs.Records.{side_line, suit_line, suit_text}
use Rattle.notations.specs.internal.Parts.{rest_of_line, shown_suit}

grouped : (left gap suit end : List ℕ) → left ++ (gap ++ suit ++ end) ≡ left ++ gap ++ suit ++ end
grouped left gap suit end = simp append_assoc

pub whole_line : (left : List ℕ) (hand : Option (List Bool)) (suit : Suit)
    → left ++ rest_of_line 18 (columns left) hand suit ≡ suit_line left hand suit
unfolding suit_line
whole_line left None suit = refl
whole_line left (Some hand) suit =
    grouped left (spaces (max 1 (18 - columns left))) (suit_text hand suit) (codes "\n")

pub whole_sides : (west east : Option (List Bool)) (suit : Suit)
    → shown_suit west suit ++ rest_of_line 36 (columns (shown_suit west suit)) east suit ≡ side_line west east suit
unfolding side_line
whole_sides None None suit = refl
whole_sides (Some west) None suit = refl
whole_sides None (Some east) suit = refl
whole_sides (Some west) (Some east) suit =
    grouped (suit_text west suit) (spaces (max 1 (36 - columns (suit_text west suit)))) (suit_text east suit) (codes "\n")
