-- The parts of a body with the arguments of each place.
use Rattle.std.proofs.Common.{◌≡◌, ℕ, ◌+◌, ◌<◌, Bool, true, false, List, Some, length, get_or, set, get_or-set_same}
use Rattle.std.proofs.Common.{get_or-set_other, length-set, refl, sym, ap, ◌∙◌, subst, inl, inr, arith}
use Rattle.std.proofs.lemmas.Bool.{cases_eq}
use Rattle.std.proofs.lemmas.Option.{slice_get-get_or}
use Rattle.cards.specs.Pack.{suit_number, seat_number}
use Rattle.cards.specs.declared.seat.Seat.{Seat}
use Rattle.cards.specs.declared.seat.Seat.TheVariants.{North}
use Rattle.cards.specs.declared.suit.Suit.{Suit}
use Rattle.cards.specs.declared.suit.Suit.TheVariants.{Spades, Hearts, Diamonds, Clubs}
use Rattle.cond_lang.specs.declared.classes.Choice.{Choice}
use Rattle.cond_lang.specs.declared.classes.Params.{Params}
use Rattle.cond_lang.specs.declared.scanner.Token.{Token}
use Rattle.cond_lang.specs.Classes.{choice, given}
use Rattle.cond_lang.specs.Grammar.{Meanings}
use Rattle.cond_lang.specs.internal.Arguments.{argument_at, is_argument, place_of}
use Rattle.cond_lang.specs.internal.Defining.{AreCounted, parts_in}

-- those of the places below n are counted
pub record CountedBelow (N : Meanings) (p : Params) (is_value : Bool) (S : List Token) (parts : List ℕ) (n : ℕ) : Type 0 where
  pub sixteen : length parts ≡ 16
  pub counted :
      (i : ℕ) → i < n → is_argument p (argument_at i) ≡ true
      → get_or parts i 0 ≡ parts_in N is_value (given p (argument_at i)) S

at_its_place : (s : Suit) (q : Seat) → argument_at (place_of (choice s q)) ≡ choice s q
at_its_place Spades North = refl
at_its_place Hearts North = refl
at_its_place Diamonds North = refl
at_its_place Clubs North = refl
at_its_place s q = refl

suit_below : (s : Suit) → suit_number s < 4
suit_below Spades = omega arith
suit_below x = omega arith

seat_below : (q : Seat) → seat_number q < 4
seat_below North = omega arith
seat_below x = omega arith

pub place_below : (x : Choice) → place_of x < 16
place_below x = omega (arith, suit_below x.suit, seat_below x.seat)

module _ (N : Meanings) (p : Params) (is_value : Bool) (S : List Token) where
  pub all_counted : (parts : List ℕ) → CountedBelow N p is_value S parts 16 → AreCounted N p is_value S parts
  all_counted parts h x i =
      let same : argument_at (place_of x) ≡ x = at_its_place x.suit x.seat in
      slice_get-get_or parts (place_of x) 0 (omega (arith, h.sixteen, place_below x))
      ∙ ap (λ k. Some k) (h.counted (place_of x) (place_below x) (ap (is_argument p) same ∙ i) ∙ ap (λ y. parts_in N is_value (given p y) S) same)

  -- one place more
  pub one_counted :
      (parts : List ℕ) (n k : ℕ) → n < 16 → k ≡ parts_in N is_value (given p (argument_at n)) S → CountedBelow N p is_value S parts n
      → CountedBelow N p is_value S (set parts n k) (n + 1)
  one_counted parts n k lt e h =
      record {
        sixteen = length-set parts n k ∙ h.sixteen;
        counted = λ i below arg. elim (cases_eq i n) [
          | inl same ↦ subst (λ i. get_or (set parts n k) i 0 ≡ parts_in N is_value (given p (argument_at i)) S) (sym same)
              (get_or-set_same parts n k 0 (omega (arith, lt, h.sixteen)) ∙ e)
          | inr other ↦ get_or-set_other parts n i k 0 other ∙ h.counted i (omega (arith, below, other)) arg
        ];
      }

  -- a place that is none of an argument
  pub not_counted :
      (parts : List ℕ) (n : ℕ) → is_argument p (argument_at n) ≡ false → CountedBelow N p is_value S parts n
      → CountedBelow N p is_value S parts (n + 1)
  not_counted parts n e h =
      record {
        sixteen = h.sixteen;
        counted = λ i below arg. elim (cases_eq i n) [
          | inl same ↦ absurd (let j : is_argument p (argument_at i) ≡ false = ap (λ i. is_argument p (argument_at i)) same ∙ e in cc)
          | inr other ↦ h.counted i (omega (arith, below, other)) arg
        ];
      }
