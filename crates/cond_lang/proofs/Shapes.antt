-- Reading goes on and stops at the same tokens, whatever the bound classes stand for.
use Rattle.std.proofs.Common.{◌≡◌, ℕ, zero, suc, cond, List, [], ◌∷◌, Option, Some, None, slice_get, refl, sym, ap, ◌∙◌}
use Rattle.std.specs.Prelude.{is_some}
use Rattle.cards.specs.declared.hand.Measure.{Measure as AMeasure}
use Rattle.cards.specs.declared.seat.Seat.{Seat as ASeat}
use Rattle.cards.specs.declared.suit.Suit.{Suit as ASuit}
use Rattle.cond_lang.specs.declared.classes.Bound.{Bound}
use Rattle.cond_lang.specs.declared.classes.Choice.{Choice}
use Rattle.cond_lang.specs.declared.classes.Class.{Class as AClass}
use Rattle.cond_lang.specs.declared.classes.Params.{Params}
use Rattle.cond_lang.specs.declared.classes.Params.TheVariants.{Plain, OfSeat, OfSuit, OfBoth}
use Rattle.cond_lang.specs.declared.classes.Quantifier.{Quantifier as AQuantifier}
use Rattle.cond_lang.specs.declared.scanner.Token.{Token}
use Rattle.cond_lang.specs.declared.scanner.Token.TheVariants.{Or, And, Not, Balanced, Shape, Pattern, Quantifier}
use Rattle.cond_lang.specs.declared.scanner.Token.TheVariants.{Stops, Measure, Cards, Len, Ordered}
use Rattle.cond_lang.specs.declared.scanner.Token.TheVariants.{In, Seat, Suit, Class, Neighbour, Number, Open, Comma}
use Rattle.cond_lang.specs.declared.scanner.Token.TheVariants.{Plus, Star, Name}
use Rattle.conditions.specs.Form.{Amount, measured, suit_measured, cards_held, Form, balanced}
use Rattle.cond_lang.specs.Classes.{bound_to, seat_bound_to, seat_beside, bind, all_choices, members}
use Rattle.cond_lang.specs.Grammar.{Meaning, Meanings, condition, value}
use Rattle.cond_lang.specs.internal.Reading.{Outcome, got, stuck, Reader, after, opened, comma, class_seat, seat}
use Rattle.cond_lang.specs.internal.Reading.{open_seat, open_seat_comma, seat_in_brackets, seat_and_items, items}
use Rattle.cond_lang.specs.internal.Reading.{comma_ranks_close, ranks_close, relation, range, class_suit, suit}
use Rattle.cond_lang.specs.internal.Reading.{quantifier, class, closing, closed, comma_suit_close, rest_of_measure}
use Rattle.cond_lang.specs.internal.Reading.{suit_and_ranks, rest_of_cards, seat_and_suit, count_of, count_alone}
use Rattle.cond_lang.specs.internal.Reading.{rest_of_number, number_or_count, suit_in_brackets, args, value_used}
use Rattle.cond_lang.specs.internal.Reading.{atom_of, condition_used_by, Goal, a_cond, a_both, a_unit, ors, ands}
use Rattle.cond_lang.specs.internal.Reading.{a_value, sums, Readers, compared_by, related_by, comparing_by, sums_by}
use Rattle.cond_lang.specs.internal.Reading.{each_by, bracketed_by, quantified_by, unit_by, ors_by, ands_by, step}
use Rattle.cond_lang.specs.internal.Reading.{steps}
use Rattle.cond_lang.proofs.Scopes.{SameScope, suits_alike, seats_alike, first, same_scope, bind_same, can_bind_same, can_quantify_same, members_some}
use Rattle.cond_lang.proofs.Members.{ReadsEach, each_got, each_stuck}

-- the outcome without the value
abbrev pub shape : {A : Type 0} → Outcome A → Outcome (Unit {0})
shape (got x S) = got tt S
shape (stuck S) = stuck S

after_alike :
    {A B C D : Type 0} (o : Outcome A) (u : Outcome C) (f : A → Reader B) (g : C → Reader D)
    → shape o ≡ shape u → ((x : A) (y : C) (R : List Token) → shape (f x R) ≡ shape (g y R)) → shape (after o f) ≡ shape (after u g)
after_alike (got x S) (got y R) f g e h = let i : S ≡ R = cc in h x y S ∙ ap (λ L. shape (g y L)) i
after_alike (got x S) (stuck R) f g e h = absurd (cc)
after_alike (stuck S) (got y R) f g e h = absurd (cc)
after_alike (stuck S) (stuck R) f g e h = let i : S ≡ R = cc in ap stuck i

-- ---- readers that don't lead back to a condition

closing_alike : {A B : Type 0} (x : A) (y : B) (S : List Token) → shape (closing x S) ≡ shape (closing y S)
closing_alike x y S = after_alike (closed S) (closed S) _ _ refl (λ _ _ R. refl)

class_suit_alike : (o p : Option ASuit) (c : AClass) (S : List Token) → is_some o ≡ is_some p → shape (class_suit o c S) ≡ shape (class_suit p c S)
class_suit_alike None None c S e = refl
class_suit_alike None (Some s) c S e = absurd (cc)
class_suit_alike (Some s) None c S e = absurd (cc)
class_suit_alike (Some s) (Some t) c S e = refl

class_seat_alike : (o p : Option ASeat) (c : AClass) (S : List Token) → is_some o ≡ is_some p → shape (class_seat o c S) ≡ shape (class_seat p c S)
class_seat_alike None None c S e = refl
class_seat_alike None (Some s) c S e = absurd (cc)
class_seat_alike (Some s) None c S e = absurd (cc)
class_seat_alike (Some s) (Some t) c S e = refl

class_alike : {E F : Bound} → SameScope E F → (S : List Token) → class E S ≡ class F S
class_alike f [] = refl
class_alike f (Class c ∷ S) = ap (λ b. cond b (got c S) (stuck (Class c ∷ S))) (can_bind_same f c)
class_alike f (x ∷ S) = refl

quantifier_alike : {E F : Bound} → SameScope E F → (S : List Token) → quantifier E S ≡ quantifier F S
quantifier_alike f [] = refl
quantifier_alike f (Quantifier k ∷ S) = ap (λ b. cond b (got k S) (stuck (Quantifier k ∷ S))) (can_quantify_same f)
quantifier_alike f (x ∷ S) = refl

module _ {E F : Bound} (f : SameScope E F) where
  seat_alike : (S : List Token) → shape (seat E S) ≡ shape (seat F S)
  seat_alike [] = refl
  seat_alike (Seat q ∷ S) = refl
  seat_alike (Class c ∷ S) = class_seat_alike (seat_bound_to E c) (seat_bound_to F c) c S (seats_alike f c)
  seat_alike (Neighbour n ∷ Open ∷ S) =
      after_alike (seat E S) (seat F S) _ _ (seat_alike S) (λ q p R. closing_alike (seat_beside n q) (seat_beside n p) R)
  seat_alike (Neighbour n ∷ []) = refl
  seat_alike (Neighbour n ∷ x ∷ S) = refl
  seat_alike (x ∷ S) = refl

  open_seat_alike : (S : List Token) → shape (open_seat E S) ≡ shape (open_seat F S)
  open_seat_alike S = after_alike (opened S) (opened S) _ _ refl (λ _ _ R. seat_alike R)

  open_seat_comma_alike : (S : List Token) → shape (open_seat_comma E S) ≡ shape (open_seat_comma F S)
  open_seat_comma_alike S =
      after_alike (open_seat E S) (open_seat F S) _ _ (open_seat_alike S) (λ q p R. after_alike (comma R) (comma R) _ _ refl (λ _ _ R. refl))

  seat_in_brackets_alike : (S : List Token) → shape (seat_in_brackets E S) ≡ shape (seat_in_brackets F S)
  seat_in_brackets_alike S = after_alike (open_seat E S) (open_seat F S) _ _ (open_seat_alike S) (λ q p R. closing_alike q p R)

  seat_and_items_alike : (S : List Token) → shape (seat_and_items E S) ≡ shape (seat_and_items F S)
  unfolding seat_and_items
  seat_and_items_alike S =
      after_alike (open_seat E S) (open_seat F S) _ _ (open_seat_alike S) (λ q p R.
      after_alike (comma R) (comma R) _ _ refl (λ _ _ R.
      after_alike (items R) (items R) _ _ refl (λ n m R. closing_alike (q, n) (p, m) R)))

  suit_alike : (S : List Token) → shape (suit E S) ≡ shape (suit F S)
  suit_alike [] = refl
  suit_alike (Suit s ∷ S) = refl
  suit_alike (Class c ∷ S) = class_suit_alike (bound_to E c) (bound_to F c) c S (suits_alike f c)
  suit_alike (x ∷ S) = refl

  comma_suit_close_alike : (S : List Token) → shape (comma_suit_close E S) ≡ shape (comma_suit_close F S)
  comma_suit_close_alike S =
      after_alike (comma S) (comma S) _ _ refl (λ _ _ R.
      after_alike (suit E R) (suit F R) _ _ (suit_alike R) (λ s t R. closing_alike s t R))

  seat_and_suit_alike : (S : List Token) → shape (seat_and_suit E S) ≡ shape (seat_and_suit F S)
  seat_and_suit_alike S =
      after_alike (open_seat E S) (open_seat F S) _ _ (open_seat_alike S) (λ q p R.
      after_alike (comma_suit_close E R) (comma_suit_close F R) _ _ (comma_suit_close_alike R) (λ s t R. refl))

  rest_of_measure_alike : (m : AMeasure) (q p : ASeat) (S : List Token) → shape (rest_of_measure E m q S) ≡ shape (rest_of_measure F m p S)
  rest_of_measure_alike m q p (Comma ∷ S) = after_alike (suit E S) (suit F S) _ _ (suit_alike S)
      (λ s t R. closing_alike (suit_measured m q s) (suit_measured m p t) R)
  rest_of_measure_alike m q p [] = closing_alike (measured m q) (measured m p) []
  rest_of_measure_alike m q p (x ∷ S) = closing_alike (measured m q) (measured m p) (x ∷ S)

  suit_and_ranks_alike : (q p : ASeat) (S : List Token) → shape (suit_and_ranks E q S) ≡ shape (suit_and_ranks F p S)
  suit_and_ranks_alike q p S =
      after_alike (suit E S) (suit F S) _ _ (suit_alike S) (λ s t R.
      after_alike (comma_ranks_close R) (comma_ranks_close R) _ _ refl (λ h g R. refl))

  ranks_alike : (q p : ASeat) (S : List Token) → shape (after (ranks_close S) (λ h R. got (cards_held q h) R)) ≡ shape
      (after (ranks_close S) (λ h R. got (cards_held p h) R))
  ranks_alike q p S = after_alike (ranks_close S) (ranks_close S) _ _ refl (λ h g R. refl)

  rest_of_cards_alike : (q p : ASeat) (S : List Token) → shape (rest_of_cards E q S) ≡ shape (rest_of_cards F p S)
  rest_of_cards_alike q p (Suit s ∷ S) = suit_and_ranks_alike q p (Suit s ∷ S)
  rest_of_cards_alike q p (Class c ∷ S) = suit_and_ranks_alike q p (Class c ∷ S)
  rest_of_cards_alike q p [] = ranks_alike q p []
  rest_of_cards_alike q p (x ∷ S) = ranks_alike q p (x ∷ S)

  count_alike : (S : List Token) → shape (count_of E S) ≡ shape (count_of F S)
  unfolding count_of
  count_alike [] = refl
  count_alike (Measure m ∷ S) = after_alike (open_seat E S) (open_seat F S) _ _ (open_seat_alike S) (λ q p R. rest_of_measure_alike m q p R)
  count_alike (Len ∷ S) = after_alike (seat_and_suit E S) (seat_and_suit F S) _ _ (seat_and_suit_alike S) (λ p q R. refl)
  count_alike (Cards ∷ S) = after_alike (open_seat_comma E S) (open_seat_comma F S) _ _ (open_seat_comma_alike S) (λ q p R. rest_of_cards_alike q p R)
  count_alike (Ordered o ∷ S) = after_alike (seat_in_brackets E S) (seat_in_brackets F S) _ _ (seat_in_brackets_alike S) (λ q p R. refl)
  count_alike (x ∷ S) = refl

  alone_alike : (S : List Token) → shape (count_alone E S) ≡ shape (count_alone F S)
  alone_alike S = after_alike (count_of E S) (count_of F S) _ _ (count_alike S) (λ k l R. refl)

  rest_of_number_alike : (n : ℕ) (S : List Token) → shape (rest_of_number E n S) ≡ shape (rest_of_number F n S)
  rest_of_number_alike n (Star ∷ S) = after_alike (count_of E S) (count_of F S) _ _ (count_alike S) (λ k l R. refl)
  rest_of_number_alike n [] = refl
  rest_of_number_alike n (x ∷ S) = refl

  number_or_count_alike : (S : List Token) → shape (number_or_count E S) ≡ shape (number_or_count F S)
  unfolding number_or_count
  number_or_count_alike [] = alone_alike []
  number_or_count_alike (Number n ∷ S) = rest_of_number_alike n S
  number_or_count_alike (x ∷ S) = alone_alike (x ∷ S)

  suit_in_brackets_alike : (S : List Token) → shape (suit_in_brackets E S) ≡ shape (suit_in_brackets F S)
  suit_in_brackets_alike S =
      after_alike (opened S) (opened S) _ _ refl (λ _ _ R.
      after_alike (suit E R) (suit F R) _ _ (suit_alike R) (λ s t R. closing_alike s t R))

  args_alike : (p : Params) (S : List Token) → shape (args E p S) ≡ shape (args F p S)
  args_alike Plain S = refl
  args_alike OfSeat S = after_alike (seat_in_brackets E S) (seat_in_brackets F S) _ _ (seat_in_brackets_alike S) (λ q r R. refl)
  args_alike OfSuit S = after_alike (suit_in_brackets E S) (suit_in_brackets F S) _ _ (suit_in_brackets_alike S) (λ s t R. refl)
  args_alike OfBoth S = after_alike (seat_and_suit E S) (seat_and_suit F S) _ _ (seat_and_suit_alike S) (λ p q R. refl)

  used_alike : {A : Type 0} (p : Params) (g : Choice → A) (S : List Token)
      → shape (after (args E p S) (λ x R. got (g x) R)) ≡ shape (after (args F p S) (λ x R. got (g x) R))
  used_alike {A} p g S = after_alike (args E p S) (args F p S) _ _ (args_alike p S) (λ x y R. refl)

  value_used_alike : (m : Option Meaning) (n : ℕ) (S : List Token) → shape (value_used m E n S) ≡ shape (value_used m F n S)
  value_used_alike (Some (value p g)) n S = used_alike p g S
  value_used_alike (Some (condition p g)) n S = refl
  value_used_alike None n S = refl

  atom_alike : (N : Meanings) (S : List Token) → shape (atom_of N E S) ≡ shape (atom_of N F S)
  unfolding atom_of
  atom_alike N [] = number_or_count_alike []
  atom_alike N (Name n ∷ S) = value_used_alike (slice_get N n) n S
  atom_alike N (x ∷ S) = number_or_count_alike (x ∷ S)

-- ---- readers that lead back to a condition

-- the same goal, after any first part of a chain
data LikeGoals : Goal → Goal → Type 0 where
  conds : LikeGoals a_cond a_cond
  boths : LikeGoals a_both a_both
  units : LikeGoals a_unit a_unit
  behind_ors : {a b : Form} → LikeGoals (ors a) (ors b)
  behind_ands : {a b : Form} → LikeGoals (ands a) (ands b)
  values : LikeGoals a_value a_value
  behind_sums : {a b : Amount} → LikeGoals (sums a) (sums b)

-- both readers do the same
abbrev AreAlike : Readers → Type 0
AreAlike r = (E F : Bound) → SameScope E F → (g h : Goal) → LikeGoals g h → (S : List Token) → shape (r E g S) ≡ shape (r F h S)

pub shape_got : {A : Type 0} (o : Outcome A) (R : List Token) → shape o ≡ got tt R → (x : A) × (o ≡ got x R)
shape_got (got x S) R e = let i : S ≡ R = cc in (x, ap (λ L. got x L) i)
shape_got (stuck S) R e = absurd (cc)

pub shape_stuck : {A : Type 0} (o : Outcome A) (R : List Token) → shape o ≡ stuck R → o ≡ stuck R
shape_stuck (got x S) R e = absurd (cc)
shape_stuck (stuck S) R e = let i : S ≡ R = cc in ap stuck i

-- with each member of a class the same happens as with the first
abbrev pub SameWithEach : Readers → Bound → AClass → List Token → Type 0
SameWithEach r E c S = (s : Choice) → shape (r (bind E c s) a_cond S) ≡ shape (r (bind E c first) a_cond S)

pub all_got :
    (r : Readers) (E : Bound) (c : AClass) (S R : List Token) → ((s : Choice) → shape (r (bind E c s) a_cond S) ≡ got tt R)
    → (ss : List Choice) → (ts : List Form) × ReadsEach r E c S R ss ts
all_got r E c S R h [] = ([], tt)
all_got r E c S R h (s ∷ ss) =
    let t = shape_got (r (bind E c s) a_cond S) R (h s) in
    let ts = all_got r E c S R h ss in
    (t.0 ∷ ts.0, (t.1, ts.1))

each_shape_from :
    (r : Readers) (E : Bound) (k : AQuantifier) (c : AClass) (S : List Token) (o : Outcome Form)
    → ((s : Choice) → shape (r (bind E c s) a_cond S) ≡ shape o) → shape (each_by r E k c S all_choices None S) ≡ shape o
each_shape_from r E k c S (stuck R) h = ap shape (each_stuck r E k c S R (λ s. shape_stuck (r (bind E c s) a_cond S) R (h s)))
each_shape_from r E k c S (got x R) h = of_all (members E c) refl
  where
    of_all : (ss : List Choice) → members E c ≡ ss → shape (each_by r E k c S all_choices None S) ≡ got tt R
    of_all [] e = let m = members_some E c in let n = m.2 in absurd (cc (e, n))
    of_all (s ∷ ss) e =
        let t = shape_got (r (bind E c s) a_cond S) R (h s) in
        let ts = all_got r E c S R h ss in
        ap shape (each_got r E k c S R t.0 ts.0 (rw e (t.1, ts.1)))

pub each_shape :
    (r : Readers) (E : Bound) (k : AQuantifier) (c : AClass) (S : List Token) → SameWithEach r E c S
    → shape (each_by r E k c S all_choices None S) ≡ shape (r (bind E c first) a_cond S)
each_shape r E k c S h = each_shape_from r E k c S (r (bind E c first) a_cond S) h

module _ (N : Meanings) (r : Readers) (k : AreAlike r) (E F : Bound) (f : SameScope E F) where
  compared_alike : (a b : Amount) (S : List Token) → shape (compared_by r E a S) ≡ shape (compared_by r F b S)
  compared_alike a b S =
      after_alike (relation S) (relation S) _ _ refl (λ o p R.
      after_alike (r E a_value R) (r F a_value R) _ _ (k E F f a_value a_value values R) (λ x y R. refl))

  related_alike : (a b : Amount) (S : List Token) → shape (related_by r E a S) ≡ shape (related_by r F b S)
  related_alike a b (In ∷ S) = after_alike (range S) (range S) _ _ refl (λ p q R. refl)
  related_alike a b [] = compared_alike a b []
  related_alike a b (x ∷ S) = compared_alike a b (x ∷ S)

  compares_alike : (S : List Token) → shape (comparing_by r E S) ≡ shape (comparing_by r F S)
  compares_alike S = after_alike (r E a_value S) (r F a_value S) _ _ (k E F f a_value a_value values S) (λ a b R. related_alike a b R)

  each_alike : (j l : AQuantifier) (c : AClass) (S : List Token)
      → shape (each_by r E j c S all_choices None S) ≡ shape (each_by r F l c S all_choices None S)
  each_alike j l c S =
      each_shape r E j c S (λ s. k (bind E c s) (bind E c first) (bind_same (same_scope E) c s first) a_cond a_cond conds S)
      ∙ k (bind E c first) (bind F c first) (bind_same f c first first) a_cond a_cond conds S
      ∙ sym (each_shape r F l c S (λ s. k (bind F c s) (bind F c first) (bind_same (same_scope F) c s first) a_cond a_cond conds S))

  bracketed_alike : (j l : AQuantifier) (c : AClass) (S : List Token) → shape (bracketed_by r E j c S) ≡ shape (bracketed_by r F l c S)
  bracketed_alike j l c S =
      after_alike (opened S) (opened S) _ _ refl (λ _ _ R.
      after_alike (each_by r E j c R all_choices None R) (each_by r F l c R all_choices None R) _ _
      (each_alike j l c R) (λ a b R. closing_alike a b R))

  brackets_alike : (j : AQuantifier) (o : Outcome AClass)
      → shape (after o (λ c S. bracketed_by r E j c S)) ≡ shape (after o (λ c S. bracketed_by r F j c S))
  brackets_alike j (stuck R) = refl
  brackets_alike j (got c R) = bracketed_alike j j c R

  classes_alike :
      (o : Outcome AQuantifier)
      → shape (after o (λ k S. after (class E S) (λ c S. bracketed_by r E k c S))) ≡ shape
      (after o (λ k S. after (class F S) (λ c S. bracketed_by r F k c S)))
  classes_alike (stuck R) = refl
  classes_alike (got j R) = ap (λ o. shape (after o (λ c S. bracketed_by r E j c S))) (class_alike f R) ∙ brackets_alike j (class F R)

  quantified_alike : (S : List Token) → shape (quantified_by r E S) ≡ shape (quantified_by r F S)
  quantified_alike S =
      ap (λ o. shape (after o (λ k S. after (class E S) (λ c S. bracketed_by r E k c S)))) (quantifier_alike f S) ∙ classes_alike (quantifier F S)

  condition_used_alike : (m : Option Meaning) (n : ℕ) (S : List Token) → shape (condition_used_by m r E n S) ≡ shape (condition_used_by m r F n S)
  condition_used_alike (Some (condition p g)) n S = used_alike f p g S
  condition_used_alike (Some (value p g)) n S = compares_alike (Name n ∷ S)
  condition_used_alike None n S = compares_alike (Name n ∷ S)

  unit_alike : (S : List Token) → shape (unit_by N r E S) ≡ shape (unit_by N r F S)
  unit_alike (Not ∷ S) = after_alike (r E a_unit S) (r F a_unit S) _ _ (k E F f a_unit a_unit units S) (λ a b R. refl)
  unit_alike (Open ∷ S) = after_alike (r E a_cond S) (r F a_cond S) _ _ (k E F f a_cond a_cond conds S) (λ a b R. closing_alike a b R)
  unit_alike (Quantifier j ∷ S) = quantified_alike (Quantifier j ∷ S)
  unit_alike (Balanced ∷ S) = after_alike (open_seat E S) (open_seat F S) _ _ (open_seat_alike f S)
      (λ q p R. closing_alike (balanced q) (balanced p) R)
  unit_alike (Shape ∷ S) = after_alike (seat_and_items E S) (seat_and_items F S) _ _ (seat_and_items_alike f S) (λ p q R. refl)
  unit_alike (Pattern ∷ S) = after_alike (seat_and_items E S) (seat_and_items F S) _ _ (seat_and_items_alike f S) (λ p q R. refl)
  unit_alike (Stops ∷ S) = after_alike (seat_and_suit E S) (seat_and_suit F S) _ _ (seat_and_suit_alike f S) (λ p q R. refl)
  unit_alike (Name n ∷ S) = condition_used_alike (slice_get N n) n S
  unit_alike [] = compares_alike []
  unit_alike (x ∷ S) = compares_alike (x ∷ S)

  ors_alike : (a b : Form) (S : List Token) → shape (ors_by r E a S) ≡ shape (ors_by r F b S)
  ors_alike a b (Or ∷ S) = after_alike (r E a_both S) (r F a_both S) _ _ (k E F f a_both a_both boths S) (λ x y R. k E F f _ _ behind_ors R)
  ors_alike a b [] = refl
  ors_alike a b (x ∷ S) = refl

  ands_alike : (a b : Form) (S : List Token) → shape (ands_by r E a S) ≡ shape (ands_by r F b S)
  ands_alike a b (And ∷ S) = after_alike (r E a_unit S) (r F a_unit S) _ _ (k E F f a_unit a_unit units S) (λ x y R. k E F f _ _ behind_ands R)
  ands_alike a b [] = refl
  ands_alike a b (x ∷ S) = refl

  sums_alike : (a b : Amount) (S : List Token) → shape (sums_by N r E a S) ≡ shape (sums_by N r F b S)
  sums_alike a b (Plus ∷ S) = after_alike (atom_of N E S) (atom_of N F S) _ _ (atom_alike f N S) (λ x y R. k E F f _ _ behind_sums R)
  sums_alike a b [] = refl
  sums_alike a b (x ∷ S) = refl

  step_alike : {g h : Goal} → LikeGoals g h → (S : List Token) → shape (step N r E g S) ≡ shape (step N r F h S)
  step_alike conds S = after_alike (r E a_both S) (r F a_both S) _ _ (k E F f a_both a_both boths S) (λ a b R. k E F f _ _ behind_ors R)
  step_alike boths S = after_alike (r E a_unit S) (r F a_unit S) _ _ (k E F f a_unit a_unit units S) (λ a b R. k E F f _ _ behind_ands R)
  step_alike units S = unit_alike S
  step_alike (behind_ors {a} {b}) S = ors_alike a b S
  step_alike (behind_ands {a} {b}) S = ands_alike a b S
  step_alike values S = after_alike (atom_of N E S) (atom_of N F S) _ _ (atom_alike f N S) (λ a b R. k E F f _ _ behind_sums R)
  step_alike (behind_sums {a} {b}) S = sums_alike a b S

steps_alike : (N : Meanings) (n : ℕ) → AreAlike (steps N n)
unfolding steps
steps_alike N zero E F f g h i S = refl
steps_alike N (suc n) E F f g h i S = step_alike N (steps N n) (λ E F f g h i S. steps_alike N n E F f g h i S) E F f i S

-- what the steps read of a condition doesn't depend on the suits and seats
pub conds_alike : (N : Meanings) (n : ℕ) (E F : Bound) → SameScope E F → (S : List Token)
    → shape (steps N n E a_cond S) ≡ shape (steps N n F a_cond S)
conds_alike N n E F f S = steps_alike N n E F f a_cond a_cond conds S

-- nor of a value
pub values_alike : (N : Meanings) (n : ℕ) (E F : Bound) → SameScope E F → (S : List Token)
    → shape (steps N n E a_value S) ≡ shape (steps N n F a_value S)
values_alike N n E F f S = steps_alike N n E F f a_value a_value values S
