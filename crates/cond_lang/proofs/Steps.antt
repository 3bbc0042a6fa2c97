-- The readers that lead back to a condition.
use Rattle.std.proofs.Common.{◌≡◌, ℕ, zero, suc, Bool, true, false, cond, Option, Some, None, slice_get, List, []}
use Rattle.std.proofs.Common.{◌∷◌, ◌++◌, refl, sym, ap, subst, append_assoc, append-nil}
use Rattle.cards.specs.declared.seat.Seat.{Seat as ASeat}
use Rattle.cards.specs.declared.suit.Suit.{Suit as ASuit}
use Rattle.conditions.specs.declared.tree.Item.{Item}
use Rattle.conditions.specs.declared.tree.Op.TheVariants.{Equal}
use Rattle.cond_lang.specs.declared.classes.Bound.{Bound}
use Rattle.cond_lang.specs.declared.classes.Class.{Class as AClass}
use Rattle.cond_lang.specs.declared.classes.Quantifier.{Quantifier as AQuantifier}
use Rattle.cond_lang.specs.declared.scanner.Token.{Token}
use Rattle.cond_lang.specs.declared.scanner.Token.TheVariants.{Or, And, Not, Balanced, Shape, Pattern, Quantifier}
use Rattle.cond_lang.specs.declared.scanner.Token.TheVariants.{Stops, In, Class, Number, Dash, Open, Close, Plus}
use Rattle.cond_lang.specs.declared.scanner.Token.TheVariants.{Relation, Name}
use Rattle.conditions.specs.Form.{Amount, sum, number, Form, any_of, all_of, negation, compare, within, balanced, shaped, patterned, stops}
use Rattle.cond_lang.specs.Classes.{bind, can_bind}
use Rattle.cond_lang.specs.Grammar.{Meaning, Meanings, condition, value, named_condition, SpellsAtom, SpellsValue}
use Rattle.cond_lang.specs.Grammar.{atom, plus, a_number, SpellsCond, both, or, SpellsBoth, unit, and, SpellsUnit}
use Rattle.cond_lang.specs.Grammar.{not, brackets, quantified, test, comparison, in_range, of_hand, is_balanced}
use Rattle.cond_lang.specs.Grammar.{has_shape, has_pattern, has_stopper}
use Rattle.cond_lang.specs.internal.Reading.{got, stuck, after, opened, closing, can_quantify, class, open_seat}
use Rattle.cond_lang.specs.internal.Reading.{seat_and_items, seat_and_suit, relation, range, atom_of, compared_by}
use Rattle.cond_lang.specs.internal.Reading.{related_by, comparing_by, sums_by, condition_used_by, args, a_value}
use Rattle.cond_lang.specs.internal.Reading.{sums, Of, Readers, Goal, a_cond, a_both, a_unit, ors, ands, bracketed_by}
use Rattle.cond_lang.specs.internal.Reading.{unit_by, ors_by, ands_by, step, steps}
use Rattle.cond_lang.proofs.Scopes.{SameScope, first, some_bindable}
use Rattle.cond_lang.proofs.Sequences.{Reads, HasSome, reads_after, reads_token, gets_at, gets_at_end, stops_at, reads_like, like_at, like_at_end}
use Rattle.cond_lang.proofs.Terminals.{gets, reads_then, reads_closing, reads_opened, reads_behind_seat}
use Rattle.cond_lang.proofs.Terminals.{AreSeatAndSuit, reads_seat_and_suit}
use Rattle.cond_lang.proofs.Arguments.{AreSeatAndItems, reads_seat_and_items}
use Rattle.cond_lang.proofs.Terminals.{IsBindable, reads_class, reads_relation, reads_range}
use Rattle.cond_lang.proofs.Arguments.{reads_used, reads_atom}
use Rattle.cond_lang.proofs.Shapes.{shape, conds_alike}
use Rattle.cond_lang.proofs.Quantified.{AreEach, each_spelled, each_reader, reads_each}

-- what a goal's tokens mean: after the first part of a chain, what they make of it
abbrev pub Means : Meanings → Bound → (g : Goal) → List Token → Of g → Type 0
Means N E a_cond P t = SpellsCond N E P t
Means N E a_both P t = SpellsBoth N E P t
Means N E a_unit P t = SpellsUnit N E P t
Means N E (ors a) P t = (L : List Token) → SpellsCond N E L a → SpellsCond N E (L ++ P) t
Means N E (ands a) P t = (L : List Token) → SpellsBoth N E L a → SpellsBoth N E (L ++ P) t
Means N E a_value P t = SpellsValue N E P t
Means N E (sums a) P t = (L : List Token) → SpellsValue N E L a → SpellsValue N E (L ++ P) t

pub sample : List Token
sample = Number 0 ∷ Relation Equal ∷ Number 0 ∷ []

pub sampled : Form
sampled = compare (number 0) Equal (number 0)

sample_unit : (N : Meanings) (E : Bound) → SpellsUnit N E sample sampled
unfolding sample sampled
sample_unit N E = test (comparison {L = Number 0 ∷ []} {R = Number 0 ∷ []} (atom a_number) (atom a_number))

pub sample_cond : (N : Meanings) (E : Bound) → SpellsCond N E sample sampled
sample_cond N E = both (unit (sample_unit N E))

ends_cond : (N : Meanings) (E : Bound) (a : Form) → Means N E (ors a) [] a
ends_cond N E a = λ L h. subst (λ L. SpellsCond N E L a) (sym (append-nil L)) h

ends_both : (N : Meanings) (E : Bound) (a : Form) → Means N E (ands a) [] a
ends_both N E a = λ L h. subst (λ L. SpellsBoth N E L a) (sym (append-nil L)) h

ends_value : (N : Meanings) (E : Bound) (a : Amount) → Means N E (sums a) [] a
ends_value N E a = λ L h. subst (λ L. SpellsValue N E L a) (sym (append-nil L)) h

pub has_some : (N : Meanings) (E : Bound) (g : Goal) → HasSome (Means N E g)
has_some N E a_cond = (sample, sampled, both (unit (sample_unit N E)))
has_some N E a_both = (sample, sampled, unit (sample_unit N E))
has_some N E a_unit = (sample, sampled, sample_unit N E)
has_some N E (ors a) = ([], a, ends_cond N E a)
has_some N E (ands a) = ([], a, ends_both N E a)
has_some N E a_value = (Number 0 ∷ [], number 0, atom a_number)
has_some N E (sums a) = ([], a, ends_value N E a)

joined_shape : (N : Meanings) (E : Bound) (P Q : List Token) (p : ASeat × List Item) (t : Form)
    → AreSeatAndItems E P p → (Q ≡ []) × (t ≡ shaped p.0 p.1) → SpellsUnit N E (Shape ∷ P ++ Q) t
joined_shape N E P Q p t (a, b, c, d, e, L, h, i) m = rw (m.0, m.1, append-nil P, i, e) (test (of_hand (has_shape a b c d) h))

joined_pattern : (N : Meanings) (E : Bound) (P Q : List Token) (p : ASeat × List Item) (t : Form)
    → AreSeatAndItems E P p → (Q ≡ []) × (t ≡ patterned p.0 p.1) → SpellsUnit N E (Pattern ∷ P ++ Q) t
joined_pattern N E P Q p t (a, b, c, d, e, L, h, i) m = rw (m.0, m.1, append-nil P, i, e) (test (of_hand (has_pattern a b c d) h))

joined_stops : (N : Meanings) (E : Bound) (P Q : List Token) (p : ASeat × ASuit) (t : Form) → AreSeatAndSuit E P p
    → (Q ≡ []) × (t ≡ stops p.0 p.1) → SpellsUnit N E (Stops ∷ P ++ Q) t
joined_stops N E P Q p t h m = rw (m.0, m.1, append-nil P, h.4) (test (of_hand (has_stopper tt h.3) h.1))

-- what a value is compared with: tokens after those that spell it
abbrev pub Relates : Meanings → Bound → Amount → List Token → Form → Type 0
Relates N E a P t = (L : List Token) → SpellsValue N E L a → SpellsUnit N E (L ++ P) t

module _ (N : Meanings) (r : Readers) (k : (E : Bound) (g : Goal) (S : List Token) → Reads (Means N E g) (r E g) S (r E g S))
    (alike : (E F : Bound) → SameScope E F → (S : List Token) → shape (r E a_cond S) ≡ shape (r F a_cond S)) (E : Bound) where
  compared : (a : Amount) (S : List Token) → Reads (Relates N E a) (compared_by r E a) S (compared_by r E a S)
  compared a S =
      reads_then (λ o. Relation o ∷ []) (Relates N E a) relation _ S (relation S)
      (λ o. (Number 0 ∷ [], compare a o (number 0), λ L h. test (comparison h (atom a_number)))) (reads_relation S)
      (λ o S. reads_after (SpellsValue N E) (λ b P t. (P ≡ []) × (t ≡ compare a o b))
      (λ P. Relates N E a (Relation o ∷ P)) (r E a_value) _ S (r E a_value S)
      (λ P Q b t h m. λ L l. rw (m.0, m.1, append-nil P) (test (comparison l h)))
      (λ b. ([], compare a o b, (refl, refl))) (k E a_value S)
      (λ b S. gets _ (compare a o b) S (refl, refl)))

  pub related : (a : Amount) (S : List Token) → Reads (Relates N E a) (related_by r E a) S (related_by r E a S)
  related a [] = reads_like (Relates N E a) (compared_by r E a) (related_by r E a) [] _
      (like_at_end (compared_by r E a) (related_by r E a) refl) (compared a [])
  related a (In ∷ S) =
      reads_token (λ P. Relates N E a (In ∷ P)) (Relates N E a) In
      (λ S. after (range S) (λ p S. got (within a p.0 p.1) S)) (related_by r E a) S _ (λ P x m. m) (λ X. refl)
      (reads_then (λ p. Number p.0 ∷ Dash ∷ Number p.1 ∷ []) (λ P. Relates N E a (In ∷ P)) range (λ p S. got (within a p.0 p.1) S) S (range S)
      (λ p. ([], within a p.0 p.1, λ L h. test (in_range h))) (reads_range S) (λ p S. gets _ (within a p.0 p.1) S (λ L h. test (in_range h))))
  related a (c ∷ S) = reads_like (Relates N E a) (compared_by r E a) (related_by r E a) (c ∷ S) _
      (like_at (compared_by r E a) (related_by r E a) c S (λ X. refl)) (compared a (c ∷ S))

  compares : (S : List Token) → Reads (SpellsUnit N E) (comparing_by r E) S (comparing_by r E S)
  compares S =
      reads_after (SpellsValue N E) (Relates N E) (SpellsUnit N E) (r E a_value) (λ a S. related_by r E a S) S (r E a_value S)
      (λ P Q a t h m. m P h)
      (λ a. (Relation Equal ∷ Number 0 ∷ [], compare a Equal (number 0), λ L h. test (comparison h (atom a_number)))) (k E a_value S)
      related

  sums_reads : (a : Amount) (S : List Token) → Reads (Means N E (sums a)) (sums_by N r E a) S (sums_by N r E a S)
  sums_reads a [] = gets_at_end (Means N E (sums a)) (sums_by N r E a) a (ends_value N E a) refl
  sums_reads a (Plus ∷ S) =
      reads_token (λ P. Means N E (sums a) (Plus ∷ P)) (Means N E (sums a)) Plus
      (λ S. after (atom_of N E S) (λ b R. r E (sums (sum a b)) R)) (sums_by N r E a) S _ (λ P x m. m) (λ X. refl)
      (reads_after (SpellsAtom N E) (λ b. Means N E (sums (sum a b))) (λ P. Means N E (sums a) (Plus ∷ P))
      (atom_of N E) (λ b R. r E (sums (sum a b)) R) S (atom_of N E S)
      (λ P Q b t h m. λ L l. subst (λ L. SpellsValue N E L t) (append_assoc L (Plus ∷ P) Q) (m (L ++ Plus ∷ P) (plus l h)))
      (λ b. has_some N E (sums (sum a b))) (reads_atom N E S) (λ b R. k E (sums (sum a b)) R))
  sums_reads a (c ∷ S) = gets_at (Means N E (sums a)) c (sums_by N r E a) S a (ends_value N E a) (λ X. refl)

  -- ---- quantifiers

  -- ( cond ) after a class that can be bound
  abbrev Brackets : AQuantifier → AClass → List Token → Form → Type 0
  Brackets j c Q t = can_bind E c ≡ true → SpellsUnit N E (Quantifier j ∷ Class c ∷ Q) t

  joined_each : (j : AQuantifier) (c : AClass) (P Q : List Token) (t u : Form) → AreEach N E j c P t
      → (Q ≡ Close ∷ []) × (u ≡ t) → Brackets j c (Open ∷ P ++ Q) u
  joined_each j c P Q t u h m = rw (m.0, m.1, h.3) (λ b. quantified tt b h.2)

  brackets_read : (j : AQuantifier) (c : AClass) (S : List Token) → Reads (Brackets j c) (bracketed_by r E j c) S (bracketed_by r E j c S)
  brackets_read j c S =
      let some = each_spelled N E j c first sample sampled (both (unit (sample_unit N (bind E c first)))) in
      reads_then (λ _. Open ∷ []) (Brackets j c) opened (λ _ S. after (each_reader r E j c S) closing) S (opened S)
      (λ _. (sample ++ Close ∷ [], some.0, joined_each j c sample (Close ∷ []) some.0 some.0 some.1 (refl, refl))) (reads_opened S)
      (λ _ S. reads_after (AreEach N E j c) (λ t Q u. (Q ≡ Close ∷ []) × (u ≡ t)) (λ Q. Brackets j c (Open ∷ Q))
      (each_reader r E j c) closing S (each_reader r E j c S)
      (joined_each j c) (λ t. (Close ∷ [], t, (refl, refl))) (reads_each N r (λ E S. k E a_cond S) alike E j c S)
      (λ t R. reads_closing _ t R (refl, refl)))

  -- class ( cond ) after a quantifier
  abbrev Quantifies : AQuantifier → List Token → Form → Type 0
  Quantifies j Q t = SpellsUnit N E (Quantifier j ∷ Q) t

  class_reads : (j : AQuantifier) (S : List Token) → can_quantify E ≡ true
      → Reads (Quantifies j) (λ S. after (class E S) (λ c S. bracketed_by r E j c S)) S (after (class E S) (λ c S. bracketed_by r E j c S))
  class_reads j S e =
      reads_after (IsBindable E) (Brackets j) (Quantifies j) (class E) (bracketed_by r E j) S (class E S)
      (λ P Q c t h m. subst (λ P. SpellsUnit N E (Quantifier j ∷ P ++ Q) t) (sym h.0) (m h.1))
      (λ c.
      let some = each_spelled N E j c first sample sampled (both (unit (sample_unit N (bind E c first)))) in
      (Open ∷ sample ++ Close ∷ [], some.0, joined_each j c sample (Close ∷ []) some.0 some.0 some.1 (refl, refl)))
      (reads_class E (some_bindable E e) S) (λ c R. brackets_read j c R)

  quantified_reads :
      (j : AQuantifier) (S : List Token) (b : Bool) → can_quantify E ≡ b
      → Reads (SpellsUnit N E) (unit_by N r E) (Quantifier j ∷ S)
      (after (cond b (got j S) (stuck (Quantifier j ∷ S))) (λ k S. after (class E S) (λ c S. bracketed_by r E k c S)))
  quantified_reads j S true e =
      reads_token (Quantifies j) (SpellsUnit N E) (Quantifier j)
      (λ S. after (class E S) (λ c S. bracketed_by r E j c S)) (unit_by N r E) S _ (λ P x m. m)
      (λ X. ap (λ b. after (cond b (got j X) (stuck (Quantifier j ∷ X)))
      (λ k S. after (class E S) (λ c S. bracketed_by r E k c S))) e) (class_reads j S e)
  quantified_reads j S false e =
      stops_at _ (Quantifier j) (unit_by N r E) S (sample, sampled, sample_unit N E)
      (λ X. ap (λ b. after (cond b (got j X) (stuck (Quantifier j ∷ X))) (λ k S. after (class E S) (λ c S. bracketed_by r E k c S))) e)

  -- ---- names

  condition_used_reads : (n : ℕ) (S : List Token) (m : Option Meaning) → slice_get N n ≡ m
      → Reads (SpellsUnit N E) (unit_by N r E) (Name n ∷ S) (condition_used_by m r E n S)
  condition_used_reads n S (Some (condition p f)) e =
      reads_token (λ P. SpellsUnit N E (Name n ∷ P)) (SpellsUnit N E) (Name n)
      (λ S. after (args E p S) (λ x R. got (f x) R)) (unit_by N r E) S _ (λ P x m. m)
      (λ X. ap (λ m. condition_used_by m r E n X) e) (reads_used E p f (λ P. SpellsUnit N E (Name n ∷ P)) (λ P x h. test (named_condition e h)) S)
  condition_used_reads n S (Some (value p f)) e =
      reads_like (SpellsUnit N E) (comparing_by r E) (unit_by N r E) (Name n ∷ S) _
      (like_at (comparing_by r E) (unit_by N r E) (Name n) S (λ X. ap (λ m. condition_used_by m r E n X) e)) (compares (Name n ∷ S))
  condition_used_reads n S None e =
      reads_like (SpellsUnit N E) (comparing_by r E) (unit_by N r E) (Name n ∷ S) _
      (like_at (comparing_by r E) (unit_by N r E) (Name n) S (λ X. ap (λ m. condition_used_by m r E n X) e)) (compares (Name n ∷ S))

  unit_reads : (S : List Token) → Reads (SpellsUnit N E) (unit_by N r E) S (unit_by N r E S)
  unit_reads (Not ∷ S) =
      reads_token (λ P. SpellsUnit N E (Not ∷ P)) (SpellsUnit N E) Not
      (λ S. after (r E a_unit S) (λ t R. got (negation t) R)) (unit_by N r E) S _ (λ P x m. m) (λ X. refl)
      (reads_after (SpellsUnit N E) (λ a P t. (P ≡ []) × (t ≡ negation a)) (λ P. SpellsUnit N E (Not ∷ P))
      (r E a_unit) (λ t R. got (negation t) R) S (r E a_unit S)
      (λ P Q a t h m. rw (m.0, m.1, append-nil P) (not h)) (λ a. ([], negation a, (refl, refl))) (k E a_unit S)
      (λ a R. gets _ (negation a) R (refl, refl)))
  unit_reads (Open ∷ S) =
      reads_token (λ P. SpellsUnit N E (Open ∷ P)) (SpellsUnit N E) Open (λ S. after (r E a_cond S) closing)
      (unit_by N r E) S _ (λ P x m. m) (λ X. refl)
      (reads_after (SpellsCond N E) (λ a P t. (P ≡ Close ∷ []) × (t ≡ a)) (λ P. SpellsUnit N E (Open ∷ P)) (r E a_cond) closing S (r E a_cond S)
      (λ P Q a t h m. rw (m.0, m.1) (brackets h)) (λ a. (Close ∷ [], a, (refl, refl))) (k E a_cond S) (λ a R. reads_closing _ a R (refl, refl)))
  unit_reads (Balanced ∷ S) =
      reads_token (λ P. SpellsUnit N E (Balanced ∷ P)) (SpellsUnit N E) Balanced
      (λ S. after (open_seat E S) (λ q R. closing (balanced q) R)) (unit_by N r E) S _ (λ P x m. m) (λ X. refl)
      (reads_behind_seat E (λ P. SpellsUnit N E (Balanced ∷ P)) (λ q R. closing (balanced q) R) S
      (λ q. (Close ∷ [], balanced q, λ L h. test (of_hand is_balanced h)))
      (λ q R. reads_closing _ (balanced q) R (λ L h. test (of_hand is_balanced h))))
  unit_reads (Shape ∷ S) =
      reads_token (λ P. SpellsUnit N E (Shape ∷ P)) (SpellsUnit N E) Shape
      (λ S. after (seat_and_items E S) (λ p R. got (shaped p.0 p.1) R)) (unit_by N r E) S _ (λ P x m. m)
      (λ X. refl)
      (reads_after (AreSeatAndItems E) (λ p Q t. (Q ≡ []) × (t ≡ shaped p.0 p.1)) (λ P. SpellsUnit N E (Shape ∷ P))
      (seat_and_items E) (λ p R. got (shaped p.0 p.1) R) S (seat_and_items E S)
      (joined_shape N E) (λ p. ([], shaped p.0 p.1, (refl, refl))) (reads_seat_and_items E S) (λ p R. gets _ (shaped p.0 p.1) R (refl, refl)))
  unit_reads (Pattern ∷ S) =
      reads_token (λ P. SpellsUnit N E (Pattern ∷ P)) (SpellsUnit N E) Pattern
      (λ S. after (seat_and_items E S) (λ p R. got (patterned p.0 p.1) R)) (unit_by N r E) S _ (λ P x m. m)
      (λ X. refl)
      (reads_after (AreSeatAndItems E) (λ p Q t. (Q ≡ []) × (t ≡ patterned p.0 p.1))
      (λ P. SpellsUnit N E (Pattern ∷ P)) (seat_and_items E) (λ p R. got (patterned p.0 p.1) R) S
      (seat_and_items E S)
      (joined_pattern N E) (λ p. ([], patterned p.0 p.1, (refl, refl))) (reads_seat_and_items E S) (λ p R. gets _ (patterned p.0 p.1) R (refl, refl)))
  unit_reads (Quantifier j ∷ S) = quantified_reads j S (can_quantify E) refl
  unit_reads (Stops ∷ S) =
      reads_token (λ P. SpellsUnit N E (Stops ∷ P)) (SpellsUnit N E) Stops
      (λ S. after (seat_and_suit E S) (λ p R. got (stops p.0 p.1) R)) (unit_by N r E) S _ (λ P x m. m) (λ X. refl)
      (reads_after (AreSeatAndSuit E) (λ p Q t. (Q ≡ []) × (t ≡ stops p.0 p.1)) (λ P. SpellsUnit N E (Stops ∷ P))
      (seat_and_suit E) (λ p R. got (stops p.0 p.1) R) S (seat_and_suit E S)
      (joined_stops N E) (λ p. ([], stops p.0 p.1, (refl, refl))) (reads_seat_and_suit E S) (λ p R. gets _ (stops p.0 p.1) R (refl, refl)))
  unit_reads (Name n ∷ S) = condition_used_reads n S (slice_get N n) refl
  unit_reads [] = reads_like (SpellsUnit N E) (comparing_by r E) (unit_by N r E) [] _
      (like_at_end (comparing_by r E) (unit_by N r E) refl) (compares [])
  unit_reads (c ∷ S) = reads_like (SpellsUnit N E) (comparing_by r E) (unit_by N r E) (c ∷ S) _
      (like_at (comparing_by r E) (unit_by N r E) c S (λ X. refl)) (compares (c ∷ S))

  ors_reads : (a : Form) (S : List Token) → Reads (Means N E (ors a)) (ors_by r E a) S (ors_by r E a S)
  ors_reads a [] = gets_at_end (Means N E (ors a)) (ors_by r E a) a (ends_cond N E a) refl
  ors_reads a (Or ∷ S) =
      reads_token (λ P. Means N E (ors a) (Or ∷ P)) (Means N E (ors a)) Or
      (λ S. after (r E a_both S) (λ b R. r E (ors (any_of a b)) R)) (ors_by r E a) S _ (λ P x m. m) (λ X. refl)
      (reads_after (SpellsBoth N E) (λ b. Means N E (ors (any_of a b))) (λ P. Means N E (ors a) (Or ∷ P)) (r E a_both)
      (λ b R. r E (ors (any_of a b)) R) S (r E a_both S)
      (λ P Q b t h m. λ L l. subst (λ L. SpellsCond N E L t) (append_assoc L (Or ∷ P) Q) (m (L ++ Or ∷ P) (or l h)))
      (λ b. has_some N E (ors (any_of a b))) (k E a_both S) (λ b R. k E (ors (any_of a b)) R))
  ors_reads a (c ∷ S) = gets_at (Means N E (ors a)) c (ors_by r E a) S a (ends_cond N E a) (λ X. refl)

  ands_reads : (a : Form) (S : List Token) → Reads (Means N E (ands a)) (ands_by r E a) S (ands_by r E a S)
  ands_reads a [] = gets_at_end (Means N E (ands a)) (ands_by r E a) a (ends_both N E a) refl
  ands_reads a (And ∷ S) =
      reads_token (λ P. Means N E (ands a) (And ∷ P)) (Means N E (ands a)) And
      (λ S. after (r E a_unit S) (λ b R. r E (ands (all_of a b)) R)) (ands_by r E a) S _ (λ P x m. m) (λ X. refl)
      (reads_after (SpellsUnit N E) (λ b. Means N E (ands (all_of a b))) (λ P. Means N E (ands a) (And ∷ P))
      (r E a_unit) (λ b R. r E (ands (all_of a b)) R) S (r E a_unit S)
      (λ P Q b t h m. λ L l. subst (λ L. SpellsBoth N E L t) (append_assoc L (And ∷ P) Q) (m (L ++ And ∷ P) (and l h)))
      (λ b. has_some N E (ands (all_of a b))) (k E a_unit S) (λ b R. k E (ands (all_of a b)) R))
  ands_reads a (c ∷ S) = gets_at (Means N E (ands a)) c (ands_by r E a) S a (ends_both N E a) (λ X. refl)

  step_reads : (g : Goal) (S : List Token) → Reads (Means N E g) (step N r E g) S (step N r E g S)
  step_reads a_cond S =
      reads_after (SpellsBoth N E) (λ a. Means N E (ors a)) (SpellsCond N E) (r E a_both) (λ a R. r E (ors a) R) S (r E a_both S)
      (λ P Q a t h m. m P (both h)) (λ a. has_some N E (ors a)) (k E a_both S) (λ a R. k E (ors a) R)
  step_reads a_both S =
      reads_after (SpellsUnit N E) (λ a. Means N E (ands a)) (SpellsBoth N E) (r E a_unit) (λ a R. r E (ands a) R) S (r E a_unit S)
      (λ P Q a t h m. m P (unit h)) (λ a. has_some N E (ands a)) (k E a_unit S) (λ a R. k E (ands a) R)
  step_reads a_unit S = unit_reads S
  step_reads (ors a) S = ors_reads a S
  step_reads (ands a) S = ands_reads a S
  step_reads a_value S =
      reads_after (SpellsAtom N E) (λ a. Means N E (sums a)) (SpellsValue N E) (atom_of N E) (λ a R. r E (sums a) R) S (atom_of N E S)
      (λ P Q a t h m. m P (atom h)) (λ a. has_some N E (sums a)) (reads_atom N E S) (λ a R. k E (sums a) R)
  step_reads (sums a) S = sums_reads a S

pub steps_reads : (N : Meanings) (n : ℕ) (E : Bound) (g : Goal) (S : List Token) → Reads (Means N E g) (steps N n E g) S (steps N n E g S)
unfolding steps
steps_reads N zero E g S = record { done = []; cut = refl; same = λ X i. refl; right = has_some N E g }
steps_reads N (suc n) E g S = step_reads N (steps N n) (steps_reads N n) (conds_alike N n) E g S
