-- What the body of a name is read as.
use Rattle.std.proofs.Common.{◌≡◌, ℕ, ◌≤◌, false, List, [], ◌∷◌, ◌++◌, Option, Some, None, slice_get, length, drop}
use Rattle.std.proofs.Common.{refl, sym, ap, ◌∙◌, subst, append_assoc, length-append, le_trans, arith}
use Rattle.std.proofs.Math.Path.{fun_ext}
use Rattle.std.proofs.lemmas.List.{append_cancel_left, append_cancel_right}
use Rattle.cond_lang.specs.declared.classes.Bound.{Bound}
use Rattle.cond_lang.specs.declared.classes.Choice.{Choice}
use Rattle.cond_lang.specs.declared.classes.Class.TheVariants.{Suit as AnySuit, Seat as AnySeat}
use Rattle.cond_lang.specs.declared.classes.Params.{Params}
use Rattle.cond_lang.specs.declared.classes.Params.TheVariants.{Plain, OfSeat, OfSuit, OfBoth}
use Rattle.cond_lang.specs.declared.scanner.Token.{Token}
use Rattle.cond_lang.specs.declared.scanner.Token.TheVariants.{Not, Balanced, Shape, Pattern, Quantifier, Stops, Open, Close, Name}
use Rattle.conditions.specs.Form.{Amount, Form}
use Rattle.cond_lang.specs.Classes.{unbound, given}
use Rattle.cond_lang.specs.Definitions.{IsBody, a_condition, a_value as a_value_body}
use Rattle.cond_lang.specs.Grammar.{Meaning, Meanings, condition, value, SpellsCond, SpellsValue}
use Rattle.cond_lang.specs.internal.Defining.{first, tree_read, amount_read, as_condition, as_value, ends_body, body_by, body}
use Rattle.cond_lang.specs.internal.Reading.{Outcome, got, stuck, Reader, after, front, Goal, Of, a_cond, a_both}
use Rattle.cond_lang.specs.internal.Reading.{a_unit, a_value, ors, ands, comparing_by, related_by, atom_of}
use Rattle.cond_lang.specs.internal.Reading.{number_or_count, count_of, value_used, condition_used_by, unit_by, sums}
use Rattle.cond_lang.specs.internal.Reading.{reading}
use Rattle.cond_lang.proofs.Alike.{SomeCond, spelled_with}
use Rattle.cond_lang.proofs.Enough.{reads, reading_reads}
use Rattle.cond_lang.proofs.Scopes.{SameScope, same_scope, bind_same}
use Rattle.cond_lang.proofs.Sequences.{Reads, HasSome, rest, onto, front-append}
use Rattle.cond_lang.proofs.Shapes.{shape, shape_got, conds_alike, values_alike}
use Rattle.cond_lang.proofs.Spelled.{cond_read, value_read, unit_compares}
use Rattle.cond_lang.proofs.Steps.{Means, related, sample, sampled, sample_cond}

-- ---- a condition is read at least as far as a value

short_reading : (N : Meanings) (E : Bound) (g : Goal) (S : List Token) → length (rest (reading N E g S)) ≤ length S
short_reading N E g S = let h = reading_reads N E g S in omega (arith, ap length h.cut, length-append h.done (rest (reading N E g S)))

after_shorter : {A B : Type 0} (o : Outcome A) (f : A → Reader B)
    → ((x : A) (R : List Token) → length (rest (f x R)) ≤ length R) → length (rest (after o f)) ≤ length (rest o)
after_shorter (got x R) f h = h x R
after_shorter (stuck R) f h = omega arith

reading_alike : (N : Meanings) (E F : Bound) → SameScope E F → (S : List Token) → shape (reading N E a_cond S) ≡ shape (reading N F a_cond S)
unfolding reading
reading_alike N E F f S = conds_alike N _ E F f S

value_alike : (N : Meanings) (E F : Bound) → SameScope E F → (S : List Token) → shape (reading N E a_value S) ≡ shape (reading N F a_value S)
unfolding reading
value_alike N E F f S = values_alike N _ E F f S

related_shorter : (N : Meanings) (E : Bound) (a : Amount) (S : List Token) → length (rest (related_by (reading N) E a S)) ≤ length S
related_shorter N E a S =
    let h = related N (reading N) (reading_reads N) (reading_alike N) E a S in
    omega (arith, ap length h.cut, length-append h.done (rest (related_by (reading N) E a S)))

module _ (N : Meanings) (E : Bound) where
  comparing_farther : (S : List Token) → length (rest (comparing_by (reading N) E S)) ≤ length (rest (reading N E a_value S))
  comparing_farther S = after_shorter (reading N E a_value S) (λ a S. related_by (reading N) E a S) (related_shorter N E)

  -- where no value begins, it is read no farther than to there
  not_begun : (S : List Token) → reading N E a_value S ≡ stuck S → length (rest (reading N E a_unit S)) ≤ length (rest (reading N E a_value S))
  not_begun S e = rw e (short_reading N E a_unit S)

  used_farther :
      (n : ℕ) (S : List Token) (m : Option Meaning) → slice_get N n ≡ m
      → length (rest (reading N E a_unit (Name n ∷ S))) ≤ length (rest (reading N E a_value (Name n ∷ S)))
  unfolding atom_of
  used_farther n S (Some (condition p f)) e =
      not_begun (Name n ∷ S) (reads N E a_value (Name n ∷ S) ∙ ap (λ m. after (value_used m E n S) (λ a R. reading N E (sums a) R)) e)
  used_farther n S (Some (value p f)) e =
      subst (λ o. length (rest o) ≤ length (rest (reading N E a_value (Name n ∷ S))))
      (sym (reads N E a_unit (Name n ∷ S) ∙ ap (λ m. condition_used_by m (reading N) E n S) e))
      (comparing_farther (Name n ∷ S))
  used_farther n S None e =
      subst (λ o. length (rest o) ≤ length (rest (reading N E a_value (Name n ∷ S))))
      (sym (reads N E a_unit (Name n ∷ S) ∙ ap (λ m. condition_used_by m (reading N) E n S) e))
      (comparing_farther (Name n ∷ S))

  compares_farther : (S : List Token) → unit_by N (reading N) E S ≡ comparing_by (reading N) E S
      → length (rest (reading N E a_unit S)) ≤ length (rest (reading N E a_value S))
  compares_farther S e = subst (λ o. length (rest o) ≤ length (rest (reading N E a_value S))) (sym (reads N E a_unit S ∙ e)) (comparing_farther S)

  unit_farther : (S : List Token) → length (rest (reading N E a_unit S)) ≤ length (rest (reading N E a_value S))
  unfolding atom_of number_or_count count_of
  unit_farther (Not ∷ S) = not_begun (Not ∷ S) (reads N E a_value (Not ∷ S))
  unit_farther (Open ∷ S) = not_begun (Open ∷ S) (reads N E a_value (Open ∷ S))
  unit_farther (Quantifier k ∷ S) = not_begun (Quantifier k ∷ S) (reads N E a_value (Quantifier k ∷ S))
  unit_farther (Balanced ∷ S) = not_begun (Balanced ∷ S) (reads N E a_value (Balanced ∷ S))
  unit_farther (Shape ∷ S) = not_begun (Shape ∷ S) (reads N E a_value (Shape ∷ S))
  unit_farther (Pattern ∷ S) = not_begun (Pattern ∷ S) (reads N E a_value (Pattern ∷ S))
  unit_farther (Stops ∷ S) = not_begun (Stops ∷ S) (reads N E a_value (Stops ∷ S))
  unit_farther (Name n ∷ S) = used_farther n S (slice_get N n) refl
  unit_farther [] = compares_farther [] refl
  unit_farther (c ∷ S) = compares_farther (c ∷ S) refl

  both_farther : (S : List Token) → length (rest (reading N E a_both S)) ≤ length (rest (reading N E a_unit S))
  both_farther S =
      subst (λ o. length (rest o) ≤ length (rest (reading N E a_unit S))) (sym (reads N E a_both S))
      (after_shorter (reading N E a_unit S) (λ a R. reading N E (ands a) R) (λ a R. short_reading N E (ands a) R))

  cond_farther : (S : List Token) → length (rest (reading N E a_cond S)) ≤ length (rest (reading N E a_both S))
  cond_farther S =
      subst (λ o. length (rest o) ≤ length (rest (reading N E a_both S))) (sym (reads N E a_cond S))
      (after_shorter (reading N E a_both S) (λ a R. reading N E (ors a) R) (λ a R. short_reading N E (ors a) R))

  pub value_first : (S : List Token) → length (rest (reading N E a_cond S)) ≤ length (rest (reading N E a_value S))
  value_first S = le_trans (cond_farther S) (le_trans (both_farther S) (unit_farther S))

-- ---- what is read with each choice

pub given_same : (p : Params) (x y : Choice) → SameScope (given p x) (given p y)
given_same Plain x y = same_scope unbound
given_same OfSeat x y = bind_same (same_scope unbound) AnySeat x y
given_same OfSuit x y = bind_same (same_scope unbound) AnySuit x y
given_same OfBoth x y = bind_same (bind_same (same_scope unbound) AnySeat x y) AnySuit x y

-- the same is passed with each choice
abbrev SameWithEach : Meanings → Params → Goal → Type 0
SameWithEach N p g = (x : Choice) (S : List Token) → shape (reading N (given p x) g S) ≡ shape (reading N (given p first) g S)

pub conds_same : (N : Meanings) (p : Params) → SameWithEach N p a_cond
conds_same N p x S = reading_alike N (given p x) (given p first) (given_same p x first) S

pub values_same : (N : Meanings) (p : Params) → SameWithEach N p a_value
values_same N p x S = value_alike N (given p x) (given p first) (given_same p x first) S

-- what is read from the tokens D with a choice, whatever follows with R's front
record EachRead (N : Meanings) (p : Params) (g : Goal) (D R : List Token) (x : Choice) : Type 0 where
  found : Of g
  spelled : Means N (given p x) g D found
  read : (X : List Token) → front X ≡ front R → reading N (given p x) g (D ++ X) ≡ got found X

each_read :
    (N : Meanings) (p : Params) (g : Goal) → SameWithEach N p g → (D R : List Token) → shape (reading N (given p first) g (D ++ R)) ≡ got tt R
    → (x : Choice) → EachRead N p g D R x
each_read N p g same D R e x =
    let t = shape_got (reading N (given p x) g (D ++ R)) R (same x (D ++ R) ∙ e) in
    let h : Reads (Means N (given p x) g) (reading N (given p x) g) (D ++ R) (got t.0 R) =
    subst (λ o. Reads (Means N (given p x) g) (reading N (given p x) g) (D ++ R) o) t.1 (reading_reads N (given p x) g (D ++ R)) in
    let d : D ≡ h.done = append_cancel_right D h.done R h.cut in
    record {
      found = t.0;
      spelled = subst (λ L. Means N (given p x) g L t.0) (sym d) h.right;
      read = λ X i. ap (λ L. reading N (given p x) g (L ++ X)) d ∙ h.same X i;
    }

-- ---- bodies

pub some_body : (N : Meanings) (p : Params) → HasSome (IsBody N p)
some_body N p = (sample, condition p (λ x. sampled), a_condition (λ x. sample_cond N (given p x)))

-- a longer beginning of the same list goes on behind a shorter one
further_part : (D R E S : List Token) → D ++ R ≡ E ++ S → length S ≤ length R → E ≡ D ++ drop (length D) E
further_part [] R E S e few = refl
further_part (c ∷ D) R [] S e few = absurd (omega (arith, few, ap length e, length-append (c ∷ D) R))
further_part (c ∷ D) R (d ∷ E) S e few =
    let i : c ≡ d = cc in
    let j : D ++ R ≡ E ++ S = cc in
    ap (λ c. c ∷ E) (sym i) ∙ ap (λ L. c ∷ L) (further_part D R E S j few)

module _ (N : Meanings) (p : Params) where
  -- the readers of the first choice
  abbrev as_a_value : Reader Amount
  as_a_value = reading N (given p first) a_value

  abbrev as_a_cond : Reader Form
  as_a_cond = reading N (given p first) a_cond

  -- a body that is a value
  same_value :
      (D R X : List Token) → ((x : Choice) → EachRead N p a_value D (Close ∷ R) x)
      → as_value N p (D ++ Close ∷ X) ≡ as_value N p (D ++ Close ∷ R)
  same_value D R X each =
      ap (λ f. value p f) (fun_ext (λ x. ap amount_read ((each x).read (Close ∷ X) refl) ∙ sym (ap amount_read ((each x).read (Close ∷ R) refl))))

  reads_value_body :
      (D R : List Token) (a : Amount) → as_a_value (D ++ Close ∷ R) ≡ got a (Close ∷ R)
      → Reads (IsBody N p) (body N p) (D ++ Close ∷ R) (body N p (D ++ Close ∷ R))
  unfolding body
  reads_value_body D R a e =
      let each : (x : Choice) → EachRead N p a_value D (Close ∷ R) x = each_read N p a_value (values_same N p) D (Close ∷ R) (ap shape e) in
      let is : (X : List Token) → front X ≡ Some Close → body N p (D ++ X) ≡ got (as_value N p (D ++ Close ∷ R)) X =
      λ X i. ends_at X i each in
      subst (λ o. Reads (IsBody N p) (body N p) (D ++ Close ∷ R) o) (sym (is (Close ∷ R) refl))
      (record {
        done = D;
        cut = refl;
        same = is;
        right =
            a_value_body (λ x. subst (λ b. SpellsValue N (given p x) D b) (sym (ap amount_read ((each x).read (Close ∷ R) refl))) (each x).spelled);
      })
    where
      ends_at : (X : List Token) → front X ≡ Some Close → ((x : Choice) → EachRead N p a_value D (Close ∷ R) x)
          → body_by N p (as_a_value (D ++ X)) (D ++ X) ≡ got (as_value N p (D ++ Close ∷ R)) X
      ends_at [] i each = absurd (cc)
      ends_at (c ∷ X) i each =
          let k : c ≡ Close = cc in
          subst (λ c. body_by N p (as_a_value (D ++ c ∷ X)) (D ++ c ∷ X) ≡ got (as_value N p (D ++ Close ∷ R)) (c ∷ X)) (sym k)
          (ap (λ o. body_by N p o (D ++ Close ∷ X)) ((each first).read (Close ∷ X) refl) ∙ ap (λ m. got m (Close ∷ X)) (same_value D R X each))

  -- a body that is a condition
  same_condition :
      (D R X : List Token) → front X ≡ front R → ((x : Choice) → EachRead N p a_cond D R x)
      → as_condition N p (D ++ X) ≡ as_condition N p (D ++ R)
  same_condition D R X i each =
      ap (λ f. condition p f) (fun_ext (λ x. ap tree_read ((each x).read X i) ∙ sym (ap tree_read ((each x).read R refl))))

  -- what isn't a value whose bracket ends it is read as a condition
  pub as_other : (o : Outcome Amount) (S : List Token) → ends_body o ≡ false
      → body_by N p o S ≡ after (as_a_cond S) (λ _ R. got (as_condition N p S) R)
  as_other (got a (Close ∷ R)) S e = absurd (cc)
  as_other (got a []) S e = refl
  as_other (got a (c ∷ R)) S e = refl
  as_other (stuck R) S e = refl

  -- the same with another rest that has the same token in sight
  ends_alike : (o : Outcome Amount) (X : List Token) → front X ≡ front (rest o) → ends_body (onto o X) ≡ ends_body o
  ends_alike (stuck R) X i = refl
  ends_alike (got a R) X i = by_front X R i
    where
      by_front : (X R : List Token) → front X ≡ front R → ends_body (got a X) ≡ ends_body (got a R)
      by_front [] [] i = refl
      by_front [] (c ∷ R) i = absurd (cc)
      by_front (c ∷ X) [] i = absurd (cc)
      by_front (c ∷ X) (d ∷ R) i = let k : c ≡ d = cc in subst (λ c. ends_body (got a (c ∷ X)) ≡ ends_body (got a (d ∷ R))) (sym k) (one_front d X R)
        where
          one_front : (d : Token) (X R : List Token) → ends_body (got a (d ∷ X)) ≡ ends_body (got a (d ∷ R))
          one_front Close X R = refl
          one_front d X R = refl

  -- what is passed as a value is passed as a condition
  record Further (D : List Token) (o : Outcome Amount) (R : List Token) : Type 0 where
    between : List Token
    left : rest o ≡ between ++ R
    passed : (X : List Token) → front X ≡ front R → as_a_value (D ++ X) ≡ onto o (between ++ X)

  further : (S D R : List Token) → S ≡ D ++ R → length R ≤ length (rest (as_a_value S)) → Further D (as_a_value S) R
  further S D R cut few =
      let h = reading_reads N (given p first) a_value S in
      let m : List Token = drop (length h.done) D in
      let more : D ≡ h.done ++ m = further_part h.done (rest (as_a_value S)) D R (sym h.cut ∙ cut) few in
      let left : rest (as_a_value S) ≡ m ++ R = append_cancel_left h.done (rest (as_a_value S)) (m ++ R)
      (sym h.cut ∙ cut ∙ ap (λ D. D ++ R) more ∙ append_assoc h.done m R) in
      record {
        between = m;
        left = left;
        passed = λ X i.
            ap (λ D. as_a_value (D ++ X)) more
            ∙ ap as_a_value (append_assoc h.done m X)
            ∙ h.same (m ++ X) (front-append m X R i ∙ ap front (sym left));
      }

  -- so with the same token behind what is passed, the same body is read
  other_same :
      (S D R X : List Token) → S ≡ D ++ R → length R ≤ length (rest (as_a_value S)) → ends_body (as_a_value S) ≡ false → front X ≡ front R
      → body N p (D ++ X) ≡ after (as_a_cond (D ++ X)) (λ _ Q. got (as_condition N p (D ++ X)) Q)
  unfolding body
  other_same S D R X cut few other i =
      let f = further S D R cut few in
      as_other (as_a_value (D ++ X)) (D ++ X)
      (ap ends_body (f.passed X i) ∙ ends_alike (as_a_value S) (f.between ++ X) (front-append f.between X R i ∙ ap front (sym f.left)) ∙ other)

  reads_other_body :
      (S : List Token) (o : Outcome Form) → as_a_cond S ≡ o → ends_body (as_a_value S) ≡ false
      → Reads (IsBody N p) (body N p) S (after o (λ _ R. got (as_condition N p S) R))
  reads_other_body S (stuck R) e other =
      let h : Reads (SpellsCond N (given p first)) as_a_cond S (stuck R) =
      subst (λ o. Reads (SpellsCond N (given p first)) as_a_cond S o) e (reading_reads N (given p first) a_cond S) in
      let few : length R ≤ length (rest (as_a_value S)) =
      subst (λ o. length (rest o) ≤ length (rest (as_a_value S))) e (value_first N (given p first) S) in
      let each : (x : Choice) → SomeCond N (given p x) (h.done ++ h.right.0) = λ x. spelled_with (given_same p first x) h.right.2 in
      record {
        done = h.done;
        cut = h.cut;
        same = λ X i. other_same S h.done R X h.cut few other i ∙ ap (λ o. after o (λ _ Q. got (as_condition N p (h.done ++ X)) Q)) (h.same X i);
        right = (h.right.0, condition p (λ x. (each x).0), a_condition (λ x. (each x).1));
      }
  reads_other_body S (got t R) e other =
      let h : Reads (SpellsCond N (given p first)) as_a_cond S (got t R) =
      subst (λ o. Reads (SpellsCond N (given p first)) as_a_cond S o) e (reading_reads N (given p first) a_cond S) in
      let few : length R ≤ length (rest (as_a_value S)) =
      subst (λ o. length (rest o) ≤ length (rest (as_a_value S))) e (value_first N (given p first) S) in
      let each : (x : Choice) → EachRead N p a_cond h.done R x =
      each_read N p a_cond (conds_same N p) h.done R (ap shape (ap as_a_cond (sym h.cut) ∙ e)) in
      let is : as_condition N p S ≡ as_condition N p (h.done ++ R) = ap (as_condition N p) h.cut in
      record {
        done = h.done;
        cut = h.cut;
        same = λ X i.
            other_same S h.done R X h.cut few other i
            ∙ ap (λ o. after o (λ _ Q. got (as_condition N p (h.done ++ X)) Q)) (h.same X i)
            ∙ ap (λ m. got m X) (same_condition h.done R X i each ∙ sym is);
        right =
            subst (λ m. IsBody N p h.done m) (sym is)
            (a_condition (λ x. subst (λ t. SpellsCond N (given p x) h.done t) (sym (ap tree_read ((each x).read R refl))) (each x).spelled));
      }

  by_other : (S : List Token) → ends_body (as_a_value S) ≡ false → Reads (IsBody N p) (body N p) S (body N p S)
  unfolding body
  by_other S other =
      subst (λ o. Reads (IsBody N p) (body N p) S o) (sym (as_other (as_a_value S) S other)) (reads_other_body S (as_a_cond S) refl other)

  by_value : (S : List Token) (o : Outcome Amount) → as_a_value S ≡ o → Reads (IsBody N p) (body N p) S (body N p S)
  unfolding body
  by_value S (got a (Close ∷ R)) e =
      let h : Reads (SpellsValue N (given p first)) as_a_value S (got a (Close ∷ R)) =
      subst (λ o. Reads (SpellsValue N (given p first)) as_a_value S o) e (reading_reads N (given p first) a_value S) in
      subst (λ S. Reads (IsBody N p) (body N p) S (body N p S)) (sym h.cut)
      (reads_value_body h.done R a (ap as_a_value (sym h.cut) ∙ e))
  by_value S (got a []) e = by_other S (ap ends_body e)
  by_value S (got a (c ∷ R)) e = by_other S (ap ends_body e)
  by_value S (stuck R) e = by_other S (ap ends_body e)

  pub reads_body : (S : List Token) → Reads (IsBody N p) (body N p) S (body N p S)
  reads_body S = by_value S (as_a_value S) refl

-- ---- a body is read

-- a value before a bracket is no condition
no_condition : (N : Meanings) (E : Bound) (S R : List Token) (a : Amount) → reading N E a_value S ≡ got a (Close ∷ R)
    → reading N E a_cond S ≡ stuck (Close ∷ R)
no_condition N E S R a e =
    let h : Reads (SpellsValue N E) (reading N E a_value) S (got a (Close ∷ R)) =
    subst (λ o. Reads (SpellsValue N E) (reading N E a_value) S o) e (reading_reads N E a_value S) in
    let as_unit : reading N E a_unit S ≡ stuck (Close ∷ R) =
    reads N E a_unit S
    ∙ ap (unit_by N (reading N) E) h.cut
    ∙ unit_compares h.right (Close ∷ R)
    ∙ ap (comparing_by (reading N) E) (sym h.cut)
    ∙ ap (λ o. after o (λ a S. related_by (reading N) E a S)) e in
    let as_both : reading N E a_both S ≡ stuck (Close ∷ R) = reads N E a_both S ∙ ap (λ o. after o (λ a R. reading N E (ands a) R)) as_unit in
    reads N E a_cond S ∙ ap (λ o. after o (λ a R. reading N E (ors a) R)) as_both

no_value_ends : (N : Meanings) (E : Bound) (S R : List Token) (t : Form) (o : Outcome Amount)
    → reading N E a_cond S ≡ got t R → reading N E a_value S ≡ o → ends_body o ≡ false
no_value_ends N E S R t (got a (Close ∷ Q)) e i = let k = no_condition N E S Q a i in absurd (cc)
no_value_ends N E S R t (got a []) e i = refl
no_value_ends N E S R t (got a (c ∷ Q)) e i = refl
no_value_ends N E S R t (stuck Q) e i = refl

pub body_read : {N : Meanings} {p : Params} {T : List Token} {m : Meaning} → IsBody N p T m → (B : List Token)
    → body N p (T ++ Close ∷ B) ≡ got m (Close ∷ B)
unfolding body
body_read {N} {p} (a_value_body {T} {f} h) B =
    let each : (x : Choice) → reading N (given p x) a_value (T ++ Close ∷ B) ≡ got (f x) (Close ∷ B) =
    λ x. value_read (h x) (Close ∷ B) (λ e. cc, λ e. cc) in
    ap (λ o. body_by N p o (T ++ Close ∷ B)) (each first)
    ∙ ap (λ f. got (value p f) (Close ∷ B)) (fun_ext (λ x. ap amount_read (each x)))
body_read {N} {p} (a_condition {T} {f} h) B =
    let S : List Token = T ++ Close ∷ B in
    let each : (x : Choice) → reading N (given p x) a_cond S ≡ got (f x) (Close ∷ B) =
    λ x. cond_read (h x) (Close ∷ B) (λ e. cc) (λ e. cc) (λ e. cc, λ e. cc) in
    as_other N p (reading N (given p first) a_value S) S
    (no_value_ends N (given p first) S (Close ∷ B) (f first) (reading N (given p first) a_value S) (each first)
    refl)
    ∙ ap (λ o. after o (λ _ R. got (as_condition N p S) R)) (each first)
    ∙ ap (λ f. got (condition p f) (Close ∷ B)) (fun_ext (λ x. ap tree_read (each x)))
