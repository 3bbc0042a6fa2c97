-- Reading a condition once for each member of a class.
use Rattle.std.proofs.Common.{◌≡◌, Bool, true, false, cond, List, [], ◌∷◌, Option, Some, None, refl, ap, ◌∙◌}
use Rattle.std.specs.Prelude.{fold}
use Rattle.std.specs.List.{filter}
use Rattle.cond_lang.specs.declared.classes.Bound.{Bound}
use Rattle.cond_lang.specs.declared.classes.Choice.{Choice}
use Rattle.cond_lang.specs.declared.classes.Class.{Class as AClass}
use Rattle.cond_lang.specs.declared.classes.Quantifier.{Quantifier as AQuantifier}
use Rattle.cond_lang.specs.declared.scanner.Token.{Token}
use Rattle.conditions.specs.Form.{Form}
use Rattle.cond_lang.specs.Classes.{bind, is_member, all_choices, members}
use Rattle.cond_lang.specs.Grammar.{joined}
use Rattle.cond_lang.specs.internal.Reading.{Outcome, got, stuck, after, Readers, a_cond, behind, some_tree, each_by}
use Rattle.cond_lang.proofs.Scopes.{IsSome, members_some}

-- with each of the choices the tree is read from S, and the same is left
abbrev pub ReadsEach : Readers → Bound → AClass → List Token → List Token → List Choice → List Form → Type 0
ReadsEach r E c S R [] [] = Unit {0}
ReadsEach r E c S R (s ∷ ss) (t ∷ ts) = (r (bind E c s) a_cond S ≡ got t R) × ReadsEach r E c S R ss ts
ReadsEach r E c S R ss ts = ⊥

-- what comes of the trees, after those before them
abbrev pub finished : AQuantifier → Option Form → List Form → List Token → List Token → Outcome Form
finished k left [] Q R = some_tree left Q
finished k left (t ∷ ts) Q R = got (fold (joined k) (behind k left t) ts) R

finished_some : (k : AQuantifier) (a : Form) (ts : List Form) (R : List Token) → finished k (Some a) ts R R ≡ got (fold (joined k) a ts) R
finished_some k a [] R = refl
finished_some k a (t ∷ ts) R = refl

module _ (r : Readers) (E : Bound) (k : AQuantifier) (c : AClass) (S R : List Token) where
  abbrev Finishes : List Choice → List Form → Type 0
  Finishes ss ts = (left : Option Form) (Q : List Token) → each_by r E k c S ss left Q ≡ finished k left ts Q R

  -- one choice more, which may be of the class
  one_choice :
      (b : Bool) (s : Choice) (ss : List Choice) (ts : List Form)
      → ((us : List Form) → ReadsEach r E c S R (filter (is_member E c) ss) us → Finishes ss us)
      → ReadsEach r E c S R (cond b (s ∷ filter (is_member E c) ss) (filter (is_member E c) ss)) ts
      → (left : Option Form) (Q : List Token)
      → after (cond b (after (r (bind E c s) a_cond S) (λ t Q. got (Some (behind k left t)) Q)) (got left Q))
      (λ left Q. each_by r E k c S ss left Q) ≡ finished k left ts Q R
  one_choice true s ss [] f h left Q = absurd h
  one_choice true s ss (t ∷ ts) f h left Q =
      ap (λ o. after (after o (λ t Q. got (Some (behind k left t)) Q)) (λ left Q. each_by r E k c S ss left Q)) h.0
      ∙ f ts h.1 (Some (behind k left t)) R
      ∙ finished_some k (behind k left t) ts R
  one_choice false s ss ts f h left Q = f ts h left Q

  each_finishes : (ss : List Choice) (ts : List Form) → ReadsEach r E c S R (filter (is_member E c) ss) ts → Finishes ss ts
  each_finishes [] [] h left Q = refl
  each_finishes [] (t ∷ ts) h left Q = absurd h
  each_finishes (s ∷ ss) ts h left Q = one_choice (is_member E c s) s ss ts (λ us g. each_finishes ss us g) h left Q

  -- the trees of all members of the class, joined
  pub each_got : (t : Form) (ts : List Form) → ReadsEach r E c S R (members E c) (t ∷ ts)
      → each_by r E k c S all_choices None S ≡ got (fold (joined k) t ts) R
  each_got t ts h = each_finishes all_choices (t ∷ ts) h None S

  -- where reading stops with each choice, it stops with the first of the class
  stops_at_choice :
      (b : Bool) (s : Choice) (ss : List Choice)
      → r (bind E c s) a_cond S ≡ stuck R
      → (IsSome (filter (is_member E c) ss) → (left : Option Form) (Q : List Token) → each_by r E k c S ss left Q ≡ stuck R)
      → IsSome (cond b (s ∷ filter (is_member E c) ss) (filter (is_member E c) ss))
      → (left : Option Form) (Q : List Token)
      → after (cond b (after (r (bind E c s) a_cond S) (λ t Q. got (Some (behind k left t)) Q)) (got left Q))
      (λ left Q. each_by r E k c S ss left Q) ≡ stuck R
  stops_at_choice true s ss h f some left Q =
      ap (λ o. after (after o (λ t Q. got (Some (behind k left t)) Q)) (λ left Q. each_by r E k c S ss left Q)) h
  stops_at_choice false s ss h f some left Q = f some left Q

  each_stops :
      ((s : Choice) → r (bind E c s) a_cond S ≡ stuck R) → (ss : List Choice) → IsSome (filter (is_member E c) ss)
      → (left : Option Form) (Q : List Token) → each_by r E k c S ss left Q ≡ stuck R
  each_stops h [] some left Q = absurd (cc (some.2))
  each_stops h (s ∷ ss) some left Q = stops_at_choice (is_member E c s) s ss (h s) (λ more left Q. each_stops h ss more left Q) some left Q

  pub each_stuck : ((s : Choice) → r (bind E c s) a_cond S ≡ stuck R) → each_by r E k c S all_choices None S ≡ stuck R
  each_stuck h = each_stops h all_choices (members_some E c) None S
