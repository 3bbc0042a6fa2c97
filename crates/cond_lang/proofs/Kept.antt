-- The names that the parser keeps, and what they stand for.
use Rattle.std.proofs.Common.{◌≡◌, ℕ, zero, suc, ◌+◌, ◌*◌, ◌≤◌, ◌<◌, Bool, true, false, List, [], ◌∷◌, ◌++◌, Some}
use Rattle.std.proofs.Common.{None, length, take, get_or, slice_get, refl, sym, ap, ◌∙◌, subst, length-append, arith}
use Rattle.std.specs.Prelude.{min, Result, Ok, Err, IfOk}
use Rattle.std.proofs.lemmas.Option.{slice_get_past, slice_get_read, get_or_from_slice_get}
use Rattle.conditions.specs.Form.{Amount, Form}
use Rattle.conditions.specs.Limits.{atoms_of, parts_of}
use Rattle.cond_lang.specs.declared.parser.Refusal.{Refusal}
use Rattle.cond_lang.specs.declared.parser.Refusal.TheVariants.{Syntax, Memory}
use Rattle.cond_lang.specs.declared.classes.Choice.{Choice}
use Rattle.cond_lang.specs.declared.classes.Params.{Params}
use Rattle.cond_lang.specs.declared.parser.names.Named.{Named}
use Rattle.cond_lang.specs.declared.scanner.Token.{Token}
use Rattle.cond_lang.specs.declared.scanner.Token.TheVariants.{Let}
use Rattle.cond_lang.specs.Grammar.{Meaning, Meanings, condition, value}
use Rattle.cond_lang.specs.Text.{kinds}
use Rattle.cond_lang.specs.Classes.{given}
use Rattle.cond_lang.specs.internal.Arguments.{is_argument, place_of}
use Rattle.cond_lang.specs.internal.Defining.{new_name, params, is_body, definition, definitions, amount_read}
use Rattle.cond_lang.specs.internal.Defining.{tree_read, as_condition, as_value, meaning, meaning_by, meanings_after}
use Rattle.cond_lang.specs.internal.Defining.{meanings, IsGot, IsRead, AreCounted, IsSound, AreSoundAfter, AreSound}
use Rattle.cond_lang.specs.internal.Defining.{work_of}
use Rattle.cond_lang.specs.internal.Growing.{GivesBy, most_counted}
use Rattle.cond_lang.specs.internal.Reading.{Outcome, got, stuck, after, front, a_cond, a_value, reading}
use Rattle.cond_lang.proofs.Definitions.{definitions_let}

length_after : (N : Meanings) (ms : List Named) → length (meanings_after N ms) ≡ length N + length ms
length_after N [] = omega arith
length_after N (m ∷ ms) = omega (arith, length_after (N ++ meaning N m ∷ []) ms, length-append N (meaning N m ∷ []))

pub meanings_length : (ms : List Named) → length (meanings ms) ≡ length ms
meanings_length ms = omega (arith, length_after [] ms)

-- one name more
after_one_more : (N : Meanings) (ms : List Named) (m : Named)
    → meanings_after N (ms ++ m ∷ []) ≡ meanings_after N ms ++ meaning (meanings_after N ms) m ∷ []
after_one_more N [] m = refl
after_one_more N (k ∷ ms) m = after_one_more (N ++ meaning N k ∷ []) ms m

pub meanings_more : (ms : List Named) (m : Named) → meanings (ms ++ m ∷ []) ≡ meanings ms ++ meaning (meanings ms) m ∷ []
meanings_more ms m = after_one_more [] ms m

sound_after : (N : Meanings) (ms : List Named) (m : Named) → AreSoundAfter N ms → IsSound (meanings_after N ms) m → AreSoundAfter N (ms ++ m ∷ [])
sound_after N [] m s h = (h, tt)
sound_after N (k ∷ ms) m s h = (s.0, sound_after (N ++ meaning N k ∷ []) ms m s.1 h)

pub sound_more : (ms : List Named) (m : Named) → AreSound ms → IsSound (meanings ms) m → AreSound (ms ++ m ∷ [])
sound_more ms m s h = sound_after [] ms m s h

-- ---- the name with a number

-- what is known of the n-th of the names behind N
pub record At (N : Meanings) (ms : List Named) (n : ℕ) (m : Named) : Type 0 where
  pub before : AreSoundAfter N (take n ms)
  pub sound : IsSound (meanings_after N (take n ms)) m
  pub means : slice_get (meanings_after N ms) (length N + n) ≡ Some (meaning (meanings_after N (take n ms)) m)
  pub less : work_of (take n ms) + (20 + 12 * length (kinds m.body.now)) ≤ work_of ms

pub get_behind : {A : Type 0} (xs : List A) (y : A) (ys : List A) → slice_get (xs ++ y ∷ ys) (length xs) ≡ Some y
get_behind {A} [] y ys = refl
get_behind {A} (x ∷ xs) y ys = get_behind xs y ys

-- names that were given stay what they are
stays : (N : Meanings) (ms : List Named) (n : ℕ) (k : Meaning) → slice_get N n ≡ Some k → slice_get (meanings_after N ms) n ≡ Some k
stays N [] n k e = e
stays N (m ∷ ms) n k e = stays (N ++ meaning N m ∷ []) ms n k (with_more N n e)
  where
    with_more : (xs : Meanings) (i : ℕ) → slice_get xs i ≡ Some k → slice_get (xs ++ meaning N m ∷ []) i ≡ Some k
    with_more [] i e = absurd (cc)
    with_more (x ∷ xs) zero e = e
    with_more (x ∷ xs) (suc i) e = with_more xs i e

first_at : (N : Meanings) (m k : Named) (ms : List Named) → IsSound N m → m ≡ k → At N (m ∷ ms) zero k
first_at N m k ms s e =
    subst (At N (m ∷ ms) zero) e
    (record {
      before = tt;
      sound = s;
      means = subst (λ i. slice_get (meanings_after N (m ∷ ms)) i ≡ Some (meaning N m)) (omega arith)
          (stays (N ++ meaning N m ∷ []) ms (length N) (meaning N m) (get_behind N (meaning N m) []));
      less = omega arith;
    })

pub at : (N : Meanings) (ms : List Named) (n : ℕ) (m : Named) → AreSoundAfter N ms → slice_get ms n ≡ Some m → At N ms n m
at N [] n m s e = absurd (cc)
at N (k ∷ ms) zero m s e = first_at N k m ms s.0 (cc)
at N (k ∷ ms) (suc n) m s e =
    let h = at (N ++ meaning N k ∷ []) ms n m s.1 e in
    record {
      before = (s.0, h.before);
      sound = h.sound;
      means = subst (λ i. slice_get (meanings_after N (k ∷ ms)) i ≡ Some
          (meaning (meanings_after N (take (suc n) (k ∷ ms))) m)) (omega (arith, length-append N (meaning N k ∷ [])))
          h.means;
      less = omega (arith, h.less);
    }

-- ---- what a number's name stands for

pub none_at : (ms : List Named) (n : ℕ) → slice_get ms n ≡ None → slice_get (meanings ms) n ≡ None
none_at ms n e = slice_get_past (meanings ms) n (omega (arith, meanings_length ms, past ms n e))
  where
    past : (ms : List Named) (n : ℕ) → slice_get ms n ≡ None → length ms ≤ n
    past [] n e = omega arith
    past (m ∷ ms) zero e = absurd (cc)
    past (m ∷ ms) (suc n) e = omega (arith, past ms n e)

pub meaning_at : (ms : List Named) (n : ℕ) (m : Named) → AreSound ms → slice_get ms n ≡ Some m
    → slice_get (meanings ms) n ≡ Some (meaning (meanings (take n ms)) m)
meaning_at ms n m s e = subst (λ i. slice_get (meanings ms) i ≡ Some (meaning (meanings (take n ms)) m)) (omega arith) (at [] ms n m s e).means

pub value_meaning :
    (ms : List Named) (n : ℕ) (m : Named) → AreSound ms → slice_get ms n ≡ Some m → m.is_value ≡ true
    → slice_get (meanings ms) n ≡ Some (as_value (meanings (take n ms)) m.params (kinds m.body.now))
value_meaning ms n m s e b = meaning_at ms n m s e ∙ ap (λ b. Some (meaning_by (meanings (take n ms)) b m.params (kinds m.body.now))) b

pub condition_meaning :
    (ms : List Named) (n : ℕ) (m : Named) → AreSound ms → slice_get ms n ≡ Some m → m.is_value ≡ false
    → slice_get (meanings ms) n ≡ Some (as_condition (meanings (take n ms)) m.params (kinds m.body.now))
condition_meaning ms n m s e b = meaning_at ms n m s e ∙ ap (λ b. Some (meaning_by (meanings (take n ms)) b m.params (kinds m.body.now))) b

-- ---- the body with arguments

-- where the body is read again, it is a, and its parts are counted
pub record AmountAt (ms : List Named) (m : Named) (n : ℕ) (x : Choice) (a : Amount) : Type 0 where
  pub parts : slice_get m.parts (place_of x) ≡ Some (min (atoms_of a) most_counted)
  pub left : List Token
  pub read : reading (meanings (take n ms)) (given m.params x) a_value (kinds m.body.now) ≡ got a left

pub record TreeAt (ms : List Named) (m : Named) (n : ℕ) (x : Choice) (t : Form) : Type 0 where
  pub parts : slice_get m.parts (place_of x) ≡ Some (min (parts_of t) most_counted)
  pub left : List Token
  pub read : reading (meanings (take n ms)) (given m.params x) a_cond (kinds m.body.now) ≡ got t left

amount_got : (o : Outcome Amount) → IsGot o → (R : List Token) × (o ≡ got (amount_read o) R)
amount_got (got a R) g = (R, refl)
amount_got (stuck R) g = absurd g

tree_got : (o : Outcome Form) → IsGot o → (R : List Token) × (o ≡ got (tree_read o) R)
tree_got (got t R) g = (R, refl)
tree_got (stuck R) g = absurd g

-- what is told of a name of a value
module _ (N : Meanings) (S : List Token) (P : Params) (parts : List ℕ) where
  amount_of :
      (b : Bool) (p : Params) (f : Choice → Amount) (x : Choice)
      → ((y : Choice) → IsRead N b (given P y) S) → AreCounted N P b S parts → meaning_by N b P S ≡ value p f → is_argument p x ≡ true
      → (slice_get parts (place_of x) ≡ Some (min (atoms_of (f x)) most_counted))
      × ((R : List Token) × (reading N (given P x) a_value S ≡ got (f x) R))
  amount_of false p f x read counted e i = absurd (cc)
  amount_of true p f x read counted e i =
      let same : P ≡ p = cc in
      let g : (λ (y : Choice). amount_read (reading N (given P y) a_value S)) ≡ f = cc in
      let is : amount_read (reading N (given P x) a_value S) ≡ f x = ap (λ f. f x) g in
      let o = amount_got (reading N (given P x) a_value S) (read x) in (
        counted x (ap (λ p. is_argument p x) same ∙ i) ∙ ap (λ a. Some (min (atoms_of a) most_counted)) is,
        (o.0, o.1 ∙ ap (λ a. got a o.0) is),
      )

  tree_of :
      (b : Bool) (p : Params) (f : Choice → Form) (x : Choice)
      → ((y : Choice) → IsRead N b (given P y) S) → AreCounted N P b S parts → meaning_by N b P S ≡ condition p f → is_argument p x ≡ true
      → (slice_get parts (place_of x) ≡ Some (min (parts_of (f x)) most_counted))
      × ((R : List Token) × (reading N (given P x) a_cond S ≡ got (f x) R))
  tree_of true p f x read counted e i = absurd (cc)
  tree_of false p f x read counted e i =
      let same : P ≡ p = cc in
      let g : (λ (y : Choice). tree_read (reading N (given P y) a_cond S)) ≡ f = cc in
      let is : tree_read (reading N (given P x) a_cond S) ≡ f x = ap (λ f. f x) g in
      let o = tree_got (reading N (given P x) a_cond S) (read x) in (
        counted x (ap (λ p. is_argument p x) same ∙ i) ∙ ap (λ a. Some (min (parts_of a) most_counted)) is,
        (o.0, o.1 ∙ ap (λ a. got a o.0) is),
      )

pub amount_at :
    (ms : List Named) (n : ℕ) (m : Named) (p : Params) (f : Choice → Amount) (x : Choice) → AreSound ms → slice_get ms n ≡ Some m
    → slice_get (meanings ms) n ≡ Some (value p f) → is_argument p x ≡ true → AmountAt ms m n x (f x)
amount_at ms n m p f x s e means i =
    let k : meaning (meanings (take n ms)) m ≡ value p f = let h = meaning_at ms n m s e in cc in
    let sound = (at [] ms n m s e).sound in
    let all = amount_of (meanings (take n ms)) (kinds m.body.now) m.params m.parts m.is_value p f x sound.read sound.counted k i in
    record { parts = all.0; left = all.1.0; read = all.1.1 }

pub tree_at :
    (ms : List Named) (n : ℕ) (m : Named) (p : Params) (f : Choice → Form) (x : Choice) → AreSound ms → slice_get ms n ≡ Some m
    → slice_get (meanings ms) n ≡ Some (condition p f) → is_argument p x ≡ true → TreeAt ms m n x (f x)
tree_at ms n m p f x s e means i =
    let k : meaning (meanings (take n ms)) m ≡ condition p f = let h = meaning_at ms n m s e in cc in
    let sound = (at [] ms n m s e).sound in
    let all = tree_of (meanings (take n ms)) (kinds m.body.now) m.params m.parts m.is_value p f x sound.read sound.counted k i in
    record { parts = all.0; left = all.1.0; read = all.1.1 }

-- what a function kept of what is read
pub kept_of : {X A : Type 0} (keeps : X → A → Type 0) (r : Result X Refusal) (R S : List Token) (o : Outcome A)
    (a : A) → o ≡ got a S → GivesBy keeps r R o → IfOk r (λ v. keeps v a)
kept_of {X} {A} keeps (Ok v) R S o a e h = let i : h.0 ≡ a = let k = h.2 in cc in subst (keeps v) i h.1
kept_of {X} {A} keeps (Err f) R S o a e h = tt

pub no_fault : {X A : Type 0} (keeps : X → A → Type 0) (r : Result X Refusal) (R S : List Token) (o : Outcome A)
    (a : A) → o ≡ got a S → GivesBy keeps r R o → r ≡ Err Syntax → ⊥
no_fault {X} {A} keeps (Ok v) R S o a e h i = cc
no_fault {X} {A} keeps (Err Syntax) R S o a e h i = cc
no_fault {X} {A} keeps (Err Memory) R S o a e h i = cc

-- the lookup's answer, in other words
pub found : (ms : List Named) (n : ℕ) (m : Named) → n < length ms → m ≡ get_or ms n m → slice_get ms n ≡ Some m
found ms n m lt e = slice_get_read ms (length ms) n m refl lt e

pub count_at : (parts : List ℕ) (n i k : ℕ) → n ≡ i → slice_get parts i ≡ Some k → get_or parts n 0 ≡ k
count_at parts n i k e h = ap (λ n. get_or parts n 0) e ∙ get_or_from_slice_get parts i k 0 h

-- a definition's new name has the number of the names before it
pub definition_is :
    (ms : List Named) (S : List Token)
    → definition (meanings ms) S ≡ after (new_name (length ms) S) (λ _ S. after (params S) (λ p S. is_body (meanings ms) p S))
unfolding definition
definition_is ms S = ap (λ n. after (new_name n S) (λ _ S. after (params S) (λ p S. is_body (meanings ms) p S))) (meanings_length ms)

-- a definition more: what is read of a list that begins with `let`
pub next_names :
    (ms more slice : List Named) (m : Named) (t : Token) (S R Q : List Token) → AreSound ms → slice ≡ ms
    → more ≡ ms ++ m ∷ [] → IsSound (meanings slice) m
    → S ≡ t ∷ R → front S ≡ Some Let → definition (meanings slice) R ≡ got (meaning (meanings slice) m) Q
    → AreSound more × (definitions (meanings ms) S ≡ definitions (meanings more) Q)
next_names ms more slice m t S R Q s same grown sound cut sight read =
    let sound-here : IsSound (meanings ms) m = subst (λ ms. IsSound (meanings ms) m) same sound in
    let read-here : definition (meanings ms) R ≡ got (meaning (meanings ms) m) Q =
    subst (λ ms. definition (meanings ms) R ≡ got (meaning (meanings ms) m) Q) same read in
    let is_let : t ≡ Let = cc in (
      subst AreSound (sym grown) (sound_more ms m s sound-here),
      ap (definitions (meanings ms)) (cut ∙ ap (λ t. t ∷ R) is_let)
          ∙ definitions_let (meanings ms) R
          ∙ ap (λ o. after o (λ m R. definitions (meanings ms ++ m ∷ []) R)) read-here
          ∙ ap (λ N. definitions N Q) (sym (meanings_more ms m) ∙ ap meanings (sym grown)),
    )
