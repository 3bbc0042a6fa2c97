-- What a function keeps of what is read, as its result tells it.
use Rattle.std.proofs.Common.{◌≡◌, ◌<◌, ◌≤◌, ◌⊎◌, ℕ, inl, inr, arith, List, Option, Some, None, Result, Ok, Err, IfOk, refl, ap, subst, ◌∷◌}
use Rattle.cond_lang.specs.declared.parser.Refusal.{Refusal}
use Rattle.cond_lang.specs.declared.parser.Refusal.TheVariants.{Syntax, Memory}
use Rattle.cond_lang.specs.declared.classes.Choice.{Choice}
use Rattle.cond_lang.specs.declared.scanner.Token.{Token}
use Rattle.conditions.specs.declared.error.CondError.{CondError}
use Rattle.conditions.specs.declared.error.CondError.TheVariants.{TooManyParts, Memory as NoMemory}
use Rattle.conditions.specs.declared.limits.TheConstants.{MOST_PARTS}
use Rattle.conditions.specs.Form.{Form}
use Rattle.cond_lang.specs.declared.parser.grown.Grown.{Grown}
use Rattle.cond_lang.specs.internal.Growing.{AreGrown, GivesBy, IsGrown}
use Rattle.cond_lang.specs.internal.Reading.{Outcome, got, after, Gives}

-- what is made of parts that were read, unless memory ran out
pub kept : {X A : Type 0} (keeps : X → A → Type 0) (r : Result X Refusal) (rest : List Token) (o : Outcome A) (t : A)
    → IfOk r (λ x. keeps x t) → (r ≡ Err Syntax → ⊥) → o ≡ got t rest → GivesBy keeps r rest o
kept keeps (Ok x) rest o t h n e = (t, h, e)
kept keeps (Err Syntax) rest o t h n e = absurd (n refl)
kept keeps (Err Memory) rest o t h n e = tt

-- what is there is kept of a tree
pub some_grown : (room : ℕ) (o : Option Grown) (g : Grown) (t : Option Form) → o ≡ Some g → AreGrown room o t
    → (u : Form) × IsGrown room g u × (t ≡ Some u)
some_grown room (Some h) g (Some u) e k = let same : h ≡ g = cc in (u, subst (λ x. IsGrown room x u) same k, refl)
some_grown room (Some h) g None e k = absurd k
some_grown room None g t e k = absurd (cc)

-- why there is nothing, of a tree that has few parts and of one that has too many
pub no_more : (e : CondError) (n : ℕ) → n ≤ MOST_PARTS → (e ≡ NoMemory) ⊎ ((e ≡ TooManyParts) × (MOST_PARTS < n)) → e ≡ NoMemory
no_more e n few (inl m) = m
no_more e n few (inr k) = absurd (omega (arith, few, k.1))

pub one_of : (e : CondError) (n : ℕ) → (e ≡ NoMemory) ⊎ ((e ≡ TooManyParts) × (MOST_PARTS < n)) → (e ≡ TooManyParts) ⊎ (e ≡ NoMemory)
one_of e n (inl m) = inr m
one_of e n (inr k) = inl k.0

-- what is made of arguments, where they were refused and where they were read
pub used_err :
    {X A : Type 0} (keeps : X → A → Type 0) (r : Result X Refusal) (e : Refusal) (R : List Token) (o : Outcome Choice) (f : Choice → A)
    → r ≡ Err e → Gives {X = Choice} (λ x. x) (Err e) R o → GivesBy keeps r R (after o (λ x R. got (f x) R))
used_err {X} {A} keeps r Syntax R o f i h = rw (i, h) refl
used_err {X} {A} keeps r Memory R o f i h = rw i tt

pub used_ok :
    {X A : Type 0} (keeps : X → A → Type 0) (r : Result X Refusal) (R : List Token) (o : Outcome Choice) (x : Choice) (f : Choice → A)
    → o ≡ got x R → IfOk r (λ v. keeps v (f x)) → (r ≡ Err Syntax → ⊥) → GivesBy keeps r R (after o (λ x R. got (f x) R))
used_ok {X} {A} keeps r R o x f e ok err = kept keeps r R (after o (λ x R. got (f x) R)) (f x) ok err (ap (λ o. after o (λ x R. got (f x) R)) e)

-- the tokens behind the one in sight
pub same_rest : (c d : Token) (S R T : List Token) → S ≡ c ∷ R → S ≡ d ∷ T → R ≡ T
same_rest c d S R T e i = cc
