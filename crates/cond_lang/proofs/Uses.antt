-- A use of a name is its body with the arguments in the place of the parameters.
use Rattle.std.proofs.Common.{◌≡◌, List, [], ◌∷◌, ◌++◌, length, refl, subst}
use Rattle.std.specs.Prelude.{◌↔◌}
use Rattle.cond_lang.specs.declared.classes.Bound.{Bound}
use Rattle.cond_lang.specs.declared.classes.Choice.{Choice}
use Rattle.cond_lang.specs.declared.classes.Params.{Params}
use Rattle.cond_lang.specs.declared.scanner.Token.{Token}
use Rattle.cond_lang.specs.declared.scanner.Token.TheVariants.{Open, Close, Name}
use Rattle.conditions.specs.Form.{Amount, Form}
use Rattle.cond_lang.specs.Classes.{given}
use Rattle.cond_lang.specs.Definitions.{IsBody, a_condition, a_value}
use Rattle.cond_lang.specs.Grammar.{Meaning, Meanings, condition, value, SpellsArgs, SpellsUnit, SpellsCond}
use Rattle.cond_lang.specs.Grammar.{SpellsValue, brackets, test, named_condition, atom, named_value}
use Rattle.cond_lang.proofs.Kept.{get_behind}
use Rattle.cond_lang.proofs.Spelled.{spelled_unit, value_read}

one_unit : {N : Meanings} {E : Bound} {T : List Token} {a b : Form} → SpellsUnit N E T a → SpellsUnit N E T b → a ≡ b
one_unit h k = let x = spelled_unit h [] (λ e. cc, λ e. cc) in let y = spelled_unit k [] (λ e. cc, λ e. cc) in cc

one_amount : {N : Meanings} {E : Bound} {T : List Token} {a b : Amount} → SpellsValue N E T a → SpellsValue N E T b → a ≡ b
one_amount h k = let x = value_read h [] (λ e. cc, λ e. cc) in let y = value_read k [] (λ e. cc, λ e. cc) in cc

-- what the body of a condition's name spells
condition_body : {N : Meanings} {p : Params} {B : List Token} {m : Meaning} → IsBody N p B m
    → (q : Params) (f : Choice → Form) → m ≡ condition q f → (x : Choice) → SpellsCond N (given p x) B (f x)
condition_body {N} {p} {B} (a_condition {f = g} h) q f e x = let same : g ≡ f = cc in subst (λ f. SpellsCond N (given p x) B (f x)) same (h x)
condition_body (a_value h) q f e x = absurd (cc)

value_body : {N : Meanings} {p : Params} {B : List Token} {m : Meaning} → IsBody N p B m
    → (q : Params) (f : Choice → Amount) → m ≡ value q f → (x : Choice) → SpellsValue N (given p x) B (f x)
value_body {N} {p} {B} (a_value {f = g} h) q f e x = let same : g ≡ f = cc in subst (λ f. SpellsValue N (given p x) B (f x)) same (h x)
value_body (a_condition h) q f e x = absurd (cc)

pub condition_used :
    (N M : Meanings) (p : Params) (B : List Token) (f : Choice → Form) → IsBody N p B (condition p f)
    → (E : Bound) (A : List Token) (x : Choice) → SpellsArgs E p A x → (t : Form)
    → SpellsUnit (N ++ condition p f ∷ M) E (Name (length N) ∷ A) t ↔ SpellsUnit N (given p x) (Open ∷ B ++ Close ∷ []) t
condition_used N M p B f h E A x a t =
    let used : SpellsUnit (N ++ condition p f ∷ M) E (Name (length N) ∷ A) (f x) = test (named_condition (get_behind N (condition p f) M) a) in
    let whole : SpellsUnit N (given p x) (Open ∷ B ++ Close ∷ []) (f x) = brackets (condition_body h p f refl x) in (
      λ s. subst (SpellsUnit N (given p x) (Open ∷ B ++ Close ∷ [])) (one_unit used s) whole,
      λ s. subst (SpellsUnit (N ++ condition p f ∷ M) E (Name (length N) ∷ A)) (one_unit whole s) used,
    )

pub value_used :
    (N M : Meanings) (p : Params) (B : List Token) (f : Choice → Amount) → IsBody N p B (value p f)
    → (E : Bound) (A : List Token) (x : Choice) → SpellsArgs E p A x → (a : Amount)
    → SpellsValue (N ++ value p f ∷ M) E (Name (length N) ∷ A) a ↔ SpellsValue N (given p x) B a
value_used N M p B f h E A x i a =
    let used : SpellsValue (N ++ value p f ∷ M) E (Name (length N) ∷ A) (f x) = atom (named_value (get_behind N (value p f) M) i) in
    let whole : SpellsValue N (given p x) B (f x) = value_body h p f refl x in (
      λ s. subst (SpellsValue N (given p x) B) (one_amount used s) whole,
      λ s. subst (SpellsValue (N ++ value p f ∷ M) E (Name (length N) ∷ A)) (one_amount whole s) used,
    )

pub ruleset uses = (condition_used, value_used)
