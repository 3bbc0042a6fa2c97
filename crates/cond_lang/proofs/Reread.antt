-- Bodies as the parser's function finds them.
use Rattle.std.proofs.Common.{◌≡◌, Bool, true, false, List, [], ◌∷◌, Result, Err, refl, sym, ap, ◌∙◌, subst}
use Rattle.cond_lang.specs.declared.classes.Bound.{Bound}
use Rattle.cond_lang.specs.declared.classes.Choice.{Choice}
use Rattle.cond_lang.specs.declared.classes.Params.{Params}
use Rattle.cond_lang.specs.declared.parser.Refusal.{Refusal}
use Rattle.cond_lang.specs.declared.parser.Refusal.TheVariants.{Syntax, Memory}
use Rattle.cond_lang.specs.declared.parser.names.Named.{Named}
use Rattle.cond_lang.specs.declared.scanner.Token.{Token}
use Rattle.cond_lang.specs.declared.scanner.Token.TheVariants.{Close}
use Rattle.conditions.specs.Form.{Amount, Form}
use Rattle.cond_lang.specs.Classes.{given}
use Rattle.cond_lang.specs.Grammar.{Meanings}
use Rattle.cond_lang.specs.internal.Defining.{first, as_condition, as_value, ends_body, left_by, body_by, body, meaning, meaning_by, IsGot, IsRead}
use Rattle.cond_lang.specs.internal.Growing.{GivesBy, IsGrown}
use Rattle.cond_lang.specs.internal.Reading.{Outcome, got, stuck, after, Gives, a_cond, a_value, reading}
use Rattle.cond_lang.proofs.Bodies.{as_other, conds_same, values_same}
use Rattle.cond_lang.proofs.Shapes.{shape}

ends_as_value : (N : Meanings) (p : Params) (S : List Token) (o : Outcome Amount) → ends_body o ≡ true
    → body_by N p o S ≡ got (as_value N p S) (left_by o)
ends_as_value N p S (got a (Close ∷ R)) e = refl
ends_as_value N p S (got a []) e = absurd (cc)
ends_as_value N p S (got a (c ∷ R)) e = absurd (cc)
ends_as_value N p S (stuck R) e = absurd (cc)

got_as_value : (o : Outcome Amount) → ends_body o ≡ true → IsGot o
got_as_value (got a R) e = tt
got_as_value (stuck R) e = absurd (cc)

-- what is read with the first choice is read with each
got_alike : {A B : Type 0} (o : Outcome A) (u : Outcome B) → shape o ≡ shape u → IsGot u → IsGot o
got_alike {A} {B} (got x R) u e g = tt
got_alike {A} {B} (stuck R) (got y S) e g = absurd (cc)
got_alike {A} {B} (stuck R) (stuck S) e g = g

is_got : {A : Type 0} (o : Outcome A) (x : A) (R : List Token) → o ≡ got x R → IsGot o
is_got {A} o x R e = subst IsGot (sym e) tt

module _ (N : Meanings) (p : Params) (S : List Token) (E : Bound) (bound : E ≡ given p first) (b : Bool)
    (is : b ≡ ends_body (reading N E a_value S)) where
  ends : ends_body (reading N (given p first) a_value S) ≡ b
  ends = ap (λ E. ends_body (reading N E a_value S)) (sym bound) ∙ sym is

  pub value_body : (R : List Token) → b ≡ true → R ≡ left_by (reading N E a_value S) → body N p S ≡ got (meaning_by N b p S) R
  unfolding body
  value_body R t left =
      ends_as_value N p S (reading N (given p first) a_value S) (ends ∙ t)
      ∙ ap (λ E. got (as_value N p S) (left_by (reading N E a_value S))) (sym bound)
      ∙ ap (λ R. got (as_value N p S) R) (sym left)
      ∙ ap (λ b. got (meaning_by N b p S) R) (sym t)

  other_body : (o : Outcome Form) (Q : List Token) → b ≡ false → Q ≡ S → reading N E a_cond Q ≡ o
      → body N p S ≡ after o (λ _ R. got (as_condition N p S) R)
  unfolding body
  other_body o Q f q e =
      as_other N p (reading N (given p first) a_value S) S (ends ∙ f)
      ∙ ap (λ E. after (reading N E a_cond S) (λ _ R. got (as_condition N p S) R)) (sym bound)
      ∙ ap (λ o. after o (λ _ R. got (as_condition N p S) R)) (ap (reading N E a_cond) (sym q) ∙ e)

  pub cond_body : (Q R : List Token) (t : Form) → b ≡ false → Q ≡ S → reading N E a_cond Q ≡ got t R → body N p S ≡ got (meaning_by N b p S) R
  cond_body Q R t f q e = other_body (got t R) Q f q e ∙ ap (λ b. got (meaning_by N b p S) R) (sym f)

  pub err_body :
      (Q R : List Token) (e : Refusal) (r : Result Named Refusal) → b ≡ false → Q ≡ S → r ≡ Err e
      → GivesBy (IsGrown 0) (Err e) R (reading N E a_cond Q)
      → Gives (meaning N) r R (body N p S)
  err_body Q R Syntax r f q i h = rw i (other_body (stuck R) Q f q h)
  err_body Q R Memory r f q i h = rw i tt

  pub value_read_each : b ≡ true → (x : Choice) → IsRead N b (given p x) S
  value_read_each t x =
      subst (λ b. IsRead N b (given p x) S) (sym t)
      (got_alike (reading N (given p x) a_value S) (reading N (given p first) a_value S) (values_same N p x S)
      (got_as_value (reading N (given p first) a_value S) (ends ∙ t)))

  pub cond_read_each : (Q R : List Token) (t : Form) → b ≡ false → Q ≡ S → reading N E a_cond Q ≡ got t R → (x : Choice) → IsRead N b (given p x) S
  cond_read_each Q R t f q e x =
      subst (λ b. IsRead N b (given p x) S) (sym f)
      (got_alike (reading N (given p x) a_cond S) (reading N (given p first) a_cond S) (conds_same N p x S)
      (is_got (reading N (given p first) a_cond S) t R (ap (λ E. reading N E a_cond S) (sym bound) ∙ ap (reading N E a_cond) (sym q) ∙ e)))
