-- Whether the last of some tokens is `let`.
use Rattle.std.proofs.Common.{◌≡◌, ◌-◌, false, List, Option, Some, length, refl, sym, ap, ◌∙◌, arith, slice_get}
use Rattle.std.specs.Option.{option_map}
use Rattle.std.proofs.lemmas.List.{length-map}
use Rattle.std.proofs.lemmas.Option.{slice_get-map}
use Rattle.cond_lang.specs.declared.scanner.Placed.{Placed}
use Rattle.cond_lang.specs.declared.scanner.Token.{Token}
use Rattle.cond_lang.specs.declared.scanner.Token.TheVariants.{Let}
use Rattle.cond_lang.specs.Continuations.{ends_with_let, is_let}
use Rattle.cond_lang.specs.Text.{kinds}

-- by what is kept of the tokens
pub after_let :
    (xs : List Placed) (T : List Token) (o : Option Placed) → kinds xs ≡ T → o ≡ slice_get xs (length xs - 1)
    → is_let (option_map (λ s. s.token) o) ≡ ends_with_let T
after_let xs T o same last =
    let few : length (kinds xs) - 1 ≡ length xs - 1 = omega (arith, length-map xs (λ (s : Placed). s.token)) in
    sym (ap ends_with_let (sym same)
    ∙ ap (λ n. is_let (slice_get (kinds xs) n)) few
    ∙ ap is_let (slice_get-map (λ (s : Placed). s.token) xs (length xs - 1))
    ∙ ap (λ o. is_let (option_map (λ s. s.token) o)) (sym last))

pub no_let : (t : Token) → (t ≡ Let → ⊥) → is_let (Some t) ≡ false
no_let Let n = absurd (n refl)
no_let t n = refl
