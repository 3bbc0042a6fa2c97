-- Texts that give no name.
use Rattle.std.proofs.Common.{◌≡◌, List, [], ◌∷◌, ◌++◌, refl, arith}
use Rattle.std.specs.Prelude.{Contains, ◌↔◌}
use Rattle.cond_lang.specs.declared.scanner.Token.{Token}
use Rattle.cond_lang.specs.declared.scanner.Token.TheVariants.{Let}
use Rattle.conditions.specs.Form.{Form}
use Rattle.cond_lang.specs.Classes.{unbound}
use Rattle.cond_lang.specs.Definitions.{none, one_more, defined, Spells, SpellsNameless}
use Rattle.cond_lang.specs.Faults.{IsViableIn, IsViable}
use Rattle.cond_lang.proofs.Steps.{sample, sampled, sample_cond}

pub nameless_text : {T : List Token} {t : Form} → SpellsNameless T t → Spells T t
nameless_text h = defined {D = []} none h

text_nameless : {T : List Token} {t : Form} → Spells T t → (Contains T Let → ⊥) → SpellsNameless T t
text_nameless (defined none h) n = h
text_nameless (defined {T} (one_more {D} {T = R} d ds) h) n = absurd (n (0, omega arith, refl))

-- A list without `let` spells what it spells where no name can be given.
pub same_without_names : (T : List Token) (t : Form) → (Contains T Let → ⊥) → Spells T t ↔ SpellsNameless T t
same_without_names T t n = (λ h. text_nameless h n, λ h. nameless_text h)

begins_nameless : {L : List Token} {t : Form} → Spells L t → (c : Token) (T : List Token) → L ≡ c ∷ T → (c ≡ Let → ⊥) → SpellsNameless L t
begins_nameless (defined none h) c T e n = h
begins_nameless (defined (one_more d ds) h) c T e n = absurd (n (cc))

to_nameless : (T : List Token) → (Contains T Let → ⊥) → IsViable T → IsViableIn SpellsNameless T
to_nameless [] n v = (sample, sampled, sample_cond [] unbound)
to_nameless (c ∷ T) n (more, t, h) = (more, t, begins_nameless h c (T ++ more) refl (λ e. n (0, omega arith, e)))

-- Such a list begins a text if it begins one that gives no name.
pub viable_without_names : (T : List Token) → (Contains T Let → ⊥) → IsViable T ↔ IsViableIn SpellsNameless T
viable_without_names T n = (to_nameless T n, λ v. (v.0, v.1, nameless_text v.2))
