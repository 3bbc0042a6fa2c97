-- What the statuses say of words.
use Rattle.std.proofs.Common.{◌≡◌, ◌⊎◌, ℕ, true, false, List, refl, inl, inr, arith}
use Rattle.clap.specs.Walk.{Text}
use Rattle.clap.specs.declared.error.kind.ErrorKind.{ErrorKind}
use Rattle.clap.specs.declared.error.kind.ErrorKind.TheVariants.{InvalidValue, UnknownArgument, InvalidSubcommand}
use Rattle.clap.specs.declared.error.kind.ErrorKind.TheVariants.{NoEquals, ValueValidation, TooManyValues}
use Rattle.clap.specs.declared.error.kind.ErrorKind.TheVariants.{TooFewValues, WrongNumberOfValues, ArgumentConflict}
use Rattle.clap.specs.declared.error.kind.ErrorKind.TheVariants.{MissingRequiredArgument, MissingSubcommand}
use Rattle.clap.specs.declared.error.kind.ErrorKind.TheVariants.{DisplayHelp}
use Rattle.clap.specs.declared.error.kind.ErrorKind.TheVariants.{DisplayHelpOnMissingArgumentOrSubcommand}
use Rattle.clap.specs.declared.error.kind.ErrorKind.TheVariants.{DisplayVersion}
use Rattle.deals_cli.specs.Program.{IsStatusOfNone, MayRefuse, MayShow, is_shown}

-- ---- of an error of clap

pub mistake : (k : ErrorKind) → (k ≡ DisplayHelp → ⊥) → (k ≡ DisplayVersion → ⊥) → is_shown k ≡ false
mistake DisplayHelp h v = absurd (h refl)
mistake DisplayVersion h v = absurd (v refl)
mistake x h v = refl

pub no_mistake : (k : ErrorKind) → ((k ≡ DisplayHelp → ⊥) × (k ≡ DisplayVersion → ⊥) → ⊥) → is_shown k ≡ true
no_mistake DisplayHelp h = refl
no_mistake DisplayVersion h = refl
no_mistake x h = absurd (h ((λ e. cc), (λ e. cc)))

-- what clap shows, and what it refuses
pub ruleset kinds = (mistake, no_mistake)

-- ---- of words that ask for nothing

pub none_no_memory : (words : List Text) (s : ℕ) → s ≡ 5 → IsStatusOfNone words s
none_no_memory words s is = record {
  shown = λ h. absurd (elim h [ inl a ↦ omega arith | inr a ↦ omega arith ]);
  refused = λ h. absurd (omega arith);
  neither = λ h. elim h [ inl a ↦ omega arith | inr (inl a) ↦ omega arith | inr (inr a) ↦ omega arith ];
}

pub none_refused : (words : List Text) → MayRefuse words → IsStatusOfNone words 2
none_refused words may = record {
  shown = λ h. absurd (elim h [ inl a ↦ omega arith | inr a ↦ omega arith ]);
  refused = λ h. may;
  neither = λ h. elim h [ inl a ↦ omega arith | inr (inl a) ↦ omega arith | inr (inr a) ↦ omega arith ];
}

-- what was asked for is shown, or the output fails
pub none_shown : (words : List Text) (s : ℕ) → (s ≡ 0) ⊎ (s ≡ 4) → MayShow words → IsStatusOfNone words s
none_shown words s (inl is) may = record {
  shown = λ h. may;
  refused = λ h. absurd (omega arith);
  neither = λ h. elim h [ inl a ↦ omega arith | inr (inl a) ↦ omega arith | inr (inr a) ↦ omega arith ];
}
none_shown words s (inr is) may = record {
  shown = λ h. may;
  refused = λ h. absurd (omega arith);
  neither = λ h. elim h [ inl a ↦ omega arith | inr (inl a) ↦ omega arith | inr (inr a) ↦ omega arith ];
}
