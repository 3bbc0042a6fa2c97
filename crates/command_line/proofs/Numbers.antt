-- The numbers that the typed getters answer are those that the words give.
use Rattle.std.proofs.Common.{◌≡◌, ◌∙◌, ℕ, List, Option, Some, None, sym, ap, subst, inl, inr, lit<, option_map}
use Rattle.std.specs.Prelude.{Ok, Err, Result}
use Rattle.std.specs.Str.Parse.{ParsesUnsigned, digits_value, without_leading_plus}
use Rattle.clap.proofs.CallerReads.{signed_reads}
use Rattle.clap.proofs.WalkLemmas.{one_text-rows}
use Rattle.clap.specs.Words.{ReadsOne, Text, Row, one_of, one_text, rows_of, without_minus}
use Rattle.clap.specs.declared.parser.matches.Found.{Found}
use Rattle.command_line.specs.Given.{number_in}
use Rattle.command_line.specs.internal.Readings.{MayGive32, MayGive64}

number-some : (id : Text) (rows : List Row) (t : Text) → one_of id rows ≡ Some t → number_in id rows ≡ Some (digits_value 10 (without_leading_plus t))
number-some id rows t e = ap (option_map (λ (u : Text). digits_value 10 (without_leading_plus u))) e

number-none : (id : Text) (rows : List Row) → one_of id rows ≡ None → number_in id rows ≡ None
number-none id rows e = ap (option_map (λ (u : Text). digits_value 10 (without_leading_plus u))) e

-- the getter of 32 bits
pub read32 : {E : Type 0} (G : List ℕ → Result ℕ E → Type 0) (f : Found) (id : Text) (r : Option ℕ) → MayGive32 id (rows_of f)
    → (one_text f id ≡ None → r ≡ None) → ((t : Text) → one_text f id ≡ Some t → ReadsOne G t r)
    → ((u : Text) (x : Result ℕ E) → G u x → ParsesUnsigned 32 10 u x)
    → r ≡ number_in id (rows_of f)
read32 {E} G f id r (inl none) empty reads only = empty (one_text-rows f id ∙ none) ∙ sym (number-none id (rows_of f) none)
read32 {E} G f id r (inr v) empty reads only =
    let here : one_text f id ≡ Some (without_minus v.text) = one_text-rows f id ∙ v.read in
    let read = reads (without_minus v.text) here in
    let got = signed_reads E G 32 0 4294967295 v.text r read only (lit< tt) v.passed in
    let is : got.0 ≡ digits_value 10 (without_leading_plus (without_minus v.text)) =
    (only (without_minus v.text) (Ok got.0) (subst (ReadsOne G (without_minus v.text)) got.1 read)).1 in
    got.1 ∙ ap (λ (n : ℕ). Some n) is ∙ sym (number-some id (rows_of f) (without_minus v.text) v.read)

-- the getter of 64 bits
pub read64 : {E : Type 0} (G : List ℕ → Result ℕ E → Type 0) (f : Found) (id : Text) (r : Option ℕ) → MayGive64 id (rows_of f)
    → (one_text f id ≡ None → r ≡ None) → ((t : Text) → one_text f id ≡ Some t → ReadsOne G t r)
    → ((u : Text) (x : Result ℕ E) → G u x → ParsesUnsigned 64 10 u x)
    → r ≡ number_in id (rows_of f)
read64 {E} G f id r (inl none) empty reads only = empty (one_text-rows f id ∙ none) ∙ sym (number-none id (rows_of f) none)
read64 {E} G f id r (inr v) empty reads only = go r (reads v.text (one_text-rows f id ∙ v.read))
  where
    go : (o : Option ℕ) → ReadsOne G v.text o → o ≡ number_in id (rows_of f)
    go (Some n) g = ap (λ (n : ℕ). Some n) (only v.text (Ok n) g).1 ∙ sym (number-some id (rows_of f) v.text v.read)
    go None g = absurd (only v.text (Err g.0) g.1 (v.passed.0, v.passed.1))
