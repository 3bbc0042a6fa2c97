-- The number of workers that a text gives.
use Rattle.std.proofs.Common.{◌≡◌, ◌&&◌, ℕ, Bool, true, false, List, [], ◌∷◌, Some, None, length, nat_lt, refl, ap}
use Rattle.std.specs.Prelude.{Result, Ok, Err}
use Rattle.std.specs.List.{list_all}
use Rattle.std.specs.Result.{result_ok}
use Rattle.std.specs.Char.{digit_value}
use Rattle.std.specs.Str.Parse.{AllDigits, ParsesUnsigned, digits_value, without_leading_plus}
use Rattle.std.proofs.lemmas.Bool.{lt-ltb, ltb-true}
use Rattle.clap.proofs.WalkLemmas.{both}
use Rattle.command_line.specs.options.Search.{number32}

digits_pass : (ds : List ℕ) → AllDigits 10 ds → list_all (λ d. nat_lt (digit_value d) 10) ds ≡ true
digits_pass [] h = refl
digits_pass (d ∷ ds) h = rw (lt-ltb (digit_value d) 10 h.0) (digits_pass ds h.1)

digits_from : (ds : List ℕ) → list_all (λ d. nat_lt (digit_value d) 10) ds ≡ true → AllDigits 10 ds
digits_from [] e = tt
digits_from (d ∷ ds) e =
    let parts = both _ _ e in
    (ltb-true _ _ parts.0, digits_from ds parts.1)

abbrev is_number32 : List ℕ → Bool
is_number32 ds = nat_lt 0 (length ds) && (list_all (λ d. nat_lt (digit_value d) 10) ds && nat_lt (digits_value 10 ds) 4294967296)

-- what `parse` answers is the number of the text
pub number_read : {E : Type 0} (text : List ℕ) (r : Result ℕ E) → ParsesUnsigned 32 10 text r → result_ok r ≡ number32 text
number_read text (Ok n) h =
    let ds = without_leading_plus text in
    rw (lt-ltb 0 (length ds) h.0.0.0, digits_pass ds h.0.0.1, lt-ltb (digits_value 10 ds) 4294967296 h.0.1) (ap (λ (x : ℕ). Some x) h.1)
number_read text (Err e) h = go (is_number32 (without_leading_plus text)) refl
  where
    go : (b : Bool) → is_number32 (without_leading_plus text) ≡ b → None ≡ number32 text
    go false t = rw t refl
    go true t =
        let outer = both _ _ t in
        let inner = both _ _ outer.1 in
        absurd (h ((ltb-true _ _ outer.0, digits_from (without_leading_plus text) inner.0), ltb-true _ _ inner.1))
