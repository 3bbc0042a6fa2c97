-- The forms of a line, by its words.
use Rattle.std.proofs.Common.{◌≡◌, ◌<◌, ℕ, ◌==◌, true, false, List, [], ◌∷◌, length, Option, None, Some, refl, arith, option_map}
use Rattle.std.specs.Borrow.{Bor}
use Rattle.std.specs.Option.{is_some}
use Rattle.std.proofs.lemmas.Bool.{and_right}
use Rattle.std.proofs.lemmas.List.Splits.{length-slice_split}
use Rattle.boards.specs.TricksLines.{are_with_par, is_contract, told_by, words_of}
use Rattle.boards.specs.internal.TricksWords.{words_behind}

-- without tricks, a side and a score there is no par
pub no_par : (a b p : List ℕ) (more : List (List ℕ)) → are_with_par a b p ≡ false → None ≡ told_by (a ∷ b ∷ p ∷ more)
no_par a b p [] h = rw h refl
no_par a b p (c ∷ []) h = rw h refl
no_par a b p (c ∷ (d ∷ more)) h = refl

pub no_contract : (a b p c : List ℕ) → is_contract c ≡ false → None ≡ told_by (a ∷ b ∷ p ∷ c ∷ [])
no_contract a b p c h = rw (and_right (are_with_par a b p) (is_contract c) h) refl

-- nothing stands after a contract
too_many : (a b p c : List ℕ) (more : List (List ℕ)) → 0 < length more → None ≡ told_by (a ∷ b ∷ p ∷ c ∷ more)
too_many a b p c [] h = absurd (omega arith)
too_many a b p c (d ∷ more) h = refl

pub five_words : (a b p c : List ℕ) (after : Option (Bor (List ℕ))) → is_some after ≡ true
    → None ≡ told_by (a ∷ b ∷ p ∷ c ∷ words_behind (option_map (λ s. s.now) after))
five_words a b p c None h = absurd cc
five_words a b p c (Some s) h =
    let some = length-slice_split (λ b. b == 32) s.now in too_many a b p c (words_of s.now) (omega (arith, some))

pub four_words : (after : Option (Bor (List ℕ))) → is_some after ≡ false → words_behind (option_map (λ s. s.now) after) ≡ []
four_words None h = refl
four_words (Some s) h = absurd cc
