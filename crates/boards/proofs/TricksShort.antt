-- A line that tells of tricks is short.
use Rattle.std.proofs.Common.{◌≡◌, ◌≤◌, ℕ, ◌+◌, ◌&&◌, ◌==◌, ◌∙◌, Bool, true, false, List, [], ◌∷◌, length, None, Some}
use Rattle.std.proofs.Common.{refl, ap, subst, arith, bytes_eq, codes, eqb-true}
use Rattle.std.specs.List.{list_all, join_with_byte}
use Rattle.std.specs.Int.{is_in_range}
use Rattle.std.proofs.lemmas.Bool.{and_parts}
use Rattle.std.proofs.lemmas.Grind.{common_steps}
use Rattle.std.proofs.lemmas.List.Splits.{join_with_byte-slice_split}
use Rattle.std.proofs.lemmas.Slice.Eq.{bytes_eq-Decides}
use Rattle.boards.specs.TricksLines.{TricksView, are_points, are_tricks, are_with_par, is_contract, is_contract_byte}
use Rattle.boards.specs.TricksLines.{is_side, is_tricks, told, told_by, words_of}
use Rattle.boards.proofs.TricksTold.{points_length, side_length}

abbrev joined : List (List ℕ) → List ℕ
joined ws = join_with_byte 32 ws

tricks_length : (w : List ℕ) → are_tricks w ≡ true → length w ≡ 20
tricks_length w h = eqb-true (length w) 20 (and_parts (length w == 20) (list_all is_tricks w) h).0

contract_length : (w : List ℕ) → is_contract w ≡ true → length w ≤ 24
contract_length w h =
    let parts = and_parts (is_in_range 1 24 (length w)) (list_all is_contract_byte w) h in
    grind (arith, common_steps)

alone : (w : List ℕ) (t : TricksView) → told_by (w ∷ []) ≡ Some t → length w ≤ 20
alone w t h = by_nothing (bytes_eq w (codes "-")) refl
  where
    by_tricks : (a b : Bool) → bytes_eq w (codes "-") ≡ a → are_tricks w ≡ b → a ≡ false → length w ≤ 20
    by_tricks a true e f none = let n = tricks_length w f in omega arith
    by_tricks a false e f none = absurd (let bad : None ≡ Some t = rw (e ∙ none, f) at h in cc)

    by_nothing : (a : Bool) → bytes_eq w (codes "-") ≡ a → length w ≤ 20
    by_nothing true e = let one : length w ≡ 1 = ap length ((bytes_eq-Decides w (codes "-")).0 e) in omega arith
    by_nothing false e = by_tricks false (are_tricks w) e refl refl

par_length : (a b p : List ℕ) → are_with_par a b p ≡ true → length a + length b + length p ≤ 26
par_length a b p h =
    let parts = and_parts (are_tricks a) (is_side b && are_points p) h in
    let par = and_parts (is_side b) (are_points p) parts.1 in
    let twenty = tricks_length a parts.0 in
    let two = side_length b par.0 in
    let four = points_length p par.1 in
    omega arith

three : (a b p : List ℕ) (t : TricksView) → told_by (a ∷ b ∷ p ∷ []) ≡ Some t → are_with_par a b p ≡ true
three a b p t h = by_par (are_with_par a b p) refl
  where
    by_par : (x : Bool) → are_with_par a b p ≡ x → x ≡ true
    by_par true e = refl
    by_par false e = absurd (let bad : None ≡ Some t = rw e at h in cc)

four : (a b p c : List ℕ) (t : TricksView) → told_by (a ∷ b ∷ p ∷ c ∷ []) ≡ Some t → (are_with_par a b p && is_contract c) ≡ true
four a b p c t h = by_all (are_with_par a b p && is_contract c) refl
  where
    by_all : (x : Bool) → (are_with_par a b p && is_contract c) ≡ x → x ≡ true
    by_all true e = refl
    by_all false e = absurd (let bad : None ≡ Some t = rw e at h in cc)

by_words : (ws : List (List ℕ)) (t : TricksView) → told_by ws ≡ Some t → length (joined ws) ≤ 53
by_words [] t h = absurd cc
by_words (a ∷ []) t h = let n = alone a t h in omega arith
by_words (a ∷ (b ∷ [])) t h = absurd cc
by_words (a ∷ (b ∷ (p ∷ []))) t h = let n = par_length a b p (three a b p t h) in grind (arith, common_steps)
by_words (a ∷ (b ∷ (p ∷ (c ∷ [])))) t h =
    let both = and_parts (are_with_par a b p) (is_contract c) (four a b p c t h) in
    let n = par_length a b p both.0 in
    let m = contract_length c both.1 in grind (arith, common_steps)
by_words (a ∷ (b ∷ (p ∷ (c ∷ (d ∷ ws))))) t h = absurd cc

pub told_short : (line : List ℕ) (t : TricksView) → told line ≡ Some t → length line ≤ 53
unfolding told
told_short line t h = subst (λ (l : List ℕ). length l ≤ 53) (join_with_byte-slice_split 32 line) (by_words (words_of line) t h)
