-- A set of kinds, one answer after another.
use Rattle.std.proofs.Common.{◌≡◌, ℕ, ◌+◌, ◌<◌, ◌↔◌, Bool, List, [], ◌∷◌, ◌++◌, IsTrue, length, slice_index_or}
use Rattle.std.proofs.Common.{slice_set, false, arith, below_more, subst, sym}
use Rattle.std.proofs.lemmas.Grind.{common_steps}

-- one more answer is written down
pub one_answer_more : (holds : List Bool) (P : ℕ → Type 0) (i : ℕ) (b : Bool) → i < length holds
    → ((k : ℕ) → k < i → IsTrue (slice_index_or holds k false) ↔ P k) → IsTrue b ↔ P i
    → (k : ℕ) → k < i + 1 → IsTrue (slice_index_or (slice_set holds i b) k false) ↔ P k
one_answer_more holds P i b within below here =
    below_more (λ k. IsTrue (slice_index_or (slice_set holds i b) k false) ↔ P k) i
    (λ k l. let e : slice_index_or (slice_set holds i b) k false ≡ slice_index_or holds k false = grind (arith, common_steps) in
    let Q : Bool → Type 0 = λ v. IsTrue v ↔ P k in subst Q (sym e) (below k l))
    (let e : slice_index_or (slice_set holds i b) i false ≡ b = grind (arith, common_steps) in
    let Q : Bool → Type 0 = λ v. IsTrue v ↔ P i in subst Q (sym e) here)

-- one more answer is put behind the others
pub one_answer_behind : (xs : List Bool) (b : Bool) (P : ℕ → Bool → Type 0)
    → ((n : ℕ) → n < length xs → P n (slice_index_or xs n false)) → P (length xs) b
    → (n : ℕ) → n < length xs + 1 → P n (slice_index_or (xs ++ b ∷ []) n false)
one_answer_behind xs b P below here =
    below_more (λ n. P n (slice_index_or (xs ++ b ∷ []) n false)) (length xs)
    (λ n l. let e : slice_index_or (xs ++ b ∷ []) n false ≡ slice_index_or xs n false = grind (arith, common_steps) in
    subst (P n) (sym e) (below n l))
    (let e : slice_index_or (xs ++ b ∷ []) (length xs) false ≡ b = grind (arith, common_steps) in subst (P (length xs)) (sym e) here)
