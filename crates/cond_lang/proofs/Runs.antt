-- How long a run of letters or digits is, and that no byte is of two kinds.
use Rattle.std.proofs.Common.{◌≡◌, ℕ, suc, ◌<◌, ◌≤◌, Bool, true, false, List, [], ◌∷◌, ◌++◌, length, take, drop, refl, ap, arith}
use Rattle.std.proofs.lemmas.Bool.Decides.{nat_tests}
use Rattle.std.specs.List.{AllByRecursion}
use Rattle.std.specs.Char.{is_ascii_lowercase, is_ascii_digit}
use Rattle.cond_lang.specs.Cut.{is_separator, is_comment_sign, is_in_comment, EndsRun, IsRun}
use Rattle.cond_lang.specs.Runs.{run}
use Rattle.cond_lang.proofs.Tables.{pick}

pub run-append : (f : ℕ → Bool) (p rest : List ℕ) → AllByRecursion (λ c. f c ≡ true) p → EndsRun f rest → run f (p ++ rest) ≡ length p
run-append f [] [] a e = refl
run-append f [] (c ∷ rest) a e = rw e refl
run-append f (c ∷ p) rest a e = let h = a.0 in rw h (ap suc (run-append f p rest a.1 e))

pub run_all : (f : ℕ → Bool) (s : List ℕ) → AllByRecursion (λ c. f c ≡ true) (take (run f s) s)
run_all f [] = tt
run_all f (c ∷ s) =
    pick (λ n. AllByRecursion (λ c. f c ≡ true) (take n (c ∷ s))) (f c) (suc (run f s)) 0 (λ h. (h, run_all f s)) (λ h. tt)

pub run_ends : (f : ℕ → Bool) (s : List ℕ) → EndsRun f (drop (run f s) s)
run_ends f [] = tt
run_ends f (c ∷ s) = pick (λ n. EndsRun f (drop n (c ∷ s))) (f c) (suc (run f s)) 0 (λ h. run_ends f s) (λ h. h)

pub run-within : (f : ℕ → Bool) (s : List ℕ) → run f s ≤ length s
run-within f [] = omega arith
run-within f (c ∷ s) = pick (λ n. n ≤ length (c ∷ s)) (f c) (suc (run f s)) 0 (λ h. omega (arith, run-within f s)) (λ h. omega arith)

pub run_some : (f : ℕ → Bool) (c : ℕ) (s : List ℕ) → f c ≡ true → 0 < run f (c ∷ s)
run_some f c s h = rw h (omega arith)

pub run_split : (f : ℕ → Bool) (c : ℕ) (s : List ℕ) → f c ≡ true → IsRun f (take (run f (c ∷ s)) (c ∷ s)) (drop (run f (c ∷ s)) (c ∷ s))
run_split f c s h = record { some = rw h (omega arith); all = run_all f (c ∷ s); ends = run_ends f (c ∷ s) }

-- Kinds of bytes.

pub lowercase_no_separator : (c : ℕ) → is_ascii_lowercase c ≡ true → is_separator c ≡ false
lowercase_no_separator c h = grind (arith, nat_tests)

pub digit_no_separator : (c : ℕ) → is_ascii_digit c ≡ true → is_separator c ≡ false
digit_no_separator c h = grind (arith, nat_tests)

pub sign_no_separator : (c : ℕ) → is_comment_sign c ≡ true → is_separator c ≡ false
sign_no_separator c h = grind (arith, nat_tests)

pub lowercase_no_sign : (c : ℕ) → is_ascii_lowercase c ≡ true → is_comment_sign c ≡ false
lowercase_no_sign c h = grind (arith, nat_tests)

pub digit_no_sign : (c : ℕ) → is_ascii_digit c ≡ true → is_comment_sign c ≡ false
digit_no_sign c h = grind (arith, nat_tests)

pub sign_in_comment : (c : ℕ) → is_comment_sign c ≡ true → is_in_comment c ≡ true
sign_in_comment c h = grind (arith, nat_tests)

pub digit_no_lowercase : (c : ℕ) → is_ascii_digit c ≡ true → is_ascii_lowercase c ≡ false
digit_no_lowercase c h = grind (arith, nat_tests)
