-- The symbol that is found at the front of a text is the longest that fits.
use Rattle.std.proofs.Common.{◌≡◌, ℕ, ◌<◌, ◌≤◌, true, List, [], ◌∷◌, ◌++◌, length, take, Option, Some, None, eqb, refl, sym, ap, subst, arith}
use Rattle.std.specs.Prelude.{Contains}
use Rattle.std.proofs.lemmas.Bool.{eqb-true, false≢true}
use Rattle.conditions.specs.declared.tree.Op.TheVariants.{Equal, NotEqual, Less, AtMost, More, AtLeast}
use Rattle.cond_lang.specs.declared.scanner.Token.{Token}
use Rattle.cond_lang.specs.declared.scanner.Token.TheVariants.{Open, Close, Comma, Dash, Plus, Star, Relation}
use Rattle.cond_lang.specs.Cut.{symbols, BeginsWithSymbol}
use Rattle.cond_lang.specs.internal.Scanning.{token_of, begins_with, symbol_after, symbol_at}
use Rattle.cond_lang.proofs.Tables.{pick, at_entry}

-- an option holds a symbol of at least n bytes
abbrev pub IsAtLeast : ℕ → Option (Token × ℕ) → List ℕ → Type 0
IsAtLeast n None s = ⊥
IsAtLeast n (Some x) s = n ≤ length (take x.1 s)

pub goes_on : (d : ℕ) (s : List ℕ) → begins_with d s ≡ true → (more : List ℕ) × (s ≡ d ∷ more)
goes_on d [] h = absurd (false≢true h)
goes_on d (x ∷ s) h = (s, ap (λ y. y ∷ s) (eqb-true x d h))

-- The symbol that is found is as long as any that fits.
pub longest : (q : List ℕ) (t : Token) → Contains symbols (q, t) → (rest : List ℕ) → IsAtLeast (length q) (symbol_at (q ++ rest)) (q ++ rest)
longest =
    at_entry (λ q t. (rest : List ℕ) → IsAtLeast (length q) (symbol_at (q ++ rest)) (q ++ rest)) symbols
    (one, (one, (one, (one, (one, (one, (two, (two, (less, (two, (more, (two, tt))))))))))))
  where
    one : (rest : List ℕ) → 1 ≤ 1
    one rest = omega arith

    two : (rest : List ℕ) → 2 ≤ 2
    two rest = omega arith

    less : (rest : List ℕ) → IsAtLeast 1 (symbol_at (60 ∷ rest)) (60 ∷ rest)
    less rest =
        pick (λ o. IsAtLeast 1 o (60 ∷ rest)) (begins_with 61 rest) (Some (Relation AtMost, 2)) (Some (Relation Less, 1))
        (λ h. omega arith) (λ h. omega arith)

    more : (rest : List ℕ) → IsAtLeast 1 (symbol_at (62 ∷ rest)) (62 ∷ rest)
    more rest =
        pick (λ o. IsAtLeast 1 o (62 ∷ rest)) (begins_with 61 rest) (Some (Relation AtLeast, 2)) (Some (Relation More, 1))
        (λ h. omega arith) (λ h. omega arith)

-- an option holds a symbol of the text
abbrev pub IsSymbolOf : Option (Token × ℕ) → List ℕ → Type 0
IsSymbolOf None s = Unit {0}
IsSymbolOf (Some x) s = (token_of symbols (take x.1 s) ≡ Some x.0) × (0 < x.1) × (x.1 ≤ length s)

single : (t : Token) (d c : ℕ) (s : List ℕ) → token_of symbols (d ∷ []) ≡ Some t → eqb c d ≡ true → IsSymbolOf (Some (t, 1)) (c ∷ s)
single t d c s e h = subst (λ c. IsSymbolOf (Some (t, 1)) (c ∷ s)) (sym (eqb-true c d h)) (e, omega arith, omega arith)

double : (t : Token) (d c : ℕ) (s : List ℕ) → token_of symbols (d ∷ 61 ∷ []) ≡ Some t → eqb c d ≡ true
    → begins_with 61 s ≡ true → IsSymbolOf (Some (t, 2)) (c ∷ s)
double t d c s e h g =
    let m = goes_on 61 s g in
    subst (λ c. IsSymbolOf (Some (t, 2)) (c ∷ s)) (sym (eqb-true c d h))
    (subst (λ s. IsSymbolOf (Some (t, 2)) (d ∷ s)) (sym m.1) (e, omega arith, omega arith))

-- What is found is a symbol.
pub symbol_is : (c : ℕ) (s : List ℕ) → IsSymbolOf (symbol_after c s) (c ∷ s)
symbol_is c s =
    pick P (eqb c 40) _ _ (single Open 40 c s refl) (λ _.
    pick P (eqb c 41) _ _ (single Close 41 c s refl) (λ _.
    pick P (eqb c 44) _ _ (single Comma 44 c s refl) (λ _.
    pick P (eqb c 45) _ _ (single Dash 45 c s refl) (λ _.
    pick P (eqb c 43) _ _ (single Plus 43 c s refl) (λ _.
    pick P (eqb c 42) _ _ (single Star 42 c s refl) (λ _.
    pick P (eqb c 61) _ _ (λ h. pick P (begins_with 61 s) _ _ (double (Relation Equal) 61 c s refl h) (λ _. tt)) (λ _.
    pick P (eqb c 33) _ _ (λ h. pick P (begins_with 61 s) _ _ (double (Relation NotEqual) 33 c s refl h) (λ _. tt)) (λ _.
    pick P (eqb c 60) _ _ (λ h. pick P (begins_with 61 s) _ _ (double (Relation AtMost) 60 c s refl h)
    (λ _. single (Relation Less) 60 c s refl h)) (λ _.
    pick P (eqb c 62) _ _ (λ h. pick P (begins_with 61 s) _ _ (double (Relation AtLeast) 62 c s refl h)
    (λ _. single (Relation More) 62 c s refl h)) (λ _. tt))))))))))
  where
    P : Option (Token × ℕ) → Type 0
    P o = IsSymbolOf o (c ∷ s)

-- a symbol that fits is no longer than what is found
pub fits : (q text : List ℕ) → BeginsWithSymbol q text → IsAtLeast (length q) (symbol_at text) text
fits q text b = subst (λ s. IsAtLeast (length q) (symbol_at s) s) (sym b.begins) (longest q b.token b.known b.more)

-- a symbol has bytes, and all of them are the text's
pub symbol_len : (s : List ℕ) (x : Token × ℕ) → symbol_at s ≡ Some x → (0 < x.1) × (x.1 ≤ length s)
symbol_len [] x e = absurd (cc)
symbol_len (c ∷ s) x e =
    let h : IsSymbolOf (Some x) (c ∷ s) = subst (λ o. IsSymbolOf o (c ∷ s)) e (symbol_is c s) in (h.1, h.2)
