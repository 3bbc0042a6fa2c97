-- Tables of words and symbols: what is looked up is an entry, and each entry is found.
use Rattle.std.proofs.Common.{◌≡◌, ℕ, zero, suc, Bool, true, false, not, List, [], ◌∷◌, ◌++◌, map, Option, Some, None, ◌&&◌}
use Rattle.std.proofs.Common.{refl, sym, ap, ◌∙◌, subst, arith, if◌then◌else◌}
use Rattle.std.specs.Prelude.{Contains}
use Rattle.std.proofs.lemmas.Bool.{false≢true}
use Rattle.std.proofs.lemmas.Slice.Eq.{bytes_eq-Decides}
use Rattle.std.specs.Str.{bytes_eq}
use Rattle.cond_lang.specs.declared.scanner.Token.{Token}
use Rattle.cond_lang.specs.Cut.{words, symbols, are_ranks}
use Rattle.cond_lang.specs.internal.Scanning.{token_of}

abbrev pub Table : Type 0
Table = List (List ℕ × Token)

-- a choice, by what the test says
pub pick : {A : Type 0} (P : A → Type 0) (b : Bool) (x y : A) → (b ≡ true → P x) → (b ≡ false → P y) → P (if b then x else y)
pick P true x y t f = t refl
pick P false x y t f = f refl

-- no text stands twice
abbrev pub AreApart : Table → Type 0
AreApart [] = Unit {0}
AreApart (e ∷ table) = (token_of table e.0 ≡ None) × AreApart table

-- the same as a test, which computes for any table
abbrev is_none : Option Token → Bool
is_none None = true
is_none (Some t) = false

abbrev are_apart : Table → Bool
are_apart [] = true
are_apart (e ∷ table) = is_none (token_of table e.0) && are_apart table

none_and : (o : Option Token) (b : Bool) → (is_none o && b) ≡ true → (o ≡ None) × (b ≡ true)
none_and None b h = (refl, h)
none_and (Some t) b h = absurd (false≢true h)

apart_by_test : (table : Table) → are_apart table ≡ true → AreApart table
apart_by_test [] h = tt
apart_by_test (e ∷ table) h =
    let both = none_and (token_of table e.0) (are_apart table) h in (both.0, apart_by_test table both.1)

pub words_apart : AreApart words
words_apart = apart_by_test words refl

pub symbols_apart : AreApart symbols
symbols_apart = apart_by_test symbols refl

found_at : (entry : List ℕ × Token) (table : Table) (p : List ℕ) (t : Token) → entry ≡ (p, t) → token_of (entry ∷ table) p ≡ Some t
found_at entry table p t e =
    subst (λ x. token_of (x ∷ table) p ≡ Some t) (sym e)
    (let same : bytes_eq p p ≡ true = (bytes_eq-Decides p p).1 refl in rw same refl)

-- an entry of the table is found
pub token_of-entry : (table : Table) (p : List ℕ) (t : Token) → AreApart table → Contains table (p, t) → token_of table p ≡ Some t
token_of-entry [] p t a (k, lt, e) = absurd (omega arith)
token_of-entry (x ∷ table) p t a (zero, lt, e) = found_at x table p t e
token_of-entry (x ∷ table) p t a (suc k, lt, e) =
    let h : token_of table p ≡ Some t = token_of-entry table p t a.1 (k, omega arith, e) in
    pick (λ o. o ≡ Some t) (bytes_eq p x.0) (Some x.1) (token_of table p)
    (λ b. let same : p ≡ x.0 = (bytes_eq-Decides p x.0).0 b in let n : token_of table p ≡ None = ap (token_of table) same ∙ a.0 in absurd (cc))
    (λ _. h)

-- what is found is an entry
pub entry_of : (table : Table) (p : List ℕ) (t : Token) → token_of table p ≡ Some t → Contains table (p, t)
entry_of [] p t = λ e. absurd (cc)
entry_of (x ∷ table) p t =
    pick (λ o. o ≡ Some t → Contains (x ∷ table) (p, t)) (bytes_eq p x.0) (Some x.1) (token_of table p)
    (λ b e. let same : p ≡ x.0 = (bytes_eq-Decides p x.0).0 b in let this : x.1 ≡ t = cc in
    (0, omega arith, ap (λ q. (q, x.1)) (sym same) ∙ ap (λ y. (p, y)) this))
    (λ b e. let h = entry_of table p t e in (suc h.0, omega (arith, h.1), h.2))

-- what holds of each entry
abbrev pub EachEntry : (List ℕ → Token → Type 0) → Table → Type 0
EachEntry P [] = Unit {0}
EachEntry P (e ∷ table) = P e.0 e.1 × EachEntry P table

-- of a table in parts, and of one that is made of rows
pub each_append : (P : List ℕ → Token → Type 0) (xs ys : Table) → EachEntry P xs → EachEntry P ys → EachEntry P (xs ++ ys)
each_append P [] ys h more = more
each_append P (x ∷ xs) ys h more = (h.0, each_append P xs ys h.1 more)

pub each_row : {X : Type 0} (P : List ℕ → Token → Type 0) (f : X → List ℕ × Token) (xs : List X)
    → ((x : X) → P (f x).0 (f x).1) → EachEntry P (map f xs)
each_row P f [] h = tt
each_row P f (x ∷ xs) h = (h x, each_row P f xs h)

pub at_entry : (P : List ℕ → Token → Type 0) (table : Table) → EachEntry P table → (p : List ℕ) (t : Token) → Contains table (p, t) → P p t
at_entry P [] h p t (k, lt, e) = absurd (omega arith)
at_entry P (x ∷ table) h p t (zero, lt, e) = subst (λ x. P x.0 x.1) e h.0
at_entry P (x ∷ table) h p t (suc k, lt, e) = at_entry P table h.1 p t (k, omega arith, e)

-- No known word is ranks.

abbrev has_no_ranks : Table → Bool
has_no_ranks [] = true
has_no_ranks (e ∷ table) = not (are_ranks e.0) && has_no_ranks table

not_and : (a b : Bool) → (not a && b) ≡ true → (a ≡ false) × (b ≡ true)
not_and false b h = (refl, h)
not_and true b h = absurd (false≢true h)

each_no_ranks : (table : Table) → has_no_ranks table ≡ true → EachEntry (λ p t. are_ranks p ≡ false) table
each_no_ranks [] h = tt
each_no_ranks (e ∷ table) h = let both = not_and (are_ranks e.0) (has_no_ranks table) h in (both.0, each_no_ranks table both.1)

pub no_ranks_word : (p : List ℕ) → are_ranks p ≡ true → (t : Token) → Contains words (p, t) → ⊥
no_ranks_word p h t m =
    let none : are_ranks p ≡ false = at_entry (λ p t. are_ranks p ≡ false) words (each_no_ranks words refl) p t m in
    false≢true (sym none ∙ h)
