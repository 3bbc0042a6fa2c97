-- The longest beginning of some tokens that a condition goes on with, and what could follow it.
use Rattle.std.proofs.Common.{◌≡◌, ℕ, ◌+◌, ◌-◌, List, [], ◌∷◌, ◌++◌, length, take, sym, ap, ◌∙◌, subst, inl, inr, append-nil, arith}
use Rattle.std.specs.Prelude.{◌↔◌, ◌==◌, IsTrue, Bool}
use Rattle.std.specs.List.{take-map}
use Rattle.std.proofs.lemmas.Bool.{cases_lt}
use Rattle.std.proofs.lemmas.Bool.Decides.{nat_tests}
use Rattle.std.proofs.lemmas.List.{length-map, length-take-le, take_all}
use Rattle.cond_lang.specs.declared.words.Kind.{Kind}
use Rattle.cond_lang.specs.declared.words.Kind.TheVariants.{End}
use Rattle.cond_lang.specs.declared.scanner.Placed.{Placed}
use Rattle.cond_lang.specs.declared.scanner.Token.{Token}
use Rattle.cond_lang.specs.declared.scanner.Token.TheVariants.{Measure}
use Rattle.cond_lang.specs.Continuations.{kind_of, CanFollow, IsLongestViable, IsBeginning}
use Rattle.cond_lang.specs.Cut.{HasTokens}
use Rattle.cond_lang.specs.Faults.{IsViable, IsFirstFault, HasSyntaxFault, offset_of}
use Rattle.conditions.specs.Form.{Form}
use Rattle.cond_lang.specs.Definitions.{Spells}
use Rattle.cond_lang.specs.Text.{kinds}
use Rattle.cond_lang.specs.internal.Defining.{whole}
use Rattle.cond_lang.specs.internal.Reading.{got, stuck}
use Rattle.cond_lang.proofs.Place.{first_fault, from_ok, from_stuck, never_both}
use Rattle.cond_lang.proofs.AlikeTexts.{viable_like}
use Rattle.cond_lang.proofs.Faults.{viable_part}
use Rattle.cond_lang.proofs.Texts.{one_tokens}

-- ---- how far tokens go

-- a condition goes as far as it is long
all_viable : (T : List Token) (t : Form) → Spells T t → IsLongestViable T (length T)
all_viable T t h =
    record {
      within = omega arith;
      viable = ([], t, subst (λ L. Spells L t) (sym (append-nil (take (length T) T) ∙ take_all (length T) T (omega arith))) h);
      no_more = λ lt. absurd (omega (arith, lt));
    }

-- other tokens go as far as their first fault
up_to_fault : (T : List Token) (n : ℕ) → IsFirstFault T n → IsLongestViable T n
up_to_fault T n f = record { within = f.within; viable = f.before; no_more = f.with_it }

-- there is but one such length
pub one_longest : (T : List Token) (n m : ℕ) → IsLongestViable T n → IsLongestViable T m → n ≡ m
one_longest T n m f g =
    elim (cases_lt n m) [
      | inl lt ↦ absurd (f.no_more (omega (arith, lt, g.within)) (viable_part (n + 1) m T (omega (arith, lt)) g.viable))
      | inr ge ↦
          elim (cases_lt m n) [
            | inl lt ↦ absurd (g.no_more (omega (arith, lt, f.within)) (viable_part (m + 1) n T (omega (arith, lt)) f.viable))
            | inr le ↦ omega (arith, ge, le)
          ]
    ]

-- what the parser found of the tokens S, where R are left
pub is_spelled : (placed : List Placed) (S R : List Token) (t : Form) → S ≡ kinds placed → whole S ≡ got t R → (u : Form) × Spells (kinds placed) u
is_spelled placed S R t e h = (t, from_ok (kinds placed) S R t e h)

pub none_spelled : (placed : List Placed) (S R : List Token) → S ≡ kinds placed → whole S ≡ stuck R → ((t : Form) × Spells (kinds placed) t) → ⊥
none_spelled placed S R e h s = never_both (kinds placed) R s.0 (from_stuck (kinds placed) S R e h) s.1

pub read_whole :
    (placed : List Placed) (S R : List Token) (t : Form) → S ≡ kinds placed → whole S ≡ got t R
    → IsLongestViable (kinds placed) (length placed)
read_whole placed S R t e h =
    subst (λ n. IsLongestViable (kinds placed) n) (length-map placed (λ s. s.token))
    (all_viable (kinds placed) t (from_ok (kinds placed) S R t e h))

pub read_to_fault :
    (placed : List Placed) (S R : List Token) (n : ℕ) → S ≡ kinds placed → whole S ≡ stuck R → n ≡ length R
    → IsLongestViable (kinds placed) (length placed - n)
read_to_fault placed S R n e h i =
    let f : IsFirstFault (kinds placed) (length (kinds placed) - length R) =
    first_fault (kinds placed) R (from_stuck (kinds placed) S R e h) in
    let same : length (kinds placed) - length R ≡ length placed - n = omega (arith, i, length-map placed (λ (s : Placed). s.token)) in
    subst (λ n. IsLongestViable (kinds placed) n) same (up_to_fault (kinds placed) _ f)

-- ---- what could follow

pub kinds_of_part : (placed : List Placed) (n : ℕ) → kinds (take n placed) ≡ take n (kinds placed)
kinds_of_part placed n = sym (take-map (λ s. s.token) n placed)

-- no token is of the kind of the end
not_the_end : (c : Token) → kind_of c ≡ End → ⊥
not_the_end (Measure m) e = cc
not_the_end c e = cc

pub may_end :
    (T L : List Token) (k : Kind) (b : Bool) → L ≡ T → k ≡ End → IsTrue b ↔ ((t : Form) × Spells L t)
    → IsTrue b ↔ CanFollow T k
may_end T L k b e i w = (
  λ p. let s = w.0 p in inl (i, (s.0, subst (λ L. Spells L s.0) e s.1)),
  λ f. elim f [
    | inl h ↦ w.1 (h.1.0, subst (λ L. Spells L h.1.0) (sym e) h.1.1)
    | inr h ↦ absurd (not_the_end h.0 (h.1 ∙ i))
  ],
)

is_all : (n m : ℕ) → IsTrue (n == m) → n ≡ m
is_all n m h = grind (arith, nat_tests)

all_is : (n m : ℕ) → n ≡ m → IsTrue (n == m)
all_is n m h = grind (arith, nat_tests)

pub may_follow :
    (T : List Token) (placed : List Placed) (k : Kind) (c : Token) (n m : ℕ)
    → kind_of c ≡ k → kinds placed ≡ T ++ c ∷ [] → m ≡ length placed → IsLongestViable (kinds placed) n
    → IsTrue (n == m) ↔ CanFollow T k
may_follow T placed k c n m i is count h =
    let len : length (kinds placed) ≡ m = length-map placed (λ (s : Placed). s.token) ∙ sym count in (
      λ p.
          let all : take n (kinds placed) ≡ T ++ c ∷ [] =
          take_all n (kinds placed) (omega (arith, is_all n m p, len)) ∙ is in
          inr (c, i, subst IsViable all h.viable),
      λ f. elim f [
        | inl e ↦ absurd (not_the_end c (i ∙ e.0))
        | inr d ↦
            elim (cases_lt n (length (kinds placed))) [
              | inl lt ↦
                  let v : IsViable (T ++ c ∷ []) = viable_like T d.0 c (d.1 ∙ sym i) d.2 in
                  let all : take (length (kinds placed)) (kinds placed) ≡ T ++ c ∷ [] =
                  take_all (length (kinds placed)) (kinds placed) (omega arith) ∙ is in
                  absurd (h.no_more lt (viable_part (n + 1) (length (kinds placed)) (kinds placed) (omega (arith, lt)) (subst IsViable (sym all) v)))
              | inr ge ↦ all_is n m (omega (arith, ge, h.within, len))
            ]
      ],
    )

-- The beginning of a text with a syntax fault ends there.
pub ends_at_fault :
    (text : List ℕ) (at : ℕ) (T : List Token) → HasSyntaxFault text at → IsBeginning text T
    → (placed : List Placed) × HasTokens text placed × (at ≡ offset_of placed (length text) (length T))
ends_at_fault text at T f b =
    let same : b.tokens ≡ f.tokens = one_tokens text b.tokens f.tokens b.whole f.cut in
    let longest : IsLongestViable (kinds f.tokens) b.count = subst (λ ts. IsLongestViable (kinds ts) b.count) same b.longest in
    let n : f.place.0 ≡ b.count = one_longest (kinds f.tokens) f.place.0 b.count (up_to_fault (kinds f.tokens) f.place.0 f.place.1) longest in
    let len : length T ≡ b.count = ap length b.is ∙ length-take-le b.count (kinds b.tokens) b.longest.within in
    (f.tokens, f.cut, f.place.2 ∙ ap (λ n. offset_of f.tokens (length text) n) (n ∙ sym len))
