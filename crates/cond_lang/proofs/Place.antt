-- Where reading stops is the first fault.
use Rattle.std.proofs.Common.{◌≡◌, ℕ, ◌+◌, ◌-◌, ◌<◌, List, [], ◌∷◌, ◌++◌, length, take, refl, sym, ap, ◌∙◌, subst}
use Rattle.std.proofs.Common.{append_assoc, length-append, arith, Result, Err}
use Rattle.std.proofs.lemmas.List.{length-map}
use Rattle.cond_lang.specs.declared.scanner.Placed.{Placed}
use Rattle.conditions.specs.declared.error.CondError.{CondError}
use Rattle.conditions.specs.declared.error.CondError.TheVariants.{Syntax}
use Rattle.cond_lang.specs.Text.{kinds}
use Rattle.cond_lang.specs.Faults.{offset_of}
use Rattle.std.proofs.Math.Seq.{take-append_seam, take-append-add}
use Rattle.cond_lang.specs.declared.scanner.Token.{Token}
use Rattle.conditions.specs.Form.{Form}
use Rattle.cond_lang.specs.Definitions.{AreDefinitions, Spells}
use Rattle.cond_lang.specs.Faults.{IsViableIn, IsFirstFault, IsFirstFaultIn}
use Rattle.cond_lang.specs.Grammar.{Meanings}
use Rattle.cond_lang.specs.internal.Defining.{definitions_alone, whole}
use Rattle.cond_lang.specs.internal.Reading.{got, stuck, front, Reader}
use Rattle.cond_lang.proofs.Definitions.{reads_whole, whole_spelled, whole_right, reads_alone, alone_read, alone_right}
use Rattle.cond_lang.proofs.Sequences.{Reads}

front_part : (T D R : List Token) → T ≡ D ++ R → take (length T - length R) T ≡ D
front_part T D R e =
    let n : length T - length R ≡ length D = omega (arith, ap length e, length-append D R) in
    ap (λ m. take m T) n ∙ ap (λ L. take (length D) L) e ∙ take-append_seam D R

-- one token more than what came before the fault
one_more : (D R : List Token) (c : Token) → take (length D + 1) (D ++ c ∷ R) ≡ D ++ c ∷ []
one_more D R c = take-append-add D (c ∷ R) 1

-- a reader of what the rules M spell, and no more
module _ {A : Type 0} (M : List Token → A → Type 0) (p : Reader A) (reads : (S : List Token) → Reads M p S (p S))
    (spelled : (T : List Token) (x : A) → M T x → p T ≡ got x []) where
  -- where reading stops
  stuck_reads : (T R : List Token) → p T ≡ stuck R → Reads M p T (stuck R)
  stuck_reads T R e = subst (λ o. Reads M p T o) e (reads T)

  -- With what came before the fault and the token in sight, reading stops there.
  stuck_like : (T R X : List Token) → p T ≡ stuck R → front X ≡ front R → p (take (length T - length R) T ++ X) ≡ stuck X
  stuck_like T R X e i =
      let h : Reads M p T (stuck R) = stuck_reads T R e in
      ap (λ D. p (D ++ X)) (front_part T h.done R h.cut) ∙ h.same X i

  viable_before : (T R : List Token) → p T ≡ stuck R → IsViableIn M (take (length T - length R) T)
  viable_before T R e =
      let h : Reads M p T (stuck R) = stuck_reads T R e in
      subst (IsViableIn M) (sym (front_part T h.done R h.cut)) h.right

  cut_at : (T R : List Token) → p T ≡ stuck R → T ≡ take (length T - length R) T ++ R
  cut_at T R e =
      let h : Reads M p T (stuck R) = stuck_reads T R e in
      h.cut ∙ ap (λ D. D ++ R) (sym (front_part T h.done R h.cut))

  not_with : (T R : List Token) → p T ≡ stuck R → length T - length R < length T → IsViableIn M (take (length T - length R + 1) T) → ⊥
  not_with T [] e h v = absurd (omega arith)
  not_with T (c ∷ R) e h v =
      let D : List Token = take (length T - length (c ∷ R)) T in
      let cut : T ≡ D ++ c ∷ R = cut_at T (c ∷ R) e in
      let n : length D ≡ length T - length (c ∷ R) = omega (arith, ap length cut, length-append D (c ∷ R)) in
      let k : take (length T - length (c ∷ R) + 1) T ≡ D ++ c ∷ [] =
      ap (λ m. take (m + 1) T) (sym n) ∙ ap (λ L. take (length D + 1) L) cut ∙ one_more D R c in
      let i : (take (length T - length (c ∷ R) + 1) T) ++ v.0 ≡ D ++ (c ∷ v.0) =
      ap (λ L. L ++ v.0) k ∙ append_assoc D (c ∷ []) v.0 in
      let s : p (D ++ c ∷ v.0) ≡ got v.1 [] = spelled (D ++ c ∷ v.0) v.1 (subst (λ L. M L v.1) i v.2) in
      let r : p (D ++ c ∷ v.0) ≡ stuck (c ∷ v.0) = stuck_like T (c ∷ R) (c ∷ v.0) e refl in
      cc

  not_spelled : (T R : List Token) → p T ≡ stuck R → (x : A) → M T x → ⊥
  not_spelled T R e x h = let s = spelled T x h in cc

  stops_first : (T R : List Token) → p T ≡ stuck R → IsFirstFaultIn M T (length T - length R)
  stops_first T R e = record {
    within = omega arith;
    before = viable_before T R e;
    with_it = not_with T R e;
    at_end = λ i. not_spelled T R e;
  }

whole_one : (T : List Token) (t : Form) → Spells T t → whole T ≡ got t []
whole_one T t h = whole_spelled h

pub first_fault : (T R : List Token) → whole T ≡ stuck R → IsFirstFault T (length T - length R)
first_fault T R e = stops_first Spells whole reads_whole whole_one T R e

pub never_both : (T R : List Token) (t : Form) → whole T ≡ stuck R → Spells T t → ⊥
never_both T R t e h = not_spelled Spells whole reads_whole whole_one T R e t h

pub from_ok : (T S R : List Token) (t : Form) → S ≡ T → whole S ≡ got t R → Spells T t
from_ok T S R t e h = whole_right T R t (ap whole (sym e) ∙ h)

pub from_stuck : (T S R : List Token) → S ≡ T → whole S ≡ stuck R → whole T ≡ stuck R
from_stuck T S R e h = ap whole (sym e) ∙ h

-- the same of definitions alone
alone_one : (T : List Token) (N : Meanings) → AreDefinitions [] T N → definitions_alone T ≡ got N []
alone_one T N h = alone_read h

pub first_fault_alone : (T S R : List Token) → S ≡ T → definitions_alone S ≡ stuck R → IsFirstFaultIn (AreDefinitions []) T (length T - length R)
first_fault_alone T S R e h = stops_first (AreDefinitions []) definitions_alone reads_alone alone_one T R (ap definitions_alone (sym e) ∙ h)

pub never_both_alone : (T S R : List Token) (N : Meanings) → S ≡ T → definitions_alone S ≡ stuck R → AreDefinitions [] T N → ⊥
never_both_alone T S R N e h d = not_spelled (AreDefinitions []) definitions_alone reads_alone alone_one T R (ap definitions_alone (sym e) ∙ h) N d

pub from_ok_alone : (T S R : List Token) (N : Meanings) → S ≡ T → definitions_alone S ≡ got N R → AreDefinitions [] T N
from_ok_alone T S R N e h = alone_right T R N (ap definitions_alone (sym e) ∙ h)

pub same_at : {X : Type 0} (r at : ℕ) → (let a : Result X CondError = Err (Syntax r) in a) ≡ Err (Syntax at) → r ≡ at
same_at r at e = cc

pub at_place :
    (xs : List Placed) (R : List Token) (end left r at : ℕ)
    → left ≡ length R → r ≡ offset_of xs end (length xs - left) → r ≡ at
    → at ≡ offset_of xs end (length (kinds xs) - length R)
at_place xs R end left r at a b e =
    let n : length xs - left ≡ length (kinds xs) - length R = omega (arith, length-map xs (λ (s : Placed). s.token)) in
    sym e ∙ b ∙ ap (offset_of xs end) n
