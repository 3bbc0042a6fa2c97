-- The definitions that some tokens begin with, as far as they are whole.
use Rattle.std.proofs.Common.{◌≡◌, ℕ, ◌≤◌, Bool, true, false, List, [], ◌∷◌, ◌++◌, Some, None, length, slice_get}
use Rattle.std.proofs.Common.{take, refl, sym, ap, ◌∙◌, subst, append_assoc, append-nil, length-append, arith}
use Rattle.cond_lang.specs.declared.classes.Params.{Params}
use Rattle.cond_lang.specs.declared.parser.names.Named.{Named}
use Rattle.cond_lang.specs.declared.scanner.Token.{Token}
use Rattle.cond_lang.specs.declared.scanner.Token.TheVariants.{Let}
use Rattle.cond_lang.specs.Definitions.{IsDefinition, AreDefinitions, none, one_more, BeginsWith, is_of_value, TellsName}
use Rattle.cond_lang.specs.Grammar.{Meaning, Meanings}
use Rattle.cond_lang.specs.Text.{kinds}
use Rattle.cond_lang.specs.internal.Defining.{definition, meaning, meaning_by, meanings, IsSound, AreSound}
use Rattle.cond_lang.specs.internal.Reading.{got, stuck, front}
use Rattle.cond_lang.proofs.Definitions.{reads_definition, definition_read}
use Rattle.cond_lang.proofs.Kept.{meanings_length, meanings_more, meaning_at, sound_more}
use Rattle.cond_lang.proofs.Sequences.{Reads}

-- one definition more behind others
more_definitions : {N M : Meanings} {D d : List Token} {m : Meaning} → AreDefinitions N D M → IsDefinition M d m
    → AreDefinitions N (D ++ Let ∷ d) (M ++ m ∷ [])
more_definitions {N} {d} {m} none h = subst (λ L. AreDefinitions N (Let ∷ L) (N ++ m ∷ [])) (append-nil d) (one_more h none)
more_definitions {M} {d} {m} (one_more {N} {D} {T} k ks) h =
    subst (λ L. AreDefinitions N (Let ∷ L) (M ++ m ∷ [])) (sym (append_assoc D T (Let ∷ d))) (one_more k (more_definitions ks h))

-- definitions take no name away
grows : {N M : Meanings} {D : List Token} → AreDefinitions N D M → length N ≤ length M
grows none = omega arith
grows (one_more {N} {m} h hs) = omega (arith, grows hs, length-append N (m ∷ []))

-- no definition goes on there
abbrev pub NoMore : Meanings → List Token → Type 0
NoMore N S = (d R : List Token) (m : Meaning) → S ≡ Let ∷ d ++ R → IsDefinition N d m → ⊥

most :
    {K M N : Meanings} {D C : List Token} → AreDefinitions K D M → AreDefinitions K C N → (R S : List Token) → D ++ R ≡ C ++ S → NoMore N S
    → length M ≤ length N
most none h R S e stop = grows h
most (one_more {D} {T} {m} h hs) none R S e stop = absurd (stop D (T ++ R) m (sym e ∙ ap (λ L. Let ∷ L) (append_assoc D T R)) h)
most {N} (one_more {N = K} {D} {T} {m} h hs) (one_more {D = C} {T = U} {m = k} g gs) R S e stop =
    let tails : (D ++ T) ++ R ≡ (C ++ U) ++ S = cc in
    let x = definition_read h (T ++ R) in
    let y : definition K (D ++ (T ++ R)) ≡ got k (U ++ S) =
    ap (definition K) (sym (append_assoc D T R) ∙ tails ∙ append_assoc C U S) ∙ definition_read g (U ++ S) in
    let same : k ≡ m = cc in
    let left : T ++ R ≡ U ++ S = cc in
    most hs (subst (λ k. AreDefinitions (K ++ k ∷ []) U N) same gs) R S left stop

-- as far as the definitions are whole they are these
pub record Whole (T : List Token) (ms : List Named) (S : List Token) : Type 0 where
  pub sound : AreSound ms
  pub done : List Token
  pub are : AreDefinitions [] done (meanings ms)
  pub cut : T ≡ done ++ S
  pub shorter : length S ≤ length T

pub none_yet : (T : List Token) (ms : List Named) → ms ≡ [] → Whole T ms T
none_yet T ms e = subst (λ ms. Whole T ms T) (sym e) (record { sound = tt; done = []; are = none; cut = refl; shorter = omega arith })

pub one_name_more :
    (T : List Token) (ms more slice : List Named) (m : Named) (t : Token) (S R Q : List Token) → Whole T ms S → slice ≡ ms → more ≡ ms ++ m ∷ []
    → IsSound (meanings slice) m → S ≡ t ∷ R → front S ≡ Some Let
    → definition (meanings slice) R ≡ got (meaning (meanings slice) m) Q → Whole T more Q
one_name_more T ms more slice m t S R Q w same grown sound cut sight read =
    let s : IsSound (meanings ms) m = subst (λ ms. IsSound (meanings ms) m) same sound in
    let e : definition (meanings ms) R ≡ got (meaning (meanings ms) m) Q =
    subst (λ ms. definition (meanings ms) R ≡ got (meaning (meanings ms) m) Q) same read in
    let h : Reads (IsDefinition (meanings ms)) (definition (meanings ms)) R (got (meaning (meanings ms) m) Q) =
    subst (λ o. Reads (IsDefinition (meanings ms)) (definition (meanings ms)) R o) e (reads_definition (meanings ms) R) in
    let is_let : t ≡ Let = cc in
    let there : S ≡ (Let ∷ h.done) ++ Q = cut ∙ ap (λ t. t ∷ R) is_let ∙ ap (λ R. Let ∷ R) h.cut in
    record {
      sound = subst AreSound (sym grown) (sound_more ms m w.sound s);
      done = w.done ++ Let ∷ h.done;
      are = subst (λ N. AreDefinitions [] (w.done ++ Let ∷ h.done) N)
          (sym (meanings_more ms m) ∙ ap meanings (sym grown)) (more_definitions w.are h.right);
      cut = w.cut ∙ ap (λ S. w.done ++ S) there ∙ sym (append_assoc w.done (Let ∷ h.done) Q);
      shorter = omega (arith, w.shorter, ap length there, length-append (Let ∷ h.done) Q);
    }

-- where no `let` is in sight, and where a definition isn't whole
pub ends_there : (ms : List Named) (S : List Token) → (front S ≡ Some Let → ⊥) → NoMore (meanings ms) S
ends_there ms S n d R m e h = n (ap front e)

pub breaks_there :
    (ms slice : List Named) (t : Token) (S R Q : List Token) → slice ≡ ms → S ≡ t ∷ R
    → definition (meanings slice) R ≡ stuck Q → NoMore (meanings ms) S
breaks_there ms slice t S R Q same cut read d X m e h =
    let r : definition (meanings ms) R ≡ stuck Q = subst (λ ms. definition (meanings ms) R ≡ stuck Q) same read in
    let there : R ≡ d ++ X = cc in
    let g : definition (meanings ms) R ≡ got m X = ap (definition (meanings ms)) there ∙ definition_read h X in
    cc

pub begins : (T : List Token) (ms : List Named) (S : List Token) → Whole T ms S → BeginsWith (meanings ms) T
begins T ms S w = (w.done, S, w.are, w.cut)

pub all_begun : (T : List Token) (ms : List Named) (S : List Token) → Whole T ms S → NoMore (meanings ms) S
    → (N : Meanings) → BeginsWith N T → length N ≤ length ms
all_begun T ms S w stop N b = omega (arith, most b.2 w.are b.1 S (sym b.3 ∙ w.cut) stop, meanings_length ms)

-- ---- what is told of a name

kind_is : (N : Meanings) (b : Bool) (p : Params) (S : List Token) → b ≡ is_of_value (meaning_by N b p S)
kind_is N true p S = refl
kind_is N false p S = refl

pub tells_given :
    (T : List Token) (ms : List Named) (n : ℕ) (m : Named) → AreSound ms → BeginsWith (meanings ms) T
    → slice_get ms n ≡ Some m → TellsName T n (Some m.is_value)
tells_given T ms n m s b e =
    (meanings ms, meaning (meanings (take n ms)) m, b, meaning_at ms n m s e, kind_is (meanings (take n ms)) m.is_value m.params (kinds m.body.now))

pub tells_none :
    (T : List Token) (ms : List Named) (n : ℕ) → ((N : Meanings) → BeginsWith N T → length N ≤ length ms) → length ms ≤ n → TellsName T n None
tells_none T ms n all few = λ N b. omega (arith, all N b, few)
