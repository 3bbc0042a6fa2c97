-- Reading definitions, and texts that begin with them.
use Rattle.std.proofs.Common.{◌≡◌, ◌≢◌, ℕ, zero, suc, ◌+◌, ◌<◌, ◌≤◌, ◌==◌, Bool, true, false, cond, List, [], ◌∷◌}
use Rattle.std.proofs.Common.{◌++◌, Some, length, refl, sym, ap, ◌∙◌, subst, append_assoc, append-nil, length-append}
use Rattle.std.proofs.Common.{arith}
use Rattle.std.proofs.lemmas.Bool.Decides.{nat_tests}
use Rattle.std.proofs.lemmas.List.{append_cancel_right}
use Rattle.cond_lang.specs.declared.classes.Bound.{Bound}
use Rattle.cond_lang.specs.declared.classes.Class.TheVariants.{Suit as AnySuit, Seat as AnySeat}
use Rattle.cond_lang.specs.declared.classes.Params.{Params}
use Rattle.cond_lang.specs.declared.classes.Params.TheVariants.{Plain, OfSeat, OfSuit, OfBoth}
use Rattle.cond_lang.specs.declared.scanner.Token.{Token}
use Rattle.cond_lang.specs.declared.scanner.Token.TheVariants.{Number, Class, Open, Close, Comma, Let, Is, Name}
use Rattle.conditions.specs.Form.{Amount, Form, number}
use Rattle.cond_lang.specs.Classes.{unbound}
use Rattle.cond_lang.specs.Definitions.{HasParams, no_params, a_seat, a_suit, seat_and_suit, IsBody, IsDefinition}
use Rattle.cond_lang.specs.Definitions.{defines, AreDefinitions, none, one_more, defined, Spells, SpellsAmount}
use Rattle.cond_lang.specs.Grammar.{Meaning, Meanings, SpellsCond, SpellsValue, atom, a_number}
use Rattle.cond_lang.specs.internal.Defining.{new_name, word_is, word_suit, behind_seat, param, params, body, is_body}
use Rattle.cond_lang.specs.internal.Defining.{definition, definitions_by, definitions, ended, definitions_alone}
use Rattle.cond_lang.specs.internal.Defining.{cond_alone, value_alone, whole, whole_value}
use Rattle.cond_lang.specs.internal.Reading.{Outcome, got, stuck, Reader, after, front, opened, closing, a_cond}
use Rattle.cond_lang.specs.internal.Reading.{a_both, a_unit, a_value, ors, ands, related_by, atom_of, number_or_count}
use Rattle.cond_lang.specs.internal.Reading.{count_of, reading}
use Rattle.cond_lang.proofs.Bodies.{some_body, reads_body, body_read}
use Rattle.cond_lang.proofs.Enough.{after_same, reads, reading_reads}
use Rattle.cond_lang.proofs.Sequences.{Reads, HasSome, rest, onto, reads_after, reads_token, gets_token, gets_at, gets_at_end, stops_at, stops_at_end}
use Rattle.cond_lang.proofs.Spelled.{cond_read, value_read}
use Rattle.cond_lang.proofs.Steps.{sample, sampled, sample_cond}
use Rattle.cond_lang.proofs.Terminals.{gets, reads_then, reads_opened, reads_closing}

-- ---- the parts of a definition

equal : (n m : ℕ) → (n == m) ≡ true → n ≡ m
equal n m h = grind (arith, nat_tests)

equal_itself : (n : ℕ) → (n == n) ≡ true
equal_itself n = grind (arith, nat_tests)

reads_this_name : (k n : ℕ) (S : List Token) (b : Bool) → (n == k) ≡ b
    → Reads (λ P _. P ≡ Name k ∷ []) (new_name k) (Name n ∷ S) (cond b (got tt S) (stuck (Name n ∷ S)))
reads_this_name k n S true e = gets_token _ (Name n) (new_name k) S tt (ap (λ n. Name n ∷ []) (equal n k e))
    (λ X. ap (λ b. cond b (got tt X) (stuck (Name n ∷ X))) e)
reads_this_name k n S false e = stops_at _ (Name n) (new_name k) S (Name k ∷ [], tt, refl) (λ X. ap (λ b. cond b (got tt X) (stuck (Name n ∷ X))) e)

reads_new_name : (k : ℕ) (S : List Token) → Reads (λ P _. P ≡ Name k ∷ []) (new_name k) S (new_name k S)
reads_new_name k [] = stops_at_end _ (new_name k) (Name k ∷ [], tt, refl) refl
reads_new_name k (Name n ∷ S) = reads_this_name k n S (n == k) refl
reads_new_name k (c ∷ S) = stops_at _ c (new_name k) S (Name k ∷ [], tt, refl) (λ X. refl)

reads_word_is : (S : List Token) → Reads (λ P _. P ≡ Is ∷ []) word_is S (word_is S)
reads_word_is [] = stops_at_end _ word_is (Is ∷ [], tt, refl) refl
reads_word_is (Is ∷ S) = gets_token _ Is word_is S tt refl (λ X. refl)
reads_word_is (c ∷ S) = stops_at _ c word_is S (Is ∷ [], tt, refl) (λ X. refl)

reads_word_suit : (S : List Token) → Reads (λ P _. P ≡ Class AnySuit ∷ []) word_suit S (word_suit S)
reads_word_suit [] = stops_at_end _ word_suit (Class AnySuit ∷ [], tt, refl) refl
reads_word_suit (Class AnySuit ∷ S) = gets_token _ (Class AnySuit) word_suit S tt refl (λ X. refl)
reads_word_suit (c ∷ S) = stops_at _ c word_suit S (Class AnySuit ∷ [], tt, refl) (λ X. refl)

-- parameters, in brackets
abbrev InBrackets : List Token → Params → Type 0
InBrackets P p = HasParams (Open ∷ P ++ Close ∷ []) p

reads_behind_seat : (S : List Token) → Reads (λ P. InBrackets (Class AnySeat ∷ P)) behind_seat S (behind_seat S)
reads_behind_seat [] = gets_at_end _ behind_seat OfSeat a_seat refl
reads_behind_seat (Comma ∷ S) =
    reads_token (λ P. InBrackets (Class AnySeat ∷ Comma ∷ P)) (λ P. InBrackets (Class AnySeat ∷ P)) Comma
    (λ S. after (word_suit S) (λ _ R. got OfBoth R)) behind_seat S _ (λ P x m. m) (λ X. refl)
    (reads_then (λ _. Class AnySuit ∷ []) (λ P. InBrackets (Class AnySeat ∷ Comma ∷ P)) word_suit (λ _ R. got OfBoth R) S (word_suit S)
    (λ _. ([], OfBoth, seat_and_suit)) (reads_word_suit S) (λ _ R. gets _ OfBoth R seat_and_suit))
reads_behind_seat (c ∷ S) = gets_at _ c behind_seat S OfSeat a_seat (λ X. refl)

reads_param : (S : List Token) → Reads InBrackets param S (param S)
reads_param [] = stops_at_end _ param (Class AnySeat ∷ [], OfSeat, a_seat) refl
reads_param (Class AnySeat ∷ S) = reads_token (λ P. InBrackets (Class AnySeat ∷ P)) _ (Class AnySeat) behind_seat
    param S _ (λ P x m. m) (λ X. refl) (reads_behind_seat S)
reads_param (Class AnySuit ∷ S) = gets_token _ (Class AnySuit) param S OfSuit a_suit (λ X. refl)
reads_param (c ∷ S) = stops_at _ c param S (Class AnySeat ∷ [], OfSeat, a_seat) (λ X. refl)

reads_params : (S : List Token) → Reads HasParams params S (params S)
reads_params [] = gets_at_end _ params Plain no_params refl
reads_params (Open ∷ S) =
    reads_token (λ P. HasParams (Open ∷ P)) _ Open (λ S. after (param S) closing) params S _ (λ P x m. m) (λ X. refl)
    (reads_after InBrackets (λ p Q q. (Q ≡ Close ∷ []) × (q ≡ p)) (λ P. HasParams (Open ∷ P)) param closing S (param S)
    (λ P Q p q h m. rw (m.0, m.1) h) (λ p. (Close ∷ [], p, (refl, refl))) (reads_param S) (λ p R. reads_closing _ p R (refl, refl)))
reads_params (c ∷ S) = gets_at _ c params S Plain no_params (λ X. refl)

-- is ( body )
abbrev IsBodyIn : Meanings → Params → List Token → Meaning → Type 0
IsBodyIn N p P m = (T : List Token) × IsBody N p T m × (P ≡ Is ∷ Open ∷ T ++ Close ∷ [])

reads_is_body : (N : Meanings) (p : Params) (S : List Token) → Reads (IsBodyIn N p) (is_body N p) S (is_body N p S)
reads_is_body N p S =
    let some = some_body N p in
    reads_then (λ _. Is ∷ []) (IsBodyIn N p) word_is (λ _ S. after (opened S) (λ _ S. after (body N p S) closing)) S (word_is S)
    (λ _. (Open ∷ some.0 ++ Close ∷ [], some.1, (some.0, some.2, refl))) (reads_word_is S)
    (λ _ S. reads_then (λ _. Open ∷ []) (λ P. IsBodyIn N p (Is ∷ P)) opened (λ _ S. after (body N p S) closing) S (opened S)
    (λ _. (some.0 ++ Close ∷ [], some.1, (some.0, some.2, refl))) (reads_opened S)
    (λ _ S. reads_after (IsBody N p) (λ m Q k. (Q ≡ Close ∷ []) × (k ≡ m)) (λ P. IsBodyIn N p (Is ∷ Open ∷ P)) (body N p) closing S (body N p S)
    (λ P Q m k h e. (P, rw e.1 h, rw e.0 refl)) (λ m. (Close ∷ [], m, (refl, refl))) (reads_body N p S) (λ m R. reads_closing _ m R (refl, refl))))

-- parameters and a body, behind the new name
abbrev IsDefinedBy : Meanings → List Token → Meaning → Type 0
IsDefinedBy N P m = IsDefinition N (Name (length N) ∷ P) m

joined_definition : (N : Meanings) (P Q : List Token) (p : Params) (m : Meaning) → HasParams P p → IsBodyIn N p Q m → IsDefinedBy N (P ++ Q) m
joined_definition N P Q p m h b = subst (λ Q. IsDefinedBy N (P ++ Q) m) (sym b.2) (defines h b.1)

some_body_in : (N : Meanings) (p : Params) → HasSome (IsBodyIn N p)
some_body_in N p = let some = some_body N p in (Is ∷ Open ∷ some.0 ++ Close ∷ [], some.1, (some.0, some.2, refl))

some_defined : (N : Meanings) → HasSome (IsDefinedBy N)
some_defined N = let some = some_body_in N Plain in (some.0, some.1, joined_definition N [] some.0 Plain some.1 no_params some.2)

pub reads_definition : (N : Meanings) (S : List Token) → Reads (IsDefinition N) (definition N) S (definition N S)
unfolding definition
reads_definition N S =
    reads_then (λ _. Name (length N) ∷ []) (IsDefinition N) (new_name (length N))
    (λ _ S. after (params S) (λ p S. is_body N p S)) S (new_name (length N) S)
    (λ _. some_defined N) (reads_new_name (length N) S)
    (λ _ S. reads_after HasParams (IsBodyIn N) (IsDefinedBy N) params (is_body N) S (params S)
    (joined_definition N) (some_body_in N) (reads_params S) (reads_is_body N))

-- ---- definitions

pub reads_definitions_by : (n : ℕ) (N : Meanings) (S : List Token) → Reads (AreDefinitions N) (definitions_by n N) S (definitions_by n N S)
unfolding definitions_by
reads_definitions_by zero N S = record { done = []; cut = refl; same = λ X i. refl; right = ([], N, none) }
reads_definitions_by (suc n) N [] = gets_at_end _ (definitions_by (suc n) N) N none refl
reads_definitions_by (suc n) N (Let ∷ S) =
    reads_token (λ P. AreDefinitions N (Let ∷ P)) _ Let (λ S. after (definition N S)
    (λ m R. definitions_by n (N ++ m ∷ []) R)) (definitions_by (suc n) N) S _ (λ P x m. m) (λ X. refl)
    (reads_after (IsDefinition N) (λ m. AreDefinitions (N ++ m ∷ [])) (λ P. AreDefinitions N (Let ∷ P)) (definition N)
    (λ m R. definitions_by n (N ++ m ∷ []) R) S (definition N S)
    (λ P Q m M h k. one_more h k) (λ m. ([], N ++ m ∷ [], none)) (reads_definition N S) (λ m R. reads_definitions_by n (N ++ m ∷ []) R))
reads_definitions_by (suc n) N (c ∷ S) = gets_at _ c (definitions_by (suc n) N) S N none (λ X. refl)

short_definition : (N : Meanings) (S : List Token) → length (rest (definition N S)) ≤ length S
short_definition N S = let h = reads_definition N S in omega (arith, ap length h.cut, length-append h.done (rest (definition N S)))

-- the same with any number that is enough
enough : (n m : ℕ) (N : Meanings) (S : List Token) → length S < n → length S < m → definitions_by n N S ≡ definitions_by m N S
unfolding definitions_by
enough zero m N S h i = absurd (omega arith)
enough (suc n) zero N S h i = absurd (omega arith)
enough (suc n) (suc m) N [] h i = refl
enough (suc n) (suc m) N (Let ∷ S) h i =
    after_same (length S) (definition N S) _ _ _ refl (short_definition N S) (λ k R few. enough n m (N ++ k ∷ []) R (omega arith) (omega arith))
enough (suc n) (suc m) N (c ∷ S) h i = refl

definitions-by : (n : ℕ) (N : Meanings) (S : List Token) → length S < n → definitions N S ≡ definitions_by n N S
unfolding definitions
definitions-by n N S h = enough (suc (length S)) n N S (omega arith) h

same_definitions :
    (N : Meanings) (S D X : List Token) (o : Outcome Meanings) → definitions N S ≡ o → S ≡ D ++ rest o → front X ≡ front (rest o)
    → definitions N (D ++ X) ≡ onto o X
same_definitions N S D X o e cut f =
    let n : ℕ = suc (length S + length (D ++ X)) in
    let i : definitions_by n N S ≡ o = sym (definitions-by n N S (omega arith)) ∙ e in
    let h : Reads (AreDefinitions N) (definitions_by n N) S o =
    subst (λ o. Reads (AreDefinitions N) (definitions_by n N) S o) i (reads_definitions_by n N S) in
    let d : D ≡ h.done = append_cancel_right D h.done (rest o) (sym cut ∙ h.cut) in
    definitions-by n N (D ++ X) (omega arith) ∙ ap (λ D. definitions_by n N (D ++ X)) d ∙ h.same X f

pub reads_definitions : (N : Meanings) (S : List Token) → Reads (AreDefinitions N) (definitions N) S (definitions N S)
reads_definitions N S =
    let n : ℕ = suc (length S) in
    let i : definitions_by n N S ≡ definitions N S = sym (definitions-by n N S (omega arith)) in
    let h : Reads (AreDefinitions N) (definitions_by n N) S (definitions N S) =
    subst (λ o. Reads (AreDefinitions N) (definitions_by n N) S o) i (reads_definitions_by n N S) in
    record {
      done = h.done;
      cut = h.cut;
      same = λ X f. same_definitions N S h.done X (definitions N S) refl h.cut f;
      right = h.right;
    }

-- one definition, and then the others
pub definitions_let : (N : Meanings) (S : List Token) → definitions N (Let ∷ S) ≡ after (definition N S) (λ m R. definitions (N ++ m ∷ []) R)
unfolding definitions definitions_by
definitions_let N S =
    after_same (length S) (definition N S) _ _ _ refl (short_definition N S)
    (λ m R few. enough (suc (length S)) (suc (length R)) (N ++ m ∷ []) R (omega arith) (omega arith))

pub definitions_end : (N : Meanings) (S : List Token) → front S ≢ Some Let → definitions N S ≡ got N S
unfolding definitions definitions_by
definitions_end N [] h = refl
definitions_end N (Let ∷ S) h = absurd (h refl)
definitions_end N (c ∷ S) h = refl

-- ---- what is spelled is read

params_read : {P : List Token} {p : Params} → HasParams P p → (B : List Token) → params (P ++ Is ∷ B) ≡ got p (Is ∷ B)
params_read no_params B = refl
params_read a_seat B = refl
params_read a_suit B = refl
params_read seat_and_suit B = refl

pub definition_read : {N : Meanings} {D : List Token} {m : Meaning} → IsDefinition N D m → (B : List Token) → definition N (D ++ B) ≡ got m B
unfolding definition
definition_read {N} (defines {P} {T} {p} {m} h b) B =
    ap (λ b. after (cond b (got tt ((P ++ (Is ∷ Open ∷ T ++ Close ∷ [])) ++ B))
    (stuck (Name (length N) ∷ (P ++ (Is ∷ Open ∷ T ++ Close ∷ [])) ++ B)))
    (λ _ S. after (params S) (λ p S. is_body N p S))) (equal_itself (length N))
    ∙ ap (λ S. after (params S) (λ p S. is_body N p S)) (append_assoc P (Is ∷ Open ∷ T ++ Close ∷ []) B)
    ∙ ap (λ o. after o (λ p S. is_body N p S)) (params_read h (Open ∷ (T ++ Close ∷ []) ++ B))
    ∙ ap (λ S. after (body N p S) closing) (append_assoc T (Close ∷ []) B)
    ∙ ap (λ o. after o closing) (body_read b B)

pub definitions_read : {N M : Meanings} {D : List Token} → AreDefinitions N D M → (B : List Token)
    → front B ≢ Some Let → definitions N (D ++ B) ≡ got M B
definitions_read (none {N}) B h = definitions_end N B h
definitions_read (one_more {N} {M} {D} {T} {m} d k) B h =
    ap (λ S. definitions N (Let ∷ S)) (append_assoc D T B)
    ∙ definitions_let N (D ++ (T ++ B))
    ∙ ap (λ o. after o (λ m R. definitions (N ++ m ∷ []) R)) (definition_read d (T ++ B))
    ∙ definitions_read k B h

-- neither a condition nor a value begins with `let`
let_is_no_value : (N : Meanings) (E : Bound) (S : List Token) → reading N E a_value (Let ∷ S) ≡ stuck (Let ∷ S)
unfolding atom_of number_or_count count_of
let_is_no_value N E S = reads N E a_value (Let ∷ S)

let_is_no_condition : (N : Meanings) (E : Bound) (S : List Token) → reading N E a_cond (Let ∷ S) ≡ stuck (Let ∷ S)
let_is_no_condition N E S =
    reads N E a_cond (Let ∷ S)
    ∙ ap (λ o. after o (λ a R. reading N E (ors a) R))
    (reads N E a_both (Let ∷ S) ∙ ap (λ o. after o (λ a R. reading N E (ands a) R))
    (reads N E a_unit (Let ∷ S) ∙ ap (λ o. after o (λ a S. related_by (reading N) E a S)) (let_is_no_value N E S)))

pub no_let : {N : Meanings} {E : Bound} {T : List Token} {t : Form} → SpellsCond N E T t → front T ≢ Some Let
no_let {N} {E} {T} h = begins T (ap (reading N E a_cond) (sym (append-nil T)) ∙ cond_read h [] (λ e. cc) (λ e. cc) (λ e. cc, λ e. cc))
  where
    begins : {t : Form} (T : List Token) → reading N E a_cond T ≡ got t [] → front T ≢ Some Let
    begins [] e = λ i. cc
    begins (Let ∷ T) e = λ i. let k = let_is_no_condition N E T in cc
    begins (c ∷ T) e = λ i. cc

pub no_let_value : {N : Meanings} {E : Bound} {T : List Token} {a : Amount} → SpellsValue N E T a → front T ≢ Some Let
no_let_value {N} {E} {T} h = begins T (ap (reading N E a_value) (sym (append-nil T)) ∙ value_read h [] (λ e. cc, λ e. cc))
  where
    begins : {a : Amount} (T : List Token) → reading N E a_value T ≡ got a [] → front T ≢ Some Let
    begins [] e = λ i. cc
    begins (Let ∷ T) e = λ i. let k = let_is_no_value N E T in cc
    begins (c ∷ T) e = λ i. cc

-- ---- whole texts

abbrev EndsWith : {A : Type 0} → A → List Token → A → Type 0
EndsWith x P y = (P ≡ []) × (y ≡ x)

reads_ended : {A : Type 0} (x : A) (S : List Token) → Reads (EndsWith x) (ended x) S (ended x S)
reads_ended {A} x [] = gets_at_end _ (ended x) x (refl, refl) refl
reads_ended {A} x (c ∷ S) = stops_at _ c (ended x) S ([], x, (refl, refl)) (λ X. refl)

reads_cond_alone : (N : Meanings) (S : List Token) → Reads (SpellsCond N unbound) (cond_alone N) S (cond_alone N S)
reads_cond_alone N S =
    reads_after (SpellsCond N unbound) EndsWith (SpellsCond N unbound) (reading N unbound a_cond) ended S (reading N unbound a_cond S)
    (λ P Q a t h m. rw (m.0, m.1, append-nil P) h) (λ a. ([], a, (refl, refl))) (reading_reads N unbound a_cond S) reads_ended

reads_value_alone : (N : Meanings) (S : List Token) → Reads (SpellsValue N unbound) (value_alone N) S (value_alone N S)
reads_value_alone N S =
    reads_after (SpellsValue N unbound) EndsWith (SpellsValue N unbound) (reading N unbound a_value) ended S (reading N unbound a_value S)
    (λ P Q a t h m. rw (m.0, m.1, append-nil P) h) (λ a. ([], a, (refl, refl))) (reading_reads N unbound a_value S) reads_ended

pub reads_whole : (S : List Token) → Reads Spells whole S (whole S)
unfolding whole
reads_whole S =
    reads_after (AreDefinitions []) (λ N. SpellsCond N unbound) Spells (definitions []) (λ N R. cond_alone N R) S (definitions [] S)
    (λ P Q N t d h. defined d h) (λ N. (sample, sampled, sample_cond N unbound)) (reads_definitions [] S) reads_cond_alone

pub reads_whole_value : (S : List Token) → Reads SpellsAmount whole_value S (whole_value S)
unfolding whole_value
reads_whole_value S =
    reads_after (AreDefinitions []) (λ N. SpellsValue N unbound) SpellsAmount (definitions []) (λ N R. value_alone N R) S (definitions [] S)
    (λ P Q N t d h. defined d h) (λ N. (Number 0 ∷ [], number 0, atom a_number)) (reads_definitions [] S) reads_value_alone

pub reads_alone : (S : List Token) → Reads (AreDefinitions []) definitions_alone S (definitions_alone S)
unfolding definitions_alone
reads_alone S =
    reads_after (AreDefinitions []) EndsWith (AreDefinitions []) (definitions []) ended S (definitions [] S)
    (λ P Q N M d m. rw (m.0, m.1, append-nil P) d) (λ N. ([], N, (refl, refl))) (reads_definitions [] S) reads_ended

-- What is spelled is read.
pub whole_spelled : {T : List Token} {t : Form} → Spells T t → whole T ≡ got t []
unfolding whole
whole_spelled (defined {D} {T} {N} {x = t} d h) =
    ap (λ o. after o (λ N R. cond_alone N R)) (definitions_read d T (no_let h))
    ∙ ap (λ T. after (reading N unbound a_cond T) ended) (sym (append-nil T))
    ∙ ap (λ o. after o ended) (cond_read h [] (λ e. cc) (λ e. cc) (λ e. cc, λ e. cc))

pub whole_value_spelled : {T : List Token} {a : Amount} → SpellsAmount T a → whole_value T ≡ got a []
unfolding whole_value
whole_value_spelled (defined {D} {T} {N} {x = a} d h) =
    ap (λ o. after o (λ N R. value_alone N R)) (definitions_read d T (no_let_value h))
    ∙ ap (λ T. after (reading N unbound a_value T) ended) (sym (append-nil T))
    ∙ ap (λ o. after o ended) (value_read h [] (λ e. cc, λ e. cc))

pub alone_read : {T : List Token} {N : Meanings} → AreDefinitions [] T N → definitions_alone T ≡ got N []
unfolding definitions_alone
alone_read {T} {N} d =
    ap (λ T. after (definitions [] T) ended) (sym (append-nil T))
    ∙ ap (λ o. after o ended) (definitions_read d [] (λ e. cc))

-- nothing is left of what is read whole
ended_nil : {A : Type 0} (o : Outcome A) (x : A) (R : List Token) → after o ended ≡ got x R → R ≡ []
ended_nil (got a []) x R e = cc
ended_nil (got a (c ∷ S)) x R e = absurd (cc)
ended_nil (stuck S) x R e = absurd (cc)

after_nil : {A B : Type 0} (o : Outcome A) (f : A → Reader B) (y : B) (R : List Token)
    → ((x : A) (S : List Token) → f x S ≡ got y R → R ≡ []) → after o f ≡ got y R → R ≡ []
after_nil (got x S) f y R h e = h x S e
after_nil (stuck S) f y R h e = absurd (cc)

pub whole_nil : (T R : List Token) (t : Form) → whole T ≡ got t R → R ≡ []
unfolding whole
whole_nil T R t e = after_nil (definitions [] T) (λ N R. cond_alone N R) t R (λ N S i. ended_nil (reading N unbound a_cond S) t R i) e

pub whole_value_nil : (T R : List Token) (a : Amount) → whole_value T ≡ got a R → R ≡ []
unfolding whole_value
whole_value_nil T R a e = after_nil (definitions [] T) (λ N R. value_alone N R) a R (λ N S i. ended_nil (reading N unbound a_value S) a R i) e

alone_nil : (T R : List Token) (N : Meanings) → definitions_alone T ≡ got N R → R ≡ []
unfolding definitions_alone
alone_nil T R N e = ended_nil (definitions [] T) N R e

-- What is read is spelled.
pub whole_right : (T R : List Token) (t : Form) → whole T ≡ got t R → Spells T t
whole_right T R t e =
    let h : Reads Spells whole T (got t R) = subst (λ o. Reads Spells whole T o) e (reads_whole T) in
    subst (λ L. Spells L t) (sym (h.cut ∙ ap (λ R. h.done ++ R) (whole_nil T R t e) ∙ append-nil h.done)) h.right

pub alone_right : (T R : List Token) (N : Meanings) → definitions_alone T ≡ got N R → AreDefinitions [] T N
alone_right T R N e =
    let h : Reads (AreDefinitions []) definitions_alone T (got N R) =
    subst (λ o. Reads (AreDefinitions []) definitions_alone T o) e (reads_alone T) in
    subst (λ L. AreDefinitions [] L N) (sym (h.cut ∙ ap (λ R. h.done ++ R) (alone_nil T R N e) ∙ append-nil h.done)) h.right

pub whole_value_right : (T R : List Token) (a : Amount) → whole_value T ≡ got a R → SpellsAmount T a
whole_value_right T R a e =
    let h : Reads SpellsAmount whole_value T (got a R) = subst (λ o. Reads SpellsAmount whole_value T o) e (reads_whole_value T) in
    subst (λ L. SpellsAmount L a) (sym (h.cut ∙ ap (λ R. h.done ++ R) (whole_value_nil T R a e) ∙ append-nil h.done)) h.right

-- a list spells at most one tree, and at most one value
pub one_tree : (T : List Token) (a b : Form) → Spells T a → Spells T b → a ≡ b
one_tree T a b h k = let x = whole_spelled h in let y = whole_spelled k in cc

pub one_value : (T : List Token) (a b : Amount) → SpellsAmount T a → SpellsAmount T b → a ≡ b
one_value T a b h k = let x = whole_value_spelled h in let y = whole_value_spelled k in cc
