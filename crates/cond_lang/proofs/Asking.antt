-- Questions: what a list asks, that it asks one thing at most, and that lists go wrong as questions where they do as
-- conditions.
use Rattle.std.proofs.Common.{◌≡◌, ℕ, ◌+◌, ◌<◌, ◌⊎◌, drop, take-append-drop, List, [], ◌∷◌, ◌++◌, length, take}
use Rattle.std.proofs.Common.{Option, Some, None, Result, Ok, Err, IfErr, refl, sym, ap, ◌∙◌, subst, inl, inr}
use Rattle.std.proofs.Common.{append_assoc, append-nil, arith}
use Rattle.std.specs.Prelude.{◌↔◌, IsTrue, Bool, true, false, MatchOption}
use Rattle.std.specs.Prelude.{IfOk, is_some}
use Rattle.std.proofs.lemmas.Bool.{false≢true}
use Rattle.conditions.specs.declared.error.CondError.{CondError}
use Rattle.conditions.specs.declared.error.CondError.TheVariants.{Syntax, TooManyParts, Memory}
use Rattle.conditions.specs.declared.limits.TheConstants.{MOST_PARTS}
use Rattle.conditions.specs.declared.tree.Op.TheVariants.{Equal}
use Rattle.cond_lang.specs.declared.scanner.Placed.{Placed}
use Rattle.cond_lang.specs.declared.scanner.Token.{Token}
use Rattle.cond_lang.specs.declared.scanner.Token.TheVariants.{Number, Relation}
use Rattle.cond_lang.specs.declared.words.Kind.{Kind}
use Rattle.cond_lang.specs.declared.words.Kind.TheVariants.{End}
use Rattle.conditions.specs.Form.{Amount, Form, number, compare}
use Rattle.conditions.specs.Limits.{parts_of}
use Rattle.conditions.specs.Questions.{Question, asks_condition, asks_value, parts_asked}
use Rattle.cond_lang.specs.Asking.{Asks, SpellsQuestion, IsAskViable, IsFirstAskFault, IsDueQuestion, HasAskFault, CanFollowAsking, IsAskBeginning}
use Rattle.cond_lang.specs.Classes.{unbound}
use Rattle.cond_lang.specs.Continuations.{CanFollow, IsBeginning, IsLongestViable, IsLongestViableIn}
use Rattle.cond_lang.specs.Cut.{HasTokens}
use Rattle.cond_lang.specs.Faults.{IsViable, IsFirstFault, IsPlace, HasSyntaxFault, offset_of}
use Rattle.cond_lang.specs.Definitions.{defined, Spells, SpellsAmount}
use Rattle.cond_lang.specs.Grammar.{Meanings, SpellsValue, atom, a_number, both, unit, test, comparison}
use Rattle.cond_lang.specs.Text.{kinds}
use Rattle.cond_lang.specs.internal.Defining.{ended, cond_alone, whole, whole_value}
use Rattle.cond_lang.specs.internal.Reading.{Outcome, got, stuck, after, related_by, unit_by, a_cond, a_both, a_unit, a_value, ors, ands, reading}
use Rattle.std.proofs.lemmas.Bool.{cases_lt}
use Rattle.cond_lang.proofs.Beginnings.{one_longest}
use Rattle.cond_lang.proofs.Faults.{tree_or_fault}
use Rattle.cond_lang.proofs.Definitions.{definitions_read, no_let_value, one_tree, one_value, whole_value_spelled, whole_value_right}
use Rattle.cond_lang.proofs.Enough.{reads}
use Rattle.cond_lang.proofs.Place.{never_both}
use Rattle.cond_lang.proofs.Spelled.{value_read, unit_compares}
use Rattle.cond_lang.proofs.Texts.{one_tokens}

-- ---- no list is both

-- reading a condition, a value is read to its end, and there its comparison is missing
value_ends : (N : Meanings) (T : List Token) (a : Amount) → SpellsValue N unbound T a → cond_alone N T ≡ stuck []
value_ends N T a h =
    let read : reading N unbound a_value T ≡ got a [] = ap (reading N unbound a_value) (sym (append-nil T)) ∙ value_read h [] (λ e. cc, λ e. cc) in
    let as_unit : reading N unbound a_unit T ≡ stuck [] =
    reads N unbound a_unit T
    ∙ ap (unit_by N (reading N) unbound) (sym (append-nil T))
    ∙ unit_compares h []
    ∙ ap (λ L. after (reading N unbound a_value L) (λ a S. related_by (reading N) unbound a S)) (append-nil T)
    ∙ ap (λ o. after o (λ a S. related_by (reading N) unbound a S)) read in
    let as_both : reading N unbound a_both T ≡ stuck [] =
    reads N unbound a_both T ∙ ap (λ o. after o (λ a R. reading N unbound (ands a) R)) as_unit in
    let as_cond : reading N unbound a_cond T ≡ stuck [] =
    reads N unbound a_cond T ∙ ap (λ o. after o (λ a R. reading N unbound (ors a) R)) as_both in
    ap (λ o. after o ended) as_cond

value_stuck : {T : List Token} {a : Amount} → SpellsAmount T a → whole T ≡ stuck []
unfolding whole
value_stuck (defined {D} {T} {N} {x = a} d h) =
    ap (λ o. after o (λ N R. cond_alone N R)) (definitions_read d T (no_let_value h)) ∙ value_ends N T a h

pub no_list_is_both : (T : List Token) (t : Form) (a : Amount) → Spells T t → SpellsAmount T a → ⊥
no_list_is_both T t a s v = never_both T [] t (value_stuck v) s

-- a list asks one question at most
pub one_asked : (T : List Token) (p q : Question) → Asks T p → Asks T q → p ≡ q
one_asked T (asks_condition t) (asks_condition u) h k = ap (λ t. asks_condition t) (one_tree T t u h k)
one_asked T (asks_condition t) (asks_value b) h k = absurd (no_list_is_both T t b h k)
one_asked T (asks_value a) (asks_condition u) h k = absurd (no_list_is_both T u a k h)
one_asked T (asks_value a) (asks_value b) h k = ap (λ a. asks_value a) (one_value T a b h k)

-- ---- the same lists are viable

-- a value goes on to a condition
abbrev compared : List Token
compared = Relation Equal ∷ Number 0 ∷ []

compares : {T : List Token} {a : Amount} → SpellsAmount T a → Spells (T ++ compared) (compare a Equal (number 0))
compares (defined {D} {T} {x = a} d h) =
    subst (λ L. Spells L (compare a Equal (number 0))) (sym (append_assoc D T compared))
    (defined d (both (unit (test (comparison {L = T} {R = Number 0 ∷ []} h (atom a_number))))))

value_goes_on : (T more : List Token) (a : Amount) → SpellsAmount (T ++ more) a → IsViable T
value_goes_on T more a h =
    (more ++ compared, compare a Equal (number 0), subst (λ L. Spells L (compare a Equal (number 0))) (append_assoc T more compared) (compares h))

pub viable_condition : (T : List Token) → IsAskViable T → IsViable T
viable_condition T (more, asks_condition t, h) = (more, t, h)
viable_condition T (more, asks_value a, h) = value_goes_on T more a h

pub viable_question : (T : List Token) → IsViable T → IsAskViable T
viable_question T v = (v.0, asks_condition v.1, v.2)

pub same_viable : (T : List Token) → IsAskViable T ↔ IsViable T
same_viable T = (viable_condition T, viable_question T)

-- ---- what the parser found

-- the tokens S are a value
pub is_value : (placed : List Placed) (S R : List Token) (a : Amount) → S ≡ kinds placed → whole_value S ≡ got a R → SpellsAmount (kinds placed) a
is_value placed S R a e h = whole_value_right (kinds placed) R a (ap whole_value (sym e) ∙ h)

pub no_value_stuck : (placed : List Placed) (S R : List Token) (b : Amount) → S ≡ kinds placed
    → whole_value S ≡ stuck R → SpellsAmount (kinds placed) b → ⊥
no_value_stuck placed S R b e h v =
    let x = whole_value_spelled v in
    let y : whole_value (kinds placed) ≡ stuck R = ap whole_value (sym e) ∙ h in
    cc

-- ---- where a text goes wrong

-- tokens that are no value go wrong as a question where they do as a condition
pub ask_fault : (T : List Token) (n : ℕ) → ((a : Amount) → SpellsAmount T a → ⊥) → IsFirstFault T n → IsFirstAskFault T n
ask_fault T n none f =
    record {
      within = f.within;
      before = viable_question (take n T) f.before;
      with_it = λ lt v. f.with_it lt (viable_condition (take (n + 1) T) v);
      at_end = λ e q s. asks_nothing e q s;
    }
  where
    asks_nothing : n ≡ length T → (q : Question) → Asks T q → ⊥
    asks_nothing e (asks_condition t) s = f.at_end e t s
    asks_nothing e (asks_value a) s = none a s

-- a condition's fault is a question's, where the tokens are no value
pub place_of_question :
    (text : List ℕ) (xs ys : List Placed) (at : ℕ) → HasTokens text xs → ys ≡ xs → ((a : Amount) → SpellsAmount (kinds ys) a → ⊥)
    → IsPlace ys (length text) at → HasAskFault text at
place_of_question text xs ys at h e none p =
    record { tokens = ys; cut = rw e h; place = (p.0, ask_fault (kinds ys) p.0 none p.1, p.2) }

-- the tokens of a text that asks a question ask it
pub its_tokens_ask : (text : List ℕ) (xs ys : List Placed) (q : Question) → HasTokens text xs → ys ≡ xs → SpellsQuestion text q → Asks (kinds ys) q
its_tokens_ask text xs ys q h e s = subst (λ zs. Asks (kinds zs) q) (one_tokens text s.tokens xs s.cut h ∙ sym e) s.asks

-- what a text asks is one question
pub one_text_question : (text : List ℕ) (xs ys : List Placed) (p q : Question) → HasTokens text xs → ys ≡ xs
    → Asks (kinds ys) p → SpellsQuestion text q → p ≡ q
one_text_question text xs ys p q h e s t =
    one_asked (kinds ys) p q s (its_tokens_ask text xs ys q h e t)

-- ---- what could follow

pub longest_question : (T : List Token) (n : ℕ) → IsLongestViable T n → IsLongestViableIn Asks T n
longest_question T n h =
    record {
      within = h.within;
      viable = viable_question (take n T) h.viable;
      no_more = λ lt v. h.no_more lt (viable_condition (take (n + 1) T) v);
    }

longest_condition : (T : List Token) (n : ℕ) → IsLongestViableIn Asks T n → IsLongestViable T n
longest_condition T n h =
    record {
      within = h.within;
      viable = viable_condition (take n T) h.viable;
      no_more = λ lt v. h.no_more lt (viable_question (take (n + 1) T) v);
    }

pub question_begins : (text : List ℕ) (T : List Token) → IsBeginning text T → IsAskBeginning text T
question_begins text T b =
    record { tokens = b.tokens; whole = b.whole; count = b.count; longest = longest_question (kinds b.tokens) b.count b.longest; is = b.is }

condition_begins : (text : List ℕ) (T : List Token) → IsAskBeginning text T → IsBeginning text T
condition_begins text T b =
    record { tokens = b.tokens; whole = b.whole; count = b.count; longest = longest_condition (kinds b.tokens) b.count b.longest; is = b.is }

pub same_beginning : (text : List ℕ) (T : List Token) → IsAskBeginning text T ↔ IsBeginning text T
same_beginning text T = (condition_begins text T, question_begins text T)

-- some value is the whole list
abbrev pub IsAValue : List Token → Type 0
IsAValue T = (a : Amount) × SpellsAmount T a

-- what could follow in a question: what could in a condition, and the end of a value
pub follows_asking : (T : List Token) (k : Kind) → CanFollow T k → CanFollowAsking T k
follows_asking T k (inl h) = inl (h.0, (asks_condition h.1.0, h.1.1))
follows_asking T k (inr h) = inr (h.0, h.1, viable_question (T ++ h.0 ∷ []) h.2)

pub follows_in_either : (T : List Token) (k : Kind) → CanFollowAsking T k → CanFollow T k ⊎ ((k ≡ End) × IsAValue T)
follows_in_either T k (inl (e, (asks_condition t, s))) = inl (inl (e, (t, s)))
follows_in_either T k (inl (e, (asks_value a, s))) = inr (e, (a, s))
follows_in_either T k (inr h) = inl (inr (h.0, h.1, viable_condition (T ++ h.0 ∷ []) h.2))

-- at a kind that is not the end the two are the same
pub same_before_end : (T : List Token) (k : Kind) (b : Bool) → (k ≡ End → ⊥) → IsTrue b ↔ CanFollow T k → IsTrue b ↔ CanFollowAsking T k
same_before_end T k b not_end w = (
  λ p. follows_asking T k (w.0 p),
  λ f. elim (follows_in_either T k f) [ inl c ↦ w.1 c | inr v ↦ absurd (not_end v.0) ],
)

pub in_default : (T : List Token) (k : Kind) (r : Result Bool CondError) → (k ≡ End → ⊥)
    → IfOk r (λ b. IsTrue b ↔ CanFollow T k) → IfOk r (λ b. IsTrue b ↔ CanFollowAsking T k)
in_default T k (Ok b) not_end w = same_before_end T k b not_end w
in_default T k (Err e) not_end w = tt

-- at the end a value may end, and what is no value may if it is a condition
pub end_of_value : (T : List Token) (k : Kind) (v : Bool) → k ≡ End → v ≡ true → IsTrue v ↔ IsAValue T → IsTrue v ↔ CanFollowAsking T k
end_of_value T k v i e w = (λ p. let a = w.0 p in inl (i, (asks_value a.0, a.1)), λ f. rw e refl)

pub end_of_condition :
    (T : List Token) (k : Kind) (v b : Bool) → k ≡ End → v ≡ false → IsTrue v ↔ IsAValue T → IsTrue b ↔ CanFollow T End
    → IsTrue b ↔ CanFollowAsking T k
end_of_condition T k v b i e w x = (
  λ p. follows_asking T k (rw i (x.0 p)),
  λ f. elim (follows_in_either T k f) [ inl c ↦ x.1 (rw i at c) | inr a ↦ absurd (false≢true (sym e ∙ w.1 a.1)) ],
)

-- whether some value was found says whether there is one
pub some_value : {V : Type 0} (T : List Token) (keeps : V → Amount → Type 0) (found : Option V) (b : Bool) → b ≡ is_some found
    → MatchOption found ((a : Amount) → SpellsAmount T a → ⊥) (λ v. (a : Amount) × keeps v a × SpellsAmount T a)
    → IsTrue b ↔ IsAValue T
some_value T keeps (Some v) b e h = (λ p. (h.0, h.2), λ a. e)
some_value T keeps None b e h = (λ p. absurd (false≢true (sym e ∙ p)), λ a. absurd (h a.0 a.1))

-- ---- one fault, or one question

up_to_ask_fault : (T : List Token) (n : ℕ) → IsFirstAskFault T n → IsLongestViable T n
up_to_ask_fault T n f = longest_condition T n (record { within = f.within; viable = f.before; no_more = f.with_it })

-- A text has at most one fault as a question.
pub one_question_fault : (text : List ℕ) (a b : ℕ) → HasAskFault text a → HasAskFault text b → a ≡ b
one_question_fault text a b f g =
    let same : g.tokens ≡ f.tokens = one_tokens text g.tokens f.tokens g.cut f.cut in
    let there : IsFirstAskFault (kinds f.tokens) g.place.0 = subst (λ ts. IsFirstAskFault (kinds ts) g.place.0) same g.place.1 in
    let n : f.place.0 ≡ g.place.0 =
    one_longest (kinds f.tokens) f.place.0 g.place.0 (up_to_ask_fault (kinds f.tokens) f.place.0 f.place.1)
    (up_to_ask_fault (kinds f.tokens) g.place.0 there) in
    f.place.2
    ∙ ap (λ n. offset_of f.tokens (length text) n) n
    ∙ ap (λ ts. offset_of ts (length text) g.place.0) (sym same)
    ∙ sym g.place.2

asks_nothing : (T : List Token) (n : ℕ) (q : Question) → IsFirstAskFault T n → Asks T q → ⊥
asks_nothing T n q f s =
    elim (cases_lt n (length T)) [
      | inl lt ↦ f.with_it lt (drop (n + 1) T, q, subst (λ L. Asks L q) (sym (take-append-drop (n + 1) T)) s)
      | inr ge ↦ f.at_end (omega (arith, f.within, ge)) q s
    ]

-- A text with such a fault asks nothing.
pub no_question : (text : List ℕ) (at : ℕ) (q : Question) → HasAskFault text at → SpellsQuestion text q → ⊥
no_question text at q f s =
    asks_nothing (kinds f.tokens) f.place.0 q f.place.1 (its_tokens_ask text f.tokens f.tokens q f.cut refl s)

value_or_none : (T : List Token) (o : Outcome Amount) → whole_value T ≡ o → IsAValue T ⊎ ((a : Amount) → SpellsAmount T a → ⊥)
value_or_none T (got a R) e = inl (a, whole_value_right T R a e)
value_or_none T (stuck R) e = inr (λ b v. let x = whole_value_spelled v in absurd (cc))

value_or_fault :
    (text : List ℕ) (at : ℕ) (f : HasSyntaxFault text at) → IsAValue (kinds f.tokens) ⊎ ((a : Amount) → SpellsAmount (kinds f.tokens) a → ⊥)
    → ((q : Question) × SpellsQuestion text q) ⊎ ((at : ℕ) × HasAskFault text at)
value_or_fault text at f (inl v) = inl (asks_value v.0, record { tokens = f.tokens; cut = f.cut; asks = v.1 })
value_or_fault text at f (inr none) = inr (at, place_of_question text f.tokens f.tokens at f.cut refl none f.place)

-- A text with tokens asks a question, or has a fault.
pub question_or_fault : (text : List ℕ) (ts : List Placed) → HasTokens text ts
    → ((q : Question) × SpellsQuestion text q) ⊎ ((at : ℕ) × HasAskFault text at)
question_or_fault text ts h =
    elim (tree_or_fault text ts h) [
      | inl s ↦ inl (asks_condition s.0, record { tokens = s.1.tokens; cut = s.1.cut; asks = s.1.spells })
      | inr f ↦ value_or_fault text f.0 f.1 (value_or_none (kinds f.1.tokens) (whole_value (kinds f.1.tokens)) refl)
    ]

-- ---- refusals, as a result tells them

-- the same tokens, read twice
pub no_value_of : (xs ys : List Placed) → xs ≡ ys → ((a : Amount) → SpellsAmount (kinds xs) a → ⊥) → (a : Amount) → SpellsAmount (kinds ys) a → ⊥
no_value_of xs ys e none a s = none a (subst (λ zs. SpellsAmount (kinds zs) a) (sym e) s)

-- what is no value is refused as a condition, unless memory ran out
pub tree_found :
    (T : List Token) (q : Question) (e : CondError) → ((a : Amount) → SpellsAmount T a → ⊥)
    → ((t : Form) → Spells T t → (e ≡ Memory) ⊎ ((e ≡ TooManyParts) × (MOST_PARTS < parts_of t)))
    → Asks T q → (e ≡ Memory) ⊎ ((e ≡ TooManyParts) × (MOST_PARTS < parts_asked q))
tree_found T (asks_condition t) e none found s = found t s
tree_found T (asks_value a) e none found s = absurd (none a s)

pub tree_refused :
    (text : List ℕ) (xs ys : List Placed) (r : Result Question CondError) (e : CondError) → r ≡ Err e → HasTokens text xs → ys ≡ xs
    → ((a : Amount) → SpellsAmount (kinds ys) a → ⊥)
    → (e ≡ Memory) ⊎ ((e ≡ TooManyParts) ⊎ ((at : ℕ) × (e ≡ Syntax at)))
    → ((at : ℕ) → e ≡ Syntax at → IsPlace ys (length text) at)
    → (e ≡ TooManyParts → (t : Form) × Spells (kinds ys) t × (MOST_PARTS < parts_of t))
    → IfErr r (λ e. IsDueQuestion text e)
tree_refused text xs ys r e i h same none (inl m) place many = rw (i, m) tt
tree_refused text xs ys r e i h same none (inr (inl m)) place many =
    let more = many m in
    rw (i, m) (record { tokens = ys; cut = rw same h; spelled = asks_condition more.0; spells = more.1; more = more.2 })
tree_refused text xs ys r e i h same none (inr (inr s)) place many = rw (i, s.1) (place_of_question text xs ys s.0 h same none (place s.0 s.1))
