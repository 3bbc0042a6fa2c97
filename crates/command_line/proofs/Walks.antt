-- The rows of a level of a parse that finds no fault: each has values, and they passed the parser of
-- its argument.
use Rattle.std.proofs.Common.{◌≡◌, ◌⊎◌, ◌∙◌, ◌<◌, ◌&&◌, ◌++◌, ℕ, Bool, true, false, not, zero, suc, List, []}
use Rattle.std.proofs.Common.{◌∷◌, length, drop, Option, Some, None, cond, nat_lt, refl, sym, ap, subst, inl, inr}
use Rattle.std.proofs.Common.{arith, find, fold, length-append, eqb-true}
use Rattle.std.specs.Prelude.{encode_utf8, slice_get}
use Rattle.std.specs.List.{list_any}
use Rattle.std.specs.Option.{option_map_or}
use Rattle.std.specs.Str.{bytes_eq, chars}
use Rattle.std.proofs.lemmas.Slice.Eq.{bytes_eq-Decides}
use Rattle.clap.specs.Lexer.{long_of, short_of}
use Rattle.clap.specs.Facts.{parser_of_value, unwrap_or_range}
use Rattle.clap.specs.Kinds.{Kinds, check_kinds, or_else, request_kinds, value_kinds, values_kinds}
use Rattle.clap.specs.Values.{is_request}
use Rattle.clap.specs.Walk.{Held, Names, Outcome, Row, Rule, Step, Text, Waiting, Walk, action_of, after_flag}
use Rattle.clap.specs.Walk.{after_step, arg_by_id, arg_by_index, arg_by_long, arg_by_short, bundle, bundle_met}
use Rattle.clap.specs.Walk.{bundle_step, default_rows, done, flag_met, has_row, idle, is_empty, is_pending, long_met}
use Rattle.clap.specs.Walk.{long_or_other, next, nothing_held, option, option_met, option_word}
use Rattle.clap.specs.Walk.{plain, plain_word, positional, reacted, reading_by, refused, rows_after, settled}
use Rattle.clap.specs.Walk.{settled_rows, short_met, short_or_plain, subcommand, subcommand_met, subcommand_or_other}
use Rattle.clap.specs.Walk.{takes_several, takes_values, to_positional, trailing, used, used_as, value}
use Rattle.clap.specs.Walk.{values_or_missing, waits, walk, walk_from, walked, walked_from, with_default, with_values}
use Rattle.clap.specs.Walk.{without, word_met}
use Rattle.clap.specs.Simple.{Shape}
use Rattle.clap.specs.Takes.{is_given}
use Rattle.clap.specs.Faults.{action_fault, check_fault, bundle_fault, bundle_step_fault, default_fault}
use Rattle.clap.specs.Faults.{defaults_fault, flag_word_fault, flags_fault, given_default_fault, level_fault}
use Rattle.clap.specs.Faults.{long_fault, option_fault, other_fault, positional_fault, react_fault, settle_fault}
use Rattle.clap.specs.Faults.{short_fault, step_fault, stray_fault, turn_fault, use_fault, values_fault, walk_fault}
use Rattle.clap.specs.Faults.{word_fault}
use Rattle.clap.specs.declared.builder.ArgAction.{ArgAction}
use Rattle.clap.specs.declared.builder.ArgAction.TheVariants.{Append, Set, SetTrue}
use Rattle.clap.specs.declared.builder.ValueParser.{ValueParser}

-- ---- kinds

pub or_none_first : (a b : Kinds) → or_else a b ≡ [] → a ≡ []
or_none_first [] b h = refl
or_none_first (k ∷ ks) b h = cc

pub or_none_second : (a b : Kinds) → or_else a b ≡ [] → b ≡ []
or_none_second [] b h = h
or_none_second (k ∷ ks) b h = cc

both_none : (a b : Kinds) → a ≡ [] → b ≡ [] → or_else a b ≡ []
both_none a b x y = rw x y

values_kinds-append : (i : Bool) (p : ValueParser) (xs ys : List Text) → values_kinds i p xs ≡ []
    → values_kinds i p ys ≡ [] → values_kinds i p (xs ++ ys) ≡ []
values_kinds-append i p [] ys h k = k
values_kinds-append i p (x ∷ xs) ys h k =
    both_none (value_kinds i p x) (values_kinds i p (xs ++ ys)) (or_none_first (value_kinds i p x) (values_kinds i p xs) h)
    (values_kinds-append i p xs ys (or_none_second (value_kinds i p x) (values_kinds i p xs) h) k)

-- ---- rules

abbrev pub IsIn : Rule → List Rule → Type 0
IsIn a [] = ⊥
IsIn a (x ∷ xs) = (a ≡ x) ⊎ IsIn a xs

found_is_in : (test : Rule → Bool) (c : List Rule) (a : Rule) → find test c ≡ Some a → IsIn a c
found_is_in test [] a h = cc
found_is_in test (x ∷ xs) a h = go (test x) refl (λ rest. found_is_in test xs a rest)
  where
    go : (b : Bool) → test x ≡ b → (find test xs ≡ Some a → IsIn a xs) → IsIn a (x ∷ xs)
    go true e rec =
        let same : Some x ≡ Some a = rw e at h in
        let is : a ≡ x = cc in
        inl is
    go false e rec = inr (rec (rw e at h))

-- a flag, which has a value of its own
abbrev pub IsFlag : Rule → Type 0
IsFlag a = (action_of a ≡ SetTrue) × ((vs : List Text) → 0 < length (values_or_missing a vs))

-- an option that may be given again, with a value each time
abbrev pub Repeats : Rule → Type 0
Repeats a = (action_of a ≡ Append) × (nat_lt 0 (unwrap_or_range a.range).start_inclusive ≡ true)

-- each rule is found by its id, and takes a value, asks for a text, is a flag or may be given again
pub record PlainRules (c : List Rule) : Type 0 where
  pub own : (a : Rule) → IsIn a c → arg_by_id c a.id ≡ Some a
  pub acts : (a : Rule) → IsIn a c → ((action_of a ≡ Set)
      × (nat_lt 0 (unwrap_or_range a.range).start_inclusive ≡ true)) ⊎ (is_request (action_of a) ≡ true) ⊎ IsFlag a
      ⊎ Repeats a

-- ---- rows

pub record RowPasses (c : List Rule) (r : Row) : Type 0 where
  pub rule : Rule
  pub found : arg_by_id c r.id ≡ Some rule
  pub passed : values_fault rule r.values ≡ []
  pub some : 0 < length r.values
  pub read : r.reading ≡ reading_by rule

abbrev pub Passing : List Rule → List Row → Type 0
Passing c [] = Unit {0}
Passing c (r ∷ rows) = RowPasses c r × Passing c rows

with_values_passing : (c : List Rule) (id : Text) (a : Rule) (how : _) (src : _) (vs : List Text) (rows : List Row) → arg_by_id c id ≡ Some a
    → values_fault a vs ≡ [] → 0 < length vs → how ≡ reading_by a → Passing c rows → Passing c (with_values id how src vs rows)
with_values_passing c id a how src vs [] found passed some read h =
    (record { rule = a; found = found; passed = passed; some = some; read = read }, tt)
with_values_passing c id a how src vs (r ∷ rows) found passed some read h =
    go (bytes_eq r.id id) refl (with_values_passing c id a how src vs rows found passed some read h.1)
  where
    go : (b : Bool) → bytes_eq r.id id ≡ b → Passing c (with_values id how src vs rows) → Passing c (with_values id how src vs (r ∷ rows))
    go true e rec =
        let same_id : r.id ≡ id = (bytes_eq-Decides r.id id).0 e in
        let same : Some h.0.rule ≡ Some a = sym h.0.found ∙ (ap (arg_by_id c) same_id ∙ found) in
        let is : a ≡ h.0.rule = cc in
        let passes : values_fault h.0.rule vs ≡ [] = subst (λ (x : Rule). values_fault x vs ≡ []) is passed in
        let old = h.0.some in
        rw e (
          record {
            rule = h.0.rule;
            found = h.0.found;
            passed = values_kinds-append h.0.rule.ignore_case (parser_of_value h.0.rule.parser) r.values vs h.0.passed passes;
            some = rw length-append (omega arith);
            read = h.0.read;
          },
          h.1,
        )
    go false e rec = rw e (h.0, rec)

without_passing : (c : List Rule) (id : Text) (rows : List Row) → Passing c rows → Passing c (without id rows)
without_passing c id [] h = tt
without_passing c id (r ∷ rows) h = go (bytes_eq r.id id) refl (without_passing c id rows h.1)
  where
    go : (b : Bool) → bytes_eq r.id id ≡ b → Passing c (without id rows) → Passing c (without id (r ∷ rows))
    go true e rec = rw e h.1
    go false e rec = rw e (h.0, rec)

-- ---- one use

no_request : (x : ArgAction) (again : Bool) (a : Rule) (vs : List Text) (rows : List Row) → is_request x ≡ true
    → action_fault x again a vs rows ≡ [] → ⊥
no_request Set again a vs rows h f = cc
no_request _ again a vs rows h f = cc

set_passing : (c : List Rule) (a : Rule) (again : Bool) (vs : List Text) (rows : List Row) → arg_by_id c a.id ≡ Some a
    → nat_lt 0 (unwrap_or_range a.range).start_inclusive ≡ true → action_of a ≡ Set → use_fault again a vs rows ≡ []
    → Passing c rows → Passing c (used a vs rows)
set_passing c a again [] rows found least act f h =
    let range = or_none_first _ (action_fault (action_of a) again a (values_or_missing a []) rows) f in
    let bad = rw least at range in
    absurd cc
set_passing c a again (v ∷ vs) rows found least act f h =
    let acts = or_none_second _ (action_fault (action_of a) again a (v ∷ vs) rows) f in
    let set : action_fault Set again a (v ∷ vs) rows ≡ [] = subst (λ (x : ArgAction). action_fault x again a (v ∷ vs) rows ≡ []) act acts in
    let passed : values_fault a (v ∷ vs) ≡ [] = or_none_second _ (values_fault a (v ∷ vs)) set in
    let done : Passing c (used_as Set a.id (reading_by a) (v ∷ vs) rows) =
    with_values_passing c a.id a (reading_by a) _ (v ∷ vs) (without a.id rows) found passed (omega arith) refl (without_passing c a.id rows h) in
    subst (λ (x : ArgAction). Passing c (used_as x a.id (reading_by a) (v ∷ vs) rows)) (sym act) done

flag_passing : (c : List Rule) (a : Rule) (again : Bool) (vs : List Text) (rows : List Row) → arg_by_id c a.id ≡ Some a → IsFlag a
    → use_fault again a vs rows ≡ [] → Passing c rows → Passing c (used a vs rows)
flag_passing c a again vs rows found flag f h =
    let values = values_or_missing a vs in
    let acts = or_none_second _ (action_fault (action_of a) again a values rows) f in
    let set : action_fault SetTrue again a values rows ≡ [] = subst (λ (x : ArgAction). action_fault x again a values rows ≡ []) flag.0 acts in
    let passed : values_fault a values ≡ [] = or_none_second _ (values_fault a values) set in
    let done : Passing c (used_as SetTrue a.id (reading_by a) values rows) =
    with_values_passing c a.id a (reading_by a) _ values (without a.id rows) found passed (flag.1 vs) refl (without_passing c a.id rows h) in
    subst (λ (x : ArgAction). Passing c (used_as x a.id (reading_by a) values rows)) (sym flag.0) done

repeated_passing : (c : List Rule) (a : Rule) (again : Bool) (vs : List Text) (rows : List Row) → arg_by_id c a.id ≡ Some a → Repeats a
    → use_fault again a vs rows ≡ [] → Passing c rows → Passing c (used a vs rows)
repeated_passing c a again [] rows found repeats f h =
    let range = or_none_first _ (action_fault (action_of a) again a (values_or_missing a []) rows) f in
    let bad = rw repeats.1 at range in
    absurd cc
repeated_passing c a again (v ∷ vs) rows found repeats f h =
    let acts = or_none_second _ (action_fault (action_of a) again a (v ∷ vs) rows) f in
    let passed : values_fault a (v ∷ vs) ≡ [] = subst (λ (x : ArgAction). action_fault x again a (v ∷ vs) rows ≡ []) repeats.0 acts in
    let done : Passing c (used_as Append a.id (reading_by a) (v ∷ vs) rows) =
    with_values_passing c a.id a (reading_by a) _ (v ∷ vs) rows found passed (omega arith) refl h in
    subst (λ (x : ArgAction). Passing c (used_as x a.id (reading_by a) (v ∷ vs) rows)) (sym repeats.0) done

pub used_passing : (c : List Rule) → PlainRules c → (a : Rule) → IsIn a c → (again : Bool) (vs : List Text) (rows : List Row)
    → use_fault again a vs rows ≡ [] → Passing c rows → Passing c (used a vs rows)
used_passing c p a is again vs rows f h = elim (p.acts a is) [
  | inl set ↦ set_passing c a again vs rows (p.own a is) set.1 set.0 f h
  | inr (inr (inl flag)) ↦ flag_passing c a again vs rows (p.own a is) flag f h
  | inr (inr (inr repeats)) ↦ repeated_passing c a again vs rows (p.own a is) repeats f h
  | inr (inl asks) ↦ absurd (no_request (action_of a) again a (values_or_missing a vs) rows asks
      (or_none_second _ (action_fault (action_of a) again a (values_or_missing a vs) rows) f))
]

-- ---- the walk

settled_passing : (c : List Rule) → PlainRules c → (again : Bool) (h : Held) → settle_fault c again h ≡ []
    → Passing c h.rows → Passing c (settled c h).rows
settled_passing c p again h f pass = go h.pending refl
  where
    used_one : (o : Option (Text × List Text)) (id : Text) (vs : List Text) (found : Option Rule) → arg_by_id c id ≡ found
        → option_map_or (λ (a : Rule). use_fault again a vs h.rows) found [] ≡ [] → Passing c (settled_rows c (Some (id, vs)) h.rows)
    used_one o id vs None e f = rw e pass
    used_one o id vs (Some a) e f = rw e (used_passing c p a (found_is_in _ c a e) again vs h.rows f pass)

    go : (o : Option (Text × List Text)) → h.pending ≡ o → Passing c (settled_rows c h.pending h.rows)
    go None e = rw e pass
    go (Some q) e = rw e (used_one (Some q) q.0 q.1 (arg_by_id c q.0) refl (rw e at f))

reacted_passing : (c : List Rule) → PlainRules c → (again : Bool) (a : Rule) → IsIn a c → (vs : List Text) (h : Held)
    → react_fault c again a vs h ≡ []
    → Passing c h.rows → Passing c (reacted c a vs h).rows
reacted_passing c p again a is vs h f pass =
    used_passing c p a is again vs (settled c h).rows (or_none_second (settle_fault c again h) _ f)
    (settled_passing c p again h (or_none_first (settle_fault c again h) _ f) pass)

option_passing : (c : List Rule) → PlainRules c → (again : Bool) (a : Rule) → IsIn a c → (v : Option Text) (h : Held)
    → option_fault c again a v h ≡ []
    → Passing c h.rows → Passing c (option_met c a v h).0.rows
option_passing c p again a is (Some v) h f pass = reacted_passing c p again a is (v ∷ []) h f pass
option_passing c p again a is None h f pass = settled_passing c p again h f pass

long_passing : (c : List Rule) → PlainRules c → (again : Bool) (found : Option Rule)
    → ((a : Rule) → found ≡ Some a → IsIn a c) → (v : Option Text) (h : Held)
    → long_fault c again found v h ≡ [] → Passing c h.rows → Passing c (long_met c found v h).0.rows
long_passing c p again None is v h f pass = absurd cc
long_passing c p again (Some a) is v h f pass = go (takes_values a) refl
  where
    flag : (w : Option Text) → v ≡ w → long_fault c again (Some a) w h ≡ [] → takes_values a ≡ false → Passing c (flag_met c a w h).0.rows
    flag None e g t = reacted_passing c p again a (is a refl) [] h (rw t at g) pass
    flag (Some x) e g t = let bad = rw t at g in absurd cc

    go : (b : Bool) → takes_values a ≡ b → Passing c (long_met c (Some a) v h).0.rows
    go true e = rw e (option_passing c p again a (is a refl) v h (rw e at f) pass)
    go false e = rw e (flag v refl f e)

short_passing : (c : List Rule) → PlainRules c → (again : Bool) (found : Option Rule)
    → ((a : Rule) → found ≡ Some a → IsIn a c) → (rest : Text) (h : Held)
    (next_fault : Held → Kinds) (next_met : Held → Held × Outcome)
    → ((k : Held) → next_fault k ≡ [] → Passing c k.rows → Passing c (next_met k).0.rows)
    → short_fault c again found rest h next_fault ≡ [] → Passing c h.rows → Passing c (short_met c found rest h next_met).0.rows
short_passing c p again None is rest h next_fault next_met step f pass = absurd cc
short_passing c p again (Some a) is rest h next_fault next_met step f pass = go (takes_values a) refl
  where
    go : (b : Bool) → takes_values a ≡ b → Passing c (short_met c (Some a) rest h next_met).0.rows
    go true e = rw e (option_passing c p again a (is a refl) _ h (rw e at f) pass)
    go false e =
        let g : or_else (react_fault c again a [] h) (next_fault (reacted c a [] h)) ≡ [] = rw e at f in
        rw e (step (reacted c a [] h) (or_none_second (react_fault c again a [] h) _ g)
        (reacted_passing c p again a (is a refl) [] h (or_none_first (react_fault c again a [] h) _ g) pass))

bundle_step_passing : (c : List Rule) → PlainRules c → (again : Bool) (k : ℕ) (o : Option ℕ) (flags : Text) (skip : ℕ) (so_far : Outcome) (h : Held)
    → ((flags : Text) (skip : ℕ) (so_far : Outcome) (h : Held) → flags_fault c again k flags skip h ≡ [] → Passing c h.rows
    → Passing c (bundle_met c k flags skip so_far h).0.rows)
    → bundle_step_fault c again o flags skip h (flags_fault c again k) ≡ [] → Passing c h.rows
    → Passing c (bundle_step c o flags skip so_far h (bundle_met c k)).0.rows
bundle_step_passing c p again k None flags skip so_far h rec f pass = pass
bundle_step_passing c p again k (Some x) flags zero so_far h rec f pass =
    let rest = drop (length (encode_utf8 x)) flags in
    short_passing c p again (arg_by_short c x) (λ a e. found_is_in _ c a e) rest h (flags_fault c again k rest 0) (bundle_met c k rest 0 done)
    (λ i g pass2. rec rest 0 done i g pass2) f pass
bundle_step_passing c p again k (Some x) flags (suc skip) so_far h rec f pass = rec (drop (length (encode_utf8 x)) flags) skip so_far h f pass

flags_passing : (c : List Rule) → PlainRules c → (again : Bool) (k : ℕ) (flags : Text) (skip : ℕ) (so_far : Outcome)
    (h : Held) → flags_fault c again k flags skip h ≡ []
    → Passing c h.rows → Passing c (bundle_met c k flags skip so_far h).0.rows
unfolding flags_fault bundle_met
flags_passing c p again zero flags skip so_far h f pass = pass
flags_passing c p again (suc k) flags skip so_far h f pass =
    bundle_step_passing c p again k (slice_get (chars flags) 0) flags skip so_far h (flags_passing c p again k) f pass

option_word-rows : (o : Option Rule) (id word : Text) (h : Held) → (option_word o id word h).0.rows ≡ h.rows
option_word-rows None id word h = refl
option_word-rows (Some a) id word h = refl

plain_word-rows : (c : List Rule) (waiting : Waiting) (word : Text) (h : Held) → (plain_word c waiting word h).0.rows ≡ h.rows
plain_word-rows c idle word h = refl
plain_word-rows c (option id) word h = option_word-rows (arg_by_id c id) id word h
plain_word-rows c positional word h = refl

after_flag-rows : (c : List Rule) (waiting : Waiting) (word : Text) (h : Held) (o : Outcome) → (after_flag c waiting word h o).0.rows ≡ h.rows
after_flag-rows c waiting word h done = refl
after_flag-rows c waiting word h (waits id) = refl
after_flag-rows c waiting word h plain = plain_word-rows c waiting word h
after_flag-rows c waiting word h refused = plain_word-rows c waiting word h

short_or_plain_passing : (c : List Rule) → PlainRules c → (again : Bool) (waiting : Waiting) (word : Text) (o : Option Text) (h : Held)
    → option_map_or (λ flags. bundle_fault c again flags h) o [] ≡ [] → Passing c h.rows → Passing c (short_or_plain c waiting word o h).0.rows
short_or_plain_passing c p again waiting word None h f pass = rw (plain_word-rows c waiting word h) pass
short_or_plain_passing c p again waiting word (Some flags) h f pass =
    rw (after_flag-rows c waiting word (bundle c flags h).0 (bundle c flags h).1)
    (flags_passing c p again (length flags) flags h.skip plain (record h { skip = 0 }) f pass)

flag_word_passing : (c : List Rule) → PlainRules c → (again : Bool) (waiting : Waiting) (word : Text) (o : Option (Text × Option Text)) (h : Held)
    → flag_word_fault c again o word h ≡ [] → Passing c h.rows → Passing c (long_or_other c waiting word o h).0.rows
flag_word_passing c p again waiting word (Some q) h f pass =
    rw (after_flag-rows c waiting word (long_met c (arg_by_long c q.0) q.1 h).0 (long_met c (arg_by_long c q.0) q.1 h).1)
    (long_passing c p again (arg_by_long c q.0) (λ a e. found_is_in _ c a e) q.1 h f pass)
flag_word_passing c p again waiting word None h f pass = short_or_plain_passing c p again waiting word (short_of word) h f pass

other_passing : (s : Shape) → PlainRules s.rules → (o : Option Text) (waiting : Waiting) (position : ℕ) (word : Text)
    (h : Held) → other_fault s o word h ≡ []
    → Passing s.rules h.rows → Passing s.rules (subcommand_or_other s.rules o waiting position word h).0.rows
other_passing s p (Some name) waiting position word h f pass = pass
other_passing s p None waiting position word h f pass = go (bytes_eq word (45 ∷ 45 ∷ [])) refl
  where
    go : (b : Bool) → bytes_eq word (45 ∷ 45 ∷ []) ≡ b → Passing s.rules (subcommand_or_other s.rules None waiting position word h).0.rows
    go true e = rw e pass
    go false e = rw e (flag_word_passing s.rules p s.args_override_self waiting word (long_of word) h (rw e at f) pass)

word_passing : (s : Shape) (names : Names) → PlainRules s.rules → (is_trailing : Bool) (waiting : Waiting) (position : ℕ) (word : Text) (h : Held)
    → word_fault s names is_trailing waiting word h ≡ [] → Passing s.rules h.rows
    → Passing s.rules (word_met s.rules names is_trailing waiting position word h).0.rows
word_passing s names p true waiting position word h f pass = pass
word_passing s names p false waiting position word h f pass = other_passing s p (subcommand_met names waiting word) waiting position word h f pass

positional_passing : (s : Shape) → PlainRules s.rules → (o : Option Rule) (word : Text) (w : Walk) (h : Held)
    → option_map_or (λ a. positional_fault s.rules s.args_override_self a h) o (stray_fault s) ≡ [] → Passing s.rules h.rows
    → Passing s.rules (to_positional s.rules o word w h).held.rows
positional_passing s p None word w h f pass = pass
positional_passing s p (Some a) word w h f pass = go (is_pending a h.pending && takes_several a) refl
  where
    go : (b : Bool) → (is_pending a h.pending && takes_several a) ≡ b → Passing s.rules (to_positional s.rules (Some a) word w h).held.rows
    go true e = rw e pass
    go false e = rw e (settled_passing s.rules p s.args_override_self h (rw e at f) pass)

after_step_passing : (s : Shape) → PlainRules s.rules → (word : Text) (w : Walk) (h : Held) (t : Step) → step_fault s w.position h t ≡ []
    → Passing s.rules h.rows → Passing s.rules (after_step s.rules word w h t).held.rows
after_step_passing s p word w h (next waiting) f pass = pass
after_step_passing s p word w h (trailing position) f pass = pass
after_step_passing s p word w h (subcommand name) f pass = pass
after_step_passing s p word w h value f pass = positional_passing s p (arg_by_index s.rules w.position) word w h f pass

walked_passing : (s : Shape) (names : Names) → PlainRules s.rules → (w : Walk) (word : Text)
    → turn_fault s names w word ≡ [] → Passing s.rules w.held.rows
    → Passing s.rules (walked s.rules names w word).held.rows
unfolding walked
walked_passing s names p w word f pass = go w.stopped refl
  where
    met : Held × Step
    met = word_met s.rules names w.is_trailing w.waiting w.position word w.held

    go : (o : Option (Text × List Text)) → w.stopped ≡ o → Passing s.rules (walked_from s.rules names w.stopped w word).held.rows
    go (Some q) e = rw e pass
    go None e =
        let g : or_else (word_fault s names w.is_trailing w.waiting word w.held) (step_fault s w.position met.0 met.1) ≡ [] = rw e at f in
        let after = word_passing s names p w.is_trailing w.waiting w.position word w.held
        (or_none_first _ (step_fault s w.position met.0 met.1) g) pass in
        subst (λ (x : Option (Text × List Text)). Passing s.rules (walked_from s.rules names x w word).held.rows) (sym e)
        (after_step_passing s p word w met.0 met.1 (or_none_second (word_fault s names w.is_trailing w.waiting word w.held) _ g) after)

pub walk_passing : (s : Shape) (names : Names) → PlainRules s.rules → (w : Walk) (words : List Text)
    → walk_fault s names w words ≡ [] → Passing s.rules w.held.rows
    → Passing s.rules (fold (walked s.rules names) w words).held.rows
unfolding walk_fault
walk_passing s names p w [] f pass = pass
walk_passing s names p w (word ∷ words) f pass =
    walk_passing s names p (walked s.rules names w word) words (or_none_second (turn_fault s names w word) _ f)
    (walked_passing s names p w word (or_none_first (turn_fault s names w word) _ f) pass)

-- ---- defaults

none_or : (a : Rule) (b : Bool) (vs : List Text) → is_empty vs ≡ b → cond b [] (given_default_fault a vs) ≡ [] → values_fault a vs ≡ []
none_or a true [] e g = refl
none_or a true (v ∷ vs) e g =
    let bad : suc (length vs) ≡ 0 = eqb-true (suc (length vs)) 0 e in
    absurd (omega arith)
none_or a false vs e g = or_none_second (request_kinds (action_of a)) _ g

default_passing : (c : List Rule) → PlainRules c → (a : Rule) → IsIn a c → (rows : List Row)
    → default_fault rows a ≡ [] → Passing c rows → Passing c (with_default rows a)
default_passing c p a is rows f pass = go (has_row a.id rows) refl
  where
    given : (vs : List Text) → values_fault a vs ≡ [] → Passing c (default_rows a.id (reading_by a) vs rows)
    given [] g = pass
    given (v ∷ vs) g = with_values_passing c a.id a (reading_by a) _ (v ∷ vs) rows (p.own a is) g (omega arith) refl pass

    go : (b : Bool) → has_row a.id rows ≡ b → Passing c (with_default rows a)
    go true e = rw e pass
    go false e = rw e (given a.defaults (none_or a (is_empty a.defaults) a.defaults refl (rw e at f)))

pub defaults_passing : (c : List Rule) → PlainRules c → (xs : List Rule) → ((a : Rule) → IsIn a xs → IsIn a c)
    → (rows : List Row) → defaults_fault rows xs ≡ []
    → Passing c rows → Passing c (fold with_default rows xs)
unfolding defaults_fault
defaults_passing c p [] is rows f pass = pass
defaults_passing c p (a ∷ xs) is rows f pass =
    defaults_passing c p xs (λ b i. is b (inr i)) (with_default rows a) (or_none_second (default_fault rows a) _ f)
    (default_passing c p a (is a (inl refl)) rows (or_none_first (default_fault rows a) _ f) pass)

-- ---- a level

pub level_passing : (s : Shape) (names : Names) (words : List Text) (has : Bool) (below : Kinds) → PlainRules s.rules
    → level_fault s names nothing_held words has below ≡ []
    → Passing s.rules (rows_after s.rules names words)
level_passing s names words has below p f =
    let end = (walk s.rules names nothing_held words).held in
    let rest = or_none_second (walk_fault s names (walk_from nothing_held) words) _ f in
    let last = or_none_second below _ rest in
    let settle = or_none_first (settle_fault s.rules s.args_override_self end) _ last in
    let defaults = or_none_first (defaults_fault (settled s.rules end).rows s.rules) _
    (or_none_second (settle_fault s.rules s.args_override_self end) _ last) in
    let walked = walk_passing s names p (walk_from nothing_held) words (or_none_first (walk_fault s names (walk_from nothing_held) words) _ f) tt in
    defaults_passing s.rules p s.rules (λ a i. i) (settled s.rules end).rows defaults
    (settled_passing s.rules p s.args_override_self end settle walked)

pub level_checked : (s : Shape) (names : Names) (words : List Text) (has : Bool) (below : Kinds)
    → level_fault s names nothing_held words has below ≡ []
    → check_fault s (rows_after s.rules names words) has ≡ []
level_checked s names words has below f =
    let end = (walk s.rules names nothing_held words).held in
    let last = or_none_second below _ (or_none_second (walk_fault s names (walk_from nothing_held) words) _ f) in
    or_none_second (defaults_fault (settled s.rules end).rows s.rules) _ (or_none_second (settle_fault s.rules s.args_override_self end) _ last)

pub level_below : (s : Shape) (names : Names) (words : List Text) (has : Bool) (below : Kinds)
    → level_fault s names nothing_held words has below ≡ [] → below ≡ []
level_below s names words has below f = or_none_first below _ (or_none_second (walk_fault s names (walk_from nothing_held) words) _ f)

no_check : (a b c : Bool) → check_kinds a b c ≡ [] → (b ≡ false) × (c ≡ false)
no_check true b c f = absurd cc
no_check false true c f = absurd cc
no_check false false true f = absurd cc
no_check false false false f = (refl, refl)

pub subcommand_there : (s : Shape) (rows : List Row) (has : Bool) → s.subcommand_required ≡ true → check_fault s rows has ≡ [] → has ≡ true
subcommand_there s rows true required f = refl
subcommand_there s rows false required f =
    let bad : s.subcommand_required ≡ false = (no_check _ (not false && s.subcommand_required) _ f).0 in
    cc

any_false : (test : Rule → Bool) (xs : List Rule) (a : Rule) → IsIn a xs → list_any test xs ≡ false → test a ≡ false
any_false test [] a is f = absurd is
any_false test (x ∷ xs) a is f = go (test x) refl (λ i g. any_false test xs a i g)
  where
    go : (b : Bool) → test x ≡ b → (IsIn a xs → list_any test xs ≡ false → test a ≡ false) → test a ≡ false
    go true e rec = let bad : true ≡ false = rw e at f in absurd cc
    go false e rec = elim is [ inl same ↦ rw same e | inr i ↦ rec i (rw e at f) ]

not_false : (b : Bool) → not b ≡ false → b ≡ true
not_false true f = refl
not_false false f = absurd cc

pub required_given : (s : Shape) (rows : List Row) (has : Bool) (a : Rule) → IsIn a s.rules → s.subcommand_negates_reqs ≡ false → a.required ≡ true
    → check_fault s rows has ≡ [] → is_given a.id rows ≡ true
required_given s rows has a is negates required f =
    let any = (no_check _ _ _ f).1 in
    let none : list_any (λ x. x.required && not (is_given x.id rows)) s.rules ≡ false = rw negates at any in
    not_false (is_given a.id rows) (rw required at (any_false (λ x. x.required && not (is_given x.id rows)) s.rules a is none))
