-- Whether a table of rules is plain, as a test that is computed.
use Rattle.std.proofs.Common.{◌≡◌, ◌⊎◌, ◌&&◌, Bool, true, false, not, List, [], ◌∷◌, Some, nat_lt, length, refl, inl, inr, arith, ◌<◌}
use Rattle.std.specs.List.{list_any, list_all}
use Rattle.std.specs.Str.{bytes_eq}
use Rattle.std.proofs.lemmas.Bool.{ltb-true}
use Rattle.std.proofs.lemmas.Slice.Eq.{bytes_eq-Decides}
use Rattle.clap.specs.Facts.{unwrap_or_range}
use Rattle.clap.specs.Values.{is_request}
use Rattle.clap.specs.Walk.{Rule, Text, action_of, arg_by_id, values_or_missing}
use Rattle.clap.specs.declared.builder.ArgAction.{ArgAction}
use Rattle.clap.specs.declared.builder.ArgAction.TheVariants.{Append, Set, SetTrue}
use Rattle.command_line.proofs.Walks.{IsFlag, IsIn, PlainRules, Repeats}

-- a rule that does this takes a value, asks for a text or is a flag that has a value of its own
abbrev acts_plainly : ArgAction → Rule → Bool
acts_plainly Set a = nat_lt 0 (unwrap_or_range a.range).start_inclusive
acts_plainly Append a = nat_lt 0 (unwrap_or_range a.range).start_inclusive
acts_plainly SetTrue a = nat_lt 0 (length a.missing)
acts_plainly x a = is_request x

-- no id stands twice
abbrev has_no_double : List Rule → Bool
has_no_double [] = true
has_no_double (x ∷ c) = not (list_any (λ a. bytes_eq x.id a.id) c) && has_no_double c

abbrev is_plain : List Rule → Bool
is_plain c = has_no_double c && list_all (λ a. acts_plainly (action_of a) a) c

first_of : (a b : Bool) → (a && b) ≡ true → a ≡ true
first_of true b h = refl
first_of false b h = absurd cc

second_of : (a b : Bool) → (a && b) ≡ true → b ≡ true
second_of true b h = h
second_of false b h = absurd cc

not_true : (b : Bool) → not b ≡ true → b ≡ false
not_true true h = absurd cc
not_true false h = refl

-- what no rule of a list is, none in it is
none_at : (test : Rule → Bool) (c : List Rule) → list_any test c ≡ false → (a : Rule) → IsIn a c → test a ≡ false
none_at test [] h a is = absurd is
none_at test (x ∷ c) h a is = go (test x) refl (λ rest more. none_at test c rest a more) h is
  where
    go : (b : Bool) → test x ≡ b → (list_any test c ≡ false → IsIn a c → test a ≡ false)
        → list_any test (x ∷ c) ≡ false → IsIn a (x ∷ c) → test a ≡ false
    go true e rec h is = let bad : true ≡ false = rw e at h in absurd cc
    go false e rec h (inl same) = rw same e
    go false e rec h (inr more) = rec (rw e at h) more

all_at : (test : Rule → Bool) (c : List Rule) → list_all test c ≡ true → (a : Rule) → IsIn a c → test a ≡ true
all_at test [] h a is = absurd is
all_at test (x ∷ c) h a (inl same) = rw same (first_of (test x) (list_all test c) h)
all_at test (x ∷ c) h a (inr more) = all_at test c (second_of (test x) (list_all test c) h) a more

own_of : (c : List Rule) → has_no_double c ≡ true → (a : Rule) → IsIn a c → arg_by_id c a.id ≡ Some a
own_of [] h a is = absurd is
own_of (x ∷ c) h a (inl same) = let at : bytes_eq x.id x.id ≡ true = (bytes_eq-Decides x.id x.id).1 refl in rw (same, at) refl
own_of (x ∷ c) h a (inr more) =
    let other : bytes_eq x.id a.id ≡ false =
    none_at (λ b. bytes_eq x.id b.id) c (not_true _ (first_of _ (has_no_double c) h)) a more in
    rw other (own_of c (second_of (not (list_any (λ b. bytes_eq x.id b.id) c)) (has_no_double c) h) a more)

abbrev Acts : Rule → Type 0
Acts a = ((action_of a ≡ Set) × (nat_lt 0 (unwrap_or_range a.range).start_inclusive ≡ true))
    ⊎ (is_request (action_of a) ≡ true) ⊎ IsFlag a ⊎ Repeats a

-- a flag has a value however it is used
flag_value : (a : Rule) → nat_lt 0 (length a.missing) ≡ true → (vs : List Text) → 0 < length (values_or_missing a vs)
flag_value a h [] = ltb-true 0 (length a.missing) h
flag_value a h (v ∷ vs) = omega arith

acts_of : (a : Rule) → acts_plainly (action_of a) a ≡ true → Acts a
acts_of a h = go (action_of a) refl h
  where
    go : (x : ArgAction) → action_of a ≡ x → acts_plainly x a ≡ true → Acts a
    go Set e h = inl (e, h)
    go SetTrue e h = inr (inr (inl (e, flag_value a h)))
    go Append e h = inr (inr (inr (e, h)))
    go x e h = inr (inl (rw e h))

pub plain_of : (c : List Rule) → is_plain c ≡ true → PlainRules c
plain_of c h = record {
  own = own_of c (first_of (has_no_double c) _ h);
  acts = λ a is. acts_of a (all_at _ c (second_of (has_no_double c) _ h) a is);
}
