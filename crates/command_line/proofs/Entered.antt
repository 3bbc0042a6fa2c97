-- The subcommand that a parse without a fault entered.
use Rattle.std.proofs.Common.{◌≡◌, ◌⊎◌, Bool, true, false, List, [], ◌∷◌, Option, Some, None, is_some, refl, subst, inl, inr, find, codes}
use Rattle.std.specs.Str.{bytes_eq}
use Rattle.clap.specs.Walk.{Text, answers_to, nothing_held, rows_after, stop_after, walk_from}
use Rattle.clap.specs.Simple.{App, Shape, entered, label_of, names_of, rows_at}
use Rattle.clap.specs.Faults.{built_fault, entered_fault, level_fault, walk_fault}
use Rattle.command_line.proofs.Help.{IsOther, walk_other}
use Rattle.command_line.proofs.Walks.{or_none_first, level_below, level_checked, subcommand_there}

abbrev pub IsSub : Shape → List Shape → Type 0
IsSub s [] = ⊥
IsSub s (x ∷ xs) = (s ≡ x) ⊎ IsSub s xs

found_is_sub : (test : Shape → Bool) (xs : List Shape) (s : Shape) → find test xs ≡ Some s → IsSub s xs
found_is_sub test [] s h = cc
found_is_sub test (x ∷ xs) s h = go (test x) refl (λ rest. found_is_sub test xs s rest)
  where
    go : (b : Bool) → test x ≡ b → (find test xs ≡ Some s → IsSub s xs) → IsSub s (x ∷ xs)
    go true e rec =
        let same : Some x ≡ Some s = rw e at h in
        let is : s ≡ x = cc in
        inl is
    go false e rec = inr (rec (rw e at h))

found_passes : (test : Shape → Bool) (xs : List Shape) (s : Shape) → find test xs ≡ Some s → test s ≡ true
found_passes test [] s h = cc
found_passes test (x ∷ xs) s h = go (test x) refl (λ rest. found_passes test xs s rest)
  where
    go : (b : Bool) → test x ≡ b → (find test xs ≡ Some s → test s ≡ true) → test s ≡ true
    go true e rec =
        let same : Some x ≡ Some s = rw e at h in
        let is : x ≡ s = cc in
        subst (λ (y : Shape). test y ≡ true) is e
    go false e rec = rec (rw e at h)

-- a subcommand was entered, with these words after its name, and finds no fault in them
pub record Enters (a : App) (words : List Text) : Type 0 where
  pub sub : Shape
  pub is_sub : IsSub sub a.subs
  pub word : Text
  pub answers : answers_to word (label_of sub) ≡ true
  pub no_help : bytes_eq word (codes "help") ≡ false
  pub rest : List Text
  pub entered_it : entered a (stop_after a.top.rules (names_of a) words) ≡ Some (rows_at sub rest)
  pub fault : level_fault sub [] nothing_held rest false [] ≡ []

pub enters : (a : App) (words : List Text) → a.top.subcommand_required ≡ true → a.top.disable_help_subcommand ≡ false
    → built_fault a nothing_held words ≡ [] → Enters a words
enters a words required off f = go (stop_after a.top.rules (names_of a) words) refl
  where
    has : is_some (entered a (stop_after a.top.rules (names_of a) words)) ≡ true
    has =
        let stop = stop_after a.top.rules (names_of a) words in
        subcommand_there a.top (rows_after a.top.rules (names_of a) words) (is_some (entered a stop)) required
        (level_checked a.top (names_of a) words (is_some (entered a stop)) (entered_fault a stop) f)

    below : entered_fault a (stop_after a.top.rules (names_of a) words) ≡ []
    below =
        let stop = stop_after a.top.rules (names_of a) words in
        level_below a.top (names_of a) words (is_some (entered a stop)) (entered_fault a stop) f

    at : (p : Text × List Text) → stop_after a.top.rules (names_of a) words ≡ Some p → (o : Option Shape)
        → find (λ s. answers_to p.0 (label_of s)) a.subs ≡ o → Enters a words
    at p e None g = let bad : false ≡ true = rw (e, g) at has in absurd cc
    at p e (Some s) g = record {
      sub = s;
      is_sub = found_is_sub (λ s. answers_to p.0 (label_of s)) a.subs s g;
      word = p.0;
      answers = found_passes (λ s. answers_to p.0 (label_of s)) a.subs s g;
      no_help =
          let other = walk_other a.top (names_of a) off (walk_from nothing_held) words tt
          (or_none_first (walk_fault a.top (names_of a) (walk_from nothing_held) words) _ f) in
          subst IsOther e other;
      rest = p.1;
      entered_it = rw (e, g) refl;
      fault = rw (e, g) at below;
    }

    go : (o : Option (Text × List Text)) → stop_after a.top.rules (names_of a) words ≡ o → Enters a words
    go None e = let bad : false ≡ true = rw e at has in absurd cc
    go (Some p) e = at p e (find (λ s. answers_to p.0 (label_of s)) a.subs) refl
