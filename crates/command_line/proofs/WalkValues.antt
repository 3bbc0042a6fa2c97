-- The values of an option, by the rows of a parse that finds no fault.
use Rattle.std.proofs.Common.{◌≡◌, ◌≢◌, ◌⊎◌, ◌∙◌, Bool, true, false, not, List, []}
use Rattle.std.proofs.Common.{◌∷◌, Option, Some, None, cond, refl, sym, ap, subst, inl, inr}
use Rattle.std.proofs.Common.{arith, find}
use Rattle.std.specs.Str.{bytes_eq}
use Rattle.std.proofs.lemmas.Slice.Eq.{bytes_eq-Decides}
use Rattle.clap.specs.Facts.{parser_of_value}
use Rattle.clap.specs.Kinds.{Kinds, value_kinds, values_kinds}
use Rattle.clap.specs.Values.{read_as}
use Rattle.clap.specs.Walk.{Row, Rule, Text}
use Rattle.clap.specs.Walk.{arg_by_id}
use Rattle.clap.specs.Walk.{row_text, one_of, option}
use Rattle.clap.specs.Walk.{reading_by}
use Rattle.clap.specs.Walk.{value}
use Rattle.clap.specs.Takes.{is_given}
use Rattle.clap.specs.ValueTests.{accepts}
use Rattle.clap.specs.Faults.{values_fault}
use Rattle.command_line.specs.internal.Readings.{HasValue}
use Rattle.command_line.proofs.Walks.{or_none_first, RowPasses, Passing}

-- ---- values

no_kinds : (b : Bool) (k : Kinds) → cond b [] k ≡ [] → k ≢ [] → b ≡ true
no_kinds true k f n = refl
no_kinds false k f n = absurd (n f)

row_value : (c : List Rule) (a : Rule) (r : Row) → arg_by_id c a.id ≡ Some a → bytes_eq r.id a.id ≡ true → RowPasses c r
    → (t : Text) × (row_text r ≡ Some (read_as (reading_by a) t)) × (accepts a.ignore_case (parser_of_value a.parser) t ≡ true)
row_value c a r own same p = go r.values refl
  where
    same_id : r.id ≡ a.id
    same_id = (bytes_eq-Decides r.id a.id).0 same

    is_a : p.rule ≡ a
    is_a =
        let both : Some p.rule ≡ Some a = sym p.found ∙ (ap (arg_by_id c) same_id ∙ own) in
        cc

    go : (vs : List Text) → r.values ≡ vs → (t : Text) × (row_text r ≡ Some (read_as (reading_by a) t))
        × (accepts a.ignore_case (parser_of_value a.parser) t ≡ true)
    go [] e = let some = rw e at p.some in absurd (omega arith)
    go (v ∷ vs) e =
        let first : values_kinds a.ignore_case (parser_of_value a.parser) (v ∷ vs) ≡ [] =
        subst (λ (x : Rule). values_fault x (v ∷ vs) ≡ []) is_a (rw e at p.passed) in (
          v,
          rw (e, p.read) (ap (λ (x : Rule). Some (read_as (reading_by x) v)) is_a),
          no_kinds (accepts a.ignore_case (parser_of_value a.parser) v) _
              (or_none_first (value_kinds a.ignore_case (parser_of_value a.parser) v) _ first) (λ bad. cc),
        )

find_passing : (c : List Rule) (rows : List Row) (id : Text) (r : Row) → Passing c rows → find (λ x. bytes_eq x.id id) rows ≡ Some r
    → (bytes_eq r.id id ≡ true) × RowPasses c r
find_passing c [] id r pass found = absurd cc
find_passing c (x ∷ rows) id r pass found = go (bytes_eq x.id id) refl (λ g. find_passing c rows id r pass.1 g)
  where
    go : (b : Bool) → bytes_eq x.id id ≡ b → (find (λ x. bytes_eq x.id id) rows ≡ Some r → (bytes_eq r.id id ≡ true) × RowPasses c r)
        → (bytes_eq r.id id ≡ true) × RowPasses c r
    go true e rec =
        let same : Some x ≡ Some r = rw e at found in
        let is : x ≡ r = cc in
        (subst (λ (y : Row). bytes_eq y.id id ≡ true) is e, subst (RowPasses c) is pass.0)
    go false e rec = rec (rw e at found)

-- an option that was found has a value, which its parser accepts
found_value : (c : List Rule) (rows : List Row) (a : Rule) (r : Row) → arg_by_id c a.id ≡ Some a → Passing c rows
    → find (λ x. bytes_eq x.id a.id) rows ≡ Some r → HasValue a rows
found_value c rows a r own pass found =
    let at = find_passing c rows a.id r pass found in
    let got = row_value c a r own at.0 at.1 in
    record { text = got.0; read = rw found got.1; passed = got.2 }

-- an option has no value, or one that its parser accepts
pub passed_value : (c : List Rule) (rows : List Row) (a : Rule) → arg_by_id c a.id ≡ Some a → Passing c rows
    → (one_of a.id rows ≡ None) ⊎ HasValue a rows
passed_value c rows a own pass = go (find (λ x. bytes_eq x.id a.id) rows) refl
  where
    go : (o : Option Row) → find (λ x. bytes_eq x.id a.id) rows ≡ o → (one_of a.id rows ≡ None) ⊎ HasValue a rows
    go None e = inl (rw e refl)
    go (Some r) e = inr (found_value c rows a r own pass e)

-- an option that the command has not was given no value
pub absent_value : (c : List Rule) (rows : List Row) (id : Text) → arg_by_id c id ≡ None → Passing c rows → one_of id rows ≡ None
absent_value c [] id none pass = refl
absent_value c (r ∷ rows) id none pass = go (bytes_eq r.id id) refl (absent_value c rows id none pass.1)
  where
    go : (b : Bool) → bytes_eq r.id id ≡ b → one_of id rows ≡ None → one_of id (r ∷ rows) ≡ None
    go true e rec =
        let same_id : r.id ≡ id = (bytes_eq-Decides r.id id).0 e in
        let bad : Some pass.0.rule ≡ None = sym pass.0.found ∙ (ap (arg_by_id c) same_id ∙ none) in
        cc
    go false e rec = rw e rec

-- an option that was given has such a value
pub given_value : (c : List Rule) (rows : List Row) (a : Rule) → arg_by_id c a.id ≡ Some a → Passing c rows
    → is_given a.id rows ≡ true → HasValue a rows
given_value c rows a own pass given = go (find (λ x. bytes_eq x.id a.id) rows) refl
  where
    go : (o : Option Row) → find (λ x. bytes_eq x.id a.id) rows ≡ o → HasValue a rows
    go None e = let bad : false ≡ true = rw e at given in absurd cc
    go (Some r) e = found_value c rows a r own pass e
