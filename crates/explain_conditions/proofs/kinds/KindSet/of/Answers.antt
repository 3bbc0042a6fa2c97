use Rattle.std.proofs.lemmas.Option.{get_or_from_slice_get, slice_get_within}
use Rattle.std.proofs.Common.{◌≡◌, length, ◌↔◌, ◌<◌, IsTrue, arith, false, slice_index_or, subst}
use Rattle.std.proofs.lemmas.Grind.{common_steps}
use Rattle.cond_lang.specs.declared.words.Kind.{Kind}
use Rattle.cond_lang.specs.declared.words.Kind.TheVariants as kind
use Rattle.explain_conditions.specs.Asked.{CanStand, IsTold}
use Rattle.explain_conditions.specs.internal.Kinds.{in_set}
use Rattle.cond_lang.specs.Kinds.{IsListed}
use Rattle.cond_lang.specs.Kinds.{all_kinds, place_of}
use Rattle.cond_lang.proofs.EachKind.{kind_listed}
use Rattle.explain_conditions.proofs.KindLemmas.{one_answer_more}
use Rattle.explain_conditions.proofs.kinds.KindSet.of.Goals as goal

pub loop-i-preserved : goal.loop-i-preserved
loop-i-preserved c = (
  grind (arith, common_steps),
  one_answer_more c.loop-i.holds
      (λ k. CanStand c.args.asked c.args.beginning.now (slice_index_or all_kinds k kind.Let)) c.loop-i.i
      c.in_ok-holds.field-0 (omega arith) c.loop-i.invariant.1 c.in_ok-holds.ensures.allowed,
)

pub returns-clause-allowed : goal.returns-clause-allowed
returns-clause-allowed c = each
  where
    listed : (k : Kind) → IsListed k → IsTrue (slice_index_or c.loop-i.holds (place_of k) false) ↔ CanStand c.args.asked c.args.beginning.now k
    listed k l =
        let within : place_of k < length all_kinds = slice_get_within all_kinds (place_of k) k (kind_listed k l) in
        let there : slice_index_or all_kinds (place_of k) kind.Let ≡ k = get_or_from_slice_get all_kinds (place_of k) k kind.Let (kind_listed k l) in
        let P : Kind → Type 0 = λ q. IsTrue (slice_index_or c.loop-i.holds (place_of k) false) ↔ CanStand c.args.asked c.args.beginning.now q in
        subst P there (c.loop-i.invariant.1 (place_of k) (omega arith))

    each : (k : Kind) → IsTold c.args.count k → IsTrue (in_set
        (record { holds = c.loop-i.holds; names = c.in_ok-names.names; values = c.in_ok-values.values }) k) ↔ CanStand
        c.args.asked c.args.beginning.now k
    each (kind.Name n) l = c.in_ok-names.ensures.allowed n l
    each k l = listed k tt
