use Rattle.std.proofs.Common.{◌≡◌, ◌∙◌, ◌++◌, ◌∷◌, [], ap, arith, cond, length, sym}
use Rattle.rtrb.specs.Ring.{known_items, received}
use Rattle.lanes.specs.Slots.{verdict_in, verdicts_in}
use Rattle.lanes.proofs.Blocks.{still_last, taken_with_first, verdicts-more}
use Rattle.lanes.proofs.ends.LaneOut.take_rejected.Goals as goal

pub invariant_of-self : goal.invariant_of-self
invariant_of-self c =
    let e = c.take_rejected.ensures in
    still_last c.take_rejected.result (received c.self.inside.consumer) c.self.inside.block c.take_rejected.new.self c.self.invariant e.taken e.kept

pub returns-clause-taken : goal.returns-clause-taken
returns-clause-taken c took =
    let t = c.take_rejected.ensures.taken took in
    let inside = c.self.inside in
    let items = known_items inside.consumer in
    let rest = c.take_rejected.new.self in
    let settled_is : inside.settled ≡ c.args.self.now.settled = ap (λ o. o.settled) c.self.view_is in
    record {
      verdict = verdict_in t.first;
      rejected = t.rejected;
      taken =
          ap verdicts_in (taken_with_first (received inside.consumer) inside.block rest t.first c.self.invariant t.rest)
          ∙ verdicts-more _ t.first
          ∙ ap (λ o. o.taken ++ verdict_in t.first ∷ []) c.self.view_is;
      known = omega (arith, ap (λ o. o.known) c.self.view_is, ap (λ b. length (b ++ items)) t.rest);
      left = λ settled.
          let is = settled_is ∙ settled in
          sym (ap (λ o. o.left) c.self.view_is) ∙ ap (λ b. cond b (verdicts_in (inside.block ++ items)) []) is
          ∙ ap (λ b. verdicts_in (b ++ items)) t.rest
          ∙ sym (ap (λ b. verdict_in t.first ∷ cond b (verdicts_in (rest ++ items)) []) is);
    }
