use Rattle.std.proofs.Common.{◌∙◌, refl, sym, arith, subst}
use Rattle.std.specs.Prelude.{None}
use Rattle.std.proofs.lemmas.List.{length-set}
use Rattle.std.proofs.lemmas.List.Sums.{count_by_more_no, count_by_more_yes}
use Rattle.cards.specs.Fixed.{is_free}
use Rattle.cards.specs.internal.Around.{IsListed}
use Rattle.cards.proofs.Fixing.{none_listed, one_listed}
use Rattle.cards.proofs.around.list_free.Goals as goal
use Rattle.cards.proofs.around.list_free.Goals.{then-is_open, else-is_open}

pub loop-card-init : goal.loop-card-init
loop-card-init c = record {
  all = omega arith;
  long = refl;
  few = omega arith;
  listed = none_listed c.args.seats.now;
}

pub loop-card-preserved : goal.loop-card-preserved
loop-card-preserved c =
    let seats = c.args.seats.now in
    let i = c.loop-card.card in
    let before = c.loop-card.invariant in
    elim c.if-is_open.branch [
      | then-is_open w ↦ record {
        all = omega (arith, w.count-is, before.all, count_by_more_yes is_free seats i None (omega arith) (sym c.is_open.ensures ∙ w.if-is_open.true));
        long = rw w.free-is (simp length-set before.long);
        few = omega (arith, w.count-is, before.few);
        listed = subst (IsListed seats c.if-is_open.free) (sym w.count-is)
            (rw w.free-is (one_listed seats c.loop-card.free c.loop-card.count i before.long before.few (omega arith)
            before.all (sym c.is_open.ensures ∙ w.if-is_open.true) before.listed));
      }
      | else-is_open w ↦ record {
        all = omega (arith, w.count-is, before.all, count_by_more_no is_free seats i None (omega arith) (sym c.is_open.ensures ∙ w.if-is_open.false));
        long = rw w.free-is before.long;
        few = omega (arith, w.count-is, before.few);
        listed = subst (IsListed seats c.if-is_open.free) (sym w.count-is) (rw w.free-is before.listed);
      }
    ]
