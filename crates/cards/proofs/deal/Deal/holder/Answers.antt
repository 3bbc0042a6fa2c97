use Rattle.std.proofs.Common.{◌≡◌, ℕ, ◌<◌, List, get_or, arith, subst, sym, ap, ◌∙◌}
use Rattle.std.specs.Prelude.{Some, slice_get}
use Rattle.std.proofs.lemmas.Option.{slice_get-get_or}
use Rattle.cards.specs.declared.seat.Seat.{Seat}
use Rattle.cards.specs.declared.seat.Seat.TheVariants.{North}
use Rattle.cards.proofs.DealMasks.{holder_north, holder_east, holder_south, holder_west}
use Rattle.cards.specs.Deals.{IsPartition}
use Rattle.cards.proofs.deal.Deal.holder.Goals as goal

held : (deal : List Seat) (card : ℕ) (seat : Seat) → IsPartition deal → card < 52 → seat ≡ get_or deal card North → slice_get deal card ≡ Some seat
held deal card seat ok below is = slice_get-get_or deal card North (omega (arith, ok.count)) ∙ ap Some (sym is)

pub returns-then-self-card-eq1-clause-partition : goal.returns-then-self-card-eq1-clause-partition
returns-then-self-card-eq1-clause-partition c = subst IsPartition c.self.view_is c.self.invariant.partition

pub returns-then-self-card-eq1-clause-value : goal.returns-then-self-card-eq1-clause-value
returns-then-self-card-eq1-clause-value c = held c.args.self.now c.args.card _
    (subst IsPartition c.self.view_is c.self.invariant.partition) (omega arith)
    (holder_north c.self.inside.north c.self.inside.east c.self.inside.south c.from-card.result c.args.card
    c.args.self.now (omega arith) (omega arith) c.self.view_is c.if-self-card-eq1.true)

pub returns-then-self-card-eq1-2-clause-partition : goal.returns-then-self-card-eq1-2-clause-partition
returns-then-self-card-eq1-2-clause-partition c = subst IsPartition c.self.view_is c.self.invariant.partition

pub returns-then-self-card-eq1-2-clause-value : goal.returns-then-self-card-eq1-2-clause-value
returns-then-self-card-eq1-2-clause-value c = held c.args.self.now c.args.card _
    (subst IsPartition c.self.view_is c.self.invariant.partition) (omega arith)
    (holder_east c.self.inside.north c.self.inside.east c.self.inside.south c.from-card.result c.args.card
    c.args.self.now (omega arith) (omega arith) c.self.view_is c.if-self-card-eq1.false c.if-self-card-eq1-2.true)

pub returns-then-self-card-eq1-3-clause-partition : goal.returns-then-self-card-eq1-3-clause-partition
returns-then-self-card-eq1-3-clause-partition c = subst IsPartition c.self.view_is c.self.invariant.partition

pub returns-then-self-card-eq1-3-clause-value : goal.returns-then-self-card-eq1-3-clause-value
returns-then-self-card-eq1-3-clause-value c = held c.args.self.now c.args.card _
    (subst IsPartition c.self.view_is c.self.invariant.partition) (omega arith)
    (holder_south c.self.inside.north c.self.inside.east c.self.inside.south c.from-card.result c.args.card
    c.args.self.now (omega arith) (omega arith) c.self.view_is c.if-self-card-eq1.false c.if-self-card-eq1-2.false
    c.if-self-card-eq1-3.true)

pub returns-else-self-card-eq1-3-clause-partition : goal.returns-else-self-card-eq1-3-clause-partition
returns-else-self-card-eq1-3-clause-partition c = subst IsPartition c.self.view_is c.self.invariant.partition

pub returns-else-self-card-eq1-3-clause-value : goal.returns-else-self-card-eq1-3-clause-value
returns-else-self-card-eq1-3-clause-value c = held c.args.self.now c.args.card _
    (subst IsPartition c.self.view_is c.self.invariant.partition) (omega arith)
    (holder_west c.self.inside.north c.self.inside.east c.self.inside.south c.from-card.result c.args.card
    c.args.self.now (omega arith) (omega arith) c.self.view_is c.if-self-card-eq1.false c.if-self-card-eq1-2.false
    c.if-self-card-eq1-3.false)
