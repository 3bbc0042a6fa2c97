use Rattle.std.proofs.Common.{List, arith, subst}
use Rattle.std.specs.Prelude.{Option}
use Rattle.cards.specs.declared.seat.Seat.{Seat}
use Rattle.cards.specs.internal.Around.{IsKept}
use Rattle.cards.proofs.AroundDeals.{rooms_together}
use Rattle.cards.proofs.around.Around.of.Goals as goal

pub invariant_of-result : goal.invariant_of-result
invariant_of-result c =
    let f : List (Option Seat) = c.as_array-seats.result.now in
    let fits = c.as_array-seats.ensures.fixed in
    let kept : IsKept f c.side_of.result c.side_of-2.result c.side_of-3.result c.side_of-4.result
    c.list_free-count.result.0 c.list_free-count.result.1 = record {
      fits = fits;
      north = c.side_of.ensures;
      east = c.side_of-2.ensures;
      south = c.side_of-3.ensures;
      west = c.side_of-4.ensures;
      all = c.list_free-count.ensures.count;
      rooms = omega (
        arith,
        c.list_free-count.ensures.count,
        rooms_together f fits,
        c.side_of.ensures.room,
        c.side_of-2.ensures.room,
        c.side_of-3.ensures.room,
        c.side_of-4.ensures.room,
      );
      listed = c.list_free-count.ensures.listed;
    } in
    subst (λ g. IsKept g c.side_of.result c.side_of-2.result c.side_of-3.result c.side_of-4.result
    c.list_free-count.result.0 c.list_free-count.result.1) c.as_array-seats.ensures.seats kept
