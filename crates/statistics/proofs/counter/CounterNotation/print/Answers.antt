use Rattle.std.proofs.Common.{List, rules, subst}
use Rattle.cards.specs.declared.seat.Seat.{Seat}
use Rattle.statistics.specs.internal.Counters.{Counts}
use Rattle.statistics.proofs.Boards.{board_counts, board_is_past}
use Rattle.statistics.proofs.counter.CounterNotation.print.Goals as goal

pub returns-then-deals-lt-MAX_DEALS-clause-boards : goal.returns-then-deals-lt-MAX_DEALS-clause-boards
returns-then-deals-lt-MAX_DEALS-clause-boards c boards h =
    subst (λ (deals : List (List Seat)). Counts c.count.new.self deals)
    (board_counts c.args.self.now.kept boards c.args.board.now h (search rules)) (c.count.ensures.counted _ h)

pub returns-else-deals-lt-MAX_DEALS-clause-boards : goal.returns-else-deals-lt-MAX_DEALS-clause-boards
returns-else-deals-lt-MAX_DEALS-clause-boards c boards h =
    subst (λ (deals : List (List Seat)). Counts c.args.self.now.kept deals)
    (board_is_past c.args.self.now.kept boards c.args.board.now h (search rules)) h
