use Rattle.std.proofs.Common.{length}
use Rattle.cond_lang.proofs.parser.Parser.+seats.Given as goal

abbrev pub decreases-seat : goal.decreases-seat
decreases-seat l = length l.self.now
