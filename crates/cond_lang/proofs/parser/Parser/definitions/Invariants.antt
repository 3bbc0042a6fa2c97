use Rattle.std.proofs.Common.{◌≡◌, ◌≤◌, [], length}
use Rattle.cond_lang.specs.internal.Defining.{AreSound, definitions, meanings}
use Rattle.cond_lang.proofs.parser.Parser.definitions.Given as goal

abbrev pub invariant-loop-self : goal.invariant-loop-self
invariant-loop-self l =
    AreSound l.names.items × ((definitions [] l.fn.self ≡ definitions (meanings l.names.items) l.self) × (length l.self ≤ length l.fn.self))

abbrev pub decreases-loop-self : goal.decreases-loop-self
decreases-loop-self l = length l.self
