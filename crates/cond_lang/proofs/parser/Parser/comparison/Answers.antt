use Rattle.std.proofs.Common.{◌≡◌, rules}
use Rattle.std.proofs.lemmas.Result.{IfOk-weaker}
use Rattle.conditions.specs.Form.{compare}
use Rattle.cond_lang.specs.internal.Defining.{meanings}
use Rattle.cond_lang.specs.internal.Growing.{IsGrown}
use Rattle.cond_lang.specs.internal.Reading.{got, reading, comparing_by}
use Rattle.cond_lang.proofs.Growing.{kept}
use Rattle.cond_lang.proofs.parser.Parser.comparison.Goals as goal

pub returns-clause-gives : goal.returns-clause-gives
returns-clause-gives c =
    let left = c.in_ok-left.ensures.gives in
    let right = c.in_ok-right.ensures.gives in
    let read : comparing_by (reading (meanings c.args.names.now)) c.args.bound c.args.self.now ≡ got
    (compare left.0 c.in_ok-op.op right.0) c.value-2.new.self = search rules in
    kept (IsGrown c.args.room) c.compare.result _ _ (compare left.0 c.in_ok-op.op right.0)
    (IfOk-weaker c.compare.result _ _ (λ g made. made left.0 right.0 left.1
    (rw (← c.saturating_sub-room_behind.ensures) right.1)) c.compare.ensures.ok) c.compare.ensures.err read
