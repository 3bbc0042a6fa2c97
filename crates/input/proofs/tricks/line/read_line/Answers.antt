use Rattle.std.proofs.Common.{◌≡◌, ◌<◌, ◌+◌, ◌++◌, ◌∷◌, ◌==◌, ◌∙◌, [], false, length, arith, rules, length-append}
use Rattle.std.proofs.KnownBytes.{Consumes-trans}
use Rattle.input.proofs.Scanned.{has_lf-other}
use Rattle.input.proofs.tricks.line.read_line.Goals as goal

pub returns-in-Err-clause-reads : goal.returns-in-Err-clause-reads
returns-in-Err-clause-reads g c =
    let b = c.in-Some.byte in
    let line = c.loop-turn.line.items in
    let other : (b == 10) ≡ false = search rules in
    let same : c.try_push.new.self.items ≡ line = search rules in
    let full : length line ≡ 256 = search rules in
    let given = rw c.in-Some.is at c.in_ok-read_byte.ensures.given in
    rw same (
      b,
      has_lf-other b line other ∙ c.loop-turn.invariant.no_end,
      full,
      Consumes-trans (g.I.Source.rest c.args.input.now) (g.I.Source.rest c.loop-turn.input)
          (g.I.Source.rest c.read_byte.new.input) line (b ∷ []) c.loop-turn.invariant.consumed given,
    )

pub loop-turn-preserved : goal.loop-turn-preserved
loop-turn-preserved g c =
    let b = c.in-Some.byte in
    let line = c.loop-turn.line.items in
    let other : (b == 10) ≡ false = search rules in
    let grown : c.try_push.new.self.items ≡ line ++ b ∷ [] = search rules in
    let room : length line < 256 = search rules in
    let given = rw c.in-Some.is at c.in_ok-read_byte.ensures.given in
    let count = rw c.in-Some.is at c.in_ok-read_byte.ensures.count in
    let before = c.loop-turn.invariant.given in
    let len : length (line ++ b ∷ []) ≡ length line + 1 = length-append line (b ∷ []) in
    let is = c.loop-turn.invariant.len in
    rw grown record {
      len = omega (arith, len, is);
      few = omega (arith, len, room);
      no_end = has_lf-other b line other ∙ c.loop-turn.invariant.no_end;
      consumed = Consumes-trans (g.I.Source.rest c.args.input.now) (g.I.Source.rest c.loop-turn.input)
          (g.I.Source.rest c.read_byte.new.input) line (b ∷ []) c.loop-turn.invariant.consumed given;
      faults = search rules;
      given = omega (arith, count, before);
    }

pub unreachable-requires : goal.unreachable-requires
unreachable-requires g c =
    let is = c.loop-turn.invariant.len in
    let few = c.loop-turn.invariant.few in
    let over = c.loop-turn-test.false in
    absurd (omega (arith, is, few, over))
