use Rattle.std.proofs.Common.{◌<◌, length, arith}
use Rattle.cond_lang.proofs.Scanned.{none_named, named_next, names_then}
use Rattle.cond_lang.proofs.scanner.names_of.Goals as goal

pub loop-rest-init : goal.loop-rest-init
loop-rest-init c = rw c.none-names.ensures (record { told = none_named c.args.text.now; few = omega arith })

pub loop-rest-preserved : goal.loop-rest-preserved
loop-rest-preserved c =
    let some : 0 < length c.loop-rest.rest.now = omega arith in
    let first = c.first_piece-piece.result in
    let names = names_then c.loop-rest.names c.named.new.self c.loop-rest.rest.now c.split_at.result.0.now first
    c.split_at.ensures.front c.named.ensures.after in
    record {
      told = rw (c.split_at.ensures.back, names) (named_next c.args.text.now c.loop-rest.names c.loop-rest.rest.now
          first c.loop-rest.invariant.told some c.first_piece-piece.ensures.value);
      few = omega (arith, c.split_at.ensures.back_len, c.named.ensures.few, c.loop-rest.invariant.few, c.first_piece-piece.ensures.some);
    }
