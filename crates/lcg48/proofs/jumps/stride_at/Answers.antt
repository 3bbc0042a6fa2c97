use Rattle.std.proofs.Common.{◌∙◌, ◌*◌, ◌/◌, ◌%◌, ◌<◌, ◌^◌, arith, mod-eq_of_lt}
use Rattle.lcg48.specs.internal.Jumps.{unit_of}
use Rattle.lcg48.proofs.Digits.{small_length}
use Rattle.lcg48.proofs.jumps.stride_at.Goals as goal

pub returns : goal.returns
returns c =
    let small : c.args.index % 16 * unit_of (c.args.index / 16) < 2 ^ 64 = omega (arith, small_length c.args.index c.requires) in
    c.of.ensures.value ∙ mod-eq_of_lt small
