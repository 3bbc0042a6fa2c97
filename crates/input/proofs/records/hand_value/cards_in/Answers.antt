use Rattle.std.proofs.Common.{◌≡◌, arith, refl}
use Rattle.input.specs.internal.Hands.{how_many}
use Rattle.input.proofs.HandSums.{summed_byte, summed_none}
use Rattle.input.proofs.HowMany.{no_card}
use Rattle.input.proofs.records.hand_value.cards_in.Goals as goal

pub loop-byte-init : goal.loop-byte-init
loop-byte-init c = record { place = omega arith; read = summed_none c.args.text.now }

pub loop-byte-preserved : goal.loop-byte-preserved
loop-byte-preserved c = record {
  place = omega (arith, c.loop-byte.invariant.place, c.move_after-place.ensures.range);
  read = summed_byte c.args.text.now c.loop-byte.byte-index c.loop-byte.place c.loop-byte.cards _ c.bit_in.result
      c.move_after-place.result c.loop-byte-test.true refl c.bit_in.ensures c.move_after-place.ensures.value
      c.loop-byte.invariant.read;
}

pub returns-else-place-clause-most : goal.returns-else-place-clause-most
returns-else-place-clause-most c = rw no_card (omega arith)

pub returns-else-place-clause-hand : goal.returns-else-place-clause-hand
returns-else-place-clause-hand c whole = absurd (let none : how_many 0 ≡ 13 = whole in omega (arith, none, no_card))
