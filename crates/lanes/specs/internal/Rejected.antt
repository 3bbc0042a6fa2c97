-- A rejected candidate's verdict, taken out of a block.
use Rattle.std.specs.Prelude.{◌≡◌, List, ◌∷◌, false}
use Rattle.lanes.specs.Slots.{SlotView, verdict_in}

-- the first of these verdicts was a rejected candidate's, and the others are left
pub record FirstIsRejected (old new : List SlotView) : Type 0 where
  pub first : SlotView
  pub rejected : (verdict_in first).accepted ≡ false
  pub rest : old ≡ first ∷ new
