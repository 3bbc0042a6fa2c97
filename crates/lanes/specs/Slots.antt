-- What contracts see of a verdict as a lane keeps it: of a rejected candidate only what it is dealt
-- from.
use Rattle.std.specs.Prelude.{ℕ, List, map}
use Rattle.cards.specs.Packed.{PackedView, deal_in, flag_in}
use Rattle.lanes.specs.declared.verdict.Verdict.{Verdict}

-- the candidate's number, and its deal with whether it is accepted, or what it is dealt from
pub record SlotView : Type 0 where
  pub number : ℕ
  pub kept : PackedView

-- the verdict that is kept so
abbrev pub verdict_in : SlotView → Verdict
verdict_in slot = record {
  number = slot.number;
  accepted = flag_in slot.kept;
  deal = deal_in slot.kept slot.number;
}

abbrev pub verdicts_in : List SlotView → List Verdict
verdicts_in slots = map verdict_in slots
