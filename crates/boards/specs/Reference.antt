-- What the reference run writes, and what it leaves if its sink fails.
use Rattle.std.specs.Prelude.{◌<◌, ◌≤◌, ℕ, ◌+◌, List, length, take, Option}
use Rattle.std.specs.Prelude.{MatchResult, Result}
use Rattle.boards.specs.Layouts.{Layout}
use Rattle.conditions.specs.Form.{Form}
use Rattle.sinks.specs.Appended.{AppendsAll, AppendsPart}
use Rattle.boards.specs.Plans.{Planned}
use Rattle.boards.specs.Text.{accepted, text_in, text_of}
use Rattle.boards.specs.declared.reference.PlainFault.{PlainFault}

-- the text was broken off: a proper prefix of it was appended, with this many whole boards
pub record BreaksOffIn (layout : Layout) (old new : Option (List ℕ)) (plan : Planned)
    (form : Form) (boards : ℕ) : Type 0 where
  pub part : AppendsPart old new (text_in layout plan form)
  pub few : boards ≤ length (accepted plan form)
  -- the last byte of the last whole board was written
  pub whole : 0 < boards
      → length (text_of layout plan (take boards (accepted plan form))) ≤ length part.front
  -- and that of the next board was not, if there is one
  pub broken : boards < length (accepted plan form)
      → length part.front < length (text_of layout plan (take (boards + 1) (accepted plan form)))

-- what the reference run writes: the whole text, or a part of it where its sink failed
abbrev pub WritesPlainIn : Layout → Planned → Form → Result ℕ PlainFault
    → Option (List ℕ) → Option (List ℕ) → Type 0
WritesPlainIn layout plan form r old new = MatchResult r
    (λ _. AppendsAll old new (text_in layout plan form))
    (λ e. BreaksOffIn layout old new plan form e.boards)
