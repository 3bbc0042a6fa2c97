-- What contracts see of the sinks over memory.
use Rattle.std.specs.Prelude.{ℕ, ◌+◌, ◌-◌, ◌^◌, ◌==◌, Bool, List, if◌then◌else◌}

-- a sink over memory: what it took, and how many of its calls failed
pub record MemoryView : Type 0 where
  pub bytes : List ℕ
  pub faults : ℕ

-- a sink over memory that fails on demand: `writes` calls of `write` were made
pub record FuseView : Type 0 where
  pub memory : MemoryView
  pub fails_at : ℕ
  pub most : ℕ
  pub flush_ok : Bool
  pub writes : ℕ

-- one call more, up to the largest u64
abbrev pub counted : ℕ → ℕ
counted writes = if writes == 2 ^ 64 - 1 then writes else writes + 1
