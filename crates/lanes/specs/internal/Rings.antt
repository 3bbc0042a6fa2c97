-- What the two ends of a lane keep: the ring of `rtrb` that an end is of, and what the writer has
-- taken of it.
use Rattle.std.specs.Prelude.{ℕ, ◌-◌, List, length, take}
use Rattle.rtrb.specs.declared.producer.Producer.{Producer}
use Rattle.rtrb.specs.declared.finished.Finished.{Finished}
use Rattle.rtrb.specs.declared.consumer.Consumer.{Consumer}
use Rattle.lanes.specs.Views.{Ring}

module _ {T A P : Type 0} where
  abbrev pub ring_of_producer : Producer T A P → Ring
  ring_of_producer p = record { words = p.end.words; slots = p.end.slots; names = p.end.names }

  abbrev pub ring_of_consumer : Consumer T A P → Ring
  ring_of_consumer c = record { words = c.end.words; slots = c.end.slots; names = c.end.names }

  abbrev pub ring_of_finished : Finished T A P → Ring
  ring_of_finished f = record { words = f.end.words; slots = f.end.slots; names = f.end.names }

-- the list without its last n items
abbrev pub without_last : {A : Type 0} → ℕ → List A → List A
without_last n xs = take (length xs - n) xs
