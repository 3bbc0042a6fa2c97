-- The core of a run: a machine of four events over the counters of its lanes, one flag and the
-- turn. An event that is not allowed changes nothing. No thread, no ring and no waiting is in
-- it.
use Rattle.std.specs.Prelude.{ℕ, ◌+◌, ◌-◌, ◌%◌, ◌==◌, ◌&&◌, ◌||◌, Bool, true, false, not, cond}
use Rattle.std.specs.Prelude.{List, [], ◌∷◌, nat_lt, replicate, sum, count_by}
use Rattle.std.specs.Prelude.{slice_index, slice_index_or, slice_set}
use Rattle.lanes.specs.declared.model.event.Event.{Event}
use Rattle.lanes.specs.declared.model.event.Event.TheVariants.{Send, Take, Close, Stop}
use Rattle.lanes.specs.Verdicts.{turns}

-- sent, taken and closed have an entry for each lane
pub record Machine : Type 0 where
  pub count : ℕ
  pub workers : ℕ
  pub capacity : ℕ
  pub sent : List ℕ
  pub taken : List ℕ
  pub closed : List Bool
  pub stopped : Bool
  pub turn : ℕ

abbrev pub new_machine : ℕ → ℕ → ℕ → Machine
new_machine count workers capacity = record {
  count = count;
  workers = workers;
  capacity = capacity;
  sent = replicate workers 0;
  taken = replicate workers 0;
  closed = replicate workers false;
  stopped = false;
  turn = 0;
}

abbrev pub sent_of : Machine → ℕ → ℕ
sent_of m w = slice_index m.sent w

abbrev pub taken_of : Machine → ℕ → ℕ
taken_of m w = slice_index m.taken w

abbrev pub is_closed : Machine → ℕ → Bool
is_closed m w = slice_index_or m.closed w false

-- how many items lane w holds
abbrev pub held : Machine → ℕ → ℕ
held m w = sent_of m w - taken_of m w

-- how many items worker w owes
abbrev pub share_of : Machine → ℕ → ℕ
share_of m w = turns m.workers w m.count

-- the lane whose turn it is
abbrev pub next_lane : Machine → ℕ
next_lane m = m.turn % m.workers

abbrev pub is_allowed : Machine → Event → Bool
is_allowed m (Send w) =
    nat_lt w m.workers
    && (not (is_closed m w)
    && (nat_lt (held m w) m.capacity && nat_lt (sent_of m w) (share_of m w)))
is_allowed m Take = not m.stopped && nat_lt 0 (held m (next_lane m))
is_allowed m (Close w) =
    nat_lt w m.workers && (not (is_closed m w) && (m.stopped || (sent_of m w == share_of m w)))
is_allowed m Stop = true

-- what an allowed event changes
abbrev pub changed : Machine → Event → Machine
changed m (Send w) = record m { sent = slice_set m.sent w (sent_of m w + 1) }
changed m Take =
    record m {
      taken = slice_set m.taken (next_lane m) (taken_of m (next_lane m) + 1);
      turn = m.turn + 1;
    }
changed m (Close w) = record m { closed = slice_set m.closed w true }
changed m Stop = record m { stopped = true }

abbrev pub after : Machine → Event → Machine
after m e = cond (is_allowed m e) (changed m e) m

-- all sent, all taken, the closed lanes and the flag
abbrev pub changes_made : Machine → ℕ
changes_made m = sum m.sent + sum m.taken + count_by (λ c. c) m.closed + cond m.stopped 1 0

-- an event changes something if it is allowed and isn't a second Stop
abbrev pub does_change : Machine → Event → Bool
does_change m (Send w) = is_allowed m (Send w)
does_change m Take = is_allowed m Take
does_change m (Close w) = is_allowed m (Close w)
does_change m Stop = not m.stopped

-- how many of these events, one after another, change something
abbrev pub changes_in : Machine → List Event → ℕ
changes_in m [] = 0
changes_in m (e ∷ es) = cond (does_change m e) 1 0 + changes_in (after m e) es
