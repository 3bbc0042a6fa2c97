-- What holds of the core in every state that a list of events leads to.
use Rattle.std.specs.Prelude.{ℕ, ◌+◌, ◌*◌, ◌≡◌, ◌<◌, ◌≤◌, ◌⊎◌, true, false, length}
use Rattle.lanes.specs.declared.model.event.Event.TheVariants.{Send, Take}
use Rattle.lanes.specs.Verdicts.{turns}
use Rattle.lanes.specs.Machine.{Machine, sent_of, taken_of, is_closed, share_of, next_lane, is_allowed, changes_made}

-- there is a lane for each worker
pub record HasLanes (m : Machine) : Type 0 where
  pub some : 1 ≤ m.workers
  pub sent : length m.sent ≡ m.workers
  pub taken : length m.taken ≡ m.workers
  pub closed : length m.closed ≡ m.workers

-- what holds of lane w
pub record IsLaneSound (m : Machine) (w : ℕ) : Type 0 where
  -- the items are taken in turn: what was taken in all is the first `turn` candidates
  pub in_turn : taken_of m w ≡ turns m.workers w m.turn
  pub sent_before : taken_of m w ≤ sent_of m w
  pub in_share : sent_of m w ≤ share_of m w
  pub in_capacity : sent_of m w ≤ taken_of m w + m.capacity
  -- a lane is closed early only in a stopped run
  pub closed_whole : is_closed m w ≡ true → m.stopped ≡ false → sent_of m w ≡ share_of m w

pub record IsSound (m : Machine) : Type 0 where
  pub shape : HasLanes m
  pub lanes : (w : ℕ) → w < m.workers → IsLaneSound m w
  -- short of its end and not stopped, the run can go on in the lane whose turn it is
  pub not_stuck :
      m.turn < m.count → m.stopped ≡ false
      → (is_allowed m Take ≡ true) ⊎ (is_allowed m (Send (next_lane m)) ≡ true)
  pub bounded : changes_made m ≤ 2 * m.count + m.workers + 1
