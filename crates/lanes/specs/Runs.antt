-- What a list of events does to the core, one event after another, and which items go through its
-- lanes.
use Rattle.std.specs.Prelude.{ℕ, ◌≡◌, ◌+◌, ◌*◌, ◌&&◌, ◌==◌, ◌++◌, cond, List, [], ◌∷◌}
use Rattle.lanes.specs.declared.model.event.Event.{Event}
use Rattle.lanes.specs.declared.model.event.Event.TheVariants.{Send, Take, Close, Stop}
use Rattle.lanes.specs.Machine.{Machine, after, is_allowed, next_lane, sent_of, taken_of}

-- the candidates, the workers and the capacity stay
abbrev pub IsSameRun : Machine → Machine → Type 0
IsSameRun m n = (n.count ≡ m.count) × (n.workers ≡ m.workers) × (n.capacity ≡ m.capacity)

-- the core after all of these events
abbrev pub after_all : Machine → List Event → Machine
after_all m [] = m
after_all m (e ∷ es) = after_all (after m e) es

-- the candidate that worker w of W sends as its n-th item, from 0: each worker sends every W-th
-- candidate
abbrev pub item_of : ℕ → ℕ → ℕ → ℕ
item_of W w n = w + n * W

-- the items that worker w sends in one event: the one after those it sent
abbrev pub sent_in : ℕ → Machine → Event → List ℕ
sent_in w m (Send v) =
    cond (is_allowed m (Send v) && (v == w)) (item_of m.workers w (sent_of m w) ∷ []) []
sent_in w m Take = []
sent_in w m (Close v) = []
sent_in w m Stop = []

-- the items that the writer takes in one event: of the lane whose turn it is, the one after those
-- it took there
abbrev pub taken_in : Machine → Event → List ℕ
taken_in m (Send v) = []
taken_in m Take =
    cond (is_allowed m Take) (item_of m.workers (next_lane m) (taken_of m (next_lane m)) ∷ []) []
taken_in m (Close v) = []
taken_in m Stop = []

-- the items that worker w sends in all of these events, in order
abbrev pub items_sent : ℕ → Machine → List Event → List ℕ
items_sent w m [] = []
items_sent w m (e ∷ es) = sent_in w m e ++ items_sent w (after m e) es

-- the items that the writer takes in all of these events, in order
abbrev pub items_taken : Machine → List Event → List ℕ
items_taken m [] = []
items_taken m (e ∷ es) = taken_in m e ++ items_taken (after m e) es
