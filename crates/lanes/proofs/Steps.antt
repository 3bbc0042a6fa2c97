-- The core keeps what it promises in every step.
use Rattle.std.proofs.Common.{◌≡◌, ℕ, ◌+◌, ◌*◌, ◌%◌, ◌==◌, ◌<◌, ◌≤◌, ◌⊎◌, ◌||◌, Bool, true, false, cond, List, []}
use Rattle.std.proofs.Common.{◌∷◌, length, get_or, set, refl, sym, ◌∙◌, ap, subst, arith, inl, inr}
use Rattle.std.proofs.lemmas.Bool.{cases_eq, cases_Bool, and_parts, and_from, not-true, not_from_false, ltb-true}
use Rattle.std.proofs.lemmas.Bool.{lt-ltb, eqb-true, cond-true, cond-false, both_ways, true≢false, cases_lt}
use Rattle.std.proofs.lemmas.Bool.{not-false, false_from_ne_true}
use Rattle.std.proofs.lemmas.List.{get_or-set_same, get_or-set_other, length-set, get_or-replicate, length-replicate}
use Rattle.std.proofs.lemmas.List.Sums.{count_by-le-length}
use Rattle.lanes.specs.declared.model.event.Event.{Event}
use Rattle.lanes.specs.declared.model.event.Event.TheVariants.{Send, Take, Close, Stop}
use Rattle.lanes.specs.Verdicts.{turns}
use Rattle.lanes.specs.Machine.{Machine, new_machine, sent_of, taken_of, is_closed, held, share_of, next_lane}
use Rattle.lanes.specs.Machine.{is_allowed, changed, after, changes_made, does_change, changes_in}
use Rattle.lanes.specs.Sound.{HasLanes, IsLaneSound, IsSound}
use Rattle.lanes.proofs.Places.{turns-none, turns_less}
use Rattle.lanes.proofs.Sums.{sum-set_more, count-set_true, sum-within_turns, turns-here, turns-elsewhere}

-- what the rest of the promise follows from
pub record Kept (m : Machine) : Type 0 where
  pub shape : HasLanes m
  pub lanes : (w : ℕ) → w < m.workers → IsLaneSound m w

-- what it means that an event is allowed
pub record MaySend (m : Machine) (v : ℕ) : Type 0 where
  pub worker : v < m.workers
  pub unclosed : is_closed m v ≡ false
  pub room : sent_of m v < taken_of m v + m.capacity
  pub owed : sent_of m v < share_of m v

pub may_send : (m : Machine) (v : ℕ) → is_allowed m (Send v) ≡ true → MaySend m v
may_send m v h =
    let a = and_parts _ _ h in
    let b = and_parts _ _ a.1 in
    let c = and_parts _ _ b.1 in
    let room : held m v < m.capacity = ltb-true _ _ c.0 in
    record { worker = ltb-true _ _ a.0; unclosed = not-true _ b.0; room = omega arith; owed = ltb-true _ _ c.1 }

pub record MayTake (m : Machine) : Type 0 where
  pub running : m.stopped ≡ false
  pub some : taken_of m (next_lane m) < sent_of m (next_lane m)

pub may_take : (m : Machine) → is_allowed m Take ≡ true → MayTake m
may_take m h =
    let a = and_parts _ _ h in
    let some : 0 < held m (next_lane m) = ltb-true _ _ a.1 in
    record { running = not-true _ a.0; some = omega arith }

pub record MayClose (m : Machine) (v : ℕ) : Type 0 where
  pub worker : v < m.workers
  pub unclosed : is_closed m v ≡ false
  pub whole : (m.stopped ≡ true) ⊎ (sent_of m v ≡ share_of m v)

whole_or_stopped : (b : Bool) (s n : ℕ) → (b || (s == n)) ≡ true → (b ≡ true) ⊎ (s ≡ n)
whole_or_stopped true s n h = inl refl
whole_or_stopped false s n h = inr (eqb-true s n h)

pub may_close : (m : Machine) (v : ℕ) → is_allowed m (Close v) ≡ true → MayClose m v
may_close m v h =
    let a = and_parts _ _ h in
    let b = and_parts _ _ a.1 in
    record { worker = ltb-true _ _ a.0; unclosed = not-true _ b.0; whole = whole_or_stopped m.stopped _ _ b.1 }

lane_after_send : (m : Machine) (v w : ℕ) → HasLanes m → MaySend m v → w < m.workers → IsLaneSound m w → IsLaneSound (changed m (Send v)) w
lane_after_send m v w shape may lt old =
    let new : ℕ = sent_of m v + 1 in
    let short : v < length m.sent = omega (arith, may.worker, shape.sent) in
    elim (cases_eq w v) [
      | inl e ↦
          let here : sent_of (changed m (Send v)) w ≡ sent_of m w + 1 = ap (λ k. get_or (set m.sent v new) k 0) e
          ∙ get_or-set_same m.sent v new 0 short ∙ ap (λ k. sent_of m k + 1) (sym e) in
          let mine : MaySend m w = subst (λ (k : ℕ). MaySend m k) (sym e) may in
          record {
            in_turn = old.in_turn;
            sent_before = omega (arith, here, old.sent_before);
            in_share = omega (arith, here, mine.owed);
            in_capacity = omega (arith, here, mine.room);
            closed_whole = λ closed running. absurd (both_ways _ mine.unclosed closed);
          }
      | inr ne ↦
          let here : sent_of (changed m (Send v)) w ≡ sent_of m w = get_or-set_other m.sent v w new 0 ne in
          record {
            in_turn = old.in_turn;
            sent_before = omega (arith, here, old.sent_before);
            in_share = omega (arith, here, old.in_share);
            in_capacity = omega (arith, here, old.in_capacity);
            closed_whole = λ closed running. here ∙ old.closed_whole closed running;
          }
    ]

lane_after_take : (m : Machine) (w : ℕ) → HasLanes m → MayTake m → w < m.workers → IsLaneSound m w → IsLaneSound (changed m Take) w
lane_after_take m w shape may lt old =
    let v : ℕ = next_lane m in
    let new : ℕ = taken_of m v + 1 in
    let rem : m.turn % m.workers < m.workers = omega (arith, shape.some) in
    let short : v < length m.taken = omega (arith, rem, shape.taken) in
    elim (cases_eq w v) [
      | inl e ↦
          let here : taken_of (changed m Take) w ≡ taken_of m w + 1 = ap (λ k. get_or (set m.taken v new) k 0) e
          ∙ get_or-set_same m.taken v new 0 short ∙ ap (λ k. taken_of m k + 1) (sym e) in
          let some : taken_of m w < sent_of m w = subst (λ (k : ℕ). taken_of m k < sent_of m k) (sym e) may.some in
          record {
            in_turn = here ∙ ap (λ t. t + 1) old.in_turn ∙ sym (turns-here m.workers w m.turn e);
            sent_before = omega (arith, here, some);
            in_share = old.in_share;
            in_capacity = omega (arith, here, old.in_capacity);
            closed_whole = old.closed_whole;
          }
      | inr ne ↦
          let here : taken_of (changed m Take) w ≡ taken_of m w = get_or-set_other m.taken v w new 0 ne in
          record {
            in_turn = here ∙ old.in_turn ∙ sym (turns-elsewhere m.workers w m.turn ne);
            sent_before = omega (arith, here, old.sent_before);
            in_share = old.in_share;
            in_capacity = omega (arith, here, old.in_capacity);
            closed_whole = old.closed_whole;
          }
    ]

closed_is_whole : (m : Machine) (w : ℕ) → MayClose m w → m.stopped ≡ false → sent_of m w ≡ share_of m w
closed_is_whole m w may running = elim (may.whole) [ inl stopped ↦ absurd (both_ways _ running stopped) | inr whole ↦ whole ]

lane_after_close : (m : Machine) (v w : ℕ) → HasLanes m → MayClose m v → w < m.workers → IsLaneSound m w → IsLaneSound (changed m (Close v)) w
lane_after_close m v w shape may lt old =
    elim (cases_eq w v) [
      | inl e ↦
          let mine : MayClose m w = subst (λ (k : ℕ). MayClose m k) (sym e) may in
          record {
            in_turn = old.in_turn;
            sent_before = old.sent_before;
            in_share = old.in_share;
            in_capacity = old.in_capacity;
            closed_whole = λ closed running. closed_is_whole m w mine running;
          }
      | inr ne ↦
          let here : is_closed (changed m (Close v)) w ≡ is_closed m w = get_or-set_other m.closed v w true false ne in
          record {
            in_turn = old.in_turn;
            sent_before = old.sent_before;
            in_share = old.in_share;
            in_capacity = old.in_capacity;
            closed_whole = λ closed running. old.closed_whole (sym here ∙ closed) running;
          }
    ]

lane_after_stop : (m : Machine) (w : ℕ) → IsLaneSound m w → IsLaneSound (changed m Stop) w
lane_after_stop m w old = record {
  in_turn = old.in_turn;
  sent_before = old.sent_before;
  in_share = old.in_share;
  in_capacity = old.in_capacity;
  closed_whole = λ closed running. absurd (true≢false running);
}

pub kept_changed : (m : Machine) (e : Event) → is_allowed m e ≡ true → Kept m → Kept (changed m e)
kept_changed m (Send v) allowed kept =
    let s = kept.shape in
    let may = may_send m v allowed in record {
      shape = record { some = s.some; sent = simp length-set s.sent; taken = s.taken; closed = s.closed };
      lanes = λ w lt. lane_after_send m v w s may lt (kept.lanes w lt);
    }
kept_changed m Take allowed kept =
    let s = kept.shape in
    let may = may_take m allowed in record {
      shape = record { some = s.some; sent = s.sent; taken = simp length-set s.taken; closed = s.closed };
      lanes = λ w lt. lane_after_take m w s may lt (kept.lanes w lt);
    }
kept_changed m (Close v) allowed kept =
    let s = kept.shape in
    let may = may_close m v allowed in record {
      shape = record { some = s.some; sent = s.sent; taken = s.taken; closed = simp length-set s.closed };
      lanes = λ w lt. lane_after_close m v w s may lt (kept.lanes w lt);
    }
kept_changed m Stop allowed kept =
    let s = kept.shape in record {
      shape = record { some = s.some; sent = s.sent; taken = s.taken; closed = s.closed };
      lanes = λ w lt. lane_after_stop m w (kept.lanes w lt);
    }

pub bounded : (m : Machine) → Kept m → changes_made m ≤ 2 * m.count + m.workers + 1
bounded m kept =
    let s = kept.shape in
    let sent = sum-within_turns m.workers m.count m.sent s.some s.sent (λ w lt. (kept.lanes w lt).in_share) in
    let taken = sum-within_turns m.workers m.count m.taken s.some s.taken
    (λ w lt. let l = kept.lanes w lt in omega (arith, l.in_share, l.sent_before)) in
    let closed = count_by-le-length (λ (c : Bool). c) m.closed in
    let flag : cond m.stopped 1 0 ≤ 1 = grind arith in
    omega (arith, sent, taken, closed, s.closed, flag)

-- short of its end and not stopped: where the lane whose turn it is holds nothing, its worker still owes an item
owes : (m : Machine) → Kept m → 1 ≤ m.capacity → m.turn < m.count → m.stopped ≡ false
    → sent_of m (next_lane m) ≤ taken_of m (next_lane m) → is_allowed m (Send (next_lane m)) ≡ true
owes m kept room short running none =
    let v : ℕ = next_lane m in
    let rem : m.turn % m.workers < m.workers = omega (arith, kept.shape.some) in
    let lane = kept.lanes v rem in
    let less : turns m.workers v m.turn < turns m.workers v m.count = turns_less m.workers v m.turn m.count rem refl short in
    let owed : sent_of m v < share_of m v = omega (arith, less, lane.in_turn, none) in
    let held_none : held m v < m.capacity = omega arith in
    let unclosed : is_closed m v ≡ false = false_from_ne_true (is_closed m v) (λ c. let whole = lane.closed_whole c running in omega arith) in
    and_from _ _ (lt-ltb _ _ rem) (and_from _ _ (not_from_false _ unclosed) (and_from _ _ (lt-ltb _ _ held_none) (lt-ltb _ _ owed)))

pub goes_on : (m : Machine) → Kept m → 1 ≤ m.capacity → m.turn < m.count → m.stopped ≡ false
    → (is_allowed m Take ≡ true) ⊎ (is_allowed m (Send (next_lane m)) ≡ true)
goes_on m kept room short running =
    let v : ℕ = next_lane m in
    elim (cases_lt (taken_of m v) (sent_of m v)) [
      | inl some ↦ let holds : 0 < held m v = omega arith in inl (and_from _ _ (not_from_false _ running) (lt-ltb _ _ holds))
      | inr none ↦ inr (owes m kept room short running none)
    ]

pub sound : (m : Machine) → Kept m → 1 ≤ m.capacity → IsSound m
sound m kept room = record { shape = kept.shape; lanes = kept.lanes; not_stuck = goes_on m kept room; bounded = bounded m kept }

pub kept_from : (m : Machine) → IsSound m → Kept m
kept_from m h = record { shape = h.shape; lanes = h.lanes }

pub sound_changed : (m : Machine) (e : Event) → is_allowed m e ≡ true → 1 ≤ m.capacity → IsSound m → IsSound (changed m e)
sound_changed m (Send v) allowed room h = sound _ (kept_changed m (Send v) allowed (kept_from m h)) room
sound_changed m Take allowed room h = sound _ (kept_changed m Take allowed (kept_from m h)) room
sound_changed m (Close v) allowed room h = sound _ (kept_changed m (Close v) allowed (kept_from m h)) room
sound_changed m Stop allowed room h = sound _ (kept_changed m Stop allowed (kept_from m h)) room

pub after_allowed : (m : Machine) (e : Event) → is_allowed m e ≡ true → changed m e ≡ after m e
after_allowed m e h = sym (cond-true (is_allowed m e) (changed m e) m h)

pub after_refused : (m : Machine) (e : Event) → is_allowed m e ≡ false → m ≡ after m e
after_refused m e h = sym (cond-false (is_allowed m e) (changed m e) m h)

pub sound_after : (m : Machine) (e : Event) → 1 ≤ m.capacity → IsSound m → IsSound (after m e)
sound_after m e room h =
    elim (cases_Bool (is_allowed m e)) [
      | inl allowed ↦ subst IsSound (after_allowed m e allowed) (sound_changed m e allowed room h)
      | inr refused ↦ subst IsSound (after_refused m e refused) h
    ]

pub kept_after : (m : Machine) (e : Event) → Kept m → Kept (after m e)
kept_after m e h =
    elim (cases_Bool (is_allowed m e)) [
      | inl allowed ↦ subst Kept (after_allowed m e allowed) (kept_changed m e allowed h)
      | inr refused ↦ subst Kept (after_refused m e refused) h
    ]

-- what changes something adds one to what was changed
more_changed : (m : Machine) (e : Event) → Kept m → does_change m e ≡ true
    → (is_allowed m e ≡ true) × (changes_made (changed m e) ≡ changes_made m + 1)
more_changed m (Send v) kept does =
    let may = may_send m v does in
    (does, omega (arith, sum-set_more m.sent v (omega (arith, may.worker, kept.shape.sent))))
more_changed m Take kept does =
    let rem : m.turn % m.workers < m.workers = omega (arith, kept.shape.some) in
    (does, omega (arith, sum-set_more m.taken (next_lane m) (omega (arith, rem, kept.shape.taken))))
more_changed m (Close v) kept does =
    let may = may_close m v does in
    (does, omega (arith, count-set_true m.closed v (omega (arith, may.worker, kept.shape.closed)) may.unclosed))
more_changed m Stop kept does =
    let weight : Bool → ℕ = λ b. cond b 1 0 in
    let none : weight m.stopped ≡ 0 = ap weight (not-true _ does) in (refl, omega (arith, none))

pub one_more_change : (m : Machine) (e : Event) → Kept m → does_change m e ≡ true → changes_made (after m e) ≡ changes_made m + 1
one_more_change m e kept does =
    let more = more_changed m e kept does in ap changes_made (sym (after_allowed m e more.0)) ∙ more.1

same_flag : (m : Machine) → m.stopped ≡ true → changed m Stop ≡ m
same_flag m h = ap (λ (b : Bool). record m { stopped = b }) (sym h)

pub no_change : (m : Machine) (e : Event) → does_change m e ≡ false → after m e ≡ m
no_change m (Send v) h = sym (after_refused m (Send v) h)
no_change m Take h = sym (after_refused m Take h)
no_change m (Close v) h = sym (after_refused m (Close v) h)
no_change m Stop h = same_flag m (not-false _ h)

same_count : (m : Machine) (e : Event) → ((changed m e).count ≡ m.count) × ((changed m e).workers ≡ m.workers)
same_count m (Send v) = (refl, refl)
same_count m x = (refl, refl)

pub after_count : (m : Machine) (e : Event) → ((after m e).count ≡ m.count) × ((after m e).workers ≡ m.workers)
after_count m e =
    elim (cases_Bool (is_allowed m e)) [
      | inl allowed ↦ subst (λ (n : Machine). (n.count ≡ m.count) × (n.workers ≡ m.workers)) (after_allowed m e allowed) (same_count m e)
      | inr refused ↦ subst (λ (n : Machine). (n.count ≡ m.count) × (n.workers ≡ m.workers)) (after_refused m e refused) (refl, refl)
    ]

-- the changes of a list of events, on top of those that were made
pub all_changes : (events : List Event) (m : Machine) → Kept m → changes_made m + changes_in m events ≤ 2 * m.count + m.workers + 1
all_changes [] m kept = omega (arith, bounded m kept)
all_changes (e ∷ events) m kept =
    let rest = all_changes events (after m e) (kept_after m e kept) in
    let same = after_count m e in
    let weight : Bool → ℕ = λ b. cond b 1 0 in
    elim (cases_Bool (does_change m e)) [
      | inl does ↦ let one : weight (does_change m e) ≡ 1 = ap weight does in omega (arith, rest, same.0, same.1, one, one_more_change m e kept does)
      | inr not_so ↦ let none : weight (does_change m e) ≡ 0 = ap weight not_so in
          omega (arith, rest, same.0, same.1, none, ap changes_made (no_change m e not_so))
    ]

lane_new : (count W capacity w : ℕ) → w < W → IsLaneSound (new_machine count W capacity) w
lane_new count W capacity w lt =
    let none : sent_of (new_machine count W capacity) w ≡ 0 = get_or-replicate {A = ℕ} W w 0 0 lt in
    let same : taken_of (new_machine count W capacity) w ≡ 0 = none in
    let unclosed : is_closed (new_machine count W capacity) w ≡ false = get_or-replicate W w false false lt in
    record {
      in_turn = none ∙ sym (turns-none W w);
      sent_before = omega arith;
      in_share = omega arith;
      in_capacity = omega arith;
      closed_whole = λ closed running. absurd (both_ways _ unclosed closed);
    }

pub kept_new : (count W capacity : ℕ) → 1 ≤ W → Kept (new_machine count W capacity)
kept_new count W capacity some = record {
  shape = record { some = some; sent = length-replicate W 0; taken = length-replicate W 0; closed = length-replicate W false };
  lanes = λ w lt. lane_new count W capacity w lt;
}
