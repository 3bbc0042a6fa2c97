-- What holds after a list of events.
use Rattle.std.proofs.Common.{◌≡◌, ℕ, suc, ◌+◌, ◌*◌, ◌/◌, ◌%◌, ◌==◌, ◌&&◌, ◌<◌, ◌≤◌, ◌⊎◌, true, false, List, [], ◌∷◌}
use Rattle.std.proofs.Common.{◌++◌, get_or, set, map, refl, sym, ◌∙◌, ap, subst, arith, inl, inr}
use Rattle.std.specs.List.{range_with_len}
use Rattle.std.proofs.lemmas.Grind.{common_steps}
use Rattle.std.proofs.lemmas.Bool.{cases_eq, cases_Bool, and_parts, and_from, eqb-true, eq-eqb, cond-true, cond-false, both_ways, false_from_ne_true}
use Rattle.std.proofs.lemmas.List.{get_or-set_same, get_or-set_other}
use Rattle.lanes.specs.declared.model.event.Event.{Event}
use Rattle.lanes.specs.declared.model.event.Event.TheVariants.{Send, Take, Close, Stop}
use Rattle.lanes.specs.Verdicts.{turns}
use Rattle.lanes.specs.Machine.{Machine, sent_of, taken_of, is_closed, next_lane, is_allowed, changed, after}
use Rattle.lanes.specs.Sound.{IsSound}
use Rattle.lanes.specs.Runs.{after_all, item_of, sent_in, taken_in, items_sent, items_taken}
use Rattle.lanes.proofs.Places.{bounds, same_place, count_even}
use Rattle.lanes.proofs.Steps.{Kept, kept_after, sound, after_allowed, after_refused, may_send, may_close}

-- the numbers of the run stay
pub record SameRun (m n : Machine) : Type 0 where
  pub count : n.count ≡ m.count
  pub workers : n.workers ≡ m.workers
  pub capacity : n.capacity ≡ m.capacity

same_changed : (m : Machine) (e : Event) → SameRun m (changed m e)
same_changed m (Send v) = record { count = refl; workers = refl; capacity = refl }
same_changed m x = record { count = refl; workers = refl; capacity = refl }

same_after : (m : Machine) (e : Event) → SameRun m (after m e)
same_after m e =
    elim (cases_Bool (is_allowed m e)) [
      | inl allowed ↦ subst (SameRun m) (after_allowed m e allowed) (same_changed m e)
      | inr refused ↦ subst (SameRun m) (after_refused m e refused) (record { count = refl; workers = refl; capacity = refl })
    ]

pub same_run : (events : List Event) (m : Machine) → SameRun m (after_all m events)
same_run [] m = record { count = refl; workers = refl; capacity = refl }
same_run (e ∷ events) m =
    let one = same_after m e in
    let rest = same_run events (after m e) in
    record { count = rest.count ∙ one.count; workers = rest.workers ∙ one.workers; capacity = rest.capacity ∙ one.capacity }

pub kept_all : (events : List Event) (m : Machine) → Kept m → Kept (after_all m events)
kept_all [] m kept = kept
kept_all (e ∷ events) m kept = kept_all events (after m e) (kept_after m e kept)

pub sound_all : (events : List Event) (m : Machine) → Kept m → 1 ≤ m.capacity → IsSound (after_all m events)
sound_all events m kept room = sound (after_all m events) (kept_all events m kept) (omega (arith, (same_run events m).capacity))

-- the item of turn i is candidate i, the i / W-th one of its lane
pub in_turn : (m : Machine) → Kept m → taken_of m (next_lane m) ≡ m.turn / m.workers
in_turn m kept =
    let rem : m.turn % m.workers < m.workers = omega (arith, kept.shape.some) in
    (kept.lanes (next_lane m) rem).in_turn ∙ count_even m.workers (next_lane m) m.turn rem (omega arith)

pub item_in_turn : (m : Machine) → Kept m → item_of m.workers (next_lane m) (taken_of m (next_lane m)) ≡ m.turn
item_in_turn m kept =
    let v : ℕ = next_lane m in
    let rem : m.turn % m.workers < m.workers = omega (arith, kept.shape.some) in
    ap (λ t. v + t * m.workers) (kept.lanes v rem).in_turn
    ∙ sym (same_place m.workers v m.turn (turns m.workers v m.turn) rem (bounds m.workers v m.turn rem) refl)

-- one event takes the item whose turn it is, or none
TakesNext : Machine → Event → Type 0
TakesNext m e = ((taken_in m e ≡ m.turn ∷ []) × ((after m e).turn ≡ m.turn + 1)) ⊎ ((taken_in m e ≡ []) × ((after m e).turn ≡ m.turn))

no_turn : (m : Machine) (e : Event) → (changed m e).turn ≡ m.turn → (after m e).turn ≡ m.turn
no_turn m e h =
    elim (cases_Bool (is_allowed m e)) [
      | inl allowed ↦ ap (λ (n : Machine). n.turn) (sym (after_allowed m e allowed)) ∙ h
      | inr refused ↦ ap (λ (n : Machine). n.turn) (sym (after_refused m e refused))
    ]

takes_next : (m : Machine) (e : Event) → Kept m → TakesNext m e
unfolding TakesNext
takes_next m (Send v) kept = inr (refl, no_turn m (Send v) refl)
takes_next m Take kept =
    let item : ℕ = item_of m.workers (next_lane m) (taken_of m (next_lane m)) in
    elim (cases_Bool (is_allowed m Take)) [
      | inl allowed ↦ inl (
        cond-true (is_allowed m Take) (item ∷ []) [] allowed
            ∙ ap (λ k. k ∷ []) (item_in_turn m kept),
        ap (λ (n : Machine). n.turn) (sym (after_allowed m Take allowed)),
      )
      | inr refused ↦ inr (cond-false (is_allowed m Take) (item ∷ []) [] refused, ap (λ (n : Machine). n.turn) (sym (after_refused m Take refused)))
    ]
takes_next m (Close v) kept = inr (refl, no_turn m (Close v) refl)
takes_next m Stop kept = inr (refl, refl)

-- a list of items that goes on, from item `from`, to item `to`
pub record GoesOn (from to : ℕ) (items : List ℕ) : Type 0 where
  pub more : ℕ
  pub to_is : to ≡ from + more
  pub items_are : items ≡ range_with_len from more

pub takes_in_order : (events : List Event) (m : Machine) → Kept m → GoesOn m.turn (after_all m events).turn (items_taken m events)
unfolding TakesNext
takes_in_order [] m kept = record { more = 0; to_is = omega arith; items_are = refl }
takes_in_order (e ∷ events) m kept =
    let n = after m e in
    let rest = takes_in_order events n (kept_after m e kept) in
    elim (takes_next m e kept) [
      | inl takes ↦ record {
        more = suc rest.more;
        to_is = omega (arith, rest.to_is, takes.1);
        items_are = ap (λ xs. xs ++ items_taken n events) takes.0
            ∙ ap (λ xs. m.turn ∷ xs) (rest.items_are ∙ ap (λ t. range_with_len t rest.more) takes.1);
      }
      | inr none ↦ record {
        more = rest.more;
        to_is = rest.to_is ∙ ap (λ t. t + rest.more) none.1;
        items_are = ap (λ xs. xs ++ items_taken n events) none.0 ∙ rest.items_are ∙ ap (λ t. range_with_len t rest.more) none.1;
      }
    ]

pub taken_from_new : (events : List Event) (m : Machine) → Kept m → m.turn ≡ 0 → items_taken m events ≡ range_with_len 0 (after_all m events).turn
taken_from_new events m kept none =
    let all = takes_in_order events m kept in
    let so : all.more ≡ (after_all m events).turn = omega (arith, all.to_is, none) in
    all.items_are ∙ ap (λ t. range_with_len t all.more) none ∙ ap (range_with_len 0) so

-- one event sends the next item of worker w, or none of them
SendsNext : ℕ → Machine → Event → Type 0
SendsNext w m e = ((sent_in w m e ≡ item_of m.workers w (sent_of m w) ∷ [])
    × (sent_of (after m e) w ≡ sent_of m w + 1)) ⊎ ((sent_in w m e ≡ []) × (sent_of (after m e) w ≡ sent_of m w))

none_sent : (w : ℕ) (m : Machine) (e : Event) → sent_of (changed m e) w ≡ sent_of m w → sent_of (after m e) w ≡ sent_of m w
none_sent w m e h =
    elim (cases_Bool (is_allowed m e)) [
      | inl allowed ↦ ap (λ n. sent_of n w) (sym (after_allowed m e allowed)) ∙ h
      | inr refused ↦ ap (λ n. sent_of n w) (sym (after_refused m e refused))
    ]

sends_own : (w v : ℕ) (m : Machine) → Kept m → w < m.workers → is_allowed m (Send v) ≡ true → v ≡ w → SendsNext w m (Send v)
unfolding SendsNext
sends_own w v m kept lt allowed is =
    let new : ℕ = sent_of m v + 1 in
    let item : ℕ = item_of m.workers w (sent_of m w) in
    let here : sent_of (changed m (Send v)) w ≡ sent_of m w + 1 = ap (λ k. get_or (set m.sent v new) k 0) (sym is)
    ∙ get_or-set_same m.sent v new 0 (omega (arith, kept.shape.sent)) ∙ ap (λ k. sent_of m k + 1) is in
    inl (
      cond-true (is_allowed m (Send v) && (v == w)) (item ∷ []) [] (and_from _ _ allowed (eq-eqb v w is)),
      ap (λ n. sent_of n w) (sym (after_allowed m (Send v) allowed)) ∙ here,
    )

sends_none : (w v : ℕ) (m : Machine) → (is_allowed m (Send v) && (v == w)) ≡ false
    → sent_of (after m (Send v)) w ≡ sent_of m w → SendsNext w m (Send v)
unfolding SendsNext
sends_none w v m not_so same =
    let item : ℕ = item_of m.workers w (sent_of m w) in
    inr (cond-false (is_allowed m (Send v) && (v == w)) (item ∷ []) [] not_so, same)

sends_next : (w : ℕ) (m : Machine) (e : Event) → Kept m → w < m.workers → SendsNext w m e
unfolding SendsNext
sends_next w m (Send v) kept lt =
    elim (cases_Bool (is_allowed m (Send v))) [
      | inl allowed ↦ elim (cases_eq v w) [
        | inl is ↦ sends_own w v m kept lt allowed is
        | inr ne ↦ sends_none w v m (false_from_ne_true _ (λ h. ne (eqb-true v w (and_parts _ _ h).1)))
            (none_sent w m (Send v) (get_or-set_other m.sent v w (sent_of m v + 1) 0 (λ e. ne (sym e))))
      ]
      | inr refused ↦ sends_none w v m (false_from_ne_true _ (λ h. both_ways _ refused (and_parts _ _ h).0))
          (ap (λ n. sent_of n w) (sym (after_refused m (Send v) refused)))
    ]
sends_next w m Take kept lt = inr (refl, none_sent w m Take refl)
sends_next w m (Close v) kept lt = inr (refl, none_sent w m (Close v) refl)
sends_next w m Stop kept lt = inr (refl, refl)

-- the items of worker w, from its `from`-th on, to its `to`-th
pub record SendsOn (W w from to : ℕ) (items : List ℕ) : Type 0 where
  pub more : ℕ
  pub to_is : to ≡ from + more
  pub items_are : items ≡ map (item_of W w) (range_with_len from more)

pub sends_in_order : (w W : ℕ) (events : List Event) (m : Machine) → Kept m → m.workers ≡ W → w < W
    → SendsOn W w (sent_of m w) (sent_of (after_all m events) w) (items_sent w m events)
unfolding SendsNext
sends_in_order w W [] m kept is lt = record { more = 0; to_is = omega arith; items_are = refl }
sends_in_order w W (e ∷ events) m kept is lt =
    let n = after m e in
    let rest = sends_in_order w W events n (kept_after m e kept) ((same_after m e).workers ∙ is) lt in
    elim (sends_next w m e kept (omega arith)) [
      | inl sends ↦ record {
        more = suc rest.more;
        to_is = omega (arith, rest.to_is, sends.1);
        items_are =
            ap (λ xs. xs ++ items_sent w n events) sends.0
            ∙ ap (λ k. item_of k w (sent_of m w) ∷ items_sent w n events) is
            ∙ ap (λ xs. item_of W w (sent_of m w) ∷ xs) (rest.items_are ∙ ap (λ t. map (item_of W w) (range_with_len t rest.more)) sends.1);
      }
      | inr none ↦ record {
        more = rest.more;
        to_is = rest.to_is ∙ ap (λ t. t + rest.more) none.1;
        items_are = ap (λ xs. xs ++ items_sent w n events) none.0 ∙ rest.items_are ∙ ap (λ t. map (item_of W w) (range_with_len t rest.more)) none.1;
      }
    ]

pub sent_from_new : (w : ℕ) (events : List Event) (m : Machine) → Kept m → w < m.workers → sent_of m w ≡ 0
    → items_sent w m events ≡ map (item_of m.workers w) (range_with_len 0 (sent_of (after_all m events) w))
sent_from_new w events m kept lt none =
    let all = sends_in_order w m.workers events m kept refl lt in
    let so : all.more ≡ sent_of (after_all m events) w = omega (arith, all.to_is, none) in
    all.items_are ∙ ap (λ t. map (item_of m.workers w) (range_with_len t all.more)) none ∙ ap (λ k. map (item_of m.workers w) (range_with_len 0 k)) so

-- a closed lane stays closed
closed_changed : (m : Machine) (e : Event) (w : ℕ) → is_closed m w ≡ true → is_closed (changed m e) w ≡ true
closed_changed m (Close v) w h = grind (arith, common_steps)
closed_changed m x w h = h

closed_after : (m : Machine) (e : Event) (w : ℕ) → is_closed m w ≡ true → is_closed (after m e) w ≡ true
closed_after m e w h =
    elim (cases_Bool (is_allowed m e)) [
      | inl allowed ↦ ap (λ n. is_closed n w) (sym (after_allowed m e allowed)) ∙ closed_changed m e w h
      | inr refused ↦ ap (λ n. is_closed n w) (sym (after_refused m e refused)) ∙ h
    ]

pub closed_all : (events : List Event) (m : Machine) (w : ℕ) → is_closed m w ≡ true → is_closed (after_all m events) w ≡ true
closed_all [] m w h = h
closed_all (e ∷ events) m w h = closed_all events (after m e) w (closed_after m e w h)

pub closed_by : (m : Machine) (w : ℕ) → Kept m → is_allowed m (Close w) ≡ true → is_closed (after m (Close w)) w ≡ true
closed_by m w kept allowed =
    let may = may_close m w allowed in
    ap (λ n. is_closed n w) (sym (after_allowed m (Close w) allowed))
    ∙ get_or-set_same m.closed w true false (omega (arith, may.worker, kept.shape.closed))

pub closed_refuses : (m : Machine) (w : ℕ) → is_closed m w ≡ true → is_allowed m (Send w) ≡ false
closed_refuses m w closed = false_from_ne_true _ (λ h. both_ways _ (may_send m w h).unclosed closed)
