-- The fields of a core before and after an event.
use Rattle.std.proofs.Common.{◌≡◌, ℕ, ◌+◌, ◌*◌, ◌%◌, ◌<◌, ◌≤◌, true, false, List, get_or, set, take, replicate, sym, ◌∙◌, ap, subst, arith}
use Rattle.std.proofs.lemmas.List.{get_or-take, take-replicate}
use Rattle.std.proofs.Math.Seq.{take-set-lt}
use Rattle.std.proofs.Math.Nat.{mul-le-mul_right}
use Rattle.lanes.specs.declared.model.machine.Core.TheInside.{Inside}
use Rattle.lanes.specs.declared.model.event.Event.{Event}
use Rattle.lanes.specs.declared.model.event.Event.TheVariants.{Send, Take, Close}
use Rattle.lanes.specs.Verdicts.{turns}
use Rattle.lanes.specs.Machine.{Machine, next_lane, is_allowed, changed, after, new_machine}
use Rattle.lanes.specs.Sound.{IsSound}
use Rattle.lanes.specs.internal.Cores.{machine_of, IsCore}
use Rattle.lanes.proofs.Places.{bounds}
use Rattle.lanes.proofs.Steps.{sound_changed, after_allowed, may_take}

one_counter : (xs : List ℕ) (n v : ℕ) → v < n → take n (set xs v (get_or xs v 0 + 1)) ≡ set (take n xs) v (get_or (take n xs) v 0 + 1)
one_counter xs n v lt = take-set-lt n xs v (get_or xs v 0 + 1) lt ∙ ap (λ k. set (take n xs) v (k + 1)) (sym (get_or-take n xs v 0 lt))

pub send_fields : (c : Inside) (v : ℕ) → v < c.workers
    → machine_of (record c { sent = set c.sent v (get_or c.sent v 0 + 1) }) ≡ changed (machine_of c) (Send v)
send_fields c v lt = ap (λ xs. record (machine_of c) { sent = xs }) (one_counter c.sent c.workers v lt)

pub take_fields : (c : Inside) (v : ℕ) → v < c.workers → v ≡ next_lane (machine_of c)
    → machine_of (record c { taken = set c.taken v (get_or c.taken v 0 + 1); turn = c.turn + 1 }) ≡ changed
    (machine_of c) Take
take_fields c v lt is =
    let m = machine_of c in
    ap (λ xs. record m { taken = xs; turn = m.turn + 1 }) (one_counter c.taken c.workers v lt)
    ∙ ap (λ k. record m { taken = set m.taken k (get_or m.taken k 0 + 1); turn = m.turn + 1 }) is

pub close_fields : (c : Inside) (v : ℕ) → v < c.workers → machine_of (record c { closed = set c.closed v true }) ≡ changed (machine_of c) (Close v)
close_fields c v lt = ap (λ xs. record (machine_of c) { closed = xs }) (take-set-lt c.workers c.closed v true lt)

-- of fields after an event: what the type keeps, and what the contract says
pub keeps : (c d : Inside) (e : Event) → IsCore c → is_allowed (machine_of c) e ≡ true
    → machine_of d ≡ changed (machine_of c) e → d.count ≡ c.count → d.workers ≡ c.workers → d.capacity ≡ c.capacity
    → IsCore d
keeps c d e h allowed is count workers capacity = record {
  few = omega (arith, h.few, count);
  lanes = omega (arith, h.lanes, workers);
  room = omega (arith, h.room, capacity);
  sound = subst IsSound (sym is) (sound_changed (machine_of c) e allowed h.room h.sound);
}

pub tells : (c d : Inside) (m : Machine) (e : Event) → machine_of c ≡ m → is_allowed m e ≡ true
    → machine_of d ≡ changed (machine_of c) e → machine_of d ≡ after m e
tells c d m e view allowed is = is ∙ ap (λ n. changed n e) view ∙ after_allowed m e allowed

-- an item that is taken is one of the candidates
pub turn_below : (m : Machine) → IsSound m → is_allowed m Take ≡ true → m.turn < m.count
turn_below m h allowed =
    let v : ℕ = next_lane m in
    let W = m.workers in
    let rem : m.turn % m.workers < m.workers = omega (arith, h.shape.some) in
    let lane = h.lanes v rem in
    let less : turns W v m.turn < turns W v m.count = omega (arith, lane.in_turn, lane.in_share, (may_take m allowed).some) in
    let here = bounds W v m.turn rem in
    let there = bounds W v m.count rem in
    let step : (turns W v m.turn + 1) * W ≤ turns W v m.count * W = mul-le-mul_right W (omega arith) in
    grind arith

-- an event that the contract's machine allows is allowed of the fields
pub allows : (c : Inside) (m : Machine) (e : Event) → machine_of c ≡ m → is_allowed m e ≡ true → is_allowed (machine_of c) e ≡ true
allows c m e view allowed = subst (λ (n : Machine). is_allowed n e ≡ true) (sym view) allowed

-- a core of which nothing was sent yet
pub new_fields : (count W capacity : ℕ) → W ≤ 16
    → machine_of (record {
      count = count;
      workers = W;
      capacity = capacity;
      sent = replicate 16 0;
      taken =
          replicate 16 0;
      closed = replicate 16 false;
      stopped = false;
      turn = 0;
    }) ≡ new_machine count W capacity
new_fields count W capacity few =
    let m = new_machine count W capacity in
    let zeros : take W (replicate 16 0) ≡ replicate {A = ℕ} W 0 = take-replicate W 16 0 few in
    let falses : take W (replicate 16 false) ≡ replicate W false = take-replicate W 16 false few in
    ap (λ xs. record m { sent = xs; taken = xs; closed = take W (replicate 16 false) }) zeros ∙ ap (λ xs. record m { closed = xs }) falses
