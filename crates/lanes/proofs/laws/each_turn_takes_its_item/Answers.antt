use Rattle.std.proofs.Common.{◌≡◌, ℕ, ◌/◌, ◌%◌, subst}
use Rattle.lanes.specs.Machine.{new_machine, taken_of}
use Rattle.lanes.specs.Runs.{after_all, item_of}
use Rattle.lanes.proofs.Steps.{kept_new}
use Rattle.lanes.proofs.Runs.{kept_all, same_run, in_turn, item_in_turn}
use Rattle.lanes.proofs.laws.each_turn_takes_its_item.Goals as goal

pub returns : goal.returns
returns c count workers capacity events some =
    let new = new_machine count workers capacity in
    let m = after_all new events in
    let kept = kept_all events new (kept_new count workers capacity some) in
    subst (λ (k : ℕ). (taken_of m (m.turn % k) ≡ m.turn / k)
    × (item_of k (m.turn % k) (taken_of m (m.turn % k)) ≡ m.turn)) (same_run events new).workers
    (in_turn m kept, item_in_turn m kept)
