use Rattle.std.proofs.Common.{◌≡◌, ℕ, ◌%◌, ◌⊎◌, true, subst, arith}
use Rattle.lanes.specs.declared.model.event.Event.TheVariants.{Send, Take}
use Rattle.lanes.specs.Machine.{new_machine, is_allowed}
use Rattle.lanes.specs.Runs.{after_all}
use Rattle.lanes.proofs.Steps.{kept_new}
use Rattle.lanes.proofs.Runs.{sound_all, same_run}
use Rattle.lanes.proofs.laws.no_run_is_stuck.Goals as goal

pub returns : goal.returns
returns c count workers capacity events some room short running =
    let m = after_all (new_machine count workers capacity) events in
    let same = same_run events (new_machine count workers capacity) in
    let goes = (sound_all events (new_machine count workers capacity) (kept_new count workers capacity some)
    room).not_stuck (omega (arith, same.count)) running in
    subst (λ (k : ℕ). (is_allowed m Take ≡ true) ⊎ (is_allowed m (Send (m.turn % k)) ≡ true)) same.workers goes
