use Rattle.std.proofs.Common.{◌≡◌, ◌-◌, true}
use Rattle.std.specs.List.{list_all, range_with_len}
use Rattle.conditions.specs.Form.{form_of}
use Rattle.screens.specs.Splits.{is_hopeless, told}
use Rattle.screens.proofs.unmet.facts.Facts.+is_hopeless.Given as goal

abbrev pub decreases-is_hopeless : goal.decreases-is_hopeless
decreases-is_hopeless l = l.untold

abbrev pub invariant-loop-number : goal.invariant-loop-number
invariant-loop-number l =
    list_all (λ n. is_hopeless (form_of l.tree) l.more (l.least - n) (l.most - n) (told l.more n (l.most - n) l.self))
    (range_with_len l.start (l.number - l.start)) ≡ true
