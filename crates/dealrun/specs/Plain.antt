-- A plan as `Plan::new` makes it, which fixes no card and sets nothing in place of Law 2: what it
-- writes and what its workers owe, by the one sequence of candidates and by Law 2 alone.
use Rattle.std.specs.Prelude.{ℕ, ◌≡◌, ◌+◌, List, ◌++◌}
use Rattle.std.specs.List.{enumerate_from, flat_map}
use Rattle.boards.specs.Settings.{by_law}
use Rattle.cards.specs.Candidates.{candidate}
use Rattle.cards.specs.Fixed.{none_fixed}
use Rattle.conditions.specs.Form.{Form}
use Rattle.pbn_text.specs.Games.{game, header}
use Rattle.boards.specs.Plans.{Planned}
use Rattle.boards.specs.Text.{accepted_by}

pub record IsPlain (plan : Planned) : Type 0 where
  pub fixed_are : plan.fixed ≡ none_fixed
  pub setting_is : plan.setting ≡ by_law

-- the numbers of the accepted candidates of the one sequence, within the limit
abbrev pub plain_accepted : Planned → Form → List ℕ
plain_accepted plan = accepted_by (candidate plan.seed) plan

-- the header, and the games of their deals in order, boards from the plan's first on
abbrev pub plain_text : Planned → Form → List ℕ
plain_text plan form =
    header
    ++ flat_map (λ p. game (plan.first_board + p.0) plan.heading (candidate plan.seed p.1))
    (enumerate_from 0 (plain_accepted plan form))
