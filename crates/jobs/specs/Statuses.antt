-- What has to be accepted of a wish, and what a status says of it.
use Rattle.std.specs.Prelude.{◌≡◌, ◌⊎◌, ℕ, [], ◌∷◌, Contains, true}
use Rattle.jobs.specs.Counting.{IsAsked}
use Rattle.jobs.specs.Makings.{HasCondition, HasLabels, IsPlanned}
use Rattle.requests.specs.Requests.{Wish, count, draw, make, no_search, numbers_look, pick}
use Rattle.requests.specs.Requests.{show}
use Rattle.statistics.specs.Counting.{Subject}

-- what a wish has
pub record Parts : Type 1 where
  -- its words are accepted, so far as they are neither a condition nor a question
  pub plan : Type 0
  -- its definitions, condition and questions are accepted
  pub meaning : Type 0
  -- it is served by threads
  pub run : Type 0
  -- it reads the input
  pub input : Type 0
  -- it may end because the input has too few bytes
  pub bytes : Type 0

-- a wish without a plan, a condition, threads or input: a text is written
abbrev pub text_alone : Parts
text_alone = record { plan = Unit {0}; meaning = Unit {0}; run = ⊥; input = ⊥; bytes = ⊥ }

abbrev pub parts_of : Wish → Parts
parts_of (make s l tricks notices) = record {
  plan = IsPlanned s l;
  meaning = HasCondition s;
  run = Unit {0};
  input = tricks ≡ true;
  bytes = tricks ≡ true;
}
parts_of (count s questions style notices) = record text_alone {
  plan = IsPlanned s numbers_look;
  meaning = HasCondition s × ((subject : Subject) × IsAsked s.let_text questions subject);
  run = Unit {0};
}
parts_of (pick seed hands l tricks hints) = record text_alone {
  plan = IsPlanned (no_search seed hands) l;
  input = Unit {0};
}
parts_of (show l hints) = record text_alone { plan = HasLabels l; input = Unit {0} }
parts_of draw = record text_alone { input = Unit {0}; bytes = Unit {0} }
parts_of _ = text_alone

-- a status of the program, and of that with an input
abbrev pub IsStatus : ℕ → Type 0
IsStatus n = Contains (0 ∷ 2 ∷ 3 ∷ 4 ∷ 5 ∷ 6 ∷ []) n

abbrev pub IsStatusWithInput : ℕ → Type 0
IsStatusWithInput n = Contains (0 ∷ 2 ∷ 3 ∷ 4 ∷ 5 ∷ 6 ∷ 7 ∷ []) n

-- what the program's status says of a wish; that memory ran out, 5, can end each
pub record IsStatusOf (w : Wish) (status : ℕ) : Type 0 where
  -- done, or the output, a thread, a worker or the input failed: all of the wish was accepted
  pub accepted : (status ≡ 0) ⊎ (status ≡ 4) ⊎ (status ≡ 6) ⊎ (status ≡ 7)
      → (parts_of w).plan × (parts_of w).meaning
  -- the plan, a label or a hand is refused
  pub unplanned : status ≡ 2 → (parts_of w).plan → ⊥
  -- definitions, the condition or a question are refused, and the plan is sound
  pub meaningless : status ≡ 3 → (parts_of w).plan × ((parts_of w).meaning → ⊥)
  -- only a run over lanes has threads and workers
  pub threads : status ≡ 6 → (parts_of w).run
  -- only what reads the input can have a line refused
  pub input : status ≡ 7 → (parts_of w).input
