-- What the statuses say of a wish.
use Rattle.std.proofs.Common.{◌≡◌, ◌⊎◌, ℕ, refl, inl, inr, arith}
use Rattle.boards.specs.declared.cause.Cause.{Cause}
use Rattle.boards.specs.declared.cause.Cause.TheVariants as cause
use Rattle.jobs.specs.Failures.{status_of}
use Rattle.requests.specs.Requests.{Wish}
use Rattle.jobs.specs.Statuses.{IsStatusOf, parts_of}
use Rattle.jobs.specs.declared.failure.Failure.TheVariants.{Interrupted}

pub no_memory : (w : Wish) (s : ℕ) → s ≡ 5 → IsStatusOf w s
no_memory w s is = record {
  accepted = λ h. absurd (elim h [
    | inl a ↦ omega arith
    | inr (inl a) ↦ omega arith
    | inr (inr (inl a)) ↦ omega arith
    | inr (inr (inr a)) ↦ omega arith
  ]);
  unplanned = λ h. absurd (omega arith);
  meaningless = λ h. absurd (omega arith);
  threads = λ h. absurd (omega arith);
  input = λ h. absurd (omega arith);
}

pub refused_plan : (w : Wish) (s : ℕ) → s ≡ 2 → ((parts_of w).plan → ⊥) → IsStatusOf w s
refused_plan w s is not_so = record {
  accepted = λ h. absurd (elim h [
    | inl a ↦ omega arith
    | inr (inl a) ↦ omega arith
    | inr (inr (inl a)) ↦ omega arith
    | inr (inr (inr a)) ↦ omega arith
  ]);
  unplanned = λ h. not_so;
  meaningless = λ h. absurd (omega arith);
  threads = λ h. absurd (omega arith);
  input = λ h. absurd (omega arith);
}

pub refused_meaning : (w : Wish) (s : ℕ) → s ≡ 3 → (parts_of w).plan → ((parts_of w).meaning → ⊥) → IsStatusOf w s
refused_meaning w s is plan not_so = record {
  accepted = λ h. absurd (elim h [
    | inl a ↦ omega arith
    | inr (inl a) ↦ omega arith
    | inr (inr (inl a)) ↦ omega arith
    | inr (inr (inr a)) ↦ omega arith
  ]);
  unplanned = λ h. absurd (omega arith);
  meaningless = λ h. (plan, not_so);
  threads = λ h. absurd (omega arith);
  input = λ h. absurd (omega arith);
}

-- done, or the output failed
pub served : (w : Wish) (s : ℕ) → (s ≡ 0) ⊎ (s ≡ 4) → (parts_of w).plan → (parts_of w).meaning → IsStatusOf w s
served w s (inl is) plan meaning = record {
  accepted = λ h. (plan, meaning);
  unplanned = λ h. absurd (omega arith);
  meaningless = λ h. absurd (omega arith);
  threads = λ h. absurd (omega arith);
  input = λ h. absurd (omega arith);
}
served w s (inr is) plan meaning = record {
  accepted = λ h. (plan, meaning);
  unplanned = λ h. absurd (omega arith);
  meaningless = λ h. absurd (omega arith);
  threads = λ h. absurd (omega arith);
  input = λ h. absurd (omega arith);
}

failed_run : (w : Wish) (s : ℕ) → s ≡ 6 → (parts_of w).plan → (parts_of w).meaning → (parts_of w).run → IsStatusOf w s
failed_run w s is plan meaning run = record {
  accepted = λ h. (plan, meaning);
  unplanned = λ h. absurd (omega arith);
  meaningless = λ h. absurd (omega arith);
  threads = λ h. run;
  input = λ h. absurd (omega arith);
}

-- a run was interrupted
pub interrupted : (w : Wish) (c : Cause) → (parts_of w).plan → (parts_of w).meaning → (parts_of w).run → IsStatusOf w (status_of (Interrupted c))
interrupted w cause.Memory plan meaning run = no_memory w 5 refl
interrupted w cause.Output plan meaning run = served w 4 (inr refl) plan meaning
interrupted w x plan meaning run = failed_run w 6 refl plan meaning run

-- the input failed, or a line of it is refused
pub failed_input : (w : Wish) (s : ℕ) → s ≡ 7 → (parts_of w).plan → (parts_of w).meaning → (parts_of w).input → IsStatusOf w s
failed_input w s is plan meaning input = record {
  accepted = λ h. (plan, meaning);
  unplanned = λ h. absurd (omega arith);
  meaningless = λ h. absurd (omega arith);
  threads = λ h. absurd (omega arith);
  input = λ h. input;
}

-- each way to end
pub ruleset endings = (no_memory, refused_plan, refused_meaning, served, interrupted, failed_input)
