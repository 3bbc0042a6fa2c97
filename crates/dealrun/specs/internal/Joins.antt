-- What is known of the lanes once their workers were joined, lane by lane: item k of a list is said
-- of with any default, as `slice_index_or lanes k e`, where k is within the list.
use Rattle.std.specs.Prelude.{◌≡◌, ◌<◌, ℕ, true, false, List, map, slice_index_or}
use Rattle.std.specs.Prelude.{Option, Some, None, MatchOption}
use Rattle.std.specs.List.{range_with_len}
use Rattle.lanes.specs.declared.verdict.Verdict.{Verdict}
use Rattle.lanes.specs.Views.{OutView}
use Rattle.lanes.specs.declared.worker.WorkEnd.{WorkEnd}
use Rattle.lanes.specs.declared.worker.WorkEnd.TheVariants.{Done, Stopped, Unclosed}
use Rattle.lanes.specs.Prefixes.{IsPrefix, IsProperPrefix}
use Rattle.conditions.specs.Form.{Form}
use Rattle.boards.specs.Plans.{Planned}
use Rattle.lanes.specs.Jobs.{verdicts_for}
use Rattle.dealrun.specs.Headline.{contents_of}

-- the lane of a worker that owed the verdicts `all`, before and after the worker was joined
abbrev pub JoinsAs : List Verdict → OutView → OutView → WorkEnd → Type 0
JoinsAs all old new (Done closed) = (new.settled ≡ true) × (contents_of new ≡ all)
JoinsAs all old new (Stopped closed) = (new.settled ≡ true) × IsProperPrefix (contents_of new) all
JoinsAs all old new Unclosed = new ≡ old

-- P holds of each of the first n lanes and its worker's verdicts
abbrev pub Below : (List Verdict → OutView → Type 0)
    → ℕ → List (List Verdict) → List OutView → Type 0
Below P n lists lanes = (k : ℕ) (d : List Verdict) (e : OutView) → k < n
    → P (slice_index_or lists k d) (slice_index_or lanes k e)

abbrev pub PartIfSettled : List Verdict → OutView → Type 0
PartIfSettled all l = l.settled ≡ true → IsPrefix (contents_of l) all

abbrev pub WholeIfSettled : List Verdict → OutView → Type 0
WholeIfSettled all l = l.settled ≡ true → contents_of l ≡ all

abbrev pub IsSettled : List Verdict → OutView → Type 0
IsSettled all l = l.settled ≡ true

-- lane k is settled, and holds less than its worker owed
abbrev pub BeginningAt : ℕ → List (List Verdict) → List OutView → Type 0
BeginningAt k lists lanes = (d : List Verdict) (e : OutView)
    → ((slice_index_or lanes k e).settled ≡ true)
    × IsProperPrefix (contents_of (slice_index_or lanes k e)) (slice_index_or lists k d)

abbrev pub UnsettledAt : ℕ → List OutView → Type 0
UnsettledAt k lanes = (e : OutView) → (slice_index_or lanes k e).settled ≡ false

-- the first n workers were joined, and these are the least that was stopped and the least that was
-- not closed
pub record JoinedAs (n : ℕ) (lists : List (List Verdict)) (lanes : List OutView)
    (stopped unclosed : Option ℕ) : Type 0 where
  pub parts : Below PartIfSettled n lists lanes
  pub stopped_is : MatchOption stopped (Below WholeIfSettled n lists lanes)
      (λ s. (s < n) × Below WholeIfSettled s lists lanes × BeginningAt s lists lanes)
  pub unclosed_is : MatchOption unclosed (Below IsSettled n lists lanes)
      (λ u. (u < n) × Below IsSettled u lists lanes × UnsettledAt u lanes)

-- these two once worker w ended so: the first such worker stays
abbrev pub stopped_after : WorkEnd → ℕ → Option ℕ → Option ℕ
stopped_after how w (Some s) = Some s
stopped_after (Stopped closed) w None = Some w
stopped_after how w None = None

abbrev pub unclosed_after : WorkEnd → ℕ → Option ℕ → Option ℕ
unclosed_after how w (Some u) = Some u
unclosed_after Unclosed w None = Some w
unclosed_after how w None = None

-- these lists are what the workers of the plan owe
abbrev pub Owes : Planned → Form → List (List Verdict) → Type 0
Owes plan form lists = lists ≡ map (verdicts_for plan form) (range_with_len 0 plan.workers)

-- P holds of each lane, at its worker's number
abbrev pub ByNumber : Planned → List OutView → (ℕ → OutView → Type 0) → Type 0
ByNumber plan lanes P = (w : ℕ) (e : OutView) → w < plan.workers → P w (slice_index_or lanes w e)

-- every lane is settled, and holds all of its worker's verdicts
abbrev pub AllWhole : Planned → Form → List OutView → Type 0
AllWhole plan form lanes = ByNumber plan lanes
    (λ w l. (l.settled ≡ true) × (contents_of l ≡ verdicts_for plan form w))

-- or the first of them
abbrev pub AllParts : Planned → Form → List OutView → Type 0
AllParts plan form lanes = ByNumber plan lanes
    (λ w l. (l.settled ≡ true) × IsPrefix (contents_of l) (verdicts_for plan form w))
