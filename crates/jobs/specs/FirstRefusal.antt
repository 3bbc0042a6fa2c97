-- Which failure is told: the first that is due.
use Rattle.std.specs.Prelude.{◌≡◌, ◌≢◌, ◌≤◌, ◌<◌, ◌^◌, ◌+◌, ◌⊎◌, ℕ, List, [], ◌∷◌, ◌++◌}
use Rattle.std.specs.Prelude.{None, Option, Some, false, true}
use Rattle.cond_lang.specs.Asking.{IsDueQuestion}
use Rattle.cond_lang.specs.After.{IsDueAlone, IsDueAfter, IsDueQuestionAfter}
use Rattle.cond_lang.specs.Faults.{IsDue}
use Rattle.cond_lang.specs.Form.{Form}
use Rattle.conditions.specs.declared.error.CondError.{CondError}
use Rattle.conditions.specs.declared.error.CondError.TheVariants.{Memory as no_memory}
use Rattle.boards.specs.declared.cause.Cause.TheVariants.{Memory, Output}
use Rattle.requests.specs.PredealtHands.{first_refused}
use Rattle.boards.specs.declared.plan.PlanError.TheVariants.{Range, Workers, Capacity, Boards}
use Rattle.boards.specs.declared.plan.PlanError.TheVariants.{FirstBoard}
use Rattle.jobs.specs.Counting.{Asks, IsAsked, IsQuestion}
use Rattle.jobs.specs.Makings.{CanDate, CanLabel, HasCondition, HasLabels, HasNumbers}
use Rattle.requests.specs.Defaults.{candidates_of, first_board_of}
use Rattle.jobs.specs.Makings.{IsPlanned, MayBeGiven, TextMeans}
use Rattle.requests.specs.Defaults.{lane_of, workers_in}
use Rattle.requests.specs.Requests.{Look, Questions, Search, Wish, count, draw}
use Rattle.requests.specs.Requests.{lessons}
use Rattle.requests.specs.Requests.{each_question, make, no_question, no_search, numbers_look, one_question}
use Rattle.requests.specs.Requests.{pick, plain_search, show, two_questions}
use Rattle.jobs.specs.declared.failure.Failure.{Failure}
use Rattle.jobs.specs.declared.failure.Failure.TheVariants.{Plan, Label, Hand}
use Rattle.jobs.specs.declared.failure.Failure.TheVariants.{Cells, Condition, Definitions}
use Rattle.jobs.specs.declared.failure.Failure.TheVariants.{Question}
use Rattle.jobs.specs.declared.failure.Failure.TheVariants.{Interrupted, Line, Record, Input}
use Rattle.jobs.specs.declared.failure.Failure.TheVariants.{EndOfInput}
use Rattle.requests.specs.declared.names.LabelName.TheVariants.{Event, Site, Date}
use Rattle.requests.specs.declared.names.QuestionName.{QuestionName}
use Rattle.requests.specs.declared.names.QuestionName.TheVariants.{Of, By}
use Rattle.statistics.specs.Counting.{TitledQuestion, Subject, cells_of}

-- what a plan has to meet, by the refusal that says that it doesn't
abbrev pub Meets : Search → Look → Failure → Type 0
Meets s l (Plan Range) = s.first + candidates_of s ≤ 2 ^ 40
Meets s l (Plan Workers) = (0 < workers_in s.workers) × (workers_in s.workers ≤ 16)
Meets s l (Plan Capacity) = (0 < lane_of s) × (lane_of s ≤ 4096)
Meets s l (Plan Boards) = s.boards ≡ Some 0 → ⊥
Meets s l (Plan FirstBoard) = (0 < first_board_of l) × (first_board_of l ≤ 2 ^ 40)
Meets s l (Label Event) = CanLabel l.format l.event
Meets s l (Label Site) = CanLabel l.format l.site
Meets s l (Label Date) = CanDate l.date
Meets s l _ = Unit {0}

-- the order of these refusals
abbrev pub of_numbers : List Failure
of_numbers =
    Plan Range ∷ Plan Workers ∷ Plan Capacity ∷ Plan Boards ∷ Plan FirstBoard ∷ []

abbrev pub of_labels : List Failure
of_labels = Label Event ∷ Label Site ∷ Label Date ∷ []

-- the first of these refusals that is due
abbrev pub IsFirstOf : List Failure → Search → Look → Failure → Type 0
IsFirstOf [] s l failure = ⊥
IsFirstOf (refusal ∷ rest) s l failure =
    ((failure ≡ refusal) × (Meets s l refusal → ⊥))
    ⊎ (Meets s l refusal × IsFirstOf rest s l failure)

-- the given definitions are refused so, and not because memory ran out
pub record AreDue (given : Option (List ℕ)) (error : CondError) : Type 0 where
  pub text : List ℕ
  pub is_given : given ≡ Some text
  pub due : IsDueAlone text error
  pub refused : error ≢ no_memory

-- a refusal of a text is due after the definitions, where some are given
abbrev pub IsDueRead : (definitions : Option (List ℕ)) → List ℕ → CondError → Type 0
IsDueRead None text error = IsDue text error
IsDueRead (Some definitions) text error = IsDueAfter definitions text error

-- a text is refused so, and not because memory ran out
pub record IsTextDue (definitions given : Option (List ℕ)) (error : CondError) : Type 0 where
  pub text : List ℕ
  pub is_given : given ≡ Some text
  pub due : IsDueRead definitions text error
  pub refused : error ≢ no_memory

-- the condition is refused so: the text of the lesson, or else that of the condition
abbrev pub IsConditionDue : Search → CondError → Type 0
IsConditionDue s error =
    IsTextDue None s.lesson error
    ⊎ (((form : Form) × TextMeans None s.lesson form) × IsTextDue s.let_text s.where_text error)

-- the hand that is refused is the first of them
abbrev pub IsFirstHand : Search → Failure → Type 0
IsFirstHand s (Hand seat) = first_refused s.hands ≡ Some seat
IsFirstHand s _ = ⊥

-- why there is no plan: a refusal of its numbers or its labels, the first; else that of a hand
abbrev pub IsPlanDue : Search → Look → Failure → Type 0
IsPlanDue s l (Plan error) = IsFirstOf (of_numbers ++ of_labels) s l (Plan error)
IsPlanDue s l (Label label) = IsFirstOf (of_numbers ++ of_labels) s l (Label label)
IsPlanDue s l (Hand seat) = HasNumbers s l × HasLabels l × IsFirstHand s (Hand seat)
IsPlanDue s l _ = ⊥

-- why a `make` or a `find` fails: it has no plan; else its definitions are refused; else its
-- condition is, or memory ran out; else how its run was interrupted
abbrev pub IsMakeDue : Search → Look → Failure → Type 0
IsMakeDue s l (Definitions error) = IsPlanned s l × AreDue s.let_text error
IsMakeDue s l (Condition error) = IsPlanned s l × MayBeGiven s.let_text × IsConditionDue s error
IsMakeDue s l (Interrupted Memory) = IsPlanned s l
IsMakeDue s l (Interrupted cause) = IsPlanned s l × HasCondition s
IsMakeDue s l failure = IsPlanDue s l failure

-- a refusal of a question's text is due after the definitions, where some are given
abbrev pub IsDueAsked : (definitions : Option (List ℕ)) → List ℕ → CondError → Type 0
IsDueAsked None text error = IsDueQuestion text error
IsDueAsked (Some definitions) text error = IsDueQuestionAfter definitions text error

-- a question's text is refused so, and not because memory ran out
pub record IsQuestionDue (definitions : Option (List ℕ)) (text : List ℕ) (error : CondError)
    : Type 0 where
  pub due : IsDueAsked definitions text error
  pub refused : error ≢ no_memory

-- the first of the texts that is refused is refused so: those before it are questions
abbrev pub IsFirstDue : (definitions : Option (List ℕ)) → List (List ℕ) → CondError → Type 0
IsFirstDue definitions [] error = ⊥
IsFirstDue definitions (text ∷ texts) error =
    IsQuestionDue definitions text error
    ⊎ (((asked : TitledQuestion) × IsQuestion definitions text asked)
    × IsFirstDue definitions texts error)

-- the text of `of` is refused so; or it is a question, and that of `by` is refused
abbrev pub IsOfDue : (definitions : Option (List ℕ)) → Questions → CondError → Type 0
IsOfDue definitions no_question error = ⊥
IsOfDue definitions (one_question text) error = IsQuestionDue definitions text error
IsOfDue definitions (two_questions rows columns) error = IsQuestionDue definitions rows error
IsOfDue definitions (each_question texts) error = IsFirstDue definitions texts error

abbrev pub IsByDue : (definitions : Option (List ℕ)) → Questions → CondError → Type 0
IsByDue definitions (two_questions rows columns) error =
    ((asked : TitledQuestion) × IsQuestion definitions rows asked)
    × IsQuestionDue definitions columns error
IsByDue definitions questions error = ⊥

-- the question that makes a table too large is the last
abbrev pub last_of : Questions → QuestionName
last_of (two_questions rows columns) = By
last_of questions = Of

-- why questions are refused: the text of one, or else the size of their table
abbrev pub AreRefused : (definitions : Option (List ℕ)) → Questions → Failure → Type 0
AreRefused definitions questions (Question Of error) = IsOfDue definitions questions error
AreRefused definitions questions (Question By error) = IsByDue definitions questions error
AreRefused definitions questions (Cells name) =
    (name ≡ last_of questions)
    × ((subject : Subject) × Asks definitions questions subject × (2 ^ 20 < cells_of subject))
AreRefused definitions questions failure = ⊥

-- why a `count` fails: it has no plan, or its condition is refused, as a `find`; else its questions
-- are refused, or memory ran out; else how its run was interrupted
abbrev pub IsCountDue : Search → Questions → Failure → Type 0
IsCountDue s questions (Question name error) =
    IsPlanned s numbers_look × HasCondition s
    × AreRefused s.let_text questions (Question name error)
IsCountDue s questions (Cells name) =
    IsPlanned s numbers_look × HasCondition s × AreRefused s.let_text questions (Cells name)
IsCountDue s questions (Interrupted Memory) = IsPlanned s numbers_look
IsCountDue s questions (Interrupted cause) =
    IsPlanned s numbers_look × HasCondition s
    × ((subject : Subject) × IsAsked s.let_text questions subject)
IsCountDue s questions failure = IsMakeDue s numbers_look failure

-- why a `pick` fails: it has no plan; else memory ran out, the output, a line of the input, or the
-- input
abbrev pub IsPickDue : Search → Look → Failure → Type 0
IsPickDue s l (Interrupted Memory) = IsPlanned s l
IsPickDue s l (Interrupted Output) = IsPlanned s l
IsPickDue s l (Line line) = IsPlanned s l
IsPickDue s l Input = IsPlanned s l
IsPickDue s l failure = IsPlanDue s l failure

-- why a `show` fails: a label is refused, the first; else memory ran out, the output, a line of the
-- input, or the input
abbrev pub IsShowDue : Look → Failure → Type 0
IsShowDue l (Label label) = IsFirstOf of_labels (plain_search 0) l (Label label)
IsShowDue l (Interrupted Memory) = HasLabels l
IsShowDue l (Interrupted Output) = HasLabels l
IsShowDue l (Record line) = HasLabels l
IsShowDue l Input = HasLabels l
IsShowDue l _ = ⊥

-- why a `make` with tricks fails: as without; else a line of the input is refused, or the input
-- failed
abbrev pub IsTricksDue : Search → Look → Failure → Type 0
IsTricksDue s l (Line line) = IsPlanned s l × HasCondition s
IsTricksDue s l Input = IsPlanned s l × HasCondition s
IsTricksDue s l failure = IsMakeDue s l failure

-- why no seed is drawn
abbrev pub IsDrawDue : Failure → Type 0
IsDrawDue (Interrupted Output) = Unit {0}
IsDrawDue Input = Unit {0}
IsDrawDue EndOfInput = Unit {0}
IsDrawDue _ = ⊥

-- why a text isn't written: the output failed
abbrev pub IsOutputDue : Failure → Type 0
IsOutputDue (Interrupted Output) = Unit {0}
IsOutputDue _ = ⊥

-- the text of lessons is made first
abbrev pub IsLessonsDue : Failure → Type 0
IsLessonsDue (Interrupted Memory) = Unit {0}
IsLessonsDue failure = IsOutputDue failure

-- why a wish fails
abbrev pub IsDueFor : Wish → Failure → Type 0
IsDueFor (make s l false notices) failure = IsMakeDue s l failure
IsDueFor (make s l true notices) failure = IsTricksDue s l failure
IsDueFor draw failure = IsDrawDue failure
IsDueFor (count s questions style notices) failure = IsCountDue s questions failure
IsDueFor (pick seed hands l tricks hints) failure = IsPickDue (no_search seed hands) l failure
IsDueFor (show l hints) failure = IsShowDue l failure
IsDueFor (lessons l) failure = IsLessonsDue failure
IsDueFor _ failure = IsOutputDue failure
