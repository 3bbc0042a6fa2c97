-- What can be asked for.
use Rattle.std.specs.Prelude.{ℕ, Bool, List, Option, None, Some, false, option_map}
use Rattle.std.specs.Prelude.{[], ◌∷◌, map, option_to_list}
use Rattle.std.specs.List.{flat_map}
use Rattle.boards.specs.declared.setting.Vul.{Vul}
use Rattle.cards.specs.declared.seat.Seat.{Seat}
use Rattle.requests.specs.Lessons.{Lesson, lesson_of}
use Rattle.requests.specs.PredealtHands.{GivenHands, given_by, none_given}
use Rattle.boards.specs.declared.format.Format.{Format}
use Rattle.boards.specs.declared.format.Format.TheVariants.{Numbers, Pbn}
use Rattle.boards.specs.declared.show.Show.{Show}
use Rattle.boards.specs.Show.{all_shown}
use Rattle.requests.specs.declared.look.Look as given
use Rattle.requests.specs.declared.names.QuestionName.{QuestionName}
use Rattle.requests.specs.declared.names.QuestionName.TheVariants.{Of, By}
use Rattle.requests.specs.declared.request.Notices.{Notices}
use Rattle.requests.specs.declared.request.Request.{Request}
use Rattle.requests.specs.declared.questions.Questions.{Questions as GivenQuestions}
use Rattle.requests.specs.declared.questions.Questions.TheVariants as questions
use Rattle.requests.specs.declared.questions.Texts.{Texts}
use Rattle.requests.specs.declared.request.Request.TheVariants.{Conditions, Count, Find, Lessons, Make, Pick}
use Rattle.requests.specs.declared.request.Request.TheVariants.{Seed, Stream}
use Rattle.requests.specs.declared.request.Request.TheVariants as request
use Rattle.requests.specs.declared.search.Search as asked
use Rattle.requests.specs.declared.workers.Workers.{Workers}
use Rattle.requests.specs.declared.workers.Workers.TheVariants.{Number}
use Rattle.requests.specs.declared.when.When.{When}
use Rattle.requests.specs.declared.when.When.TheVariants.{Auto}
use Rattle.boards.specs.declared.style.TableStyle.{TableStyle}

-- which candidates are tried, and which of them are accepted: what options were given, or their
-- defaults. A field is named as its option is, and `let` and `where` as let_text and where_text,
-- since the bare words are the language's
pub record Search : Type 0 where
  pub seed : ℕ
  pub candidates : Option ℕ
  pub first : ℕ
  pub workers : Workers
  pub lane : Option ℕ
  -- the text of the lesson's condition
  pub lesson : Option (List ℕ)
  pub let_text : Option (List ℕ)
  pub where_text : Option (List ℕ)
  pub boards : Option ℕ
  -- the texts of the options north, east, south and west
  pub hands : GivenHands

-- how boards are numbered, dealt, labelled and written
pub record Look : Type 0 where
  pub format : Format
  pub show : Show
  pub first_board : Option ℕ
  pub event : Option (List ℕ)
  pub site : Option (List ℕ)
  pub date : Option (List ℕ)
  pub dealer : Option Seat
  pub vulnerable : Option Vul
  pub rotate : Bool

-- what is asked for where no option is given but the seed
abbrev pub plain_search : ℕ → Search
plain_search seed = record {
  seed = seed;
  candidates = None;
  first = 0;
  workers = Number 1;
  lane = None;
  lesson = None;
  let_text = None;
  where_text = None;
  boards = None;
  hands = none_given;
}

abbrev pub plain_look : Look
plain_look = record {
  format = Pbn;
  show = all_shown;
  first_board = None;
  event = None;
  site = None;
  date = None;
  dealer = None;
  vulnerable = None;
  rotate = false;
}

abbrev pub plain_notices : Notices
plain_notices = record { report = false; progress = Auto; hints = Auto }

-- the look of boards in this format, where no other option is given
abbrev pub look_as : Format → Look
look_as format = record plain_look { format = format }

-- the look of what `find` and `count` search for: the numbers of candidates
abbrev pub numbers_look : Look
numbers_look = look_as Numbers

-- the search of a `pick`, which tries no candidates of its own
abbrev pub no_search : ℕ → GivenHands → Search
no_search seed hands = record (plain_search seed) {
  candidates = Some 0;
  lane = Some 1;
  hands = hands;
}

-- the texts of the questions of a `count`: none, that of `of`, those of `of` and `by`, or several
-- of `of`
pub data Questions : Type 0 where
  no_question : Questions
  one_question : List ℕ → Questions
  two_questions : (rows columns : List ℕ) → Questions
  each_question : List (List ℕ) → Questions

-- the text of the question of this name; several that are all of `of` have no names
abbrev pub text_named : QuestionName → Questions → Option (List ℕ)
text_named Of (one_question text) = Some text
text_named Of (two_questions rows columns) = Some rows
text_named By (two_questions rows columns) = Some columns
text_named _ _ = None

pub data Wish : Type 0 where
  -- `make`, with the boards' tricks, of which the input tells, or without; and `find`, with the
  -- look of its format alone
  make : Search → Look → (tricks : Bool) → Notices → Wish
  -- a table of what the accepted deals answer
  count : Search → Questions → TableStyle → Notices → Wish
  -- the page of the language
  conditions : Wish
  -- what is told of a lesson, or of all
  lessons : Option Lesson → Wish
  -- a seed that the input draws
  draw : Wish
  -- the boards of the candidates of a seed, around these hands, whose numbers the input gives, each
  -- with its tricks or none
  pick : ℕ → GivenHands → Look → (tricks : Bool) → When → Wish
  -- the boards of the games that the input has: nothing is dealt, and of the look the format, the
  -- hands that are written and the labels count
  show : Look → When → Wish
  -- the first values of a seed: the seed, and how many
  stream : ℕ → ℕ → Wish

-- the search and the look of a wish that deals or shows boards
abbrev pub searched : Wish → Option (Search × Look)
searched (make s l tricks notices) = Some (s, l)
searched (count s questions style notices) = Some (s, numbers_look)
searched (pick seed hands l tricks hints) = Some (no_search seed hands, l)
searched (show l hints) = Some (no_search 0 none_given, l)
searched _ = None

-- the text of the question of this name that a wish asks
abbrev pub question_named : QuestionName → Wish → Option (List ℕ)
question_named name (count s questions style notices) = text_named name questions
question_named _ _ = None

-- when a person is told what helps
abbrev pub hints_of : Wish → When
hints_of (make s l tricks notices) = notices.hints
hints_of (count s questions style notices) = notices.hints
hints_of (pick seed hands l tricks hints) = hints
hints_of (show l hints) = hints
hints_of _ = Auto

-- what contracts see of a request
abbrev pub search_of : asked.Search → Search
search_of s = record {
  seed = s.seed;
  candidates = s.candidates;
  first = s.first;
  workers = s.workers;
  lane = s.lane;
  lesson = option_map (λ t. t.now) s.lesson;
  let_text = option_map (λ t. t.now) s.let_text;
  where_text = option_map (λ t. t.now) s.where_text;
  boards = s.boards;
  hands = given_by s.hands;
}

abbrev pub look_of : given.Look → Look
look_of l = record {
  format = l.format;
  show = l.show;
  first_board = l.first_board;
  event = option_map (λ t. t.now) l.event;
  site = option_map (λ t. t.now) l.site;
  date = option_map (λ t. t.now) l.date;
  dealer = l.dealer;
  vulnerable = l.vulnerable;
  rotate = l.rotate;
}

-- the places for texts, and the texts in them
abbrev pub places_of : Texts → List (Option (List ℕ))
places_of texts =
    map (λ place. option_map (λ t. t.now) place)
    (texts.first ∷ texts.second ∷ texts.third ∷ texts.fourth ∷ texts.fifth ∷ texts.sixth
    ∷ texts.seventh ∷ texts.eighth ∷ [])

abbrev pub texts_of : Texts → List (List ℕ)
texts_of texts = flat_map option_to_list (places_of texts)

abbrev pub questions_of : GivenQuestions → Questions
questions_of questions.None = no_question
questions_of (questions.One text) = one_question text.now
questions_of (questions.Two rows columns) = two_questions rows.now columns.now
questions_of (questions.Each texts) = each_question (texts_of texts)

-- the places for the texts of several questions, in a request that asks them
abbrev pub places_in : Request → List (Option (List ℕ))
places_in (Count search (questions.Each texts) style notices) = places_of texts
places_in _ = []

abbrev pub wish_of : Request → Wish
wish_of (Make search look tricks notices) =
    make (search_of search) (look_of look) tricks notices
wish_of (Find search notices) = make (search_of search) numbers_look false notices
wish_of (Count search asked style notices) =
    count (search_of search) (questions_of asked) style notices
wish_of (Pick seed hands look tricks hints) =
    pick seed (given_by hands) (look_of look) tricks hints
wish_of (request.Show look hints) = show (look_of look) hints
wish_of Conditions = conditions
wish_of (Lessons lesson) = lessons (option_map lesson_of lesson)
wish_of Seed = draw
wish_of (Stream r) = stream r.seed r.count
