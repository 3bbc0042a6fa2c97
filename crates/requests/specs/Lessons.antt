-- The lessons, which of them a name means, and what is told of them.
use Rattle.std.specs.Prelude.{ℕ, List, [], ◌∷◌, ◌++◌, Option, None, Some, codes, map}
use Rattle.std.specs.Prelude.{if◌then◌else◌}
use Rattle.std.specs.List.{flat_map}
use Rattle.std.specs.Str.{bytes_eq}
use Rattle.requests.specs.declared.lessons.lesson.Lesson as given
use Rattle.requests.specs.declared.lessons.groups.competing.TheConstants.{COMPETING}
use Rattle.requests.specs.declared.lessons.groups.doubles.TheConstants.{DOUBLES}
use Rattle.requests.specs.declared.lessons.groups.leads.TheConstants.{LEADS}
use Rattle.requests.specs.declared.lessons.groups.notrump.TheConstants.{NOTRUMP}
use Rattle.requests.specs.declared.lessons.groups.openings.TheConstants.{OPENINGS}
use Rattle.requests.specs.declared.lessons.groups.part_scores.TheConstants.{PART_SCORES}
use Rattle.requests.specs.declared.lessons.groups.play.TheConstants.{PLAY}
use Rattle.requests.specs.declared.lessons.groups.preempts.TheConstants.{PREEMPTS}
use Rattle.requests.specs.declared.lessons.groups.raises.TheConstants.{RAISES}
use Rattle.requests.specs.declared.lessons.groups.responses.TheConstants.{RESPONSES}
use Rattle.requests.specs.declared.lessons.groups.slams.TheConstants.{SLAMS}

pub record Lesson : Type 0 where
  pub name : List ℕ
  pub title : List ℕ
  -- what its deals show
  pub shows : List ℕ
  pub condition : List ℕ

-- what contracts see of a lesson, and of a row of the program's tables
abbrev pub lesson_of : given.Lesson → Lesson
lesson_of l = record {
  name = l.name.now;
  title = l.title.now;
  shows = l.shows.now;
  condition = l.condition.now;
}

abbrev pub Constant : Type 0
Constant = record { now : List ℕ }

abbrev pub lesson_in_row : Constant × Constant × Constant × Constant → Lesson
lesson_in_row (name, title, shows, condition) = record {
  name = name.now;
  title = title.now;
  shows = shows.now;
  condition = condition.now;
}

-- the groups by their titles, in the order in which they are listed
abbrev pub groups : List (List ℕ × List Lesson)
groups =
    (codes "Openings", map lesson_in_row OPENINGS.now)
    ∷ (codes "Preempts and weak twos", map lesson_in_row PREEMPTS.now)
    ∷ (codes "Raises", map lesson_in_row RAISES.now)
    ∷ (codes "Responses and rebids", map lesson_in_row RESPONSES.now)
    ∷ (codes "Notrump", map lesson_in_row NOTRUMP.now)
    ∷ (codes "Competing", map lesson_in_row COMPETING.now)
    ∷ (codes "After an overcall or a double", map lesson_in_row DOUBLES.now)
    ∷ (codes "Slams", map lesson_in_row SLAMS.now)
    ∷ (codes "Part scores", map lesson_in_row PART_SCORES.now)
    ∷ (codes "Play by shape", map lesson_in_row PLAY.now)
    ∷ (codes "Leads", map lesson_in_row LEADS.now)
    ∷ []

-- the first lesson of this name: of a table, of groups, of all
abbrev pub lesson_in : List Lesson → List ℕ → Option Lesson
lesson_in [] name = None
lesson_in (l ∷ lessons) name = if bytes_eq name l.name then Some l else lesson_in lessons name

abbrev pub or_else : Option Lesson → Option Lesson → Option Lesson
or_else None other = other
or_else (Some l) other = Some l

abbrev pub lesson_among : List (List ℕ × List Lesson) → List ℕ → Option Lesson
lesson_among [] name = None
lesson_among (g ∷ groups) name = or_else (lesson_in g.1 name) (lesson_among groups name)

abbrev pub lesson_named : List ℕ → Option Lesson
lesson_named = lesson_among groups

-- the list: under the title of each group a line for each lesson, with its name and its title
abbrev pub line_of : Lesson → List ℕ
line_of l = codes "  " ++ l.name ++ codes ": " ++ l.title ++ codes "\n"

abbrev pub group_text : List ℕ × List Lesson → List ℕ
group_text g = g.0 ++ codes "\n" ++ flat_map line_of g.1 ++ codes "\n"

abbrev pub list_text : List ℕ
list_text =
    flat_map group_text groups
    ++ codes "deals lessons NAME tells of one: what it shows, and its condition.\n"

-- a command that deals the lesson of this name
abbrev pub command_for : List ℕ → List ℕ
command_for name = codes "deals make --seed 7 --boards 12 --lesson " ++ name ++ codes "\n"

-- a lesson's sentence, its condition, and the command
abbrev pub lesson_text : Lesson → List ℕ
lesson_text l =
    l.shows ++ codes "\n\n" ++ l.condition ++ codes "\n\n" ++ command_for l.name

-- what is told of a lesson, or of all
abbrev pub lessons_text : Option Lesson → List ℕ
lessons_text (Some l) = lesson_text l
lessons_text None = list_text
