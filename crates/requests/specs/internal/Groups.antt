-- The groups as the program has them.
use Rattle.std.specs.Prelude.{ℕ, List, map}
use Rattle.std.specs.Borrow.{Bor}
use Rattle.requests.specs.Lessons.{Lesson}
use Rattle.requests.specs.declared.lessons.lesson.Group.{Group}

abbrev pub lesson_at : Bor (List ℕ) × Bor (List ℕ) × Bor (List ℕ) × Bor (List ℕ) → Lesson
lesson_at (name, title, shows, condition) = record {
  name = name.now;
  title = title.now;
  shows = shows.now;
  condition = condition.now;
}

abbrev pub title_and_lessons : Group → List ℕ × List Lesson
title_and_lessons group = (group.title.now, map lesson_at group.rows.now)
