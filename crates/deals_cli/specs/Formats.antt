-- What a run writes in each format.
use Rattle.std.specs.Prelude.{ℕ, List}
use Rattle.boards.specs.Layouts.{Layout}
use Rattle.cond_lang.specs.Form.{Form}
use Rattle.boards.specs.Text.{text_in}
use Rattle.notations.specs.Formats.{layout_of, layout_showing}
use Rattle.boards.specs.declared.show.Show.{Show}
use Rattle.boards.specs.declared.format.Format.{Format}
use Rattle.boards.specs.Plans.{Planned}
use Rattle.boards.specs.Headings.{HeadingView}
use Rattle.jobs.specs.Makings.{title_of}
use Rattle.requests.specs.Requests.{Look}

-- the whole text of a plan under a condition
abbrev pub text_as : Format → Planned → Form → List ℕ
text_as format plan form = text_in (layout_of format plan.heading) plan form

-- the same where these hands are written, under these labels
abbrev pub text_showing : Format → Show → HeadingView → Planned → Form → List ℕ
text_showing format show heading plan form =
    text_in (layout_showing format show heading) plan form

-- how boards are laid out
abbrev pub layout_in : Look → Layout
layout_in l = layout_showing l.format l.show (title_of l)
