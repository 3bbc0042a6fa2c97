-- The labels of a text: event, site and date, each the bytes of its text if it is given.
use Rattle.std.specs.Prelude.{None}
use Rattle.boards.specs.declared.heading.Heading.{Heading}

abbrev pub HeadingView : Type 0
HeadingView = Heading

abbrev pub no_heading : HeadingView
no_heading = record { event = None; site = None; date = None }
