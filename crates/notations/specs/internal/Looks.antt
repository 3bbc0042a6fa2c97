-- How a page looks.
use Rattle.std.specs.Prelude.{ℕ, List}
use Rattle.notations.specs.declared.page.header.PageLook.{PageLook}
use Rattle.notations.specs.declared.page.header.PageLook.TheVariants.{Plain, Tricks, Sheet, Slips}
use Rattle.notations.specs.SheetStyle.{sheet_style}
use Rattle.notations.specs.SlipStyle.{slip_style}
use Rattle.notations.specs.Style.{style, style_with_tricks}

abbrev pub style_of : PageLook → List ℕ → List ℕ
style_of Plain title = style title
style_of Tricks title = style_with_tricks title
style_of Sheet title = sheet_style title
style_of Slips title = slip_style title
