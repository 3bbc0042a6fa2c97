use Rattle.std.proofs.Common.{ℕ, List, ◌++◌, ◌∙◌, ap}
use Rattle.boards.specs.Html.{body_start, html_start}
use Rattle.notations.specs.Pages.{header_text, title_of}
use Rattle.notations.specs.internal.Looks.{style_of}
use Rattle.notations.proofs.page.header.put_header.Goals as goal

pub returns : goal.returns
unfolding header_text
returns c =
    let title : List ℕ = title_of c.args.heading.now in
    let begun = c.put_html_start.ensures.text ∙ ap html_start (c.as_bytes.ensures.value ∙ c.put_title.ensures.text) in
    let shown = ap (λ xs. c.put_html_start.new.text ++ style_of c.args.look xs) (c.as_bytes-2.ensures.value ∙ c.put_title.ensures.text) in
    let styled = c.put_look.ensures.text ∙ shown ∙ ap (λ xs. xs ++ style_of c.args.look title) begun in
    let headed = ap (λ xs. c.put_look.new.text ++ body_start xs) (c.as_bytes-3.ensures.value ∙ c.put_title.ensures.text) in
    c.put_body_start.ensures.text ∙ headed ∙ ap (λ xs. xs ++ body_start title) styled
