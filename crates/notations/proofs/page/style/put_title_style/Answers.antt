use Rattle.std.proofs.Common.{◌≡◌, ℕ, List, ◌++◌, ◌∙◌, codes, ap}
use Rattle.std.proofs.lemmas.List.{append_assoc}
use Rattle.notations.specs.Style.{css_string, title_style}
use Rattle.notations.proofs.page.style.put_title_style.Goals as goal

grouped : (old before title after : List ℕ) → old ++ before ++ title ++ after ≡ old ++ (before ++ title ++ after)
grouped old before title after = simp append_assoc

pub returns-clause-text : goal.returns-clause-text
unfolding title_style
returns-clause-text c =
    let before : List ℕ = codes "@page{margin:13mm 9mm 10mm;@top-left{content:\"" in
    let after : List ℕ = codes "\";font:bold 9pt system-ui,sans-serif}" in
    let titled = c.put_string.ensures.text ∙ ap (λ xs. xs ++ css_string c.args.title.now) c.put.ensures.text in
    c.put-2.ensures.text ∙ ap (λ xs. xs ++ after) titled
    ∙ grouped c.args.text.now before (css_string c.args.title.now) after
