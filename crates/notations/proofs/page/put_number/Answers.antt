use Rattle.std.proofs.Common.{◌≡◌, ℕ, List, ◌++◌, ◌∙◌, codes, decimal, ap}
use Rattle.std.proofs.lemmas.List.{append_assoc}
use Rattle.pbn_text.specs.Games.{vulnerable_text}
use Rattle.notations.specs.Pages.{number_text}
use Rattle.notations.proofs.page.put_number.Goals as goal

grouped : (old start name between digits close : List ℕ)
    → old ++ start ++ name ++ between ++ digits ++ close ≡ old ++ (start ++ name ++ between ++ digits ++ close)
grouped old start name between digits close = simp append_assoc

pub returns-clause-text : goal.returns-clause-text
unfolding number_text
returns-clause-text c =
    let name : List ℕ = vulnerable_text c.args.vulnerable in
    let between : List ℕ = codes "\">Board " in
    let named = c.put-2.ensures.text ∙ ap (λ xs. c.put.new.self ++ xs) c.vulnerable_word.ensures.value ∙ ap (λ xs. xs ++ name) c.put.ensures.text in
    let begun = c.put-3.ensures.text ∙ ap (λ xs. xs ++ between) named in
    let counted = c.put_number.ensures.text ∙ ap (λ xs. xs ++ decimal c.args.number) begun in
    c.put-4.ensures.text ∙ ap (λ xs. xs ++ codes "</h2>\n") counted
    ∙ grouped c.args.text.now (codes "<h2 class=\"") name between (decimal c.args.number) (codes "</h2>\n")
