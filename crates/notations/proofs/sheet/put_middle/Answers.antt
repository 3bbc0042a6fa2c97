use Rattle.std.proofs.Common.{◌≡◌, ℕ, List, ◌++◌, ◌∙◌, codes, ap}
use Rattle.std.proofs.lemmas.List.{append_assoc}
use Rattle.pbn_text.specs.Games.{vulnerable_text}
use Rattle.notations.specs.Sheets.{all_points, middle_text}
use Rattle.boards.specs.Show.{counted_in}
use Rattle.notations.proofs.sheet.put_middle.Goals as goal

grouped : (old start name between points close : List ℕ)
    → old ++ start ++ name ++ between ++ points ++ close ≡ old ++ (start ++ name ++ between ++ points ++ close)
grouped old start name between points close = simp append_assoc

pub returns-clause-text : goal.returns-clause-text
unfolding middle_text
returns-clause-text c =
    let name : List ℕ = vulnerable_text c.args.board.now.vulnerable in
    let between : List ℕ = codes "\">" in
    let points : List ℕ = all_points (counted_in c.args.show c.args.board.now) in
    let named = c.put-2.ensures.text ∙ ap (λ xs. c.put.new.self ++ xs) c.vulnerable_word.ensures.value ∙ ap (λ xs. xs ++ name) c.put.ensures.text in
    let begun = c.put-3.ensures.text ∙ ap (λ xs. xs ++ between) named in
    let counted = c.put_all_points.ensures.text ∙ ap (λ xs. xs ++ points) begun in
    c.put-4.ensures.text ∙ ap (λ xs. xs ++ codes "</div>\n") counted
    ∙ grouped c.args.text.now (codes "<div class=\"middle ") name between points (codes "</div>\n")
