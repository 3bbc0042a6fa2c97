use Rattle.std.proofs.Common.{◌≡◌, ℕ, List, ◌++◌, ◌∙◌, codes, ap}
use Rattle.std.proofs.lemmas.List.{append_assoc}
use Rattle.notations.specs.Names.{seat_name}
use Rattle.notations.specs.Pages.{seat_text}
use Rattle.notations.proofs.page.put_seat.Goals as goal

grouped : (old start name between : List ℕ)
    → old ++ start ++ name ++ between ++ name ≡ old ++ (start ++ name ++ between ++ name)
grouped old start name between = simp append_assoc

pub returns-clause-text : goal.returns-clause-text
unfolding seat_text
returns-clause-text c =
    let name : List ℕ = seat_name c.args.seat in
    let between : List ℕ = codes "\"><h3>" in
    let named = c.put-2.ensures.text ∙ ap (λ xs. c.put.new.self ++ xs) c.seat_name-name.ensures.value ∙ ap (λ xs. xs ++ name) c.put.ensures.text in
    let classed = c.put-3.ensures.text ∙ ap (λ xs. xs ++ between) named in
    c.put-4.ensures.text ∙ ap (λ xs. c.put-3.new.self ++ xs) c.seat_name-name.ensures.value ∙ ap (λ xs. xs ++ name) classed
    ∙ grouped c.args.text.now (codes "<div class=\"") name between
