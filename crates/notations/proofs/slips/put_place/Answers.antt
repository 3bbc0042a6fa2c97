use Rattle.std.proofs.Common.{◌≡◌, ℕ, List, ◌++◌, ◌∙◌, codes, decimal, ap}
use Rattle.std.proofs.lemmas.List.{append_assoc}
use Rattle.notations.specs.Names.{seat_name}
use Rattle.notations.specs.Slips.{place_text}
use Rattle.notations.proofs.slips.put_place.Goals as goal

grouped : (old start digits between name close : List ℕ)
    → old ++ start ++ digits ++ between ++ name ++ close ≡ old ++ (start ++ digits ++ between ++ name ++ close)
grouped old start digits between name close = simp append_assoc

pub returns-clause-text : goal.returns-clause-text
unfolding place_text
returns-clause-text c =
    let digits : List ℕ = decimal c.args.number in
    let between : List ℕ = codes " " in
    let name : List ℕ = seat_name c.args.seat in
    let counted = c.put_number.ensures.text ∙ ap (λ xs. xs ++ digits) c.put.ensures.text in
    let parted = c.put-2.ensures.text ∙ ap (λ xs. xs ++ between) counted in
    let named = c.put-3.ensures.text ∙ ap (λ xs. c.put-2.new.self ++ xs) c.seat_name.ensures.value ∙ ap (λ xs. xs ++ name) parted in
    c.put-4.ensures.text ∙ ap (λ xs. xs ++ codes "</h2>\n") named
    ∙ grouped c.args.text.now (codes "<section class=\"slip\">\n<h2>") digits between name (codes "</h2>\n")
