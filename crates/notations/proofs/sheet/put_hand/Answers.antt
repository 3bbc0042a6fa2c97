use Rattle.std.proofs.Common.{◌≡◌, ℕ, List, ◌++◌, ◌∙◌, codes, ap, sym}
use Rattle.std.proofs.lemmas.List.{append_assoc}
use Rattle.notations.specs.Names.{seat_name}
use Rattle.notations.specs.Pages.{suits_text}
use Rattle.notations.specs.Sheets.{hand_text}
use Rattle.notations.proofs.sheet.put_hand.Goals as goal

grouped : (old start name between suits close : List ℕ)
    → old ++ start ++ name ++ between ++ suits ++ close ≡ old ++ (start ++ name ++ between ++ suits ++ close)
grouped old start name between suits close = simp append_assoc

pub returns-in-Some-clause-text : goal.returns-in-Some-clause-text
unfolding hand_text
returns-in-Some-clause-text c =
    let name : List ℕ = seat_name c.args.seat in
    let between : List ℕ = codes "\">" in
    let suits : List ℕ = suits_text c.in-Some.hand in
    let named = c.put-in-Some.ensures.text ∙ ap (λ xs. c.put.new.self ++ xs) c.seat_name.ensures.value ∙ ap (λ xs. xs ++ name) c.put.ensures.text in
    let begun = c.put-in-Some-2.ensures.text ∙ ap (λ xs. xs ++ between) named in
    let dealt = c.put_suits.ensures.text ∙ ap (λ xs. xs ++ suits) begun in
    c.put-in-Some-3.ensures.text ∙ ap (λ xs. xs ++ codes "</div>\n") dealt
    ∙ grouped c.args.text.now (codes "<div class=\"") name between suits (codes "</div>\n")
    ∙ ap (λ hand. c.args.text.now ++ hand_text c.args.seat hand) (sym c.in-Some.is)
