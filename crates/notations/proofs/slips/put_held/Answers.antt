use Rattle.std.proofs.Common.{◌≡◌, ℕ, List, ◌++◌, ◌∙◌, codes, ap}
use Rattle.std.proofs.lemmas.List.{append_assoc}
use Rattle.notations.specs.Pages.{suits_text}
use Rattle.notations.specs.Slips.{held_text}
use Rattle.notations.proofs.slips.put_held.Goals as goal

grouped : (old start suits close : List ℕ) → old ++ start ++ suits ++ close ≡ old ++ (start ++ suits ++ close)
grouped old start suits close = simp append_assoc

pub returns-clause-text : goal.returns-clause-text
unfolding held_text
returns-clause-text c =
    let suits : List ℕ = suits_text c.args.hand.now in
    let dealt = c.put_suits.ensures.text ∙ ap (λ xs. xs ++ suits) c.put.ensures.text in
    c.put-2.ensures.text ∙ ap (λ xs. xs ++ codes "</div>\n</section>\n") dealt
    ∙ grouped c.args.text.now (codes "<div>") suits (codes "</div>\n</section>\n")
