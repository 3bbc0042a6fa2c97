-- The letters and dots, added one by one, are the hand's.
use Rattle.std.proofs.Common.{◌≡◌, ℕ, List, ◌++◌, ◌∙◌, codes, ap}
use Rattle.std.proofs.lemmas.List.{append_assoc}
use Rattle.boards.specs.Letters.{suit_letters}
use Rattle.cards.specs.declared.suit.Suit.TheVariants.{Spades, Hearts, Diamonds, Clubs}
use Rattle.notations.proofs.dotted.put_cards.Goals as goal

grouped : (old spades hearts diamonds clubs dot : List ℕ)
    → old ++ (spades ++ dot) ++ (hearts ++ dot) ++ (diamonds ++ dot) ++ clubs
    ≡ old ++ (spades ++ dot ++ hearts ++ dot ++ diamonds ++ dot ++ clubs)
grouped old spades hearts diamonds clubs dot = simp append_assoc

pub returns-clause-text : goal.returns-clause-text
returns-clause-text c =
    let hand = c.args.hand.now in
    let dot : List ℕ = codes "." in
    let one = c.put_dotted.ensures.text in
    let two = c.put_dotted-2.ensures.text ∙ ap (λ xs. xs ++ (suit_letters hand Hearts ++ dot)) one in
    let three = c.put_dotted-3.ensures.text ∙ ap (λ xs. xs ++ (suit_letters hand Diamonds ++ dot)) two in
    c.put.ensures.text ∙ ap (λ xs. xs ++ suit_letters hand Clubs) three
    ∙ grouped c.args.text.now (suit_letters hand Spades) (suit_letters hand Hearts) (suit_letters hand Diamonds) (suit_letters hand Clubs) dot
