use Rattle.std.proofs.Common.{◌≡◌, ◌∙◌, ◌++◌, List, [], length, sym, ap, arith}
use Rattle.std.specs.Prelude.{ℕ, codes}
use Rattle.std.proofs.lemmas.List.{append_assoc}
use Rattle.pbn_text.specs.Games.{game_text, heading_text, board_text, tag, deal_text}
use Rattle.pbn_text.proofs.reference.print_game.Goals as goal

joined : (a b c d e f g h : List ℕ) → a ≡ [] → b ≡ a ++ e → c ≡ b ++ f → d ≡ c ++ (g ++ h) → d ≡ e ++ f ++ g ++ h
joined a b c d e f g h p q r s = s ∙ rw (r, q, p) (sym (append_assoc (e ++ f) g h))

pub returns-clause-value : goal.returns-clause-value
unfolding game_text
returns-clause-value c =
    joined c.new-text.result.items c.put_heading.new.text.items c.put_board.new.text.items c.put_deal.new.text.items
    (heading_text c.args.heading.now) (board_text c.args.board.now)
    (tag (codes "Deal") (deal_text c.args.board.now.deal)) (codes "\n")
    c.new-text.ensures c.put_heading.ensures.items c.put_board.ensures.items c.put_deal.ensures.items

pub returns-clause-plain : goal.returns-clause-plain
returns-clause-plain c e =
    let none : c.put_heading.new.text.items ≡ [] = c.put_heading.ensures.items ∙ rw (c.new-text.ensures) (ap heading_text e) in
    let empty : length c.put_heading.new.text.items ≡ 0 = ap length none in
    omega (arith, empty)
