use Rattle.std.proofs.Common.{◌≡◌, ℕ, ◌≤◌, List, ◌++◌, ◌∙◌, length, take, drop, decimal, sym, ap, arith}
use Rattle.std.specs.Prelude.{codes}
use Rattle.std.proofs.lemmas.List.{append_assoc, drop-append-le, length-take-le}
use Rattle.cards.specs.declared.seat.Seat.TheVariants.{North, East, South, West}
use Rattle.cards.specs.Hands.{hand_of}
use Rattle.boards.specs.declared.board.Board.{Board}
use Rattle.pbn_text.specs.Games.{game_text, HeadingView, heading_text, dealer_text, vulnerable_text, hand_text}
use Rattle.pbn_text.specs.internal.Lines.{prefix_text, board_lines, hands_text}
use Rattle.pbn_text.proofs.Buffers.{kept_before, with_digits}
use Rattle.pbn_text.proofs.printer.Printer.print.Goals as goal

-- the pieces of a game, grouped as they are written and as they are defined
grouped : (labels bo number op dealer vo sides lo lo' n e s w bl cl nl : List ℕ)
    → labels ++ bo ++ number ++ (cl ++ (op ++ dealer ++ cl) ++ (vo ++ sides ++ cl) ++ (lo ++ lo'))
    ++ (n ++ bl ++ e ++ bl ++ s ++ bl ++ w ++ (cl ++ nl))
    ≡ labels ++ (bo ++ number ++ cl ++ (op ++ dealer ++ cl) ++ (vo ++ sides ++ cl)) ++ (lo ++ (lo' ++ n ++ bl ++ e ++ bl ++ s ++ bl ++ w) ++ cl) ++ nl
grouped labels bo number op dealer vo sides lo lo' n e s w bl cl nl = simp append_assoc

-- the four parts are a game
joined : (heading : HeadingView) (board : Board) → prefix_text heading ++ decimal board.number
    ++ board_lines board.dealer board.vulnerable ++ hands_text board.deal ≡ game_text heading board
unfolding game_text
joined heading board =
    grouped (heading_text heading) (codes "[Board \"") (decimal board.number) (codes "[Dealer \"")
    (dealer_text board.dealer) (codes "[Vulnerable \"") (vulnerable_text board.vulnerable) (codes "[Deal \"")
    (codes "N:")
    (hand_text (hand_of board.deal North)) (hand_text (hand_of board.deal East))
    (hand_text (hand_of board.deal South)) (hand_text (hand_of board.deal West)) (codes " ") (codes "\"]\n")
    (codes "\n")

-- what three writes in a row put after `start`
after : (first second third front number middle hands : List ℕ) (from a b c : ℕ) → from ≤ a → a ≤ length first
    → take b second ≡ take a first ++ middle → take c third ≡ take b second ++ hands
    → drop from (take a first) ≡ front ++ number → drop from (take c third) ≡ front ++ number ++ middle ++ hands
after first second third front number middle hands from a b c order within w1 w2 start =
    let long : length (take a first) ≡ a = length-take-le a first within in
    ap (drop from) (w2 ∙ ap (λ xs. xs ++ hands) w1 ∙ append_assoc (take a first) middle hands)
    ∙ drop-append-le from (take a first) (middle ++ hands) (omega (arith, long))
    ∙ ap (λ xs. xs ++ (middle ++ hands)) start
    ∙ sym (append_assoc (front ++ number) middle hands)

-- what two writes from 272 on leave
kept : (first second third middle hands : List ℕ) (n b c : ℕ) → n ≤ 272 → 272 ≤ length first → b ≤ length second
    → 272 ≤ b → b ≤ c → take b second ≡ take 272 first ++ middle → take c third ≡ take b second ++ hands
    → take n third ≡ take n first
kept first second third middle hands n b c inside l1 l2 ob oc w1 w2 =
    kept_before third second hands n b c w2 (omega arith) l2 (omega arith) ∙ kept_before second first middle n 272 b w1 inside l1 (omega arith)

pub invariant_of-self : goal.invariant_of-self
invariant_of-self c =
    let first = c.put_number-self-inside.new.buffer in
    let second = c.put_board_lines-hands.new.buffer in
    let third = c.put_hands-self-inside.new.buffer in
    let prefix = c.put_number-self-inside.ensures.prefix in
    let number = c.put_number-self-inside.result.number_start in
    let same = λ (n : ℕ) (inside : n ≤ 272). kept first second third
    (board_lines c.args.board.now.dealer c.args.board.now.vulnerable) (hands_text c.args.board.now.deal) n
    c.put_board_lines-hands.result c.put_hands-self-inside.result inside (omega arith) (omega arith) (omega arith)
    (omega arith) c.put_board_lines-hands.ensures.written c.put_hands-self-inside.ensures.written in
    record {
      prefix = record {
        order = prefix.order;
        inside = prefix.inside;
        lines = ap (drop c.put_number-self-inside.result.start) (same number prefix.inside) ∙ prefix.lines;
        digits = ap (drop number) (same 272 (omega arith)) ∙ prefix.digits;
      };
      order = omega (arith, prefix.order, prefix.inside);
      inside = omega arith;
    }

pub returns-clause-text : goal.returns-clause-text
returns-clause-text c =
    let first = c.put_number-self-inside.new.buffer in
    let prefix = c.put_number-self-inside.ensures.prefix in
    let from = c.put_number-self-inside.result.start in
    let number = c.put_number-self-inside.result.number_start in
    let start : drop from (take 272 first) ≡ prefix_text c.self.inside.heading ++ decimal c.args.board.now.number =
    with_digits first (prefix_text c.self.inside.heading) (decimal c.args.board.now.number) from number 272
    (omega (arith, prefix.inside)) prefix.order prefix.inside
    (prefix.digits ∙ ap decimal c.put_number-self-inside.ensures.number) prefix.lines in
    after first c.put_board_lines-hands.new.buffer c.put_hands-self-inside.new.buffer
    (prefix_text c.self.inside.heading) (decimal c.args.board.now.number)
    (board_lines c.args.board.now.dealer c.args.board.now.vulnerable) (hands_text c.args.board.now.deal) from 272
    _ _ (omega (arith, prefix.order, prefix.inside)) (omega arith)
    c.put_board_lines-hands.ensures.written c.put_hands-self-inside.ensures.written start
    ∙ joined c.self.inside.heading c.args.board.now
    ∙ ap (λ p. game_text p.heading c.args.board.now) c.self.view_is
