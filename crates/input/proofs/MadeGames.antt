-- Games that are written for boards are read as these, one after another.
use Rattle.std.proofs.Common.{◌≡◌, ◌∙◌, ◌≤◌, ℕ, zero, suc, ◌+◌, ◌^◌, ◌==◌, false, List, [], ◌∷◌, ◌++◌, length, map}
use Rattle.std.proofs.Common.{Option, None, Some, All, ap, append_assoc, arith, codes, decimal, refl, sym}
use Rattle.std.specs.Prelude.{IfSome, flat_map, option_map, unwrap_or}
use Rattle.std.proofs.lemmas.Bool.{ne_eqb}
use Rattle.std.proofs.lemmas.List.Elements.{All-cons, All-nil, All-tail}
use Rattle.boards.specs.declared.board.Board.{Board as ABoard}
use Rattle.boards.specs.declared.setting.Vul.{Vul}
use Rattle.boards.specs.declared.setting.Vul.TheVariants.{Neither, NorthSouth, EastWest, Both}
use Rattle.boards.specs.Headings.{HeadingView}
use Rattle.boards.specs.Labels.{IsDate, IsLabel}
use Rattle.boards.specs.TricksTags.{tagged}
use Rattle.boards.specs.TricksLines.{nothing_known}
use Rattle.boards.proofs.Dates.{length-date}
use Rattle.cards.specs.declared.seat.Seat.{Seat}
use Rattle.cards.specs.declared.seat.Seat.TheVariants.{North, East, South, West}
use Rattle.cards.specs.Deals.{IsPartition}
use Rattle.pbn_text.specs.Games.{deal_text, dealer_text, game_text, header, label, pbn, tag, vulnerable_text}
use Rattle.boards.specs.Settings.{board_in}
use Rattle.boards.proofs.Rotating.{partition}
use Rattle.cards.specs.Candidates.{state_before}
use Rattle.cards.specs.Fixed.{IsFixed}
use Rattle.cards.proofs.AroundDeals.{around_is_partition}
use Rattle.boards.specs.Plans.{Planned, candidate_of}
use Rattle.boards.specs.Text.{board_of, boards_of, text_of, text_of_boards}
use Rattle.std.specs.List.{enumerate_from}
use Rattle.input.specs.Games.{game_says, no_game, or_next, with_tag}
use Rattle.input.specs.Kinds.{kind_of}
use Rattle.input.specs.Made.{IsHeading, IsMade, read_board, read_heading, read_label}
use Rattle.input.specs.RecordScans.{spells_from}
use Rattle.input.specs.Texts.{after, begin_text, spelled}
use Rattle.input.specs.Values.{date_in, label_in}
use Rattle.input.specs.declared.records.game.Game.{Game}
use Rattle.input.specs.declared.records.game.Told.{Told}
use Rattle.input.specs.declared.records.kind.TagKind.TheVariants.{Event, Site, Date, Board, Dealer, Vulnerable, Deal}
use Rattle.input.specs.internal.TagTexts.{IsTag}
use Rattle.input.proofs.Dealt.{deal_again, deal_shown}
use Rattle.input.proofs.Labels.{date_again, label_again}
use Rattle.input.proofs.Made.{dealer_again, in_game, number_again, number_plain, number_short, plain_date, plain_label, tag_line, vulnerable_again}
use Rattle.input.proofs.Scanning.{at_begin, at_end, at_lf, plainly}

-- a game with these tags
abbrev game_of : (event site : Option (Option (List ℕ))) (date : Option (Option (List ℕ))) (number : Option ℕ)
    (dealer : Option (Option Seat)) (vulnerable : Option (Option Vul)) (deal : Option (Option (List Seat))) → Game
game_of event site date number dealer vulnerable deal = record {
  event = event;
  site = site;
  date = date;
  number = number;
  dealer = dealer;
  vulnerable = vulnerable;
  deal = deal;
  tricks = None;
  score = None;
  contract = None;
  fault = None;
}

-- how many lines there are after a label that may be given
abbrev label_lines : Option (List ℕ) → ℕ → ℕ
label_lines None lines = lines
label_lines (Some text) lines = lines + 1

-- ---- labels

event_line : (given : Option (List ℕ)) (lines last : ℕ) (rest : List ℕ) → IfSome given IsLabel
    → spells_from (plainly (in_game lines last no_game)) (label (codes "Event") given ++ rest)
    ≡ spells_from (plainly (in_game (label_lines given lines) last (game_of (option_map label_in given) None None None None None None))) rest
unfolding with_tag kind_of
event_line None lines last rest is = refl
event_line (Some text) lines last rest is =
    tag_line Event (codes "Event") text rest lines last no_game
    (record {
      some = omega arith;
      named = refl;
      plain = plain_label text is.printable;
      fits =
          omega (arith, is.short);
    }) refl refl

site_line : (e : Option (Option (List ℕ))) (given : Option (List ℕ)) (lines last : ℕ) (rest : List ℕ) → IfSome given IsLabel
    → spells_from (plainly (in_game lines last (game_of e None None None None None None))) (label (codes "Site") given ++ rest)
    ≡ spells_from (plainly (in_game (label_lines given lines) last (game_of e (option_map label_in given) None None None None None))) rest
unfolding with_tag kind_of
site_line e None lines last rest is = refl
site_line e (Some text) lines last rest is =
    tag_line Site (codes "Site") text rest lines last _ (record
    { some = omega arith; named = refl; plain = plain_label text is.printable; fits = omega (arith, is.short) })
    refl refl

date_line : (e s : Option (Option (List ℕ))) (given : Option (List ℕ)) (lines last : ℕ) (rest : List ℕ) → IfSome given IsDate
    → spells_from (plainly (in_game lines last (game_of e s None None None None None))) (label (codes "Date") given ++ rest)
    ≡ spells_from (plainly (in_game (label_lines given lines) last (game_of e s (option_map date_in given) None None None None))) rest
unfolding with_tag kind_of
date_line e s None lines last rest is = refl
date_line e s (Some text) lines last rest is =
    tag_line Date (codes "Date") text rest lines last _ (record
    { some = omega arith; named = refl; plain = plain_date text is; fits = omega (arith, length-date text is) })
    refl refl

-- ---- a board

module _ (e s d : Option (Option (List ℕ))) (last : ℕ) where
  number_line : (n lines : ℕ) (rest : List ℕ) → 1 ≤ n → n ≤ 2 ^ 40
      → spells_from (plainly (in_game lines last (game_of e s d None None None None))) (tag (codes "Board") (decimal n) ++ rest)
      ≡ spells_from (plainly (in_game (lines + 1) last (game_of e s d (Some n) None None None))) rest
  unfolding with_tag kind_of
  number_line n lines rest least most =
      let some : (n == 0) ≡ false = ne_eqb n 0 (λ none. omega (arith, none, least)) in
      let game : with_tag Board (decimal n) (lines + 1) (game_of e s d None None None None) ≡ game_of e s d (Some n)
      None None None = rw (number_again n most, some) refl in
      tag_line Board (codes "Board") (decimal n) rest lines last _
      (record {
        some = omega arith;
        named = refl;
        plain = number_plain n most;
        fits =
            omega (arith, number_short n most);
      }) refl refl
      ∙ ap (λ g. spells_from (plainly (in_game (lines + 1) last g)) rest) game

  dealer_line : (n lines : ℕ) (seat : Seat) (rest : List ℕ)
      → spells_from (plainly (in_game lines last (game_of e s d (Some n) None None None))) (tag (codes "Dealer") (dealer_text seat) ++ rest)
      ≡ spells_from (plainly (in_game (lines + 1) last (game_of e s d (Some n) (Some (Some seat)) None None))) rest
  unfolding with_tag kind_of
  dealer_line n lines seat rest =
      let game : with_tag Dealer (dealer_text seat) (lines + 1) (game_of e s d (Some n) None None None) ≡ game_of e s
      d (Some n) (Some (Some seat)) None None = rw (dealer_again seat) refl in
      tag_line Dealer (codes "Dealer") (dealer_text seat) rest lines last _ (one_letter seat) refl refl
      ∙ ap (λ g. spells_from (plainly (in_game (lines + 1) last g)) rest) game
    where
      one_letter : (seat : Seat) → IsTag (codes "Dealer") (dealer_text seat)
      one_letter North = record { some = omega arith; named = refl; plain = refl; fits = omega arith }
      one_letter x = record { some = omega arith; named = refl; plain = refl; fits = omega arith }

  vulnerable_line : (n lines : ℕ) (seat : Seat) (vul : Vul) (rest : List ℕ)
      → spells_from (plainly (in_game lines last (game_of e s d (Some n) (Some (Some seat)) None None)))
      (tag (codes "Vulnerable") (vulnerable_text vul) ++ rest)
      ≡ spells_from (plainly (in_game (lines + 1) last (game_of e s d (Some n) (Some (Some seat)) (Some (Some vul)) None))) rest
  unfolding with_tag kind_of
  vulnerable_line n lines seat vul rest =
      let game : with_tag Vulnerable (vulnerable_text vul) (lines + 1)
      (game_of e s d (Some n) (Some (Some seat)) None None) ≡ game_of e s d (Some n) (Some (Some seat))
      (Some (Some vul)) None = rw (vulnerable_again vul) refl in
      tag_line Vulnerable (codes "Vulnerable") (vulnerable_text vul) rest lines last _ (one_word vul) refl refl
      ∙ ap (λ g. spells_from (plainly (in_game (lines + 1) last g)) rest) game
    where
      one_word : (vul : Vul) → IsTag (codes "Vulnerable") (vulnerable_text vul)
      one_word Neither = record { some = omega arith; named = refl; plain = refl; fits = omega arith }
      one_word x = record { some = omega arith; named = refl; plain = refl; fits = omega arith }

  deal_line : (n lines : ℕ) (seat : Seat) (vul : Vul) (deal : List Seat) (rest : List ℕ) → IsPartition deal
      → spells_from (plainly (in_game lines last (game_of e s d (Some n) (Some (Some seat)) (Some (Some vul)) None)))
      (tag (codes "Deal") (deal_text deal) ++ rest)
      ≡ spells_from (plainly (in_game (lines + 1) last (game_of e s d (Some n) (Some (Some seat)) (Some (Some vul)) (Some (Some deal))))) rest
  unfolding with_tag kind_of
  deal_line n lines seat vul deal rest p =
      let shown = deal_shown deal in
      let game : with_tag Deal (deal_text deal) (lines + 1)
      (game_of e s d (Some n) (Some (Some seat)) (Some (Some vul)) None) ≡ game_of e s d (Some n)
      (Some (Some seat)) (Some (Some vul)) (Some (Some deal)) = rw (deal_again deal p) refl in
      tag_line Deal (codes "Deal") (deal_text deal) rest lines last _
      (record { some = omega arith; named = refl; plain = shown.0; fits = omega (arith, shown.1) }) refl refl
      ∙ ap (λ g. spells_from (plainly (in_game (lines + 1) last g)) rest) game

-- ---- the end of a game

same_number : (last n : ℕ) → 1 ≤ n → or_next last n ≡ n
same_number last zero least = absurd (omega (arith, least))
same_number last (suc n) least = refl

no_tricks : tagged [] [] [] ≡ nothing_known
unfolding tagged
no_tricks = refl

abbrev told_of : (e s d : Option (Option (List ℕ))) → ABoard → Told
told_of e s d board = record {
  board = record board { candidate = 2 ^ 40 };
  heading = record { event = unwrap_or e None; site = unwrap_or s None; date = unwrap_or d None };
  tricks = nothing_known;
}

end_of_game : (e s d : Option (Option (List ℕ))) (board : ABoard) (lines last : ℕ) (rest : List ℕ) → 1 ≤ board.number
    → spells_from (plainly (in_game lines last (game_of e s d (Some board.number) (Some (Some board.dealer))
    (Some (Some board.vulnerable)) (Some (Some board.deal))))) (10 ∷ rest)
    ≡ after (told_of e s d board ∷ []) (spells_from (plainly (in_game (lines + 1) board.number no_game)) rest)
unfolding game_says
end_of_game e s d board lines last rest least =
    at_lf (plainly (in_game lines last (game_of e s d (Some board.number) (Some (Some board.dealer))
    (Some (Some board.vulnerable)) (Some (Some board.deal))))) rest
    ∙ rw (same_number last board.number least, no_tricks) refl

-- ---- a game

label_read : (given : Option (List ℕ)) → IfSome given IsLabel → unwrap_or (option_map label_in given) None ≡ read_label given
label_read None is = refl
label_read (Some text) is = label_again text is

date_read : (given : Option (List ℕ)) → IfSome given IsDate → unwrap_or (option_map date_in given) None ≡ given
date_read None is = refl
date_read (Some text) is = date_again text is

parts_of : (a b c d e f g rest : List ℕ) → a ++ b ++ c ++ (d ++ e ++ f) ++ g ++ codes "\n" ++ rest ≡ a
    ++ (b ++ (c ++ (d ++ (e ++ (f ++ (g ++ 10 ∷ rest))))))
parts_of a b c d e f g rest = simp append_assoc refl

abbrev lines_after : HeadingView → ℕ → ℕ
lines_after heading lines = label_lines heading.date (label_lines heading.site (label_lines heading.event lines)) + 1 + 1 + 1 + 1 + 1

game_read : (heading : HeadingView) (board : ABoard) (lines last : ℕ) (rest : List ℕ) → IsHeading heading → IsMade board
    → spells_from (plainly (in_game lines last no_game)) (game_text heading board ++ rest)
    ≡ after (read_board heading board ∷ []) (spells_from (plainly (in_game (lines_after heading lines) board.number no_game)) rest)
unfolding game_text
game_read heading board lines last rest given made =
    let e : Option (Option (List ℕ)) = option_map label_in heading.event in
    let s : Option (Option (List ℕ)) = option_map label_in heading.site in
    let d : Option (Option (List ℕ)) = option_map date_in heading.date in
    let labels : HeadingView = read_heading heading in
    let same : told_of e s d board ≡ read_board heading board =
    rw (
      label_read heading.event given.event,
      label_read heading.site given.site,
      date_read heading.date given.date,
    ) refl in
    ap (spells_from (plainly (in_game lines last no_game)))
    (parts_of (label (codes "Event") heading.event) (label (codes "Site") heading.site)
    (label (codes "Date") heading.date) (tag (codes "Board") (decimal board.number))
    (tag (codes "Dealer") (dealer_text board.dealer)) (tag (codes "Vulnerable")
    (vulnerable_text board.vulnerable)) (tag (codes "Deal") (deal_text board.deal)) rest)
    ∙ event_line heading.event lines last _ given.event
    ∙ site_line e heading.site _ last _ given.site
    ∙ date_line e s heading.date _ last _ given.date
    ∙ number_line e s d last board.number _ _ made.least made.most
    ∙ dealer_line e s d last board.number _ board.dealer _
    ∙ vulnerable_line e s d last board.number _ board.dealer board.vulnerable _
    ∙ deal_line e s d last board.number _ board.dealer board.vulnerable board.deal _ made.deal
    ∙ end_of_game e s d board _ last rest made.least
    ∙ ap (λ told. after (told ∷ []) (spells_from (plainly (in_game (lines_after heading lines) board.number no_game)) rest)) same

-- ---- a text

games_read : (heading : HeadingView) (boards : List ABoard) (lines last : ℕ) → IsHeading heading → All IsMade boards
    → spells_from (plainly (in_game lines last no_game)) (flat_map (game_text heading) boards) ≡ record
    { boards = map (read_board heading) boards; refused = None }
unfolding game_says
games_read heading [] lines last given all = at_end (plainly (in_game lines last no_game)) refl
games_read heading (board ∷ boards) lines last given all =
    game_read heading board lines last (flat_map (game_text heading) boards) given (all 0 board (omega arith))
    ∙ ap (after (read_board heading board ∷ [])) (games_read heading boards (lines_after heading lines) board.number
    given (All-tail IsMade board boards all))

header_read : (rest : List ℕ) → spells_from (plainly begin_text) (header ++ rest) ≡ spells_from (plainly (in_game 1 0 no_game)) rest
unfolding spells_from
header_read rest = refl

pub text_read : (heading : HeadingView) (boards : List ABoard) → IsHeading heading → All IsMade boards
    → spelled (text_of_boards (pbn heading) boards) ≡ record { boards = map (read_board heading) boards; refused = None }
text_read heading boards given all =
    sym (at_begin begin_text refl (header ++ flat_map (game_text heading) boards))
    ∙ header_read (flat_map (game_text heading) boards) ∙ games_read heading boards 1 0 given all

-- ---- the boards of a plan

module _ (plan : Planned) (fixed : IsFixed plan.fixed) (least : 1 ≤ plan.first_board) where
  board_made : (n k : ℕ) → plan.first_board + n ≤ 2 ^ 40 → IsMade (board_of plan n k (candidate_of plan k))
  unfolding board_in
  board_made n k most = record {
    least = omega (arith, least);
    most = most;
    deal = partition plan.setting (plan.first_board + n) k (candidate_of plan k) (around_is_partition plan.fixed (state_before plan.seed k) fixed);
  }

  boards_made : (n : ℕ) (numbers : List ℕ) → plan.first_board + n + length numbers ≤ 2 ^ 40 + 1
      → All IsMade (map (λ p. board_of plan p.0 p.1 (candidate_of plan p.1)) (enumerate_from n numbers))
  boards_made n [] most = All-nil IsMade
  boards_made n (k ∷ ks) most = All-cons IsMade _ _ (board_made n k (omega (arith, most))) (boards_made (n + 1) ks (omega (arith, most)))

  pub plan_read : (numbers : List ℕ) → IsHeading plan.heading → plan.first_board + length numbers ≤ 2 ^ 40 + 1
      → spelled (text_of (pbn plan.heading) plan numbers) ≡ record { boards = map (read_board plan.heading) (boards_of plan numbers); refused = None }
  unfolding boards_of
  plan_read numbers given most = text_read plan.heading (boards_of plan numbers) given (boards_made 0 numbers (omega (arith, most)))
