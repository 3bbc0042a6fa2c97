-- One board more.
use Rattle.std.proofs.Common.{◌≡◌, ◌∙◌, ℕ, ◌+◌, List, [], ◌∷◌, ◌++◌, length, Option, None, Some, Ok, Err, refl, sym}
use Rattle.std.proofs.Common.{ap, subst, append_assoc, length-append}
use Rattle.std.proofs.lemmas.List.{append-nil}
use Rattle.boards.specs.declared.board.Board.{Board}
use Rattle.boards.specs.Layouts.{Layout}
use Rattle.boards.specs.Text.{board_of, boards_of, text_of}
use Rattle.boards.proofs.BoardLists.{boards_of-more, boards_of-none, text_of-append, text_of-more, text_of-none}
use Rattle.input.specs.NumberTexts.{Said, said}
use Rattle.input.specs.Scans.{HasScanned, ScannerView, after, said_from}
use Rattle.input.specs.declared.refused_line.RefusedLine.{RefusedLine}
use Rattle.input.specs.Outcomes.{PicksOf}
use Rattle.input.specs.Picked.{footer_of, picked_text}
use Rattle.input.specs.internal.Picking.{PickedAll, PickedSoFar}
use Rattle.input.specs.declared.numbers.fault.PickFault.TheVariants.{Refused, Input, Output}
use Rattle.boards.specs.Plans.{Planned, candidate_of}
use Rattle.sinks.specs.Appended.{AppendsAll, AppendsPart, append_known}
use Rattle.sinks.proofs.SinkLemmas.{append_known-append, append_known-nil, whole_then_part}

-- the text of one number more
more_text : (layout now_layout : Layout) (plan : Planned) (numbers : List ℕ) (boards k : ℕ) → now_layout ≡ layout → boards ≡ length numbers
    → text_of layout plan (numbers ++ k ∷ []) ≡ text_of layout plan numbers ++ now_layout.board (board_of plan boards k (candidate_of plan k))
more_text layout now_layout plan numbers boards k same count =
    text_of-more layout plan numbers k
    ∙ ap (λ n. text_of layout plan numbers ++ layout.board (board_of plan n k (candidate_of plan k))) (sym count)
    ∙ ap (λ (l : Layout). text_of layout plan numbers ++ l.board (board_of plan boards k (candidate_of plan k))) (sym same)

-- the boards of one number more
more_boards : (plan : Planned) (numbers : List ℕ) (boards k : ℕ) → boards ≡ length numbers
    → boards_of plan (numbers ++ k ∷ []) ≡ boards_of plan numbers ++ board_of plan boards k (candidate_of plan k) ∷ []
more_boards plan numbers boards k count =
    boards_of-more plan numbers k ∙ ap (λ n. boards_of plan numbers ++ board_of plan n k (candidate_of plan k) ∷ []) (sym count)

pub picked_board : (layout now_layout : Layout) (has has_more : List Board → Type 0) (plan : Planned)
    (s t : ScannerView) (given : List ℕ) (b boards k : ℕ) (base now new : Option (List ℕ))
    → now_layout ≡ layout → boards ≡ s.numbers
    → ((text numbers : List ℕ) → HasScanned s text numbers → HasScanned t (text ++ b ∷ []) (numbers ++ k ∷ []))
    → AppendsAll now new (now_layout.board (board_of plan boards k (candidate_of plan k)))
    → ((bs : List Board) → has bs → has_more (bs ++ board_of plan boards k (candidate_of plan k) ∷ []))
    → PickedSoFar layout has plan s given base now → PickedSoFar layout has_more plan t (given ++ b ∷ []) base new
picked_board layout now_layout has has_more plan s t given b boards k base now new same count scans put grows p = record {
  numbers = p.numbers ++ k ∷ [];
  scanned = scans given p.numbers p.scanned;
  bytes = put ∙ ap (λ o. append_known o (now_layout.board (board_of plan boards k (candidate_of plan k)))) p.bytes
      ∙ append_known-append base (text_of layout plan p.numbers) (now_layout.board (board_of plan boards k (candidate_of plan k)))
      ∙ ap (append_known base) (sym (more_text layout now_layout plan p.numbers boards k same (count ∙ p.scanned.count)));
  printed = subst has_more (sym (more_boards plan p.numbers boards k (count ∙ p.scanned.count))) (grows (boards_of plan p.numbers) p.printed);
}

pub picked_none : (layout : Layout) (has : List Board → Type 0) (plan : Planned) (s t : ScannerView) (given : List ℕ)
    (b : ℕ) (base now : Option (List ℕ))
    → ((text numbers : List ℕ) → HasScanned s text numbers → HasScanned t (text ++ b ∷ []) (numbers ++ []))
    → PickedSoFar layout has plan s given base now → PickedSoFar layout has plan t (given ++ b ∷ []) base now
picked_none layout has plan s t given b base now scans p = record {
  numbers = p.numbers;
  scanned = rw append-nil at (scans given p.numbers p.scanned);
  bytes = p.bytes;
  printed = p.printed;
}

-- the output fails within a board
part_of_text : (layout now_layout : Layout) (plan : Planned) (numbers later : List ℕ) (refused : Option RefusedLine)
    (boards k : ℕ) (base now new : Option (List ℕ))
    → now_layout ≡ layout → boards ≡ length numbers → AppendsAll base now (text_of layout plan numbers)
    → AppendsPart now new (now_layout.board (board_of plan boards k (candidate_of plan k)))
    → AppendsPart base new (picked_text layout plan (record { numbers = (numbers ++ k ∷ []) ++ later; refused = refused }))
part_of_text layout now_layout plan numbers later refused boards k base now new same count written part =
    let rest = text_of-append layout plan (numbers ++ k ∷ []) later in
    let foot : List ℕ = footer_of layout plan ((numbers ++ k ∷ []) ++ later) refused in
    let board : List ℕ = now_layout.board (board_of plan boards k (candidate_of plan k)) in
    let tail : List ℕ = rest.more ++ foot in
    let whole : picked_text layout plan (record { numbers = (numbers ++ k ∷ []) ++ later; refused = refused })
    ≡ text_of layout plan numbers ++ board ++ tail =
    ap (λ l. l ++ foot) (rest.is ∙ ap (λ l. l ++ rest.more) (more_text layout now_layout plan numbers boards k same count))
    ∙ append_assoc (text_of layout plan numbers ++ board) rest.more foot in
    rw whole (whole_then_part (text_of layout plan numbers) board tail written part)

pub breaks_board : (layout now_layout : Layout) (has : List Board → Type 0) (plan : Planned) (s t : ScannerView)
    (given rest : List ℕ) (b boards k : ℕ) (base now new : Option (List ℕ))
    → now_layout ≡ layout → boards ≡ s.numbers
    → ((text numbers : List ℕ) → HasScanned s text numbers → HasScanned t (text ++ b ∷ []) (numbers ++ k ∷ []))
    → AppendsPart now new (now_layout.board (board_of plan boards k (candidate_of plan k)))
    → PickedSoFar layout has plan s given base now → PicksOf layout plan (given ++ b ∷ rest) (Err Output) base new
breaks_board layout now_layout has plan s t given rest b boards k base now new same count scans part p =
    let says : said (given ++ b ∷ rest) ≡ after (p.numbers ++ k ∷ []) (said_from t rest) =
    ap said (sym (append_assoc given (b ∷ []) rest)) ∙ (scans given p.numbers p.scanned).goes_on_so rest in
    rw says (part_of_text layout now_layout plan p.numbers (said_from t rest).numbers (said_from t rest).refused
    boards k base now new same (count ∙ p.scanned.count) p.bytes part)

pub refused_line : (layout : Layout) (has : List Board → Type 0) (plan : Planned) (s : ScannerView)
    (given rest : List ℕ) (b : ℕ) (line : RefusedLine) (base now : Option (List ℕ))
    → ((text numbers : List ℕ) → HasScanned s text numbers → (rest : List ℕ)
    → said (text ++ b ∷ rest) ≡ record { numbers = numbers; refused = Some line })
    → PickedSoFar layout has plan s given base now → PicksOf layout plan (given ++ b ∷ rest) (Err (Refused line)) base now
refused_line layout has plan s given rest b line base now says p =
    let is = says given p.numbers p.scanned rest in
    rw is (refl, p.bytes ∙ ap (append_known base) (sym (append-nil (text_of layout plan p.numbers))))

-- ---- the end of the input

pub all_none : (layout : Layout) (has : List Board → Type 0) (plan : Planned) (s : ScannerView) (given : List ℕ)
    (boards : ℕ) (base now : Option (List ℕ)) → boards ≡ s.numbers
    → ((text numbers : List ℕ) → HasScanned s text numbers → said text ≡ record { numbers = numbers ++ []; refused = None })
    → PickedSoFar layout has plan s given base now → PickedAll layout has plan boards given base now
all_none layout has plan s given boards base now count says p = record {
  numbers = p.numbers;
  says = rw append-nil at (says given p.numbers p.scanned);
  boards_are = count ∙ p.scanned.count;
  bytes = p.bytes;
  printed = p.printed;
}

pub all_number : (layout now_layout : Layout) (has has_more : List Board → Type 0) (plan : Planned) (s : ScannerView)
    (given : List ℕ) (boards k : ℕ) (base now new : Option (List ℕ)) → now_layout ≡ layout → boards ≡ s.numbers
    → ((text numbers : List ℕ) → HasScanned s text numbers → said text ≡ record { numbers = numbers ++ k ∷ []; refused = None })
    → AppendsAll now new (now_layout.board (board_of plan boards k (candidate_of plan k)))
    → ((bs : List Board) → has bs → has_more (bs ++ board_of plan boards k (candidate_of plan k) ∷ []))
    → PickedSoFar layout has plan s given base now → PickedAll layout has_more plan (boards + 1) given base new
all_number layout now_layout has has_more plan s given boards k base now new same count says put grows p = record {
  numbers = p.numbers ++ k ∷ [];
  says = says given p.numbers p.scanned;
  boards_are = ap (λ n. n + 1) (count ∙ p.scanned.count) ∙ sym (length-append p.numbers (k ∷ []));
  bytes = put ∙ ap (λ o. append_known o (now_layout.board (board_of plan boards k (candidate_of plan k)))) p.bytes
      ∙ append_known-append base (text_of layout plan p.numbers) (now_layout.board (board_of plan boards k (candidate_of plan k)))
      ∙ ap (append_known base) (sym (more_text layout now_layout plan p.numbers boards k same (count ∙ p.scanned.count)));
  printed = subst has_more (sym (more_boards plan p.numbers boards k (count ∙ p.scanned.count))) (grows (boards_of plan p.numbers) p.printed);
}

pub breaks_last : (layout now_layout : Layout) (has : List Board → Type 0) (plan : Planned) (s : ScannerView)
    (given : List ℕ) (boards k : ℕ) (base now new : Option (List ℕ)) → now_layout ≡ layout → boards ≡ s.numbers
    → ((text numbers : List ℕ) → HasScanned s text numbers → said text ≡ record { numbers = numbers ++ k ∷ []; refused = None })
    → AppendsPart now new (now_layout.board (board_of plan boards k (candidate_of plan k)))
    → PickedSoFar layout has plan s given base now → PicksOf layout plan given (Err Output) base new
breaks_last layout now_layout has plan s given boards k base now new same count says part p =
    let is = says given p.numbers p.scanned in
    let broken = part_of_text layout now_layout plan p.numbers [] None boards k base now new same (count ∙ p.scanned.count) p.bytes part in
    let as_said : List ℕ → Said = λ l. record { numbers = l; refused = None } in
    subst (λ d. AppendsPart base new (picked_text layout plan d)) (ap as_said (append-nil (p.numbers ++ k ∷ [])) ∙ sym is) broken

pub refused_last : (layout : Layout) (has : List Board → Type 0) (plan : Planned) (s : ScannerView) (given : List ℕ)
    (line : RefusedLine) (base now : Option (List ℕ))
    → ((text numbers : List ℕ) → HasScanned s text numbers → said text ≡ record { numbers = numbers; refused = Some line })
    → PickedSoFar layout has plan s given base now → PicksOf layout plan given (Err (Refused line)) base now
refused_last layout has plan s given line base now says p =
    let is = says given p.numbers p.scanned in
    rw is (refl, p.bytes ∙ ap (append_known base) (sym (append-nil (text_of layout plan p.numbers))))

-- the footer of so many boards is that of as many numbers
foot_is : (layout now_layout : Layout) (plan : Planned) (boards : ℕ) (numbers : List ℕ) → now_layout ≡ layout → boards ≡ length numbers
    → now_layout.footer (boards_of plan numbers) boards ≡ layout.footer (boards_of plan numbers) (length numbers)
foot_is layout now_layout plan boards numbers same count =
    ap (λ (l : Layout). l.footer (boards_of plan numbers) boards) same
    ∙ ap (layout.footer (boards_of plan numbers)) count

-- a sink was given the footer of the boards that were printed
abbrev GivesFooter : (Option (List ℕ) → Option (List ℕ) → List ℕ → Type 0) → Layout → (List Board → Type 0) → ℕ → (now new : Option (List ℕ)) → Type 0
GivesFooter Gives layout has boards now new = (bs : List Board) → has bs → Gives now new (layout.footer bs boards)

pub with_footer : (layout now_layout : Layout) (has : List Board → Type 0) (plan : Planned) (boards : ℕ)
    (given : List ℕ) (base now new : Option (List ℕ)) → now_layout ≡ layout
    → GivesFooter AppendsAll now_layout has boards now new → PickedAll layout has plan boards given base now
    → PicksOf layout plan given (Ok boards) base new
with_footer layout now_layout has plan boards given base now new same put p =
    let foot : List ℕ = layout.footer (boards_of plan p.numbers) (length p.numbers) in
    let bytes : AppendsAll base new (text_of layout plan p.numbers ++ foot) =
    put (boards_of plan p.numbers) p.printed ∙ ap (append_known now) (foot_is layout now_layout plan boards p.numbers same p.boards_are)
    ∙ ap (λ o. append_known o foot) p.bytes ∙ append_known-append base (text_of layout plan p.numbers) foot in
    rw p.says (refl, p.boards_are, bytes)

pub breaks_footer : (layout now_layout : Layout) (has : List Board → Type 0) (plan : Planned) (boards : ℕ)
    (given : List ℕ) (base now new : Option (List ℕ)) → now_layout ≡ layout
    → GivesFooter AppendsPart now_layout has boards now new → PickedAll layout has plan boards given base now
    → PicksOf layout plan given (Err Output) base new
breaks_footer layout now_layout has plan boards given base now new same part p =
    let foot : List ℕ = layout.footer (boards_of plan p.numbers) (length p.numbers) in
    let of_footer : AppendsPart now new foot = subst (AppendsPart now new)
    (foot_is layout now_layout plan boards p.numbers same p.boards_are)
    (part (boards_of plan p.numbers) p.printed) in
    let whole : AppendsPart base new (text_of layout plan p.numbers ++ foot ++ []) =
    whole_then_part (text_of layout plan p.numbers) foot [] p.bytes of_footer in
    let all : AppendsPart base new (text_of layout plan p.numbers ++ foot) = rw append-nil at whole in
    rw p.says all

-- ---- the beginning

pub breaks_header : (layout now_layout : Layout) (plan : Planned) (base new : Option (List ℕ)) → now_layout ≡ layout
    → AppendsPart base new now_layout.header → PicksOf layout plan [] (Err Output) base new
unfolding said
breaks_header layout now_layout plan base new same part =
    let rest = text_of-append layout plan [] [] in
    let of_header : AppendsPart base new layout.header = subst (λ (l : Layout). AppendsPart base new l.header) same part in
    let foot : List ℕ = footer_of layout plan [] None in
    let text : text_of layout plan [] ++ foot ≡ [] ++ layout.header ++ foot = ap (λ l. l ++ foot) (text_of-none layout plan) in
    rw text (whole_then_part [] layout.header foot (sym (append_known-nil base)) of_header)

pub picked_nothing : (layout now_layout : Layout) (has : List Board → Type 0) (plan : Planned) (s : ScannerView)
    (base now : Option (List ℕ)) → now_layout ≡ layout → HasScanned s [] [] → AppendsAll base now now_layout.header
    → has [] → PickedSoFar layout has plan s [] base now
picked_nothing layout now_layout has plan s base now same scanned put none = record {
  numbers = [];
  scanned = scanned;
  bytes = put ∙ ap (λ (l : Layout). append_known base l.header) same ∙ ap (append_known base) (sym (text_of-none layout plan));
  printed = subst has (sym (boards_of-none plan)) none;
}

pub input_failed : (layout : Layout) (has : List Board → Type 0) (plan : Planned) (s : ScannerView) (given : List ℕ)
    (base now : Option (List ℕ)) → PickedSoFar layout has plan s given base now
    → PicksOf layout plan given (Err Input) base now
input_failed layout has plan s given base now p = rw p.scanned.are_ended (refl, p.bytes)
