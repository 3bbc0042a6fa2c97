-- The plain run, candidate by candidate.
use Rattle.std.proofs.Common.{◌≡◌, ◌∙◌, ◌<◌, ◌≤◌, ◌⊎◌, ◌+◌, ◌++◌, ℕ, Bool, true, false, List, [], ◌∷◌, length, take}
use Rattle.std.proofs.Common.{Option, Some, refl, sym, ap, subst, arith, inl, inr, append_assoc, length-append}
use Rattle.std.specs.Option.{ForSome}
use Rattle.std.proofs.lemmas.Bool.{cases_lt}
use Rattle.std.proofs.lemmas.List.{append-nil, take_all}
use Rattle.std.proofs.Math.Seq.{take-append_seam}
use Rattle.boards.specs.declared.board.Board.{Board}
use Rattle.boards.specs.Layouts.{Layout}
use Rattle.cards.specs.declared.seat.Seat.{Seat}
use Rattle.conditions.specs.Form.{Form}
use Rattle.conditions.specs.Meaning.{holds}
use Rattle.boards.specs.Plans.{Planned, candidate_of}
use Rattle.sinks.specs.Appended.{append_known, AppendsAll, AppendsPart}
use Rattle.boards.specs.Reference.{BreaksOffIn}
use Rattle.boards.specs.Text.{accepted, accepted_among, board_of, boards_of, end_of, limited, text_in, text_of}
use Rattle.sinks.proofs.SinkLemmas.{append_known-append}
use Rattle.boards.proofs.Accepting.{accepted_here, end_here}
use Rattle.boards.proofs.BoardLists.{IsWithin, boards_of-more, boards_of-none, accepted_among-more}
use Rattle.boards.proofs.BoardLists.{accepted_among-none, accepted_among-parts, limited-next, text_of-append}
use Rattle.boards.proofs.BoardLists.{text_of-more, text_of-none, within_more}

-- so many of the first i candidates are accepted
abbrev counted : Planned → Form → ℕ → ℕ
counted plan form i = length (accepted_among (candidate_of plan) plan.first form i)

-- the limit is not met before candidate i
abbrev IsShort : Planned → Form → ℕ → Type 0
IsShort plan form i = (j : ℕ) → j < i → ForSome plan.limit (λ most. counted plan form j < most)

short_more : (plan : Planned) (form : Form) (i boards : ℕ) → boards ≡ counted plan form i
    → IsWithin plan.limit (boards + 1) → IsShort plan form i → IsShort plan form (i + 1)
short_more plan form i boards is less short j lt most limit =
    elim (cases_lt j i) [
      | inl before ↦ short j before most limit
      | inr not_so ↦
          let same : j ≡ i = omega arith in
          let few : boards + 1 ≤ most = less most limit in
          omega (arith, ap (counted plan form) same, is, few)
    ]

-- after i candidates: the accepted ones among them were written, within the limit
pub record Running (layout : Layout) (has : List Board → Type 0) (plan : Planned) (form : Form) (i boards : ℕ)
    (base now : Option (List ℕ)) : Type 0 where
  pub count : boards ≡ length (accepted_among (candidate_of plan) plan.first form i)
  pub few : boards ≤ i
  pub within : IsWithin plan.limit boards
  pub bytes : AppendsAll base now (text_of layout plan (accepted_among (candidate_of plan) plan.first form i))
  pub short : IsShort plan form i
  pub printed : has (boards_of plan (accepted_among (candidate_of plan) plan.first form i))

pub running_none : (layout : Layout) (has : List Board → Type 0) (plan : Planned) (form : Form)
    (base now : Option (List ℕ)) (text : List ℕ) → text ≡ layout.header → AppendsAll base now text → has []
    → Running layout has plan form 0 0 base now
running_none layout has plan form base now text is e none = record {
  count = sym (ap length (accepted_among-none (candidate_of plan) plan.first form));
  few = omega arith;
  within = λ most _. omega arith;
  bytes = e ∙ ap (append_known base) (is ∙ sym (ap (text_of layout plan)
      (accepted_among-none (candidate_of plan) plan.first form) ∙ text_of-none layout plan));
  short = λ j lt. absurd (omega arith);
  printed = subst has (sym (ap (boards_of plan) (accepted_among-none (candidate_of plan) plan.first form) ∙ boards_of-none plan)) none;
}

test_of : (form : Form) (deal other : List Seat) (b : Bool) → deal ≡ other → b ≡ holds form deal → holds form other ≡ b
test_of form deal other b is e = ap (holds form) (sym is) ∙ sym e

pub running_skip : (layout : Layout) (has : List Board → Type 0) (plan : Planned) (form : Form) (i boards : ℕ)
    (base now : Option (List ℕ)) (deal : List Seat) → deal ≡ candidate_of plan (plan.first + i)
    → false ≡ holds form deal → (plan.limit ≡ Some boards → ⊥) → Running layout has plan form i boards base now
    → Running layout has plan form (i + 1) boards base now
running_skip layout has plan form i boards base now deal is test not_full r =
    let same : accepted_among (candidate_of plan) plan.first form (i + 1) ≡ accepted_among (candidate_of plan) plan.first form i =
    accepted_among-more (candidate_of plan) plan.first form i false
    (test_of form deal (candidate_of plan (plan.first + i)) false is test)
    ∙ append-nil (accepted_among (candidate_of plan) plan.first form i) in
    record {
      count = r.count ∙ sym (ap length same);
      few = let few = r.few in omega arith;
      within = r.within;
      bytes = r.bytes ∙ ap (λ xs. append_known base (text_of layout plan xs)) (sym same);
      short = short_more plan form i boards r.count (within_more plan.limit boards r.within not_full) r.short;
      printed = subst (λ xs. has (boards_of plan xs)) (sym same) r.printed;
    }

-- the list of the accepted ones with one more
one_more : (plan : Planned) (form : Form) (i : ℕ) (deal : List Seat) → deal ≡ candidate_of plan (plan.first + i) → true ≡ holds form deal
    → accepted_among (candidate_of plan) plan.first form (i + 1) ≡ accepted_among (candidate_of plan) plan.first form i ++ (plan.first + i) ∷ []
one_more plan form i deal is test = accepted_among-more (candidate_of plan) plan.first form i true
    (test_of form deal (candidate_of plan (plan.first + i)) true is test)

-- the text of the next board
board_is : (layout now : Layout) (plan : Planned) (k boards : ℕ) (xs : List ℕ) (deal : List Seat) → now ≡ layout
    → deal ≡ candidate_of plan k → boards ≡ length xs
    → now.board (board_of plan boards k deal) ≡ layout.board (board_of plan (length xs) k (candidate_of plan k))
board_is layout now plan k boards xs deal same is count =
    ap (λ l. l.board (board_of plan boards k deal)) same
    ∙ ap (λ n. layout.board (board_of plan n k deal)) count ∙ ap (λ d. layout.board (board_of plan (length xs) k d)) is

-- the next board
same_board : (plan : Planned) (k number boards : ℕ) (xs : List ℕ) (deal : List Seat) → number ≡ k → deal ≡ candidate_of plan k → boards ≡ length xs
    → board_of plan boards number deal ≡ board_of plan (length xs) k (candidate_of plan k)
same_board plan k number boards xs deal number_is is count =
    ap (λ n. board_of plan boards n deal) number_is
    ∙ ap (λ n. board_of plan n k deal) count ∙ ap (λ d. board_of plan (length xs) k d) is

pub running_next : (layout before : Layout) (has has_more : List Board → Type 0) (plan : Planned) (form : Form)
    (i k boards : ℕ) (base now new : Option (List ℕ)) (deal : List Seat) → deal ≡ candidate_of plan (plan.first + i)
    → true ≡ holds form deal → (plan.limit ≡ Some boards → ⊥) → before ≡ layout → k ≡ plan.first + i
    → Running layout has plan form i boards base now → AppendsAll now new (before.board (board_of plan boards k deal))
    → ((bs : List Board) → has bs → has_more (bs ++ board_of plan boards k deal ∷ []))
    → Running layout has_more plan form (i + 1) (boards + 1) base new
running_next layout before has has_more plan form i k boards base now new deal is test not_full same k_is r put_at grows =
    let put : AppendsAll now new (before.board (board_of plan boards (plan.first + i) deal)) =
    subst (λ n. AppendsAll now new (before.board (board_of plan boards n deal))) k_is put_at in
    let xs : List ℕ = accepted_among (candidate_of plan) plan.first form i in
    let more = one_more plan form i deal is test in
    let len : length (xs ++ (plan.first + i) ∷ []) ≡ length xs + 1 = rw length-append refl in
    let boards_more : boards_of plan (accepted_among (candidate_of plan) plan.first form (i + 1)) ≡ boards_of plan xs
    ++ board_of plan boards k deal ∷ [] =
    ap (boards_of plan) more ∙ boards_of-more plan xs (plan.first + i)
    ∙ ap (λ b. boards_of plan xs ++ b ∷ []) (sym (same_board plan (plan.first + i) k boards xs deal k_is is
    r.count)) in
    let below = within_more plan.limit boards r.within not_full in
    record {
      count = ap (λ n. n + 1) r.count ∙ sym (ap length more ∙ len);
      few = let few = r.few in omega arith;
      within = below;
      bytes = put ∙ ap (λ o. append_known o (before.board (board_of plan boards (plan.first + i) deal))) r.bytes
          ∙ append_known-append base (text_of layout plan xs) (before.board (board_of plan boards (plan.first + i) deal))
          ∙ ap (append_known base) (ap (λ g. text_of layout plan xs ++ g)
          (board_is layout before plan (plan.first + i) boards xs deal same is r.count)
          ∙ sym (text_of-more layout plan xs (plan.first + i)) ∙ ap (text_of layout plan) (sym more));
      short = short_more plan form i boards r.count below r.short;
      printed = subst has_more (sym boards_more) (grows (boards_of plan xs) r.printed);
    }

-- ---- the end

pub record Ended (layout : Layout) (has : List Board → Type 0) (plan : Planned) (form : Form) (i boards : ℕ)
    (base now : Option (List ℕ)) : Type 0 where
  pub bytes : AppendsAll base now (text_of layout plan (accepted plan form))
  pub count : boards ≡ length (accepted plan form)
  pub tried : end_of plan form ≡ i
  pub printed : has (boards_of plan (accepted plan form))

pub ended : (layout : Layout) (has : List Board → Type 0) (plan : Planned) (form : Form) (i boards : ℕ)
    (base now : Option (List ℕ)) → Running layout has plan form i boards base now → i ≤ plan.count
    → (i ≡ plan.count) ⊎ (plan.limit ≡ Some boards)
    → Ended layout has plan form i boards base now
ended layout has plan form i boards base now r le done =
    let done_here : (i ≡ plan.count) ⊎ (plan.limit ≡ Some (counted plan form i)) =
    subst (λ n. (i ≡ plan.count) ⊎ (plan.limit ≡ Some n)) r.count done in
    let same : accepted plan form ≡ accepted_among (candidate_of plan) plan.first form i =
    accepted_here plan form i le (subst (IsWithin plan.limit) r.count r.within) done_here in
    record {
      bytes = r.bytes ∙ ap (λ xs. append_known base (text_of layout plan xs)) (sym same);
      count = r.count ∙ sym (ap length same);
      tried = end_here plan form i le r.short done_here;
      printed = subst (λ xs. has (boards_of plan xs)) (sym same) r.printed;
    }

-- ---- a fault

-- the footer of the whole text
abbrev foot : Layout → Planned → Form → List ℕ
foot layout plan form = layout.footer (boards_of plan (accepted plan form)) (end_of plan form)

-- the header is at the front of each text
header_first : (layout : Layout) (plan : Planned) (ys : List ℕ) → length layout.header ≤ length (text_of layout plan ys)
header_first layout plan ys =
    let later = text_of-append layout plan [] ys in
    let e : length (text_of layout plan ys) ≡ length layout.header + length later.more =
    ap length (later.is ∙ ap (λ l. l ++ later.more) (text_of-none layout plan))
    ∙ length-append layout.header later.more in
    omega arith

pub breaks_header : (layout : Layout) (plan : Planned) (form : Form) (base new : Option (List ℕ)) (text : List ℕ)
    → text ≡ layout.header → AppendsPart base new text
    → BreaksOffIn layout base new plan form 0
breaks_header layout plan form base new text is part =
    let later = text_of-append layout plan [] (accepted plan form) in
    let tail : List ℕ = later.more ++ foot layout plan form in
    let first = header_first layout plan (take (0 + 1) (accepted plan form)) in
    let some = part.is_proper in
    let sum : length part.front + length part.rest ≡ length layout.header = sym (length-append part.front part.rest)
    ∙ ap length (part.is_text ∙ is) in
    record {
      part = record {
        front = part.front;
        rest = part.rest ++ tail;
        is_text = sym (append_assoc part.front part.rest tail) ∙ ap (λ l. l ++ tail) (part.is_text ∙ is ∙ sym (text_of-none layout plan))
            ∙ sym (append_assoc (text_of layout plan []) later.more (foot layout plan form)) ∙ ap (λ l. l ++ foot layout plan form) (sym later.is);
        is_proper = rw length-append (omega arith);
        appended = part.appended;
      };
      few = omega arith;
      whole = λ bad. absurd (omega arith);
      broken = λ _. omega arith;
    }

take_front : (n : ℕ) (xs ys : List ℕ) → n ≡ length xs → take n (xs ++ ys) ≡ xs
take_front n xs ys e = ap (λ m. take m (xs ++ ys)) e ∙ take-append_seam xs ys

pub breaks_board : (layout before : Layout) (has : List Board → Type 0) (plan : Planned) (form : Form)
    (i number boards : ℕ) (base now new : Option (List ℕ)) (deal : List Seat)
    → deal ≡ candidate_of plan (plan.first + i)
    → true ≡ holds form deal → (plan.limit ≡ Some boards → ⊥) → i < plan.count → before ≡ layout
    → number ≡ plan.first + i → Running layout has plan form i boards base now
    → AppendsPart now new (before.board (board_of plan boards number deal)) → BreaksOffIn layout base new plan form boards
breaks_board layout before has plan form i number boards base now new deal is test not_full below same number_is r part_at =
    let part : AppendsPart now new (before.board (board_of plan boards (plan.first + i) deal)) =
    subst (λ n. AppendsPart now new (before.board (board_of plan boards n deal))) number_is part_at in
    let xs : List ℕ = accepted_among (candidate_of plan) plan.first form i in
    let k : ℕ = plan.first + i in
    let g : List ℕ = before.board (board_of plan boards (plan.first + i) deal) in
    let parts = accepted_among-parts (candidate_of plan) plan.first form (i + 1) plan.count (omega arith) in
    let within : IsWithin plan.limit (length xs + 1) = subst (λ n. IsWithin plan.limit (n + 1)) r.count
    (within_more plan.limit boards r.within not_full) in
    let next = limited-next plan.limit xs k parts.rest within in
    let all : accepted plan form ≡ xs ++ k ∷ [] ++ next.rest =
    ap (limited plan.limit) (parts.is ∙ ap (λ l. l ++ parts.rest) (one_more plan form i deal is test)) ∙ next.is in
    let later = text_of-append layout plan (xs ++ k ∷ []) next.rest in
    let tail : List ℕ = later.more ++ foot layout plan form in
    let upto : text_of layout plan (xs ++ k ∷ []) ≡ text_of layout plan xs ++ g =
    text_of-more layout plan xs k ∙ ap (λ l. text_of layout plan xs ++ l) (sym (board_is layout before plan k boards xs deal same is r.count)) in
    let whole_text : text_of layout plan (accepted plan form) ≡ text_of layout plan xs ++ g ++ later.more =
    ap (text_of layout plan) all ∙ later.is ∙ ap (λ l. l ++ later.more) upto in
    let len : length (xs ++ k ∷ []) ≡ length xs + 1 = rw length-append refl in
    let all_len : length (accepted plan form) ≡ length (xs ++ k ∷ []) + length next.rest = ap length all ∙ length-append (xs ++ k ∷ []) next.rest in
    let first : take boards (accepted plan form) ≡ xs = ap (take boards) (all ∙ append_assoc xs (k ∷ []) next.rest)
    ∙ take_front boards xs (k ∷ [] ++ next.rest) r.count in
    let second : take (boards + 1) (accepted plan form) ≡ xs ++ k ∷ [] = ap (take (boards + 1)) all
    ∙ take_front (boards + 1) (xs ++ k ∷ []) next.rest (ap (λ n. n + 1) r.count ∙ sym len) in
    let some = part.is_proper in
    let sum : length part.front + length part.rest ≡ length g = sym (length-append part.front part.rest) ∙ ap length part.is_text in
    let front_len : length (text_of layout plan xs ++ part.front) ≡ length (text_of layout plan xs) + length
    part.front = length-append (text_of layout plan xs) part.front in
    let upto_len : length (text_of layout plan (xs ++ k ∷ [])) ≡ length (text_of layout plan xs) + length g =
    ap length upto ∙ length-append (text_of layout plan xs) g in
    record {
      part = record {
        front = text_of layout plan xs ++ part.front;
        rest = part.rest ++ tail;
        is_text = append_assoc (text_of layout plan xs) part.front (part.rest ++ tail)
            ∙ ap (λ l. text_of layout plan xs ++ l) (sym (append_assoc part.front part.rest tail) ∙ ap (λ l. l ++ tail) part.is_text)
            ∙ sym (append_assoc (text_of layout plan xs) g tail) ∙ sym (append_assoc (text_of layout plan xs ++ g) later.more (foot layout plan form))
            ∙ ap (λ l. l ++ foot layout plan form) (sym whole_text);
        is_proper = rw length-append (omega arith);
        appended = part.appended ∙ ap (λ o. append_known o part.front) r.bytes ∙ append_known-append base (text_of layout plan xs) part.front;
      };
      few = let count = r.count in omega arith;
      whole = λ _. rw first (omega arith);
      broken = λ _. rw second (omega arith);
    }

pub breaks_footer : (layout after : Layout) (plan : Planned) (form : Form) (boards tried : ℕ)
    (base now new : Option (List ℕ)) → after ≡ layout → boards ≡ length (accepted plan form)
    → tried ≡ end_of plan form
    → AppendsAll base now (text_of layout plan (accepted plan form))
    → AppendsPart now new (after.footer (boards_of plan (accepted plan form)) tried)
    → BreaksOffIn layout base new plan form boards
breaks_footer layout after plan form boards tried base now new same count tried_is before part =
    let body : List ℕ = text_of layout plan (accepted plan form) in
    let all : take boards (accepted plan form) ≡ accepted plan form = take_all boards (accepted plan form) (omega arith) in
    let front_len : length (body ++ part.front) ≡ length body + length part.front = length-append body part.front in
    record {
      part = record {
        front = body ++ part.front;
        rest = part.rest;
        is_text = append_assoc body part.front part.rest
            ∙ ap (λ l. body ++ l) (part.is_text ∙ ap (λ l. l.footer (boards_of plan (accepted plan form)) tried) same
            ∙ ap (layout.footer (boards_of plan (accepted plan form))) tried_is);
        is_proper = part.is_proper;
        appended = part.appended ∙ ap (λ o. append_known o part.front) before ∙ append_known-append base body part.front;
      };
      few = omega arith;
      whole = λ _. rw all (omega arith);
      broken = λ less. absurd (omega arith);
    }

pub with_footer : (layout after : Layout) (plan : Planned) (form : Form) (tried : ℕ) (base now new : Option (List ℕ))
    → after ≡ layout → tried ≡ end_of plan form
    → AppendsAll base now (text_of layout plan (accepted plan form))
    → AppendsAll now new (after.footer (boards_of plan (accepted plan form)) tried)
    → AppendsAll base new (text_in layout plan form)
with_footer layout after plan form tried base now new same tried_is before put =
    let body : List ℕ = text_of layout plan (accepted plan form) in
    put ∙ ap (append_known now) (ap (λ l. l.footer (boards_of plan (accepted plan form)) tried) same
    ∙ ap (layout.footer (boards_of plan (accepted plan form))) tried_is)
    ∙ ap (λ o. append_known o (foot layout plan form)) before ∙ append_known-append base body (foot layout plan form)
