-- What is found, and read back.
use Rattle.std.proofs.Common.{◌≡◌, ◌∙◌, ◌<◌, ◌≤◌, ◌^◌, ℕ, suc, zero, ◌+◌, Bool, true, false, cond, List, [], ◌∷◌}
use Rattle.std.proofs.Common.{◌++◌, length, map, Option, None, Some, refl, sym, ap, ap₂, arith, All, decimal}
use Rattle.std.specs.Prelude.{filter}
use Rattle.std.specs.List.{enumerate_from, flat_map, range_with_len}
use Rattle.std.proofs.lemmas.Grind.{flat_map-append}
use Rattle.std.proofs.lemmas.List.{append-nil, length-take}
use Rattle.std.proofs.lemmas.List.Elements.{All-cons, All-filter, All-take, filter-append}
use Rattle.boards.specs.Layouts.{EndsAlike, Layout}
use Rattle.boards.specs.Settings.{board_in}
use Rattle.boards.specs.declared.setting.Setting.{Setting}
use Rattle.cards.specs.declared.seat.Seat.{Seat}
use Rattle.conditions.specs.Form.{Form}
use Rattle.conditions.specs.Meaning.{holds}
use Rattle.boards.specs.Text.{accepted, accepted_among, board_of, boards_of, end_of, limited, needed_by, text_in, text_of}
use Rattle.input.specs.NumberTexts.{said}
use Rattle.input.proofs.ReadBack.{read_back}
use Rattle.notations.specs.Numbers.{number_line, numbers}
use Rattle.input.specs.Picked.{picked_text}
use Rattle.boards.specs.Plans.{Planned, candidate_of}
use Rattle.boards.proofs.Ranges.{range_with_len-add}

abbrev line_of : ℕ → List ℕ
line_of n = decimal n ++ 10 ∷ []

board_line : (plan : Planned) (i n : ℕ) → number_line (board_of plan i n (candidate_of plan n)) ≡ line_of n
unfolding board_in
board_line plan i n = refl

lines_from : (plan : Planned) (i : ℕ) (xs : List ℕ) → flat_map number_line
    (map (λ p. board_of plan p.0 p.1 (candidate_of plan p.1)) (enumerate_from i xs)) ≡ flat_map line_of xs
lines_from plan i [] = refl
lines_from plan i (x ∷ xs) =
    ap (λ l. l ++ flat_map number_line (map (λ p. board_of plan p.0 p.1 (candidate_of plan p.1)) (enumerate_from (i + 1) xs))) (board_line plan i x)
    ∙ ap (λ l. line_of x ++ l) (lines_from plan (i + 1) xs)

-- what is found is a line for each number
found_lines : (plan : Planned) (xs : List ℕ) → flat_map number_line (boards_of plan xs) ≡ flat_map line_of xs
unfolding boards_of
found_lines plan xs = lines_from plan 0 xs

pub found_text : (plan : Planned) (form : Form) → text_in numbers plan form ≡ flat_map line_of (accepted plan form)
found_text plan form = append-nil (flat_map number_line (boards_of plan (accepted plan form))) ∙ found_lines plan (accepted plan form)

-- ---- the numbers are few and small

range_below : (first n end : ℕ) → first + n ≤ end → All (λ k. k < end) (range_with_len first n)
range_below first zero end h = λ k d less. absurd (omega arith)
range_below first (suc n) end h = All-cons (λ k. k < end) first (range_with_len (first + 1) n) (omega arith)
    (range_below (first + 1) n end (omega arith))

filter_short : (p : ℕ → Bool) (first n : ℕ) → length (filter p (range_with_len first n)) ≤ n
filter_short p first zero = omega arith
filter_short p first (suc n) = one_more (p first) (filter_short p (first + 1) n)
  where
    one_more : (b : Bool) → length (filter p (range_with_len (first + 1) n)) ≤ n
        → length (cond b (first ∷ filter p (range_with_len (first + 1) n)) (filter p (range_with_len (first + 1) n)))
        ≤ suc n
    one_more true h = omega arith
    one_more false h = omega arith

limited_below : (limit : Option ℕ) (end : ℕ) (xs : List ℕ) → All (λ k. k < end) xs → All (λ k. k < end) (limited limit xs)
limited_below None end xs h = h
limited_below (Some most) end xs h = All-take (λ k. k < end) most xs h

limited_short : (limit : Option ℕ) (n : ℕ) (xs : List ℕ) → length xs ≤ n → length (limited limit xs) ≤ n
limited_short None n xs h = h
limited_short (Some most) n xs h = rw length-take (omega arith)

pub accepted_below : (plan : Planned) (form : Form) → plan.first + plan.count ≤ 2 ^ 40 → All (λ k. k < 2 ^ 40) (accepted plan form)
unfolding accepted_among
accepted_below plan form h =
    limited_below plan.limit (2 ^ 40) (filter (λ k. holds form (candidate_of plan k)) (range_with_len plan.first plan.count))
    (All-filter (λ k. holds form (candidate_of plan k)) (λ k. k < 2 ^ 40) (range_with_len plan.first plan.count)
    (range_below plan.first plan.count (2 ^ 40) h))

pub accepted_short : (plan : Planned) (form : Form) → plan.first + plan.count ≤ 2 ^ 40 → length (accepted plan form) ≤ 2 ^ 40
unfolding accepted_among
accepted_short plan form h =
    limited_short plan.limit (2 ^ 40) (filter (λ k. holds form (candidate_of plan k)) (range_with_len plan.first plan.count))
    (let few = filter_short (λ k. holds form (candidate_of plan k)) plan.first plan.count in omega arith)

pub found_is_read : (plan : Planned) (form : Form) → plan.first + plan.count ≤ 2 ^ 40
    → said (text_in numbers plan form) ≡ record { numbers = accepted plan form; refused = None }
found_is_read plan form h = ap said (found_text plan form) ∙ read_back (accepted plan form) (accepted_below plan form h) (accepted_short plan form h)

pub found_is_picked : (layout : Layout) (plan : Planned) (form : Form) (S : Setting) (B : ℕ) → EndsAlike layout → plan.first + plan.count ≤ 2 ^ 40
    → picked_text layout plan (said (text_in numbers (record plan { setting = S; first_board = B }) form)) ≡ text_in layout plan form
found_is_picked layout plan form S B alike h =
    ap (picked_text layout plan) (found_is_read (record plan { setting = S; first_board = B }) form h)
    ∙ ap (λ l. text_of layout plan (accepted plan form) ++ l)
    (alike (boards_of plan (accepted plan form)) (length (accepted plan form)) (end_of plan form))

-- ---- shards

-- what is accepted of the first m candidates and of the next n
accepted_two : (deals : ℕ → List Seat) (first : ℕ) (form : Form) (m n : ℕ)
    → accepted_among deals first form (m + n) ≡ accepted_among deals first form m
    ++ accepted_among deals (first + m) form n
unfolding accepted_among
accepted_two deals first form m n =
    ap (filter (λ k. holds form (deals k))) (range_with_len-add first m n)
    ∙ filter-append (λ k. holds form (deals k)) (range_with_len first m) (range_with_len (first + m) n)

pub shards : (plan : Planned) (form : Form) (m n : ℕ) → plan.limit ≡ None → plan.count ≡ m + n
    → text_in numbers plan form ≡ text_in numbers (record plan { count = m }) form
    ++ text_in numbers (record plan { first = plan.first + m; count = n }) form
shards plan form m n none all =
    found_text plan form
    ∙ ap (flat_map line_of) (ap (λ l. limited l (accepted_among (candidate_of plan) plan.first form plan.count)) none
    ∙ ap (accepted_among (candidate_of plan) plan.first form) all
    ∙ accepted_two (candidate_of plan) plan.first form m n)
    ∙ flat_map-append line_of (accepted_among (candidate_of plan) plan.first form m) (accepted_among (candidate_of plan) (plan.first + m) form n)
    ∙ ap (λ l. l ++ flat_map line_of (accepted_among (candidate_of plan) (plan.first + m) form n))
    (sym (found_text (record plan { count = m }) form ∙ ap
    (λ l. flat_map line_of (limited l (accepted_among (candidate_of plan) plan.first form m))) none))
    ∙ ap (λ l. text_in numbers (record plan { count = m }) form ++ l)
    (sym (found_text (record plan { first = plan.first + m; count = n }) form
    ∙ ap (λ l. flat_map line_of (limited l (accepted_among (candidate_of plan) (plan.first + m) form n))) none))

accepted_all : (plan : Planned) (form : Form) → plan.limit ≡ None → accepted plan form ≡ accepted_among (candidate_of plan) plan.first form plan.count
accepted_all plan form none = ap (λ l. limited l (accepted_among (candidate_of plan) plan.first form plan.count)) none

pub accepted_shards : (plan : Planned) (form : Form) (m n : ℕ) → plan.limit ≡ None → plan.count ≡ m + n
    → accepted plan form ≡ accepted (record plan { count = m }) form ++ accepted (record plan { first = plan.first + m; count = n }) form
accepted_shards plan form m n none all =
    accepted_all plan form none ∙ ap (accepted_among (candidate_of plan) plan.first form) all ∙ accepted_two (candidate_of plan) plan.first form m n
    ∙ ap₂ (λ (xs ys : List ℕ). xs ++ ys) (sym (accepted_all (record plan { count = m }) form none))
    (sym (accepted_all (record plan { first = plan.first + m; count = n }) form none))

tried_all : (plan : Planned) (form : Form) → plan.limit ≡ None → end_of plan form ≡ plan.count
unfolding needed_by
tried_all plan form none = rw none refl

pub tried_shards : (plan : Planned) (form : Form) (m n : ℕ) → plan.limit ≡ None → plan.count ≡ m + n
    → end_of plan form ≡ end_of (record plan { count = m }) form + end_of (record plan { first = plan.first + m; count = n }) form
tried_shards plan form m n none all =
    tried_all plan form none ∙ all
    ∙ ap₂ (λ (x y : ℕ). x + y) (sym (tried_all (record plan { count = m }) form none))
    (sym (tried_all (record plan { first = plan.first + m; count = n }) form none))
