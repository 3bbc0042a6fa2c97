-- Plans that fix no card and leave Law 2 in force.
use Rattle.std.proofs.Common.{◌≡◌, ◌∙◌, ℕ, ◌+◌, ◌++◌, ◌==◌, cond, length, List, [], ◌∷◌, map, Option, None, Some, refl, ap}
use Rattle.std.specs.Prelude.{filter, not}
use Rattle.std.specs.List.{enumerate_from, flat_map, position_or_len, prefix_len, range_with_len}
use Rattle.std.proofs.lemmas.List.{append-nil}
use Rattle.boards.specs.Law2.{board_by_law}
use Rattle.boards.specs.Settings.{board_in}
use Rattle.cards.specs.Candidates.{candidate}
use Rattle.cards.specs.Fixed.{candidate_around}
use Rattle.cards.specs.declared.seat.Seat.{Seat}
use Rattle.cards.proofs.AroundLaws.{around_nothing}
use Rattle.conditions.specs.Form.{Form}
use Rattle.conditions.specs.Meaning.{holds}
use Rattle.lanes.specs.Verdicts.{verdicts}
use Rattle.lanes.proofs.VerdictLists.{same_verdicts}
use Rattle.pbn_text.specs.Games.{HeadingView, game, game_text, header, pbn}
use Rattle.boards.specs.Plans.{Planned, candidate_of}
use Rattle.boards.specs.Text.{accepted, accepted_among, board_of, boards_of, end_of, limited, needed_by, text_of}
use Rattle.lanes.specs.Jobs.{verdicts_for}
use Rattle.dealrun.specs.Pbn.{text}
use Rattle.dealrun.specs.Plain.{IsPlain, plain_accepted, plain_text}

-- the deals are those of the one sequence
pub same_deal : (plan : Planned) → IsPlain plan → (k : ℕ) → candidate_of plan k ≡ candidate plan.seed k
same_deal plan is k = ap (λ fixed. candidate_around fixed plan.seed k) is.fixed_are ∙ around_nothing plan.seed k

-- of the same deals the same are accepted
same_accepted : (d e : ℕ → List Seat) (first : ℕ) (form : Form) (n : ℕ) → ((k : ℕ) → d k ≡ e k)
    → accepted_among d first form n ≡ accepted_among e first form n
unfolding accepted_among
same_accepted d e first form n same = each (range_with_len first n)
  where
    each : (xs : List ℕ) → filter (λ k. holds form (d k)) xs ≡ filter (λ k. holds form (e k)) xs
    each [] = refl
    each (x ∷ xs) =
        ap (λ deal. cond (holds form deal) (x ∷ filter (λ k. holds form (d k)) xs) (filter (λ k. holds form (d k)) xs)) (same x)
        ∙ ap (λ ys. cond (holds form (e x)) (x ∷ ys) ys) (each xs)

pub accepts : (plan : Planned) (form : Form) → IsPlain plan → accepted plan form ≡ plain_accepted plan form
accepts plan form is =
    ap (limited plan.limit) (same_accepted (candidate_of plan) (candidate plan.seed) plan.first form plan.count (same_deal plan is))

-- and as many are needed
same_place : (f g : ℕ → List ℕ) (most : ℕ) → ((n : ℕ) → f n ≡ g n) → (xs : List ℕ)
    → position_or_len (λ m. length (f m) == most) xs ≡ position_or_len (λ m. length (g m) == most) xs
same_place f g most same [] = refl
same_place f g most same (x ∷ xs) =
    ap (λ found. cond (not (length found == most)) (1 + prefix_len (λ m. not (length (f m) == most)) xs) 0) (same x)
    ∙ ap (λ n. cond (not (length (g x) == most)) (1 + n) 0) (same_place f g most same xs)

pub needs : (plan : Planned) (form : Form) → IsPlain plan → end_of plan form ≡ needed_by (candidate plan.seed) plan form
unfolding needed_by
needs plan form is = by plan.limit
  where
    same : (m : ℕ) → accepted_among (candidate_of plan) plan.first form m ≡ accepted_among (candidate plan.seed) plan.first form m
    same m = same_accepted (candidate_of plan) (candidate plan.seed) plan.first form m (same_deal plan is)

    by : (limit : Option ℕ) → end_of (record plan { limit = limit }) form ≡ needed_by (candidate plan.seed) (record plan { limit = limit }) form
    by None = refl
    by (Some most) = same_place (accepted_among (candidate_of plan) plan.first form)
        (accepted_among (candidate plan.seed) plan.first form) most same (range_with_len 0 plan.count)

-- a board of Law 2 is printed as its game
as_game : (heading : HeadingView) (number k : ℕ) (deal : List Seat) → game_text heading (board_by_law number k deal) ≡ game number heading deal
unfolding game_text game
as_game heading number k deal = refl

pub by_law_is : (plan : Planned) → IsPlain plan → (number k : ℕ) (deal : List Seat) → board_in plan.setting number k deal ≡ board_by_law number k deal
unfolding board_in
by_law_is plan is number k deal = ap (λ s. board_in s number k deal) is.setting_is

one_game : (plan : Planned) → IsPlain plan → (n k : ℕ)
    → game_text plan.heading (board_of plan n k (candidate_of plan k)) ≡ game (plan.first_board + n) plan.heading
    (candidate plan.seed k)
one_game plan is n k =
    ap (game_text plan.heading) (by_law_is plan is (plan.first_board + n) k (candidate_of plan k))
    ∙ as_game plan.heading (plan.first_board + n) k (candidate_of plan k)
    ∙ ap (game (plan.first_board + n) plan.heading) (same_deal plan is k)

games : (plan : Planned) → IsPlain plan → (numbers : List ℕ)
    → flat_map (game_text plan.heading) (boards_of plan numbers)
    ≡ flat_map (λ p. game (plan.first_board + p.0) plan.heading (candidate plan.seed p.1)) (enumerate_from 0 numbers)
unfolding boards_of
games plan is numbers = from 0 numbers
  where
    from : (n : ℕ) (xs : List ℕ)
        → flat_map (game_text plan.heading) (map (λ p. board_of plan p.0 p.1 (candidate_of plan p.1)) (enumerate_from n xs))
        ≡ flat_map (λ p. game (plan.first_board + p.0) plan.heading (candidate plan.seed p.1)) (enumerate_from n xs)
    from n [] = refl
    from n (x ∷ xs) =
        ap (λ t. t ++ flat_map (game_text plan.heading) (map (λ p. board_of plan p.0 p.1 (candidate_of plan p.1))
        (enumerate_from (n + 1) xs))) (one_game plan is n x)
        ∙ ap (λ t. game (plan.first_board + n) plan.heading (candidate plan.seed x) ++ t) (from (n + 1) xs)

pub writes : (plan : Planned) (form : Form) → IsPlain plan → text plan form ≡ plain_text plan form
writes plan form is =
    append-nil (text_of (pbn plan.heading) plan (accepted plan form))
    ∙ ap (λ t. header ++ t) (games plan is (accepted plan form)
    ∙ ap (λ numbers. flat_map (λ p. game (plan.first_board + p.0) plan.heading (candidate plan.seed p.1))
    (enumerate_from 0 numbers)) (accepts plan form is))

pub owes : (plan : Planned) (form : Form) (w : ℕ) → IsPlain plan
    → verdicts_for plan form w ≡ verdicts (candidate plan.seed) plan.first plan.count form plan.workers w
owes plan form w is = same_verdicts (candidate_of plan) (candidate plan.seed) plan.first plan.count form plan.workers w (same_deal plan is)
