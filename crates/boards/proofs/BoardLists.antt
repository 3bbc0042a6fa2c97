-- Boards in order, and the accepted candidates in order.
use Rattle.std.proofs.Common.{◌≡◌, ◌≢◌, ◌∙◌, ◌≤◌, ◌+◌, ◌-◌, ◌++◌, ℕ, suc, Bool, true, false, cond, List, [], ◌∷◌}
use Rattle.std.proofs.Common.{length, map, take, Option, Some, None, refl, sym, ap, arith, append_assoc}
use Rattle.std.proofs.Common.{length-append}
use Rattle.std.specs.Prelude.{filter}
use Rattle.std.specs.List.{enumerate_from, flat_map, range_with_len}
use Rattle.std.specs.Option.{ForSome}
use Rattle.std.proofs.lemmas.Grind.{flat_map-append}
use Rattle.std.proofs.lemmas.List.{append-nil, map-append, length-map, take_all}
use Rattle.std.proofs.lemmas.List.Elements.{filter-append}
use Rattle.std.proofs.lemmas.List.FromFn.{length-enumerate_from}
use Rattle.std.proofs.Math.Seq.{take-append_seam, take-append-add}
use Rattle.boards.specs.declared.board.Board.{Board}
use Rattle.boards.specs.Layouts.{Layout}
use Rattle.cards.specs.declared.seat.Seat.{Seat}
use Rattle.conditions.specs.Form.{Form}
use Rattle.conditions.specs.Meaning.{holds}
use Rattle.boards.specs.Plans.{Planned, candidate_of}
use Rattle.boards.specs.Text.{accepted_among, board_of, boards_of, limited, text_of, text_of_boards}
use Rattle.boards.proofs.Ranges.{range_with_len-add, range_with_len-more}

-- ---- boards

enumerate_from-append : {X : Type 0} (n : ℕ) (xs ys : List X) → enumerate_from n (xs ++ ys) ≡ enumerate_from n xs ++ enumerate_from (n + length xs) ys
enumerate_from-append n [] ys = let e : n + 0 ≡ n = omega arith in rw e refl
enumerate_from-append n (x ∷ xs) ys =
    let e : n + 1 + length xs ≡ n + suc (length xs) = omega arith in
    ap (λ l. (n, x) ∷ l) (enumerate_from-append (n + 1) xs ys ∙ ap (λ k. enumerate_from (n + 1) xs ++ enumerate_from k ys) e)

-- the boards that f makes of these, from place n on
abbrev pub boards_by : {X : Type 0} → (ℕ → X → Board) → ℕ → List X → List Board
boards_by f n xs = map (λ p. f p.0 p.1) (enumerate_from n xs)

pub boards_by-append : {X : Type 0} (f : ℕ → X → Board) (xs ys : List X) → boards_by f 0 (xs ++ ys) ≡ boards_by f 0 xs ++ boards_by f (length xs) ys
boards_by-append f xs ys =
    let e : 0 + length xs ≡ length xs = omega arith in
    ap (map (λ p. f p.0 p.1)) (enumerate_from-append 0 xs ys ∙ ap (λ k. enumerate_from 0 xs ++ enumerate_from k ys) e)
    ∙ map-append (λ p. f p.0 p.1) (enumerate_from 0 xs) (enumerate_from (length xs) ys)

pub length-boards_by : {X : Type 0} (f : ℕ → X → Board) (xs : List X) → length (boards_by f 0 xs) ≡ length xs
length-boards_by f xs = simp length-map (length-enumerate_from 0 xs)

-- of candidates

pub boards_of-none : (plan : Planned) → boards_of plan [] ≡ []
unfolding boards_of
boards_of-none plan = refl

pub boards_of-more : (plan : Planned) (xs : List ℕ) (k : ℕ)
    → boards_of plan (xs ++ k ∷ []) ≡ boards_of plan xs ++ board_of plan (length xs) k (candidate_of plan k) ∷ []
unfolding boards_of
boards_of-more plan xs k = boards_by-append (λ n k. board_of plan n k (candidate_of plan k)) xs (k ∷ [])

-- the boards of more candidates
pub record MoreBoards (plan : Planned) (xs ys : List ℕ) : Type 0 where
  pub more : List Board
  pub is : boards_of plan (xs ++ ys) ≡ boards_of plan xs ++ more

pub boards_of-append : (plan : Planned) (xs ys : List ℕ) → MoreBoards plan xs ys
unfolding boards_of
boards_of-append plan xs ys =
    let f : ℕ → ℕ → Board = λ n k. board_of plan n k (candidate_of plan k) in
    record { more = boards_by f (length xs) ys; is = boards_by-append f xs ys }

pub length-boards_of : (plan : Planned) (xs : List ℕ) → length (boards_of plan xs) ≡ length xs
unfolding boards_of
length-boards_of plan xs = length-boards_by (λ n k. board_of plan n k (candidate_of plan k)) xs

-- ---- texts

pub text_of_boards-none : (layout : Layout) → text_of_boards layout [] ≡ layout.header
text_of_boards-none layout = append-nil layout.header

pub text_of_boards-append : (layout : Layout) (xs ys : List Board)
    → text_of_boards layout (xs ++ ys) ≡ text_of_boards layout xs ++ flat_map layout.board ys
text_of_boards-append layout xs ys =
    ap (λ l. layout.header ++ l) (flat_map-append layout.board xs ys)
    ∙ sym (append_assoc layout.header (flat_map layout.board xs) (flat_map layout.board ys))

pub text_of_boards-more : (layout : Layout) (xs : List Board) (b : Board)
    → text_of_boards layout (xs ++ b ∷ []) ≡ text_of_boards layout xs ++ layout.board b
text_of_boards-more layout xs b = text_of_boards-append layout xs (b ∷ []) ∙ ap (λ l. text_of_boards layout xs ++ l) (append-nil (layout.board b))

pub text_of-none : (layout : Layout) (plan : Planned) → text_of layout plan [] ≡ layout.header
text_of-none layout plan = ap (text_of_boards layout) (boards_of-none plan) ∙ text_of_boards-none layout

pub text_of-more : (layout : Layout) (plan : Planned) (xs : List ℕ) (k : ℕ)
    → text_of layout plan (xs ++ k ∷ []) ≡ text_of layout plan xs ++ layout.board (board_of plan (length xs) k (candidate_of plan k))
text_of-more layout plan xs k =
    ap (text_of_boards layout) (boards_of-more plan xs k)
    ∙ text_of_boards-more layout (boards_of plan xs) (board_of plan (length xs) k (candidate_of plan k))

-- what comes after the boards of the first candidates
pub record LaterOf (layout : Layout) (plan : Planned) (xs ys : List ℕ) : Type 0 where
  pub more : List ℕ
  pub is : text_of layout plan (xs ++ ys) ≡ text_of layout plan xs ++ more

pub text_of-append : (layout : Layout) (plan : Planned) (xs ys : List ℕ) → LaterOf layout plan xs ys
text_of-append layout plan xs ys =
    let l = boards_of-append plan xs ys in
    record {
      more = flat_map layout.board l.more;
      is = ap (text_of_boards layout) l.is ∙ text_of_boards-append layout (boards_of plan xs) l.more;
    }

-- ---- accepted candidates

pub accepted_among-none : (deals : ℕ → List Seat) (first : ℕ) (form : Form) → accepted_among deals first form 0 ≡ []
unfolding accepted_among
accepted_among-none deals first form = refl

filter-one : {X : Type 0} (p : X → Bool) (x : X) (b : Bool) → p x ≡ b → filter p (x ∷ []) ≡ cond b (x ∷ []) []
filter-one p x true e = rw e refl
filter-one p x false e = rw e refl

pub accepted_among-more : (deals : ℕ → List Seat) (first : ℕ) (form : Form) (i : ℕ) (b : Bool) → holds form (deals (first + i)) ≡ b
    → accepted_among deals first form (i + 1) ≡ accepted_among deals first form i ++ cond b ((first + i) ∷ []) []
unfolding accepted_among
accepted_among-more deals first form i b e =
    ap (filter (λ k. holds form (deals k))) (range_with_len-more first i)
    ∙ filter-append (λ k. holds form (deals k)) (range_with_len first i) ((first + i) ∷ [])
    ∙ ap (λ l. filter (λ k. holds form (deals k)) (range_with_len first i) ++ l) (filter-one (λ k. holds form (deals k)) (first + i) b e)

-- the accepted ones among more candidates
pub record More (deals : ℕ → List Seat) (first : ℕ) (form : Form) (i n : ℕ) : Type 0 where
  pub rest : List ℕ
  pub is : accepted_among deals first form n ≡ accepted_among deals first form i ++ rest

pub accepted_among-parts : (deals : ℕ → List Seat) (first : ℕ) (form : Form) (i n : ℕ) → i ≤ n → More deals first form i n
unfolding accepted_among
accepted_among-parts deals first form i n h =
    let e : n ≡ i + (n - i) = omega arith in
    record {
      rest = filter (λ k. holds form (deals k)) (range_with_len (first + i) (n - i));
      is = ap (λ k. filter (λ k. holds form (deals k)) (range_with_len first k)) e
          ∙ ap (filter (λ k. holds form (deals k))) (range_with_len-add first i (n - i))
          ∙ filter-append (λ k. holds form (deals k)) (range_with_len first i) (range_with_len (first + i) (n - i));
    }

-- ---- the limit

-- no more boards than the limit
abbrev pub IsWithin : Option ℕ → ℕ → Type 0
IsWithin limit n = ForSome limit (λ most. n ≤ most)

pub limited-full : (limit : Option ℕ) (xs ys : List ℕ) → limit ≡ Some (length xs) → limited limit (xs ++ ys) ≡ xs
limited-full limit xs ys e = ap (λ l. limited l (xs ++ ys)) e ∙ take-append_seam xs ys

pub limited-all : (limit : Option ℕ) (xs : List ℕ) → IsWithin limit (length xs) → limited limit xs ≡ xs
limited-all None xs h = refl
limited-all (Some most) xs h = take_all most xs (h most refl)

pub record LimitedParts (limit : Option ℕ) (xs : List ℕ) (k : ℕ) (ys : List ℕ) : Type 0 where
  pub rest : List ℕ
  pub is : limited limit (xs ++ k ∷ [] ++ ys) ≡ xs ++ k ∷ [] ++ rest

-- a limit that is not met yet is not met by less than one board more
pub within_more : (limit : Option ℕ) (n : ℕ) → IsWithin limit n → limit ≢ Some n → IsWithin limit (n + 1)
within_more limit n within less most is =
    let le : n ≤ most = within most is in
    let ne : n ≢ most = λ e. less (is ∙ ap (λ n. Some n) (sym e)) in omega arith

-- the next accepted candidate is within the limit
pub limited-next : (limit : Option ℕ) (xs : List ℕ) (k : ℕ) (ys : List ℕ) → IsWithin limit (length xs + 1) → LimitedParts limit xs k ys
limited-next None xs k ys h = record { rest = ys; is = refl }
limited-next (Some most) xs k ys h =
    let few : length xs + 1 ≤ most = h most refl in
    let n : ℕ = most - (length xs + 1) in
    let len : length (xs ++ k ∷ []) ≡ length xs + 1 = rw length-append refl in
    let e : most ≡ length (xs ++ k ∷ []) + n = rw len (omega arith) in
    record {
      rest = take n ys;
      is = ap (λ m. take m (xs ++ k ∷ [] ++ ys)) e ∙ take-append-add (xs ++ k ∷ []) ys n;
    }
