-- Boards of whose tricks nothing is known.
use Rattle.std.proofs.Common.{◌≡◌, ◌∙◌, ℕ, ◌==◌, Bool, List, [], ◌∷◌, length, not, false, refl, sym}
use Rattle.std.proofs.Common.{arith, suc}
use Rattle.std.proofs.lemmas.Grind.{common_steps}
use Rattle.std.proofs.Common.{ap}
use Rattle.boards.specs.Headings.{HeadingView}
use Rattle.boards.specs.declared.board.Board.{Board}
use Rattle.boards.specs.declared.format.Format.{Format}
use Rattle.boards.specs.declared.show.Show.{Show}
use Rattle.boards.specs.TricksLines.{IsTold, TricksView, nothing_known}
use Rattle.boards.specs.declared.show.Seats.{Seats}
use Rattle.boards.specs.declared.show.Seats.TheVariants.{All}
use Rattle.notations.specs.Formats.{beside_seats, board_text, layout_showing, layout_solved}
use Rattle.notations.proofs.LayoutLemmas.{showing_board, showing_footer, showing_header}

pub beside_none : (seats : Seats) → beside_seats seats nothing_known ≡ nothing_known
beside_none All = refl
beside_none _ = refl

pub plain_header : (format : Format) (show : Show) (heading : HeadingView)
    → (layout_solved format show heading false).header ≡ (layout_showing format show heading).header
plain_header format show heading = sym (showing_header format show heading)

pub plain_board : (format : Format) (show : Show) (heading : HeadingView) (board : Board)
    → (layout_solved format show heading false).board nothing_known board ≡ (layout_showing format show heading).board board
plain_board format show heading board =
    ap (λ (t : TricksView). board_text format show heading t board) (beside_none show.seats) ∙ sym (showing_board format show heading board)

pub plain_footer : (format : Format) (show : Show) (heading : HeadingView) (boards : List Board) (tried : ℕ)
    → (layout_solved format show heading false).footer ≡ (layout_showing format show heading).footer boards tried
plain_footer format show heading boards tried = ap (λ (f : List Board → ℕ → List ℕ). f boards tried) (sym (showing_footer format show heading))

pub none_told : (t : TricksView) → IsTold t → t.digits ≡ [] → t ≡ nothing_known
none_told t told none =
    let no_score = told.with_digits none in
    rw (none, no_score, told.with_score no_score) refl

pub not_some : (t : TricksView) (digits : List ℕ) (is_empty : Bool) → digits ≡ t.digits
    → is_empty ≡ (length digits == 0) → not is_empty ≡ false → t.digits ≡ []
not_some t [] is_empty same is off = sym same
not_some t (x ∷ xs) is_empty same is off =
    let some : (suc (length xs) == 0) ≡ false = grind (arith, common_steps) in
    absurd (let bad : not false ≡ false = rw (is, some) at off in cc)
