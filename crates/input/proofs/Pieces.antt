-- Pieces of what the input gives.
use Rattle.std.proofs.Common.{◌≡◌, ◌∙◌, ◌<◌, ◌+◌, ℕ, List, [], ◌∷◌, ◌++◌, length, take, drop, arith, length-take, ◌≤◌}
use Rattle.std.proofs.Common.{◌*◌, get_or, Option, sym, ap, append_assoc, add-one, drop-cons, subst}
use Rattle.std.specs.Prelude.{Err, Ok, OnOk, Result}
use Rattle.std.proofs.lemmas.List.{append-nil, take-append-drop}
use Rattle.std.proofs.KnownBytes.{Consumes-kept, Consumes-nil, Consumes-trans}
use Rattle.std.specs.Io.KnownBytes.{Consumes, IsAtEnd, Keeps}
use Rattle.boards.specs.declared.board.Board.{Board}
use Rattle.boards.specs.Layouts.{Layout}
use Rattle.boards.specs.Plans.{Planned}
use Rattle.input.specs.Outcomes.{Picks, PicksOf}
use Rattle.input.specs.internal.Picking.{PickedFrom, PickedSoFar}
use Rattle.input.specs.Scans.{ScannerView}
use Rattle.sinks.specs.Appended.{AppendsPart}
use Rattle.input.proofs.Boards.{breaks_header, input_failed}
use Rattle.input.specs.declared.numbers.fault.PickFault.TheVariants.{Input, Output}
use Rattle.input.specs.declared.numbers.fault.PickFault.{PickFault}

-- a piece is cut at a byte
pub cut_at : (given piece rest : List ℕ) (i : ℕ) → i < length piece
    → (given ++ take i piece) ++ (get_or piece i 0 ∷ (drop (i + 1) piece ++ rest)) ≡ given ++ (piece ++ rest)
cut_at given piece rest i below =
    let cut : get_or piece i 0 ∷ drop (i + 1) piece ≡ drop i piece = rw add-one (sym (drop-cons piece i 0 below)) in
    append_assoc given (take i piece) (get_or piece i 0 ∷ (drop (i + 1) piece ++ rest)) ∙ ap (λ l. given ++ (take i piece ++ (l ++ rest))) cut
    ∙ ap (λ l. given ++ l) (sym (append_assoc (take i piece) (drop i piece) rest) ∙ ap (λ l. l ++ rest) (take-append-drop i piece))

pub broken_at : (layout now_layout : Layout) (has : List Board → Type 0) (plan : Planned) (s : ScannerView)
    (fault : PickFault) (before piece whole : List ℕ) (base now new : Option (List ℕ)) → now_layout ≡ layout
    → before ++ piece ≡ whole
    → (PickedSoFar now_layout has plan s before base now → PicksOf now_layout plan (before ++ piece) (Err fault) base new)
    → PickedSoFar layout has plan s before base now → PicksOf layout plan whole (Err fault) base new
broken_at layout now_layout has plan s fault before piece whole base now new same is breaks p =
    let q : PickedSoFar now_layout has plan s before base now = subst (λ l. PickedSoFar l has plan s before base now) (sym same) p in
    subst (λ t. PicksOf layout plan t (Err fault) base new) is (subst (λ l. PicksOf l plan (before ++ piece) (Err fault) base new) same (breaks q))

-- ---- from the input

pub from_nothing : (layout : Layout) (has : List Board → Type 0) (plan : Planned) (s : ScannerView)
    (input base now : Option (List ℕ)) → PickedSoFar layout has plan s [] base now
    → PickedFrom layout has plan s input input base now
from_nothing layout has plan s input base now p = record { given = []; consumed = Consumes-nil input; so_far = p }

pub from_more : (layout now_layout : Layout) (has has_more : List Board → Type 0) (plan : Planned) (s t : ScannerView)
    (piece : List ℕ) (before after further base now new : Option (List ℕ)) → now_layout ≡ layout
    → Consumes after further piece
    → ((given : List ℕ) (base : Option (List ℕ)) → PickedSoFar now_layout has plan s given base now
    → PickedSoFar now_layout has_more plan t (given ++ piece) base new)
    → PickedFrom layout has plan s before after base now → PickedFrom layout has_more plan t before further base new
from_more layout now_layout has has_more plan s t piece before after further base now new same more picks p = record {
  given = p.given ++ piece;
  consumed = Consumes-trans before after further p.given piece p.consumed more;
  so_far = subst (λ l. PickedSoFar l has_more plan t (p.given ++ piece) base new) same
      (picks p.given base (subst (λ l. PickedSoFar l has plan s p.given base now) (sym same) p.so_far));
}

pub from_broken : (layout now_layout : Layout) (has : List Board → Type 0) (plan : Planned) (s : ScannerView)
    (fault : PickFault) (piece : List ℕ) (before after further base now new : Option (List ℕ)) → now_layout ≡ layout
    → Consumes after further piece
    → ((given rest : List ℕ) (base : Option (List ℕ)) → PickedSoFar now_layout has plan s given base now
    → PicksOf now_layout plan (given ++ (piece ++ rest)) (Err fault) base new)
    → PickedFrom layout has plan s before after base now → Picks layout plan (Err fault) before further base new
from_broken layout now_layout has plan s fault piece before after further base now new same more breaks p = record {
  given = p.given ++ piece;
  consumed = Consumes-trans before after further p.given piece p.consumed more;
  all = tt;
  written = broken_at layout now_layout has plan s fault p.given (piece ++ []) (p.given ++ piece) base now new same
      (ap (λ l. p.given ++ l) (append-nil piece)) (breaks p.given [] base) p.so_far;
}

pub from_failed : (layout : Layout) (has : List Board → Type 0) (plan : Planned) (s : ScannerView)
    (before after further base now : Option (List ℕ)) → Keeps after further
    → PickedFrom layout has plan s before after base now
    → Picks layout plan (Err Input) before further base now
from_failed layout has plan s before after further base now kept p = record {
  given = p.given;
  consumed = Consumes-kept before after further p.given p.consumed kept;
  all = tt;
  written = input_failed layout has plan s p.given base now p.so_far;
}

if_ok : {P : Type 0} (r : Result ℕ PickFault) → P → OnOk r P
if_ok (Ok n) p = p
if_ok (Err e) p = tt

pub from_end : (layout now_layout : Layout) (has : List Board → Type 0) (plan : Planned) (s : ScannerView)
    (r : Result ℕ PickFault) (count : ℕ) (piece : List ℕ) (before after further base now new : Option (List ℕ))
    → now_layout ≡ layout
    → count ≡ 0 → Consumes after further (take count piece) → IsAtEnd further
    → ((given : List ℕ) (base : Option (List ℕ)) → PickedSoFar now_layout has plan s given base now → PicksOf now_layout plan given r base new)
    → PickedFrom layout has plan s before after base now → Picks layout plan r before further base new
from_end layout now_layout has plan s r count piece before after further base now new same none more at_end picks p = record {
  given = p.given;
  consumed = consumed;
  all = if_ok r at_end;
  written = subst (λ l. PicksOf l plan p.given r base new) same
      (picks p.given base (subst (λ l. PickedSoFar l has plan s p.given base now) (sym same) p.so_far));
}
  where
    nothing : Consumes after further []
    nothing = rw none at more

    consumed : Consumes before further p.given
    consumed = rw append-nil at (Consumes-trans before after further p.given [] p.consumed nothing)

pub from_header : (layout now_layout : Layout) (plan : Planned) (input base new : Option (List ℕ))
    → now_layout ≡ layout → AppendsPart base new now_layout.header
    → Picks layout plan (Err Output) input input base new
from_header layout now_layout plan input base new same part = record {
  given = [];
  consumed = Consumes-nil input;
  all = tt;
  written = breaks_header layout now_layout plan base new same part;
}

-- a piece has at most so many lines
pub lines_in : (turn count : ℕ) (piece : List ℕ) (lines more : ℕ) → length piece ≡ 8192 → lines ≤ turn * 8192
    → more ≤ lines + length (take count piece) → more ≤ (turn + 1) * 8192
lines_in turn count piece lines more whole few added =
    let short : length (take count piece) ≤ 8192 = rw length-take (omega (arith, whole)) in
    omega arith
