-- One turn of the scanner: what is found so far and what is left tell what the whole text tells.
use Rattle.std.proofs.Common.{◌≡◌, ℕ, ◌+◌, ◌<◌, List, [], ◌∷◌, ◌++◌, length, take, drop, Ok, Err, refl, sym, ap, ◌∙◌}
use Rattle.std.proofs.Common.{subst, append_assoc, append-nil, length-append, arith}
use Rattle.std.proofs.Math.Seq.{drop-append_seam, take-append_seam}
use Rattle.cond_lang.specs.declared.scanner.Token.{Token}
use Rattle.cond_lang.specs.declared.scanner.Placed.{Placed}
use Rattle.cond_lang.specs.declared.scanner.Piece.{Piece}
use Rattle.cond_lang.specs.declared.scanner.Piece.TheVariants.{Separator, Token as TokenPiece}
use Rattle.conditions.specs.declared.error.CondError.{CondError}
use Rattle.cond_lang.specs.Cut.{Pieces, IsCut, end, piece, Naming, no_names, named_piece, naming_after, named_from}
use Rattle.cond_lang.specs.Cut.{named, naming_behind, HasNames, HasTokens}
use Rattle.cond_lang.specs.Faults.{HasFault}
use Rattle.cond_lang.specs.internal.Scanning.{piece_at}
use Rattle.cond_lang.proofs.Cuts.{some_cut}
use Rattle.cond_lang.proofs.Pieces.{only_piece}
use Rattle.cond_lang.proofs.Told.{Told, and_then_more, with_piece, told_from, told_tokens, told_fault}

-- more tokens in front
abbrev pub prepended : List Placed → Told → Told
prepended ts (Ok more) = Ok (ts ++ more)
prepended ts (Err e) = Err e

-- these tokens are found and these names given, and s is left of the text, from the offset at on
pub record IsLeft (text : List ℕ) (found : List Placed) (N : Naming) (at : ℕ) (s : List ℕ) : Type 0 where
  pub whole : Pieces
  pub whole_cut : IsCut text whole
  pub left : Pieces
  pub left_cut : IsCut s left
  pub same : told_from 0 (named whole) ≡ prepended found (told_from at (named_from N left))

nothing_found : (r : Told) → r ≡ prepended [] r
nothing_found (Ok ts) = refl
nothing_found (Err e) = refl

-- at the start the whole text is left
pub all_left : (text : List ℕ) → IsLeft text [] no_names 0 text
all_left text =
    let c = some_cut text in
    record { whole = c.0; whole_cut = c.1; left = c.0; left_cut = c.1; same = nothing_found (told_from 0 (named c.0)) }

-- What is left begins with a piece, and its first bytes are these.
record Turn (text : List ℕ) (found : List Placed) (N : Naming) (at : ℕ) (s : List ℕ) (first : Piece × ℕ) : Type 0 where
  whole : Pieces
  whole_cut : IsCut text whole
  left : Pieces
  left_cut : IsCut (drop first.1 s) left
  same : told_from 0 (named whole)
      ≡ prepended found (with_piece (named_piece N (take first.1 s, first.0)) at
      (told_from (at + first.1) (named_from (naming_after N (take first.1 s, first.0)) left)))

-- what follows the piece k of the bytes p
abbrev turned : List Placed → Naming → ℕ → List ℕ → Piece → ℕ → Pieces → Told
turned found N at p k n ps = prepended found (with_piece (named_piece N (p, k)) at (told_from (at + n) (named_from (naming_after N (p, k)) ps)))

turn_at :
    (text : List ℕ) (found : List Placed) (N : Naming) (at : ℕ) (s : List ℕ) (first : Piece × ℕ) (whole qs : Pieces)
    → IsCut text whole → IsCut s qs → told_from 0 (named whole) ≡ prepended found (told_from at (named_from N qs))
    → 0 < length s → first ≡ piece_at s → Turn text found N at s first
turn_at text found N at s first whole qs c end e h f = absurd (omega arith)
turn_at text found N at s first whole qs c (piece {p} {rest} {k = k} {ps} l i d) e h f =
    let o : first ≡ (k, length p) = f ∙ only_piece i in
    let n : length p ≡ first.1 = sym (ap (λ x. x.1) o) in
    let front : p ≡ take first.1 (p ++ rest) = sym (take-append_seam p rest) ∙ ap (λ n. take n (p ++ rest)) n in
    record {
      whole = whole;
      whole_cut = c;
      left = ps;
      left_cut = subst (λ L. IsCut L ps) (sym (drop-append_seam p rest) ∙ ap (λ n. drop n (p ++ rest)) n) d;
      same = e ∙ ap (λ q. turned found N at q k (length p) ps) front
          ∙ ap (λ x. turned found N at (take first.1 (p ++ rest)) x.0 x.1 ps) (sym o);
    }

turn :
    (text : List ℕ) (found : List Placed) (N : Naming) (at : ℕ) (s : List ℕ) (first : Piece × ℕ)
    → IsLeft text found N at s → 0 < length s → first ≡ piece_at s → Turn text found N at s first
turn text found N at s first l h f = turn_at text found N at s first l.whole l.left l.whole_cut l.left_cut l.same h f

-- the first piece, as it is behind the names
abbrev pub first_named : Naming → List ℕ → Piece × ℕ → Piece
first_named N s first = named_piece N (take first.1 s, first.0)

abbrev pub then_named : Naming → List ℕ → Piece × ℕ → Naming
then_named N s first = naming_after N (take first.1 s, first.0)

-- what the first piece is by its bytes
pub is_first :
    (N : Naming) (s bytes : List ℕ) (first : Piece × ℕ) (r : Piece) {k : Piece}
    → bytes ≡ take first.1 s → r ≡ named_piece N (bytes, first.0) → r ≡ k → first_named N s first ≡ k
is_first N s bytes first r e v i = ap (λ q. named_piece N (q, first.0)) (sym e) ∙ sym v ∙ i

pub names_then :
    (N M : Naming) (s bytes : List ℕ) (first : Piece × ℕ)
    → bytes ≡ take first.1 s → M ≡ naming_after N (bytes, first.0) → M ≡ then_named N s first
names_then N M s bytes first e v = v ∙ ap (λ q. naming_after N (q, first.0)) e

-- A faulty first piece is the text's fault.
pub faulty :
    (text : List ℕ) (found : List Placed) (N : Naming) (at : ℕ) (s : List ℕ) (first : Piece × ℕ) (k : Piece) (e : CondError)
    → IsLeft text found N at s → 0 < length s → first ≡ piece_at s → first_named N s first ≡ k → ((r : Told) → with_piece k at r ≡ Err e)
    → HasFault text e
faulty text found N at s first k e l h f i w =
    let t = turn text found N at s first l h f in
    let r : Told = told_from (at + first.1) (named_from (then_named N s first) t.left) in
    told_fault text e (record {
      pieces = t.whole;
      cut = t.whole_cut;
      found = t.same ∙ ap (λ k. prepended found (with_piece k at r)) i ∙ ap (prepended found) (w r);
    })

-- Another first piece is passed.
passed :
    (text : List ℕ) (found more : List Placed) (N : Naming) (at : ℕ) (s : List ℕ) (first : Piece × ℕ) (k : Piece)
    → IsLeft text found N at s → 0 < length s → first ≡ piece_at s → first_named N s first ≡ k
    → ((r : Told) → prepended found (with_piece k at r) ≡ prepended more r)
    → IsLeft text more (then_named N s first) (at + first.1) (drop first.1 s)
passed text found more N at s first k l h f i w =
    let t = turn text found N at s first l h f in
    let r : Told = told_from (at + first.1) (named_from (then_named N s first) t.left) in
    record {
      whole = t.whole;
      whole_cut = t.whole_cut;
      left = t.left;
      left_cut = t.left_cut;
      same = t.same ∙ ap (λ k. prepended found (with_piece k at r)) i ∙ w r;
    }

-- a separator tells nothing
pub passed_separator :
    (text : List ℕ) (found : List Placed) (N : Naming) (at : ℕ) (s : List ℕ) (first : Piece × ℕ)
    → IsLeft text found N at s → 0 < length s → first ≡ piece_at s → first_named N s first ≡ Separator
    → IsLeft text found (then_named N s first) (at + first.1) (drop first.1 s)
passed_separator text found N at s first l h f i = passed text found found N at s first Separator l h f i (λ r. refl)

pushed : (ts : List Placed) (t : Placed) (r : Told) → prepended ts (and_then_more t r) ≡ prepended (ts ++ t ∷ []) r
pushed ts t (Ok more) = ap (λ L. Ok L) (sym (append_assoc ts (t ∷ []) more))
pushed ts t (Err e) = refl

-- a token is one more that is found
pub passed_token :
    (text : List ℕ) (found : List Placed) (N : Naming) (at : ℕ) (s : List ℕ) (first : Piece × ℕ) (t : Token)
    → IsLeft text found N at s → 0 < length s → first ≡ piece_at s → first_named N s first ≡ TokenPiece t
    → IsLeft text (found ++ record { token = t; at = at } ∷ []) (then_named N s first) (at + first.1) (drop first.1 s)
passed_token text found N at s first t l h f i =
    passed text found (found ++ record { token = t; at = at } ∷ []) N at s first (TokenPiece t) l h f i (pushed found (record { token = t; at = at }))

ended :
    (text : List ℕ) (found : List Placed) (N : Naming) (at : ℕ) (s : List ℕ) (whole qs : Pieces)
    → IsCut text whole → IsCut s qs → told_from 0 (named whole) ≡ prepended found (told_from at (named_from N qs)) → length s ≡ 0
    → HasTokens text found
ended text found N at s whole qs c end e h = told_tokens text found
    (record { pieces = whole; cut = c; found = e ∙ ap (λ L. Ok L) (append-nil found) })
ended text found N at s whole qs c (piece {p} {rest} l i d) e h = absurd (omega (arith, length-append p rest))

-- When nothing is left, what was found are the text's tokens.
pub none_left : (text : List ℕ) (found : List Placed) (N : Naming) (at : ℕ) (s : List ℕ) → IsLeft text found N at s
    → length s ≡ 0 → HasTokens text found
none_left text found N at s l h = ended text found N at s l.whole l.left l.whole_cut l.left_cut l.same h

-- These names are given, and s is left of the text.
pub record IsNamedTo (text : List ℕ) (N : Naming) (s : List ℕ) : Type 0 where
  pub whole : Pieces
  pub whole_cut : IsCut text whole
  pub left : Pieces
  pub left_cut : IsCut s left
  pub same : naming_behind no_names whole ≡ naming_behind N left

pub none_named : (text : List ℕ) → IsNamedTo text no_names text
none_named text = let c = some_cut text in record { whole = c.0; whole_cut = c.1; left = c.0; left_cut = c.1; same = refl }

named_at :
    (text : List ℕ) (N : Naming) (s : List ℕ) (first : Piece × ℕ) (whole qs : Pieces)
    → IsCut text whole → IsCut s qs → naming_behind no_names whole ≡ naming_behind N qs
    → 0 < length s → first ≡ piece_at s → IsNamedTo text (then_named N s first) (drop first.1 s)
named_at text N s first whole qs c end e h f = absurd (omega arith)
named_at text N s first whole qs c (piece {p} {rest} {k = k} {ps} l i d) e h f =
    let o : first ≡ (k, length p) = f ∙ only_piece i in
    let n : length p ≡ first.1 = sym (ap (λ x. x.1) o) in
    let front : p ≡ take first.1 (p ++ rest) = sym (take-append_seam p rest) ∙ ap (λ n. take n (p ++ rest)) n in
    record {
      whole = whole;
      whole_cut = c;
      left = ps;
      left_cut = subst (λ L. IsCut L ps) (sym (drop-append_seam p rest) ∙ ap (λ n. drop n (p ++ rest)) n) d;
      same = e ∙ ap (λ q. naming_behind (naming_after N (q, k)) ps) front
          ∙ ap (λ j. naming_behind (naming_after N (take first.1 (p ++ rest), j)) ps) (sym (ap (λ x. x.0) o));
    }

pub named_next :
    (text : List ℕ) (N : Naming) (s : List ℕ) (first : Piece × ℕ)
    → IsNamedTo text N s → 0 < length s → first ≡ piece_at s → IsNamedTo text (then_named N s first) (drop first.1 s)
named_next text N s first l h f = named_at text N s first l.whole l.left l.whole_cut l.left_cut l.same h f

all_named : (text : List ℕ) (N : Naming) (s : List ℕ) (whole qs : Pieces) → IsCut text whole → IsCut s qs
    → naming_behind no_names whole ≡ naming_behind N qs → length s ≡ 0 → HasNames text N.given
all_named text N s whole qs c end e h = record { pieces = whole; cut = c; given = sym (ap (λ N. N.given) e) }
all_named text N s whole qs c (piece {p} {rest} l i d) e h = absurd (omega (arith, length-append p rest))

-- When nothing is left, these are the text's names.
pub has_names : (text : List ℕ) (N : Naming) (s : List ℕ) → IsNamedTo text N s → length s ≡ 0 → HasNames text N.given
has_names text N s l h = all_named text N s l.whole l.left l.whole_cut l.left_cut l.same h
