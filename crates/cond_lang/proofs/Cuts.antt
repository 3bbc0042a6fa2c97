-- Each text has a cut, and only one.
use Rattle.std.proofs.Common.{◌≡◌, ℕ, zero, suc, ◌≤◌, List, [], ◌∷◌, ◌++◌, length, take, drop, refl, sym, ap, ◌∙◌, subst, arith, length-append}
use Rattle.std.proofs.Math.Seq.{take-append_seam, drop-append_seam}
use Rattle.cond_lang.specs.declared.scanner.Piece.{Piece}
use Rattle.cond_lang.specs.Cut.{Pieces, IsCut, end, piece}
use Rattle.cond_lang.specs.internal.Scanning.{piece_at}
use Rattle.cond_lang.proofs.Pieces.{only_piece, first_piece}

cut_within : (n : ℕ) (s : List ℕ) → length s ≤ n → (ps : Pieces) × IsCut s ps
cut_within n [] h = ([], end)
cut_within zero (c ∷ s) h = absurd (omega arith)
cut_within (suc n) (c ∷ s) h =
    let f = first_piece c s in
    let r = cut_within n f.rest (omega (arith, h, f.some, ap length f.split, length-append f.p f.rest)) in
    ((f.p, f.kind) ∷ r.0, subst (λ s. IsCut s ((f.p, f.kind) ∷ r.0)) (sym f.split) (piece f.some f.is r.1))

-- Every text has a cut.
pub some_cut : (s : List ℕ) → (ps : Pieces) × IsCut s ps
some_cut s = cut_within (length s) s (omega arith)

same_cut : (s r : List ℕ) (ps qs : Pieces) → IsCut s ps → IsCut r qs → s ≡ r → ps ≡ qs
same_cut s r ps qs end end e = refl
same_cut s r ps qs end (piece {p} {rest} l i c) e = absurd (omega (arith, l, ap length e, length-append p rest))
same_cut s r ps qs (piece {p} {rest} l i c) end e = absurd (omega (arith, l, ap length e, length-append p rest))
same_cut s r ps qs (piece {p} {rest} {k} {ps = ps'} l i c) (piece {p = p'} {rest = rest'} {k = k'} {ps = qs'} l' i' c') e =
    let o : (let x : Piece × ℕ = (k, length p) in x) ≡ (k', length p') = sym (only_piece i) ∙ ap piece_at e ∙ only_piece i' in
    let n : length p ≡ length p' = ap (λ x. x.1) o in
    let front : p ≡ p' = sym (take-append_seam p rest) ∙ ap (λ n. take n (p ++ rest)) n ∙ ap (take (length p')) e ∙ take-append_seam p' rest' in
    let back : rest ≡ rest' = sym (drop-append_seam p rest) ∙ ap (λ n. drop n (p ++ rest)) n ∙ ap (drop (length p')) e ∙ drop-append_seam p' rest' in
    let h : ps' ≡ qs' = same_cut rest rest' ps' qs' c c' back in
    let kinds : k ≡ k' = ap (λ x. x.0) o in
    ap (λ ps. (p, k) ∷ ps) h ∙ ap (λ p. (p, k) ∷ qs') front ∙ ap (λ k. (p', k) ∷ qs') kinds

-- A text has only one cut.
pub one_cut : (s : List ℕ) (ps qs : Pieces) → IsCut s ps → IsCut s qs → ps ≡ qs
one_cut s ps qs c d = same_cut s s ps qs c d refl
