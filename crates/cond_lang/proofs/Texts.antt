-- What a text tells, it tells once.
use Rattle.std.proofs.Common.{◌≡◌, ℕ, List, Result, Err, Some, IfErr, sym, ap, ◌∙◌, subst}
use Rattle.cond_lang.specs.declared.scanner.Placed.{Placed}
use Rattle.cond_lang.specs.declared.scanner.Piece.{Piece}
use Rattle.cond_lang.specs.declared.scanner.Piece.TheVariants.{Separator, Token as TokenPiece, StrayByte, UnknownWord, LongNumber}
use Rattle.conditions.specs.declared.error.CondError.{CondError}
use Rattle.conditions.specs.declared.error.CondError.TheVariants.{TooLong, Byte, Word, Number, Memory}
use Rattle.conditions.specs.Form.{Form}
use Rattle.cond_lang.specs.Definitions.{Spells}
use Rattle.cond_lang.specs.Text.{kinds}
use Rattle.cond_lang.specs.Cut.{named, fault_at, HasTokens}
use Rattle.cond_lang.specs.Faults.{bytes_of, HasFault}
use Rattle.cond_lang.specs.Text.{SpellsTree}
use Rattle.cond_lang.specs.Faults.{IsDue}
use Rattle.cond_lang.proofs.Cuts.{one_cut}
use Rattle.cond_lang.proofs.Definitions.{one_tree}
use Rattle.cond_lang.proofs.Told.{told_from, tokens_told, fault_told}

pub one_fault : (text : List ℕ) (e f : CondError) → HasFault text e → HasFault text f → e ≡ f
one_fault text e f h k =
    let x = fault_told text e h in
    let y = fault_told text f k in
    let same : told_from 0 (named x.pieces) ≡ told_from 0 (named y.pieces) =
    ap (λ ps. told_from 0 (named ps)) (one_cut text x.pieces y.pieces x.cut y.cut) in
    let a = x.found in
    let b = y.found in
    cc

pub one_tokens : (text : List ℕ) (xs ys : List Placed) → HasTokens text xs → HasTokens text ys → xs ≡ ys
one_tokens text xs ys h k =
    let x = tokens_told text xs h in
    let y = tokens_told text ys k in
    let same : told_from 0 (named x.pieces) ≡ told_from 0 (named y.pieces) =
    ap (λ ps. told_from 0 (named ps)) (one_cut text x.pieces y.pieces x.cut y.cut) in
    let a = x.found in
    let b = y.found in
    cc

pub no_tokens : (text : List ℕ) (e : CondError) (xs : List Placed) → HasFault text e → HasTokens text xs → ⊥
no_tokens text e xs h k =
    let x = fault_told text e h in
    let y = tokens_told text xs k in
    let same : told_from 0 (named x.pieces) ≡ told_from 0 (named y.pieces) =
    ap (λ ps. told_from 0 (named ps)) (one_cut text x.pieces y.pieces x.cut y.cut) in
    let a = x.found in
    let b = y.found in
    cc

-- the fault of a piece
abbrev pub IsOfPiece : CondError → Type 0
IsOfPiece (Byte at) = Unit {0}
IsOfPiece (Word at) = Unit {0}
IsOfPiece (Number at) = Unit {0}
IsOfPiece e = ⊥

of_piece : (k : Piece) (at : ℕ) (e : CondError) → fault_at at k ≡ Some e → IsOfPiece e
of_piece Separator at e h = absurd (cc)
of_piece (TokenPiece t) at e h = absurd (cc)
of_piece StrayByte at e h = let f : Byte at ≡ e = cc in subst IsOfPiece f tt
of_piece UnknownWord at e h = let f : Word at ≡ e = cc in subst IsOfPiece f tt
of_piece LongNumber at e h = let f : Number at ≡ e = cc in subst IsOfPiece f tt

pub fault_of_piece : (text : List ℕ) (e : CondError) → HasFault text e → IsOfPiece e
fault_of_piece text e h = of_piece h.faulty.1 (bytes_of h.before) e h.found

due : (text : List ℕ) (e : CondError) → HasFault text e → IsOfPiece e → IsDue text e
due text (Byte at) h k = h
due text (Word at) h k = h
due text (Number at) h k = h
due text Memory h k = tt
due text x h k = absurd k

-- A piece's fault is a reason to refuse the text.
pub fault_due : (text : List ℕ) (e : CondError) → HasFault text e → IsDue text e
fault_due text e h = due text e h (fault_of_piece text e h)

-- A text spells at most one tree.
pub one_text_tree : (text : List ℕ) (xs : List Placed) (a b : Form) → HasTokens text xs → Spells (kinds xs) a → SpellsTree text b → a ≡ b
one_text_tree text xs a b h s t =
    one_tree (kinds xs) a b s (subst (λ ys. Spells (kinds ys) b) (one_tokens text t.tokens xs t.cut h) t.spells)

-- Refusals, as a result tells them.

pub piece_no_limit : {A : Type 0} (text : List ℕ) (r : Result A CondError) (e : CondError) → r ≡ Err e → HasFault text e → r ≡ Err TooLong → ⊥
piece_no_limit {A} text r e i h k = let same : e ≡ TooLong = cc in subst IsOfPiece same (fault_of_piece text e h)

pub piece_refused : (text : List ℕ) (r : Result Form CondError) (e : CondError) → r ≡ Err e → HasFault text e → IfErr r (IsDue text)
piece_refused text r e i h = rw i (fault_due text e h)

pub piece_fault : {A : Type 0} (text : List ℕ) (r : Result A CondError) (e f : CondError) → r ≡ Err e → HasFault text e → HasFault text f → r ≡ Err f
piece_fault {A} text r e f i h k = i ∙ ap (λ x. Err x) (one_fault text e f h k)

-- the tokens of a text that spells a tree spell it
pub its_tokens_spell : (text : List ℕ) (xs ys : List Placed) (t : Form) → HasTokens text xs → ys ≡ xs → SpellsTree text t → Spells (kinds ys) t
its_tokens_spell text xs ys t h i s = subst (λ zs. Spells (kinds zs) t) (one_tokens text s.tokens xs s.cut h ∙ sym i) s.spells
