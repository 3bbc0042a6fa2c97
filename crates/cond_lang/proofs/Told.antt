-- What pieces tell, one after another from the left: it is what the definitions say of them.
use Rattle.std.proofs.Common.{◌≡◌, ℕ, ◌+◌, List, [], ◌∷◌, ◌++◌, length, All, ◌≢◌, Result, Ok, Err, Some, None, refl, sym, ap, ◌∙◌, subst, arith}
use Rattle.std.specs.List.{AllByRecursion, cons_option, filter_map}
use Rattle.std.proofs.lemmas.List.Elements.{All-from_recursion, recursion_from_All}
use Rattle.std.proofs.lemmas.List.Sums.{sum_by-cons}
use Rattle.cond_lang.specs.declared.scanner.Placed.{Placed}
use Rattle.cond_lang.specs.declared.scanner.Piece.{Piece}
use Rattle.cond_lang.specs.declared.scanner.Token.TheVariants.{Let}
use Rattle.cond_lang.specs.declared.scanner.Piece.TheVariants.{Separator, Token as TokenPiece, StrayByte, UnknownWord, LongNumber}
use Rattle.conditions.specs.declared.error.CondError.{CondError}
use Rattle.conditions.specs.declared.error.CondError.TheVariants.{Byte, Word, Number}
use Rattle.cond_lang.specs.Cut.{Pieces, IsCut, no_names, named_piece, naming_after, named_from, named, placed_from}
use Rattle.cond_lang.specs.Cut.{token_at, fault_at, IsSound, tokens_of, HasTokens}
use Rattle.cond_lang.specs.Faults.{bytes_of, HasFault}

-- tokens, or a fault
abbrev pub Told : Type 0
Told = Result (List Placed) CondError

-- one token more in front of those that follow, unless there is a fault among these
abbrev pub and_then_more : Placed → Told → Told
and_then_more t (Ok ts) = Ok (t ∷ ts)
and_then_more t (Err e) = Err e

-- a piece in front of what the later ones tell: a fault hides all that follows
abbrev pub with_piece : Piece → ℕ → Told → Told
with_piece Separator at r = r
with_piece (TokenPiece t) at r = and_then_more (record { token = t; at = at }) r
with_piece StrayByte at r = Err (Byte at)
with_piece UnknownWord at r = Err (Word at)
with_piece LongNumber at r = Err (Number at)

-- the tokens of the pieces, each with its offset, or the leftmost fault
abbrev pub told_from : ℕ → Pieces → Told
told_from at [] = Ok []
told_from at (p ∷ ps) = with_piece p.1 at (told_from (at + length p.0) ps)

-- the same of a text
pub record TellsTokens (text : List ℕ) (tokens : List Placed) : Type 0 where
  pub pieces : Pieces
  pub cut : IsCut text pieces
  pub found : told_from 0 (named pieces) ≡ Ok tokens

pub record TellsFault (text : List ℕ) (fault : CondError) : Type 0 where
  pub pieces : Pieces
  pub cut : IsCut text pieces
  pub found : told_from 0 (named pieces) ≡ Err fault

-- Sound pieces tell their tokens.

abbrev tokens_from : ℕ → Pieces → List Placed
tokens_from at ps = filter_map (λ p. token_at p.0 p.1) (placed_from at ps)

sound_piece :
    (k : Piece) (at : ℕ) (r : Told) (ts : List Placed) → ((n : ℕ) → fault_at n k ≡ None) → r ≡ Ok ts
    → with_piece k at r ≡ Ok (cons_option (token_at at k) ts)
sound_piece Separator at r ts s e = e
sound_piece (TokenPiece t) at r ts s e = ap (and_then_more (record { token = t; at = at })) e
sound_piece x at r ts s e = let h = s 0 in absurd (cc)

sound_told : (at : ℕ) (ps : Pieces) → AllByRecursion IsSound ps → told_from at ps ≡ Ok (tokens_from at ps)
sound_told at [] a = refl
sound_told at ((w, k) ∷ ps) a =
    sound_piece k at (told_from (at + length w) ps) (tokens_from (at + length w) ps) a.0 (sound_told (at + length w) ps a.1)

more_back : (t : Placed) (r : Told) (ts : List Placed) → and_then_more t r ≡ Ok ts → (more : List Placed) × (r ≡ Ok more)
more_back t (Ok more) ts e = (more, refl)
more_back t (Err f) ts e = absurd (cc)

-- Pieces that tell tokens are sound.
told_sound : (at : ℕ) (ps : Pieces) (ts : List Placed) → told_from at ps ≡ Ok ts → AllByRecursion IsSound ps
told_sound at [] ts e = tt
told_sound at ((w, Separator) ∷ ps) ts e = (λ n. refl, told_sound (at + length w) ps ts e)
told_sound at ((w, TokenPiece t) ∷ ps) ts e =
    let m = more_back (record { token = t; at = at }) (told_from (at + length w) ps) ts e in
    (λ n. refl, told_sound (at + length w) ps m.0 m.1)
told_sound at ((w, StrayByte) ∷ ps) ts e = absurd (cc)
told_sound at ((w, UnknownWord) ∷ ps) ts e = absurd (cc)
told_sound at ((w, LongNumber) ∷ ps) ts e = absurd (cc)

-- The tokens that a text tells are those that it has.

pub tokens_told : (text : List ℕ) (ts : List Placed) → HasTokens text ts → TellsTokens text ts
tokens_told text ts h =
    record {
      pieces = h.pieces;
      cut = h.cut;
      found =
          sound_told 0 (named h.pieces) (recursion_from_All IsSound (named h.pieces) h.clean) ∙ ap (λ L. Ok L) (sym h.found);
    }

pub told_tokens : (text : List ℕ) (ts : List Placed) → TellsTokens text ts → HasTokens text ts
told_tokens text ts h =
    let ps : Pieces = named h.pieces in
    let s : AllByRecursion IsSound ps = told_sound 0 ps ts h.found in
    let e : told_from 0 ps ≡ Ok (tokens_of ps) = sound_told 0 ps s in
    let f : told_from 0 ps ≡ Ok ts = h.found in
    record { pieces = h.pieces; cut = h.cut; clean = All-from_recursion IsSound ps s; found = cc }

-- The fault of pieces that begin at an offset.
record FaultFrom (at : ℕ) (ps : Pieces) (e : CondError) : Type 0 where
  before : Pieces
  faulty : List ℕ × Piece
  after : Pieces
  split : ps ≡ before ++ faulty ∷ after
  clean : AllByRecursion IsSound before
  found : fault_at (at + bytes_of before) faulty.1 ≡ Some e

fault_here : (at : ℕ) (w : List ℕ) (k : Piece) (ps : Pieces) (e : CondError) → fault_at at k ≡ Some e → FaultFrom at ((w, k) ∷ ps) e
fault_here at w k ps e h =
    let place : at ≡ at + 0 = omega arith in
    record {
      before = [];
      faulty = (w, k);
      after = ps;
      split = refl;
      clean = tt;
      found = subst (λ n. fault_at n k ≡ Some e) place h;
    }

further : (at : ℕ) (w : List ℕ) (k : Piece) (ps : Pieces) → (at + length w) + bytes_of ps ≡ at + bytes_of ((w, k) ∷ ps)
further at w k ps = omega (arith, sum_by-cons (λ (p : List ℕ × Piece). length p.0) (w, k) ps)

fault_later :
    (at : ℕ) (w : List ℕ) (k : Piece) (ps : Pieces) (e : CondError)
    → ((n : ℕ) → fault_at n k ≡ None) → FaultFrom (at + length w) ps e → FaultFrom at ((w, k) ∷ ps) e
fault_later at w k ps e s f =
    record {
      before = (w, k) ∷ f.before;
      faulty = f.faulty;
      after = f.after;
      split = ap (λ L. (w, k) ∷ L) f.split;
      clean = (s, f.clean);
      found = subst (λ n. fault_at n f.faulty.1 ≡ Some e) (further at w k f.before) f.found;
    }

more_fault : (t : Placed) (r : Told) (e : CondError) → and_then_more t r ≡ Err e → r ≡ Err e
more_fault t (Ok more) e i = absurd (cc)
more_fault t (Err f) e i = i

told_fault_from : (at : ℕ) (ps : Pieces) (e : CondError) → told_from at ps ≡ Err e → FaultFrom at ps e
told_fault_from at [] e i = absurd (cc)
told_fault_from at ((w, Separator) ∷ ps) e i = fault_later at w Separator ps e (λ n. refl) (told_fault_from (at + length w) ps e i)
told_fault_from at ((w, TokenPiece t) ∷ ps) e i =
    fault_later at w (TokenPiece t) ps e (λ n. refl)
    (told_fault_from (at + length w) ps e (more_fault (record { token = t; at = at }) (told_from (at + length w) ps) e i))
told_fault_from at ((w, StrayByte) ∷ ps) e i = fault_here at w StrayByte ps e (let f : Byte at ≡ e = cc in ap (λ e. Some e) f)
told_fault_from at ((w, UnknownWord) ∷ ps) e i = fault_here at w UnknownWord ps e (let f : Word at ≡ e = cc in ap (λ e. Some e) f)
told_fault_from at ((w, LongNumber) ∷ ps) e i = fault_here at w LongNumber ps e (let f : Number at ≡ e = cc in ap (λ e. Some e) f)

faulty_piece : (k : Piece) (at : ℕ) (r : Told) (e : CondError) → fault_at at k ≡ Some e → with_piece k at r ≡ Err e
faulty_piece Separator at r e h = absurd (cc)
faulty_piece (TokenPiece t) at r e h = absurd (cc)
faulty_piece StrayByte at r e h = let f : Byte at ≡ e = cc in ap (λ e. Err e) f
faulty_piece UnknownWord at r e h = let f : Word at ≡ e = cc in ap (λ e. Err e) f
faulty_piece LongNumber at r e h = let f : Number at ≡ e = cc in ap (λ e. Err e) f

passed_piece : (k : Piece) (at : ℕ) (r : Told) (e : CondError) → ((n : ℕ) → fault_at n k ≡ None) → r ≡ Err e → with_piece k at r ≡ Err e
passed_piece Separator at r e s i = i
passed_piece (TokenPiece t) at r e s i = ap (and_then_more (record { token = t; at = at })) i
passed_piece x at r e s i = let h = s 0 in absurd (cc)

fault_told_from :
    (at : ℕ) (before : Pieces) (faulty : List ℕ × Piece) (after : Pieces) (e : CondError)
    → AllByRecursion IsSound before → fault_at (at + bytes_of before) faulty.1 ≡ Some e
    → told_from at (before ++ faulty ∷ after) ≡ Err e
fault_told_from at [] faulty after e s h =
    let place : at + 0 ≡ at = omega arith in
    faulty_piece faulty.1 at (told_from (at + length faulty.0) after) e (subst (λ n. fault_at n faulty.1 ≡ Some e) place h)
fault_told_from at ((w, k) ∷ before) faulty after e s h =
    passed_piece k at (told_from (at + length w) (before ++ faulty ∷ after)) e s.0
    (fault_told_from (at + length w) before faulty after e s.1
    (subst (λ n. fault_at n faulty.1 ≡ Some e) (sym (further at w k before)) h))

-- The fault that a text tells is the one that it has.

pub fault_told : (text : List ℕ) (e : CondError) → HasFault text e → TellsFault text e
fault_told text e h =
    let place : bytes_of h.before ≡ 0 + bytes_of h.before = omega arith in
    record {
      pieces = h.pieces;
      cut = h.cut;
      found =
          ap (told_from 0) h.parts
          ∙ fault_told_from 0 h.before h.faulty h.after e (recursion_from_All IsSound h.before h.clean)
          (subst (λ n. fault_at n h.faulty.1 ≡ Some e) place h.found);
    }

pub told_fault : (text : List ℕ) (e : CondError) → TellsFault text e → HasFault text e
told_fault text e h =
    let f = told_fault_from 0 (named h.pieces) e h.found in
    let place : 0 + bytes_of f.before ≡ bytes_of f.before = omega arith in
    record {
      pieces = h.pieces;
      cut = h.cut;
      before = f.before;
      faulty = f.faulty;
      after = f.after;
      parts = f.split;
      clean = All-from_recursion IsSound f.before f.clean;
      found = subst (λ n. fault_at n f.faulty.1 ≡ Some e) place f.found;
    }

-- Pieces none of which is `let` have no names.

naming_kept : (p : List ℕ × Piece) → (p.1 ≡ TokenPiece Let → ⊥) → naming_after no_names p ≡ no_names
naming_kept (w, Separator) n = refl
naming_kept (w, UnknownWord) n = refl
naming_kept (w, StrayByte) n = refl
naming_kept (w, LongNumber) n = refl
naming_kept (w, TokenPiece Let) n = absurd (n refl)
naming_kept (w, TokenPiece t) n = refl

piece_kept : (p : List ℕ × Piece) → named_piece no_names p ≡ p.1
piece_kept (w, Separator) = refl
piece_kept (w, UnknownWord) = refl
piece_kept (w, StrayByte) = refl
piece_kept (w, LongNumber) = refl
piece_kept (w, TokenPiece t) = refl

no_let : (ps : Pieces) → AllByRecursion (λ p. p.1 ≡ TokenPiece Let → ⊥) ps → named ps ≡ ps
no_let [] a = refl
no_let (p ∷ ps) a =
    let more : named ps ≡ ps = no_let ps a.1 in
    ap (λ k. (p.0, k) ∷ named_from (naming_after no_names p) ps) (piece_kept p)
    ∙ ap (λ N. p ∷ named_from N ps) (naming_kept p a.0)
    ∙ ap (λ qs. p ∷ qs) more

pub same_without_let : (ps : Pieces) → All (λ p. p.1 ≢ TokenPiece Let) ps → named ps ≡ ps
same_without_let ps a = no_let ps (recursion_from_All (λ p. p.1 ≢ TokenPiece Let) ps a)
