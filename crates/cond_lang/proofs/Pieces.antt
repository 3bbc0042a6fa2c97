-- Each text that isn't empty begins with exactly one piece, the one that the scanner finds.
use Rattle.std.proofs.Common.{◌≡◌, ℕ, zero, suc, ◌<◌, ◌≤◌, Bool, true, false, List, [], ◌∷◌, ◌++◌, length, take, drop}
use Rattle.std.proofs.Common.{Option, Some, None, leb, refl, sym, ap, ◌∙◌, subst, arith, take-append-drop, inl, inr}
use Rattle.std.specs.Prelude.{Contains}
use Rattle.std.proofs.Math.Seq.{take-append_seam}
use Rattle.std.proofs.lemmas.Bool.{le-leb, lt-leb, cases_Bool, cases_lt, cond-true, cond-false}
use Rattle.std.specs.Char.{is_ascii_lowercase, is_ascii_digit}
use Rattle.conditions.specs.declared.tree.Op.TheVariants.{Less, AtMost, More, AtLeast}
use Rattle.cond_lang.specs.declared.scanner.Token.{Token}
use Rattle.cond_lang.specs.declared.scanner.Token.TheVariants.{Ranks, Number, Relation}
use Rattle.cond_lang.specs.declared.scanner.Piece.{Piece}
use Rattle.cond_lang.specs.declared.scanner.Piece.TheVariants.{Separator, Token as TokenPiece, StrayByte, UnknownWord, LongNumber}
use Rattle.cond_lang.specs.Cut.{words, symbols, is_separator, is_comment_sign, is_in_comment, IsRun, decimal}
use Rattle.cond_lang.specs.Cut.{BeginsWithSymbol, IsPiece, are_ranks, named_by, blank, comment, word, ranks, no_word}
use Rattle.cond_lang.specs.Cut.{number, long, symbol, stray}
use Rattle.cond_lang.specs.Runs.{run}
use Rattle.cond_lang.specs.internal.Scanning.{token_of, begins_with, symbol_after, token_or, word_piece, ranks_piece}
use Rattle.cond_lang.specs.internal.Scanning.{number_piece, symbol_piece, piece_at}
use Rattle.cond_lang.proofs.Tables.{pick, words_apart, no_ranks_word, token_of-entry, entry_of, at_entry}
use Rattle.cond_lang.proofs.Runs.{run-append, run_all, run_ends, run_split, lowercase_no_separator}
use Rattle.cond_lang.proofs.Runs.{digit_no_separator, digit_no_lowercase, sign_no_separator, lowercase_no_sign}
use Rattle.cond_lang.proofs.Runs.{digit_no_sign, sign_in_comment}
use Rattle.cond_lang.proofs.Symbols.{IsAtLeast, goes_on, IsSymbolOf, symbol_is, fits}

-- The piece that is found is the only one.

only_word : (p rest : List ℕ) → IsRun is_ascii_lowercase p rest → piece_at (p ++ rest) ≡ (word_piece p, length p)
only_word [] rest r = absurd (omega (arith, r.some))
only_word (c ∷ p) rest r =
    let lower : is_ascii_lowercase c ≡ true = r.all.0 in
    let separator : is_separator c ≡ false = lowercase_no_separator c lower in
    let count : run is_ascii_lowercase (c ∷ p ++ rest) ≡ length (c ∷ p) = run-append is_ascii_lowercase (c ∷ p) rest r.all r.ends in
    cond-false (is_separator c) _ _ separator
    ∙ cond-false (is_comment_sign c) _ _ (lowercase_no_sign c lower)
    ∙ cond-true (is_ascii_lowercase c) _ _ lower
    ∙ ap (λ n. let x : Piece × ℕ = (word_piece (take n (c ∷ p ++ rest)), n) in x) count
    ∙ ap (λ q. let x : Piece × ℕ = (word_piece q, length (c ∷ p)) in x) (take-append_seam (c ∷ p) rest)

only_comment : (c : ℕ) (p rest : List ℕ) → is_comment_sign c ≡ true → IsRun is_in_comment (c ∷ p) rest
    → piece_at (c ∷ p ++ rest) ≡ (Separator, length (c ∷ p))
only_comment c p rest sign r =
    let count : run is_in_comment (c ∷ p ++ rest) ≡ length (c ∷ p) = run-append is_in_comment (c ∷ p) rest r.all r.ends in
    cond-false (is_separator c) _ _ (sign_no_separator c sign)
    ∙ cond-true (is_comment_sign c) _ _ sign
    ∙ ap (λ n. let x : Piece × ℕ = (Separator, n) in x) count

only_number : (p rest : List ℕ) → IsRun is_ascii_digit p rest → piece_at (p ++ rest) ≡ (number_piece p, length p)
only_number [] rest r = absurd (omega (arith, r.some))
only_number (c ∷ p) rest r =
    let digit : is_ascii_digit c ≡ true = r.all.0 in
    let separator : is_separator c ≡ false = digit_no_separator c digit in
    let lower : is_ascii_lowercase c ≡ false = digit_no_lowercase c digit in
    let count : run is_ascii_digit (c ∷ p ++ rest) ≡ length (c ∷ p) = run-append is_ascii_digit (c ∷ p) rest r.all r.ends in
    cond-false (is_separator c) _ _ separator
    ∙ cond-false (is_comment_sign c) _ _ (digit_no_sign c digit)
    ∙ cond-false (is_ascii_lowercase c) _ _ lower
    ∙ cond-true (is_ascii_digit c) _ _ digit
    ∙ ap (λ n. let x : Piece × ℕ = (number_piece (take n (c ∷ p ++ rest)), n) in x) count
    ∙ ap (λ q. let x : Piece × ℕ = (number_piece q, length (c ∷ p)) in x) (take-append_seam (c ∷ p) rest)

-- no symbol that fits is longer
abbrev IsLongest : List ℕ → List ℕ → Type 0
IsLongest p rest = (q : List ℕ) → BeginsWithSymbol q (p ++ rest) → length q ≤ length p

longer : (q : List ℕ) (t : Token) (text : List ℕ) → token_of symbols q ≡ Some t → (more : List ℕ) → text ≡ q ++ more → BeginsWithSymbol q text
longer q t text e more b = record { token = t; more = more; known = entry_of symbols q t e; begins = b }

only_symbol : (p : List ℕ) (t : Token) → Contains symbols (p, t) → (rest : List ℕ) → IsLongest p rest
    → piece_at (p ++ rest) ≡ (TokenPiece t, length p)
only_symbol =
    at_entry (λ p t. (rest : List ℕ) → IsLongest p rest → piece_at (p ++ rest) ≡ (TokenPiece t, length p)) symbols (
      λ r l. refl,
      (
        λ r l. refl,
        (
          λ r l. refl,
          (
            λ r l. refl,
            (
              λ r l. refl,
              (
                λ r l. refl,
                (
                  λ r l. refl,
                  (
                    λ r l. refl,
                    (less, (λ r l. refl, (more, (λ r l. refl, tt)))),
                  ),
                ),
              ),
            ),
          ),
        ),
      ),
    )
  where
    less : (rest : List ℕ) → IsLongest (60 ∷ []) rest → piece_at (60 ∷ rest) ≡ (TokenPiece (Relation Less), 1)
    less rest l =
        pick (λ o. symbol_piece o ≡ (TokenPiece (Relation Less), 1)) (begins_with 61 rest) _ _
        (λ h. let m = goes_on 61 rest h in absurd (omega (arith, l (60 ∷ 61 ∷ []) (longer _ (Relation AtMost) _ refl m.0 (ap (λ s. 60 ∷ s) m.1)))))
        (λ h. refl)

    more : (rest : List ℕ) → IsLongest (62 ∷ []) rest → piece_at (62 ∷ rest) ≡ (TokenPiece (Relation More), 1)
    more rest l =
        pick (λ o. symbol_piece o ≡ (TokenPiece (Relation More), 1)) (begins_with 61 rest) _ _
        (λ h. let m = goes_on 61 rest h in absurd (omega (arith, l (62 ∷ 61 ∷ []) (longer _ (Relation AtLeast) _ refl m.0 (ap (λ s. 62 ∷ s) m.1)))))
        (λ h. refl)

no_symbol : (c : ℕ) (s : List ℕ) (o : Option (Token × ℕ)) → IsSymbolOf o (c ∷ s) → ((q : List ℕ) → BeginsWithSymbol q (c ∷ s) → ⊥) → o ≡ None
no_symbol c s None h n = refl
no_symbol c s (Some x) h n = absurd (n (take x.1 (c ∷ s)) (longer _ x.0 _ h.0 (drop x.1 (c ∷ s)) (sym (take-append-drop x.1 (c ∷ s)))))

only_stray :
    (c : ℕ) (s : List ℕ) → is_separator c ≡ false → is_comment_sign c ≡ false → is_ascii_lowercase c ≡ false → is_ascii_digit c ≡ false
    → ((q : List ℕ) → BeginsWithSymbol q (c ∷ s) → ⊥) → piece_at (c ∷ s) ≡ (StrayByte, 1)
only_stray c s separator sign lower digit n =
    let none : symbol_after c s ≡ None = no_symbol c s (symbol_after c s) (symbol_is c s) n in
    cond-false (is_separator c) _ _ separator
    ∙ cond-false (is_comment_sign c) _ _ sign
    ∙ cond-false (is_ascii_lowercase c) _ _ lower
    ∙ cond-false (is_ascii_digit c) _ _ digit
    ∙ ap symbol_piece none

no_entry : (p : List ℕ) (o : Option Token) → token_of words p ≡ o → ((t : Token) → Contains words (p, t) → ⊥) → o ≡ None
no_entry p None e n = refl
no_entry p (Some t) e n = absurd (n t (entry_of words p t e))

short_number : (p : List ℕ) → length p ≤ 4 → number_piece p ≡ TokenPiece (Number (decimal p))
short_number p few = let h : leb (length p) 4 ≡ true = le-leb (length p) 4 few in rw h refl

long_number : (p : List ℕ) → 4 < length p → number_piece p ≡ LongNumber
long_number p many = let h : leb (length p) 4 ≡ false = lt-leb (length p) 4 many in rw h refl

as_piece : (k j : Piece) (n : ℕ) → k ≡ j → (let x : Piece × ℕ = (k, n) in x) ≡ (j, n)
as_piece k j n e = ap (λ k. let x : Piece × ℕ = (k, n) in x) e

pub only_piece : {p rest : List ℕ} {k : Piece} → IsPiece p rest k → piece_at (p ++ rest) ≡ (k, length p)
unfolding ranks_piece
only_piece (blank {c} {rest} h) = rw h refl
only_piece (comment {c} {p} {rest} h r) = only_comment c p rest h r
only_piece (word {p} {rest} {t} r m) = only_word p rest r
    ∙ as_piece _ _ (length p) (ap (token_or (ranks_piece p)) (token_of-entry words p t words_apart m))
only_piece (ranks {p} {rest} r h) = only_word p rest r
    ∙ as_piece _ _ (length p) (ap (token_or (ranks_piece p)) (no_entry p (token_of words p) refl (no_ranks_word p h))
    ∙ cond-true (are_ranks p) _ _ h)
only_piece (no_word {p} {rest} r n h) = only_word p rest r
    ∙ as_piece _ _ (length p) (ap (token_or (ranks_piece p)) (no_entry p (token_of words p) refl n)
    ∙ cond-false (are_ranks p) _ _ h)
only_piece (number {p} {rest} r few) = only_number p rest r ∙ as_piece _ _ (length p) (short_number p few)
only_piece (long {p} {rest} r many) = only_number p rest r ∙ as_piece _ _ (length p) (long_number p many)
only_piece (symbol {p} {rest} {t} m l) = only_symbol p t m rest l
only_piece (stray {c} {rest} a g b d n) = only_stray c rest a g b d n

-- A text that isn't empty begins with a piece.

pub record FirstPiece (s : List ℕ) : Type 0 where
  pub p : List ℕ
  pub rest : List ℕ
  pub kind : Piece
  pub split : s ≡ p ++ rest
  pub some : 0 < length p
  pub is : IsPiece p rest kind

known_word : (p rest : List ℕ) (o : Option Token) → IsRun is_ascii_lowercase p rest → token_of words p ≡ o → (k : Piece) × IsPiece p rest k
known_word p rest None r e =
    elim (cases_Bool (are_ranks p)) [
      | inl h ↦ (TokenPiece (Ranks (named_by p)), ranks r h)
      | inr h ↦ (UnknownWord, no_word r (λ t m. let h = token_of-entry words p t words_apart m in cc) h)
    ]
known_word p rest (Some t) r e = (TokenPiece t, word r (entry_of words p t e))

known_number : (p rest : List ℕ) → IsRun is_ascii_digit p rest → (k : Piece) × IsPiece p rest k
known_number p rest r = elim (cases_lt 4 (length p)) [
  | inl many ↦ (LongNumber, long r many)
  | inr few ↦
      (TokenPiece (Number (decimal p)), number r few)
]

first_run : (f : ℕ → Bool) (c : ℕ) (s : List ℕ) → f c ≡ true
    → ((p rest : List ℕ) → IsRun f p rest → (k : Piece) × IsPiece p rest k) → FirstPiece (c ∷ s)
first_run f c s h known =
    let n : ℕ = run f (c ∷ s) in
    let r = run_split f c s h in
    let k = known (take n (c ∷ s)) (drop n (c ∷ s)) r in
    record { p = take n (c ∷ s); rest = drop n (c ∷ s); kind = k.0; split = sym (take-append-drop n (c ∷ s)); some = r.some; is = k.1 }

-- a comment's bytes after its sign
comment_split : (c : ℕ) (s : List ℕ) → is_in_comment c ≡ true → IsRun is_in_comment (c ∷ take (run is_in_comment s) s) (drop (run is_in_comment s) s)
comment_split c s h = record { some = omega arith; all = (h, run_all is_in_comment s); ends = run_ends is_in_comment s }

first_comment : (c : ℕ) (s : List ℕ) → is_comment_sign c ≡ true → FirstPiece (c ∷ s)
first_comment c s h =
    let n : ℕ = run is_in_comment s in
    record {
      p = c ∷ take n s;
      rest = drop n s;
      kind = Separator;
      split = ap (λ L. c ∷ L) (sym (take-append-drop n s));
      some = omega arith;
      is = comment h (comment_split c s (sign_in_comment c h));
    }

taken_some : (n c : ℕ) (s : List ℕ) → 0 < n → 0 < length (take n (c ∷ s))
taken_some zero c s h = absurd (omega arith)
taken_some (suc n) c s h = omega arith

first_symbol :
    (c : ℕ) (s : List ℕ) (o : Option (Token × ℕ)) → symbol_after c s ≡ o → IsSymbolOf o (c ∷ s)
    → is_separator c ≡ false → is_comment_sign c ≡ false → is_ascii_lowercase c ≡ false → is_ascii_digit c ≡ false → FirstPiece (c ∷ s)
first_symbol c s None e h a g b d =
    record {
      p = c ∷ [];
      rest = s;
      kind = StrayByte;
      split = refl;
      some = omega arith;
      is = stray a g b d (λ q f. subst (λ o. IsAtLeast (length q) o (c ∷ s)) e (fits q (c ∷ s) f));
    }
first_symbol c s (Some x) e h a g b d =
    let p : List ℕ = take x.1 (c ∷ s) in
    let back : p ++ drop x.1 (c ∷ s) ≡ c ∷ s = take-append-drop x.1 (c ∷ s) in
    record {
      p = p;
      rest = drop x.1 (c ∷ s);
      kind = TokenPiece x.0;
      split = sym back;
      some = taken_some x.1 c s h.1;
      is =
          symbol (entry_of symbols p x.0 h.0)
          (λ q f. subst (λ o. IsAtLeast (length q) o (c ∷ s)) e (fits q (c ∷ s) (subst (BeginsWithSymbol q) back f)));
    }

pub first_piece : (c : ℕ) (s : List ℕ) → FirstPiece (c ∷ s)
first_piece c s =
    elim (cases_Bool (is_separator c)) [
      | inl blank_c ↦ record { p = c ∷ []; rest = s; kind = Separator; split = refl; some = omega arith; is = blank blank_c }
      | inr a ↦ elim (cases_Bool (is_comment_sign c)) [
        | inl h ↦ first_comment c s h
        | inr g ↦ elim (cases_Bool (is_ascii_lowercase c)) [
          | inl h ↦ first_run is_ascii_lowercase c s h (λ p rest r. known_word p rest (token_of words p) r refl)
          | inr b ↦ elim (cases_Bool (is_ascii_digit c)) [
            | inl h ↦ first_run is_ascii_digit c s h known_number
            | inr d ↦ first_symbol c s (symbol_after c s) refl (symbol_is c s) a g b d
          ]
        ]
      ]
    ]
