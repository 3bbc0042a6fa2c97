-- A text with nothing that the first language lacked has the pieces that it had then.
use Rattle.std.proofs.Common.{◌≡◌, ℕ, ◌<◌, ◌≤◌, ◌⊎◌, true, false, List, [], ◌∷◌, ◌++◌, ◌+◌, drop, length, map, Option, Some, None}
use Rattle.std.proofs.Common.{refl, sym, ap, ◌∙◌, subst, arith, inl, inr}
use Rattle.std.specs.Prelude.{Contains, ◌↔◌}
use Rattle.std.specs.List.{AllByRecursion}
use Rattle.std.specs.Char.{is_ascii_lowercase, is_ascii_digit}
use Rattle.std.proofs.lemmas.Bool.{cases_Bool, cases_eq, eqb-true, ne_eqb}
use Rattle.std.proofs.lemmas.Bool.Decides.{nat_tests}
use Rattle.std.proofs.lemmas.List.Elements.{Contains-append_left, Contains-append_right, recursion_from_All}
use Rattle.cards.specs.declared.hand.Measure.{Measure as AMeasure}
use Rattle.cards.specs.declared.hand.Measure.TheVariants.{Hcp}
use Rattle.cards.specs.Measures.{measures}
use Rattle.cards.specs.Orders.{orders}
use Rattle.cond_lang.specs.declared.scanner.Token.{Token}
use Rattle.cond_lang.specs.declared.scanner.Token.TheVariants.{Measure, Ordered, Plus, Star, Ranks, Number}
use Rattle.cond_lang.specs.declared.scanner.Piece.{Piece}
use Rattle.cond_lang.specs.declared.scanner.Piece.TheVariants.{Separator, Token as TokenPiece, StrayByte, UnknownWord, LongNumber}
use Rattle.cond_lang.specs.Cut.{measure_word, order_word, words, symbols, is_separator, are_ranks, named_by, decimal, IsRun, BeginsWithSymbol}
use Rattle.cond_lang.specs.Cut.{BeginsWithNone, IsPiece, blank, comment, word, ranks, no_word, number, long, symbol}
use Rattle.cond_lang.specs.Cut.{stray, Pieces, IsCut, end, piece}
use Rattle.cond_lang.specs.SmallerGrammars.{IsOldest}
use Rattle.cond_lang.specs.FirstPieces as first
use Rattle.cond_lang.specs.FirstPieces.{first_words, first_symbols, is_first_separator, IsUnknownThen}
use Rattle.cond_lang.specs.FirstPieces.{BeginsWithFirst, IsFirstPiece, IsFirstCut, HasFirstBytes, IsOldestPiece}
use Rattle.cond_lang.specs.FirstPieces.{IsFirstText}
use Rattle.cond_lang.specs.internal.Scanning.{token_of}
use Rattle.cond_lang.proofs.Tables.{Table, EachEntry, words_apart, token_of-entry, entry_of, at_entry, each_append, each_row}
use Rattle.cond_lang.proofs.Symbols.{fits}

-- ---- tables

word_kept : (p : List ℕ) (t : Token) → token_of first_words p ≡ Some t → IsOldest t → Contains first_words (p, t)
word_kept p t e o = entry_of first_words p t e

-- a word whose token is an oldest one is a first word
abbrev KeptThen : List ℕ → Token → Type 0
KeptThen p t = IsOldest t → Contains first_words (p, t)

measure_kept : (m : AMeasure) → KeptThen (measure_word m) (Measure m)
measure_kept Hcp = word_kept _ _ refl
measure_kept m = λ o. absurd o

abbrev measure_rows : Table
measure_rows = map (λ m. (measure_word m, Measure m)) measures

each_measure : EachEntry KeptThen measure_rows
each_measure = each_row KeptThen (λ m. (measure_word m, Measure m)) measures measure_kept

abbrev order_rows : Table
order_rows = map (λ o. (order_word o, Ordered o)) orders

-- what comes after the rows in the table of words
abbrev after_measures : Table
after_measures = drop (9 + length measures) words

abbrev after_orders : Table
after_orders = drop (11 + length measures + length orders) words

each_order : EachEntry KeptThen order_rows
each_order = each_row KeptThen (λ o. (order_word o, Ordered o)) orders (λ o later. absurd later)

first_word : (p : List ℕ) (t : Token) → Contains words (p, t) → KeptThen p t
first_word =
    at_entry KeptThen words (
      word_kept _ _ refl,
      (
        word_kept _ _ refl,
        (
          word_kept _ _ refl,
          (
            word_kept _ _ refl,
            (
              word_kept _ _ refl,
              (
                word_kept _ _ refl,
                (
                  (λ o. absurd o),
                  (
                    (λ o. absurd o),
                    (
                      (λ o. absurd o),
                      each_append KeptThen measure_rows after_measures each_measure (
                        (λ o. absurd o),
                        (
                          word_kept _ _ refl,
                          each_append KeptThen order_rows after_orders each_order (
                            (λ o. absurd o),
                            (
                              (λ o. absurd o),
                              (
                                word_kept _ _ refl,
                                (
                                  word_kept _ _ refl,
                                  (
                                    word_kept _ _ refl,
                                    (
                                      word_kept _ _ refl,
                                      (
                                        (λ o. absurd o),
                                        (
                                          (λ o. absurd o),
                                          (
                                            (λ o. absurd o),
                                            (
                                              (λ o.
                                                  absurd o),
                                              (
                                                (λ o. absurd o),
                                                (
                                                  (λ o. absurd o),
                                                  (
                                                    word_kept _ _ refl,
                                                    (
                                                      word_kept _ _ refl,
                                                      (
                                                        word_kept _ _ refl,
                                                        (
                                                          word_kept _ _
                                                              refl,
                                                          (
                                                            (λ o. absurd o),
                                                            (
                                                              (λ o. absurd o),
                                                              (
                                                                (λ o. absurd o),
                                                                (
                                                                  (λ o. absurd o),
                                                                  (
                                                                    (λ o. absurd o),
                                                                    (
                                                                      (λ o. absurd o),
                                                                      tt,
                                                                    ),
                                                                  ),
                                                                ),
                                                              ),
                                                            ),
                                                          ),
                                                        ),
                                                      ),
                                                    ),
                                                  ),
                                                ),
                                              ),
                                            ),
                                          ),
                                        ),
                                      ),
                                    ),
                                  ),
                                ),
                              ),
                            ),
                          ),
                        ),
                      ),
                    ),
                  ),
                ),
              ),
            ),
          ),
        ),
      ),
    )

word_still : (p : List ℕ) (t : Token) → Contains first_words (p, t) → Contains words (p, t)
word_still =
    at_entry (λ p t. Contains words (p, t)) first_words (
      entry_of words _ _ refl,
      (
        entry_of words _ _ refl,
        (
          entry_of words _ _ refl,
          (
            entry_of words _ _ refl,
            (
              entry_of words _ _
                  refl,
              (
                entry_of words _ _ refl,
                (
                  entry_of words _ _ refl,
                  (
                    entry_of words _ _ refl,
                    (
                      entry_of words _ _ refl,
                      (
                        entry_of words
                            _ _ refl,
                        (
                          entry_of words _ _ refl,
                          (
                            entry_of words _ _ refl,
                            (
                              entry_of words _ _ refl,
                              (
                                entry_of words _ _ refl,
                                (
                                  entry_of
                                      words _ _ refl,
                                  (entry_of words _ _ refl, tt),
                                ),
                              ),
                            ),
                          ),
                        ),
                      ),
                    ),
                  ),
                ),
              ),
            ),
          ),
        ),
      ),
    )

abbrev IsLaterSymbol : List ℕ → Token → Type 0
IsLaterSymbol p t = ((p ≡ 43 ∷ []) × (t ≡ Plus)) ⊎ ((p ≡ 42 ∷ []) × (t ≡ Star))

abbrev FirstOrLater : List ℕ → Token → Type 0
FirstOrLater p t = Contains first_symbols (p, t) ⊎ IsLaterSymbol p t

symbol_kept : (p : List ℕ) (t : Token) → token_of first_symbols p ≡ Some t → FirstOrLater p t
symbol_kept p t e = inl (entry_of first_symbols p t e)

-- a symbol is a first one, or it is a later one
first_or_later : (p : List ℕ) (t : Token) → Contains symbols (p, t) → FirstOrLater p t
first_or_later =
    at_entry FirstOrLater symbols (
      symbol_kept _ _ refl,
      (
        symbol_kept _ _ refl,
        (
          symbol_kept _ _ refl,
          (
            symbol_kept _ _ refl,
            (
              inr (inl (refl, refl)),
              (
                inr
                    (inr (refl, refl)),
                (
                  symbol_kept _ _ refl,
                  (
                    symbol_kept _ _ refl,
                    (
                      symbol_kept _ _ refl,
                      (
                        symbol_kept _ _ refl,
                        (
                          symbol_kept
                              _ _ refl,
                          (symbol_kept _ _ refl, tt),
                        ),
                      ),
                    ),
                  ),
                ),
              ),
            ),
          ),
        ),
      ),
    )

not_oldest : {p : List ℕ} {t : Token} → IsLaterSymbol p t → IsOldest t → ⊥
not_oldest (inl e) o = rw e.1 at o
not_oldest (inr e) o = rw e.1 at o

one_byte : {p : List ℕ} {t : Token} → IsLaterSymbol p t → length p ≡ 1
one_byte (inl e) = ap length e.0
one_byte (inr e) = ap length e.0

first_symbol : (p : List ℕ) (t : Token) → Contains symbols (p, t) → IsOldest t → Contains first_symbols (p, t)
first_symbol p t m o = elim (first_or_later p t m) [ inl h ↦ h | inr e ↦ absurd (not_oldest e o) ]

symbol_still : (p : List ℕ) (t : Token) → Contains first_symbols (p, t) → Contains symbols (p, t) × (0 < length p)
symbol_still =
    at_entry (λ p t. Contains symbols (p, t) × (0 < length p)) first_symbols (
      still _ _ refl (omega arith),
      (
        still _ _ refl (omega arith),
        (
          still _ _ refl (omega arith),
          (
            still _ _ refl (omega arith),
            (
              still _ _ refl (omega arith),
              (
                still _ _ refl (omega arith),
                (
                  still _ _ refl (omega arith),
                  (
                    still _ _ refl (omega arith),
                    (still _ _ refl (omega arith), (still _ _ refl (omega arith), tt)),
                  ),
                ),
              ),
            ),
          ),
        ),
      ),
    )
  where
    still : (p : List ℕ) (t : Token) → token_of symbols p ≡ Some t → 0 < length p → Contains symbols (p, t) × (0 < length p)
    still p t e l = (entry_of symbols p t e, l)

-- ---- what a text begins with

begins_still : (q text : List ℕ) → BeginsWithFirst q text → BeginsWithSymbol q text
begins_still q text f = record { token = f.token; more = f.more; known = (symbol_still q f.token f.known).0; begins = f.begins }

-- the longest first symbol is the longest symbol
longest_still :
    (p rest : List ℕ) → 0 < length p → ((q : List ℕ) → BeginsWithFirst q (p ++ rest) → length q ≤ length p)
    → (q : List ℕ) → BeginsWithSymbol q (p ++ rest) → length q ≤ length p
longest_still p rest some l q b =
    elim (first_or_later q b.token b.known) [
      | inl m ↦ l q (record { token = b.token; more = b.more; known = m; begins = b.begins })
      | inr e ↦ omega (arith, some, one_byte e)
    ]

-- where no first symbol begins, none does but a later one
begins_no_later : (c : ℕ) (q rest more : List ℕ) {t : Token} → (c ≡ 43 → ⊥) → (c ≡ 42 → ⊥) → c ∷ rest ≡ q ++ more → IsLaterSymbol q t → ⊥
begins_no_later c q rest more plus star b (inl e) = let i : c ∷ rest ≡ 43 ∷ more = b ∙ ap (λ q. q ++ more) e.0 in plus (cc)
begins_no_later c q rest more plus star b (inr e) = let i : c ∷ rest ≡ 42 ∷ more = b ∙ ap (λ q. q ++ more) e.0 in star (cc)

none_still : (c : ℕ) (rest : List ℕ) → (c ≡ 43 → ⊥) → (c ≡ 42 → ⊥) → ((q : List ℕ) → BeginsWithFirst q (c ∷ rest) → ⊥) → BeginsWithNone (c ∷ rest)
none_still c rest plus star n q b =
    elim (first_or_later q b.token b.known) [
      | inl m ↦ n q (record { token = b.token; more = b.more; known = m; begins = b.begins })
      | inr e ↦ begins_no_later c q rest b.more plus star b.begins e
    ]

-- ---- bytes

separator_then : (c : ℕ) → is_separator c ≡ true → (c ≡ 13 → ⊥) → is_first_separator c ≡ true
separator_then c h other = grind (arith, nat_tests)

separator_still : (c : ℕ) → is_first_separator c ≡ true → is_separator c ≡ true
separator_still c h = grind (arith, nat_tests)

no_separator_then : (c : ℕ) → is_separator c ≡ false → is_first_separator c ≡ false
no_separator_then c h = grind (arith, nat_tests)

no_separator_still : (c : ℕ) → is_first_separator c ≡ false → (c ≡ 13 → ⊥) → is_separator c ≡ false
no_separator_still c h other = grind (arith, nat_tests)

at_front : (c d : ℕ) (p : List ℕ) → (Contains (c ∷ p) d → ⊥) → c ≡ d → ⊥
at_front c d p n e = n (0, omega arith, e)

bytes_left : (p rest : List ℕ) → HasFirstBytes (p ++ rest) → HasFirstBytes p
bytes_left p rest b = (λ i. b.0 (Contains-append_left p rest 35 i), λ i. b.1 (Contains-append_left p rest 13 i))

bytes_right : (p rest : List ℕ) → HasFirstBytes (p ++ rest) → HasFirstBytes rest
bytes_right p rest b = (λ i. b.0 (Contains-append_right p rest 35 i), λ i. b.1 (Contains-append_right p rest 13 i))

-- ---- pieces

-- An oldest piece was a piece then.
piece_then : {p rest : List ℕ} {k : Piece} → IsPiece p rest k → HasFirstBytes p → IsOldestPiece k → IsFirstPiece p rest k
piece_then (blank {c} h) b o = first.blank (separator_then c h (at_front c 13 [] b.1))
piece_then (comment {c} {p} h r) b o = absurd (at_front c 35 p b.0 (eqb-true c 35 h))
piece_then (word {p} {t} r m) b o = first.word r (first_word p t m o)
piece_then (ranks r h) b o = absurd o
piece_then (no_word {p} r n h) b o = first.no_word r (λ t m. n t (word_still p t m))
piece_then (number r few) b o = first.number r few
piece_then (long r many) b o = first.long r many
piece_then (symbol {p} {rest} {t} m l) b o = first.symbol (first_symbol p t m o) (λ q f. l q (begins_still q (p ++ rest) f))
piece_then (stray {c} {rest} a g l d n) b o = first.stray (no_separator_then c a) l d (λ q f. n q (begins_still q (c ∷ rest) f))

-- p is a piece now, and of kind k, unless it is a later one
abbrev Still : List ℕ → List ℕ → Piece → Type 0
Still p rest k = (j : Piece) × IsPiece p rest j × (IsOldestPiece j → j ≡ k)

unknown_still : (p rest : List ℕ) (o : Option Token) → token_of words p ≡ o → IsRun is_ascii_lowercase p rest
    → IsUnknownThen p → Still p rest UnknownWord
unknown_still p rest None e r n =
    elim (cases_Bool (are_ranks p)) [
      | inl h ↦ (TokenPiece (Ranks (named_by p)), ranks r h, λ o. absurd o)
      | inr h ↦ (UnknownWord, no_word r (λ t m. let h = token_of-entry words p t words_apart m in cc) h, λ o. refl)
    ]
unknown_still p rest (Some t) e r n =
    let m : Contains words (p, t) = entry_of words p t e in
    (TokenPiece t, word r m, λ o. absurd (n t (first_word p t m o)))

plus_now : (rest : List ℕ) → IsPiece (43 ∷ []) rest (TokenPiece Plus)
plus_now rest = symbol (entry_of symbols (43 ∷ []) Plus refl) (λ q b. fits q (43 ∷ rest) b)

star_now : (rest : List ℕ) → IsPiece (42 ∷ []) rest (TokenPiece Star)
star_now rest = symbol (entry_of symbols (42 ∷ []) Star refl) (λ q b. fits q (42 ∷ rest) b)

stray_still :
    (c : ℕ) (rest : List ℕ) → is_first_separator c ≡ false → is_ascii_lowercase c ≡ false → is_ascii_digit c ≡ false
    → ((q : List ℕ) → BeginsWithFirst q (c ∷ rest) → ⊥) → HasFirstBytes (c ∷ []) → Still (c ∷ []) rest StrayByte
stray_still c rest a l d n b =
    elim (cases_eq c 43) [
      | inl e ↦ (TokenPiece Plus, subst (λ c. IsPiece (c ∷ []) rest (TokenPiece Plus)) (sym e) (plus_now rest), λ o. absurd o)
      | inr plus ↦
          elim (cases_eq c 42) [
            | inl e ↦ (TokenPiece Star, subst (λ c. IsPiece (c ∷ []) rest (TokenPiece Star)) (sym e) (star_now rest), λ o. absurd o)
            | inr star ↦ (
              StrayByte,
              stray (no_separator_still c a (at_front c 13 [] b.1)) (ne_eqb c 35 (at_front c 35 [] b.0))
                  l d (none_still c rest plus star n),
              λ o. refl,
            )
          ]
    ]

-- A piece of then is a piece now.
piece_still : {p rest : List ℕ} {k : Piece} → IsFirstPiece p rest k → HasFirstBytes p → Still p rest k
piece_still (first.blank {c} h) b = (Separator, blank (separator_still c h), λ o. refl)
piece_still (first.word {p} {t} r m) b = (TokenPiece t, word r (word_still p t m), λ o. refl)
piece_still (first.no_word {p} {rest} r n) b = unknown_still p rest (token_of words p) refl r n
piece_still (first.number {p} r few) b = (TokenPiece (Number (decimal p)), number r few, λ o. refl)
piece_still (first.long r many) b = (LongNumber, long r many, λ o. refl)
piece_still (first.symbol {p} {rest} {t} m l) b =
    let s = symbol_still p t m in (TokenPiece t, symbol s.0 (longest_still p rest s.1 l), λ o. refl)
piece_still (first.stray {c} {rest} a l d n) b = stray_still c rest a l d n b

pub same_first_piece :
    (p rest : List ℕ) (k : Piece) → HasFirstBytes p → ((j : Piece) → IsPiece p rest j → IsOldestPiece j)
    → IsPiece p rest k ↔ IsFirstPiece p rest k
same_first_piece p rest k b old = (
  λ i. piece_then i b (old k i),
  λ f. let s = piece_still f b in subst (λ j. IsPiece p rest j) (s.2 (old s.0 s.1)) s.1,
)

-- ---- cuts

abbrev AreOldest : Pieces → Type 0
AreOldest ps = AllByRecursion (λ p. IsOldestPiece p.1) ps

cut_then : {s : List ℕ} {ps : Pieces} → IsCut s ps → HasFirstBytes s → AreOldest ps → IsFirstCut s ps
cut_then end b o = end
cut_then (piece {p} {rest} l i c) b o = piece l (piece_then i (bytes_left p rest b) o.0) (cut_then c (bytes_right p rest b) o.1)

cut_still : {s : List ℕ} {qs : Pieces} → IsFirstCut s qs → HasFirstBytes s → (ps : Pieces) × IsCut s ps × (AreOldest ps → ps ≡ qs)
cut_still end b = ([], end, λ o. refl)
cut_still (piece {p} {rest} {k} {ps = qs} l f c) b =
    let s = piece_still f (bytes_left p rest b) in
    let h = cut_still c (bytes_right p rest b) in
    ((p, s.0) ∷ h.0, piece l s.1 h.1, λ o. ap (λ j. (p, j) ∷ h.0) (s.2 o.0) ∙ ap (λ ps. (p, k) ∷ ps) (h.2 o.1))

pub same_first_cut : (text : List ℕ) (ps : Pieces) → IsFirstText text → IsCut text ps ↔ IsFirstCut text ps
same_first_cut text ps t = (
  λ c. cut_then c t.bytes (recursion_from_All (λ p. IsOldestPiece p.1) ps (t.oldest ps c)),
  λ c. let h = cut_still c t.bytes in
      subst (λ ps. IsCut text ps) (h.2 (recursion_from_All (λ p. IsOldestPiece p.1) h.0 (t.oldest h.0 h.1))) h.1,
)
