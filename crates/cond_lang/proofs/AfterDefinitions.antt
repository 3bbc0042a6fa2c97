-- Definitions that are accepted have no fault, whatever text is read after them.
use Rattle.std.proofs.Common.{◌≡◌, ℕ, zero, suc, ◌+◌, ◌<◌, ◌≤◌, Bool, false, List, [], ◌∷◌, ◌++◌, length, take}
use Rattle.std.proofs.Common.{drop, Ok, Err, refl, sym, ap, ◌∙◌, subst, inl, inr, arith}
use Rattle.std.proofs.Common.{append_assoc, length-append, take-append-drop}
use Rattle.std.specs.List.{AllByRecursion}
use Rattle.std.proofs.lemmas.List.Sums.{sum_by-cons}
use Rattle.std.proofs.lemmas.List.{length-map, map-append, take-append-le}
use Rattle.std.proofs.lemmas.Bool.{cases_lt}
use Rattle.conditions.specs.declared.error.CondError.{CondError}
use Rattle.conditions.specs.declared.error.CondError.TheVariants.{TooLong, Byte, Word, Number as Digits, Syntax, TooManyParts, Memory}
use Rattle.conditions.specs.declared.tree.Op.TheVariants.{Equal}
use Rattle.conditions.specs.Form.{compare, number}
use Rattle.conditions.specs.Limits.{parts_of}
use Rattle.conditions.specs.Questions.{asks_condition, parts_asked}
use Rattle.cond_lang.specs.declared.scanner.Placed.{Placed}
use Rattle.cond_lang.specs.declared.scanner.Token.{Token}
use Rattle.cond_lang.specs.declared.scanner.Token.TheVariants.{Number, Relation}
use Rattle.cond_lang.specs.declared.scanner.Piece.{Piece}
use Rattle.cond_lang.specs.declared.scanner.Piece.TheVariants.{Separator, Token as TokenPiece, StrayByte, UnknownWord, LongNumber}
use Rattle.cond_lang.specs.After.{GivesNames, IsFrom, start_after, text_after}
use Rattle.cond_lang.specs.Asking.{Asks}
use Rattle.cond_lang.specs.Cut.{symbols, EndsRun, IsRun, BeginsWithSymbol, IsPiece, blank, comment, word, ranks}
use Rattle.cond_lang.specs.Cut.{no_word, number as digits, long, symbol, stray, Pieces, IsCut, end, piece, Naming}
use Rattle.cond_lang.specs.Cut.{no_names, naming_after, naming_behind, named_piece, named_from, named, HasTokens}
use Rattle.cond_lang.specs.Definitions.{AreDefinitions, Spells, defined}
use Rattle.cond_lang.specs.Faults.{bytes_of, HasFault, IsDueIn, IsFirstFaultIn, HasSyntaxFaultIn, offset_of}
use Rattle.cond_lang.specs.Grammar.{Meanings, both, unit, test, comparison, atom, a_number}
use Rattle.cond_lang.specs.Text.{kinds}
use Rattle.cond_lang.proofs.Cuts.{one_cut, some_cut}
use Rattle.cond_lang.proofs.Tables.{at_entry}
use Rattle.cond_lang.proofs.Told.{Told, and_then_more, told_from, tokens_told, fault_told}

-- ---- pieces before a new line are what they are at the end of a text

ends_before : (f : ℕ → Bool) (rest t : List ℕ) → f 10 ≡ false → EndsRun f rest → EndsRun f (rest ++ 10 ∷ t)
ends_before f [] t line e = line
ends_before f (c ∷ rest) t line e = e

run_before : (f : ℕ → Bool) (p rest t : List ℕ) → f 10 ≡ false → IsRun f p rest → IsRun f p (rest ++ 10 ∷ t)
run_before f p rest t line r = record { some = r.some; all = r.all; ends = ends_before f rest t line r.ends }

-- what begins with the sign d before a new line, and with the signs d and b
one_sign : (d : ℕ) → (10 ≡ d → ⊥) → (x t more : List ℕ) → x ++ 10 ∷ t ≡ d ∷ more → (m : List ℕ) × (x ≡ d ∷ m)
one_sign d other [] t more e = absurd (other cc)
one_sign d other (c ∷ x) t more e = let same : c ≡ d = cc in (x, ap (λ c. c ∷ x) same)

two_signs : (d b : ℕ) → (10 ≡ d → ⊥) → (10 ≡ b → ⊥) → (x t more : List ℕ) → x ++ 10 ∷ t ≡ d ∷ b ∷ more → (m : List ℕ) × (x ≡ d ∷ b ∷ m)
two_signs d b other second [] t more e = absurd (other cc)
two_signs d b other second (c ∷ []) t more e = absurd (second cc)
two_signs d b other second (c ∷ a ∷ x) t more e =
    let same : c ≡ d = cc in let next : a ≡ b = cc in (x, ap (λ c. c ∷ a ∷ x) same ∙ ap (λ a. d ∷ a ∷ x) next)

-- no symbol has a new line
abbrev IsBefore : List ℕ → Token → Type 0
IsBefore q k = (x t more : List ℕ) → x ++ 10 ∷ t ≡ q ++ more → (m : List ℕ) × (x ≡ q ++ m)

symbol_before : (q x t : List ℕ) → BeginsWithSymbol q (x ++ 10 ∷ t) → BeginsWithSymbol q x
symbol_before q x t b =
    let found = at_entry IsBefore symbols (
      one_sign 40 (λ e. cc),
      (
        one_sign 41 (λ e. cc),
        (
          one_sign 44 (λ e. cc),
          (
            one_sign 45 (λ e. cc),
            (
              one_sign 43 (λ e. cc),
              (
                one_sign 42 (λ e. cc),
                (
                  two_signs 61 61 (λ e. cc) (λ e. cc),
                  (
                    two_signs 33 61 (λ e. cc) (λ e. cc),
                    (
                      one_sign 60 (λ e. cc),
                      (
                        two_signs 60 61 (λ e. cc) (λ e. cc),
                        (
                          one_sign 62 (λ e. cc),
                          (
                            two_signs 62 61 (λ e. cc) (λ e. cc),
                            tt,
                          ),
                        ),
                      ),
                    ),
                  ),
                ),
              ),
            ),
          ),
        ),
      ),
    ) q b.token b.known x t b.more b.begins in
    record { token = b.token; more = found.0; known = b.known; begins = found.1 }

piece_before : {p rest : List ℕ} {k : Piece} → (t : List ℕ) → IsPiece p rest k → IsPiece p (rest ++ 10 ∷ t) k
piece_before t (blank s) = blank s
piece_before t (comment {c} {p} {rest} s r) = comment s (run_before _ (c ∷ p) rest t refl r)
piece_before t (word {p} {rest} r m) = word (run_before _ p rest t refl r) m
piece_before t (ranks {p} {rest} r m) = ranks (run_before _ p rest t refl r) m
piece_before t (no_word {p} {rest} r m n) = no_word (run_before _ p rest t refl r) m n
piece_before t (digits {p} {rest} r m) = digits (run_before _ p rest t refl r) m
piece_before t (long {p} {rest} r m) = long (run_before _ p rest t refl r) m
piece_before t (symbol {p} {rest} m longest) =
    symbol m (λ q b. longest q (symbol_before q (p ++ rest) t (subst (BeginsWithSymbol q) (sym (append_assoc p rest (10 ∷ t))) b)))
piece_before t (stray {c} {rest} s g l d n) = stray s g l d (λ q b. n q (symbol_before q (c ∷ rest) t b))

cut_before : (s t : List ℕ) (ps qs : Pieces) → IsCut s ps → IsCut (10 ∷ t) qs → IsCut (s ++ 10 ∷ t) (ps ++ qs)
cut_before s t ps qs end d = d
cut_before s t ps qs (piece {p} {rest} {k} {ps = more} some is c) d =
    subst (λ s. IsCut s ((p, k) ∷ more ++ qs)) (sym (append_assoc p rest (10 ∷ t)))
    (piece some (piece_before t is) (cut_before rest t more qs c d))

-- ---- what pieces tell, one after another

named_append : (N : Naming) (ps qs : Pieces) → named_from N (ps ++ qs) ≡ named_from N ps ++ named_from (naming_behind N ps) qs
named_append N [] qs = refl
named_append N (p ∷ ps) qs = ap (λ L. (p.0, named_piece N p) ∷ L) (named_append (naming_after N p) ps qs)

bytes_named : (N : Naming) (ps : Pieces) → bytes_of (named_from N ps) ≡ bytes_of ps
bytes_named N [] = refl
bytes_named N (p ∷ ps) =
    omega (
      arith,
      bytes_named (naming_after N p) ps,
      sum_by-cons (λ (p : List ℕ × Piece). length p.0) p ps,
      sum_by-cons (λ (p : List ℕ × Piece). length p.0) (p.0, named_piece N p) (named_from (naming_after N p) ps),
    )

bytes_cut : (s : List ℕ) (ps : Pieces) → IsCut s ps → bytes_of ps ≡ length s
bytes_cut s ps end = refl
bytes_cut s ps (piece {p} {rest} {k} {ps = more} some is c) =
    omega (arith, bytes_cut rest more c, length-append p rest, sum_by-cons (λ (p : List ℕ × Piece). length p.0) (p, k) more)

-- tokens in front of what later pieces tell
abbrev with_tokens : List Placed → Told → Told
with_tokens [] r = r
with_tokens (t ∷ ts) r = and_then_more t (with_tokens ts r)

more_back : (t : Placed) (r : Told) (ts : List Placed) → and_then_more t r ≡ Ok ts → (more : List Placed) × (r ≡ Ok more) × (ts ≡ t ∷ more)
more_back t (Ok more) ts e = let same : t ∷ more ≡ ts = cc in (more, refl, sym same)
more_back t (Err f) ts e = absurd (cc)

joined : (at : ℕ) (ps qs : Pieces) (ts : List Placed) → told_from at ps ≡ Ok ts
    → told_from at (ps ++ qs) ≡ with_tokens ts (told_from (at + bytes_of ps) qs)
joined at [] qs ts e =
    let none : ts ≡ [] = cc in
    let there : at ≡ at + bytes_of [] = omega arith in
    ap (λ n. told_from n qs) there ∙ ap (λ ts. with_tokens ts (told_from (at + bytes_of []) qs)) (sym none)
joined at ((w, Separator) ∷ ps) qs ts e =
    joined (at + length w) ps qs ts e
    ∙ ap (λ n. with_tokens ts (told_from n qs)) (omega (arith, sum_by-cons (λ (p : List ℕ × Piece). length p.0) (w, Separator) ps))
joined at ((w, TokenPiece t) ∷ ps) qs ts e =
    let here : Placed = record { token = t; at = at } in
    let m = more_back here (told_from (at + length w) ps) ts e in
    ap (and_then_more here) (joined (at + length w) ps qs m.0 m.1)
    ∙ ap (λ n. with_tokens (here ∷ m.0) (told_from n qs)) (omega (arith, sum_by-cons (λ (p : List ℕ × Piece). length p.0) (w, TokenPiece t) ps))
    ∙ ap (λ ts. with_tokens ts (told_from (at + bytes_of ((w, TokenPiece t) ∷ ps)) qs)) (sym m.2)
joined at ((w, StrayByte) ∷ ps) qs ts e = absurd (cc)
joined at ((w, UnknownWord) ∷ ps) qs ts e = absurd (cc)
joined at ((w, LongNumber) ∷ ps) qs ts e = absurd (cc)

-- a fault behind tokens, and the tokens behind them
fault_behind : (ts : List Placed) (r : Told) (e : CondError) → with_tokens ts r ≡ Err e → r ≡ Err e
fault_behind [] r e i = i
fault_behind (t ∷ ts) r e i = fault_behind ts r e (past (with_tokens ts r) i)
  where
    past : (r : Told) → and_then_more t r ≡ Err e → r ≡ Err e
    past (Ok more) i = absurd (cc)
    past (Err f) i = i

tokens_behind : (ts : List Placed) (r : Told) (us : List Placed) → with_tokens ts r ≡ Ok us → (more : List Placed) × (r ≡ Ok more) × (us ≡ ts ++ more)
tokens_behind [] r us i = (us, i, refl)
tokens_behind (t ∷ ts) r us i =
    let m = more_back t (with_tokens ts r) us i in
    let k = tokens_behind ts r m.0 m.1 in
    (k.0, k.1, m.2 ∙ ap (λ L. t ∷ L) k.2)

-- ---- pieces tell nothing of what is before them

abbrev AreFrom : ℕ → List Placed → Type 0
AreFrom at ts = AllByRecursion (λ t. at ≤ t.at) ts

abbrev IsToldFrom : ℕ → Told → Type 0
IsToldFrom at (Ok ts) = AreFrom at ts
IsToldFrom at (Err e) = IsFrom at e

later_tokens : (a b : ℕ) → a ≤ b → (ts : List Placed) → AreFrom b ts → AreFrom a ts
later_tokens a b le [] h = tt
later_tokens a b le (t ∷ ts) h = (omega (arith, le, h.0), later_tokens a b le ts h.1)

later : (a b : ℕ) → a ≤ b → (r : Told) → IsToldFrom b r → IsToldFrom a r
later a b le (Ok ts) h = later_tokens a b le ts h
later a b le (Err TooLong) h = tt
later a b le (Err (Byte at)) h = omega (arith, le, h)
later a b le (Err (Word at)) h = omega (arith, le, h)
later a b le (Err (Digits at)) h = omega (arith, le, h)
later a b le (Err (Syntax at)) h = omega (arith, le, h)
later a b le (Err TooManyParts) h = tt
later a b le (Err Memory) h = tt

one_more : (at : ℕ) (t : Token) (r : Told) → IsToldFrom at r → IsToldFrom at (and_then_more (record { token = t; at = at }) r)
one_more at t (Ok ts) h = (omega arith, h)
one_more at t (Err e) h = h

told_later : (at : ℕ) (ps : Pieces) → IsToldFrom at (told_from at ps)
told_later at [] = tt
told_later at ((w, Separator) ∷ ps) = later at (at + length w) (omega arith) (told_from (at + length w) ps) (told_later (at + length w) ps)
told_later at ((w, TokenPiece t) ∷ ps) =
    one_more at t (told_from (at + length w) ps) (later at (at + length w) (omega arith)
    (told_from (at + length w) ps) (told_later (at + length w) ps))
told_later at ((w, StrayByte) ∷ ps) = omega arith
told_later at ((w, UnknownWord) ∷ ps) = omega arith
told_later at ((w, LongNumber) ∷ ps) = omega arith

-- ---- a text after definitions

-- what the text tells: the definitions' tokens, and what the text behind them tells
record TellsAfter (D t : List ℕ) (tokens : List Placed) : Type 0 where
  told : Told
  from : IsToldFrom (start_after D) told
  is : (ps : Pieces) → IsCut (text_after D t) ps → told_from 0 (named ps) ≡ with_tokens tokens told

tells_after : (D t : List ℕ) (tokens : List Placed) → HasTokens D tokens → TellsAfter D t tokens
tells_after D t tokens h =
    let x = tokens_told D tokens h in
    let rest = some_cut t in
    let qs : Pieces = (10 ∷ [], Separator) ∷ rest.0 in
    let line : IsCut (10 ∷ t) qs = piece {p = 10 ∷ []} {rest = t} (omega arith) (blank refl) rest.1 in
    let N : Naming = naming_behind no_names x.pieces in
    let B : Pieces = named_from N qs in
    let L : ℕ = 0 + bytes_of (named x.pieces) in
    let start : L + 1 ≡ start_after D = omega (arith, bytes_named no_names x.pieces, bytes_cut D x.pieces x.cut) in
    record {
      told = told_from L B;
      from = subst (λ n. IsToldFrom n (told_from L B)) start (told_later (L + 1) (named_from (naming_after N (10 ∷ [], Separator)) rest.0));
      is = λ ps c.
          ap (λ ps. told_from 0 (named ps)) (one_cut (text_after D t) ps (x.pieces ++ qs) c (cut_before D t x.pieces qs x.cut line))
          ∙ ap (told_from 0) (named_append no_names x.pieces qs)
          ∙ joined 0 (named x.pieces) B tokens x.found;
    }

fault_after : (D t : List ℕ) (tokens : List Placed) (e : CondError) → HasTokens D tokens → HasFault (text_after D t) e → IsFrom (start_after D) e
fault_after D t tokens e h f =
    let k = tells_after D t tokens h in
    let x = fault_told (text_after D t) e f in
    subst (IsToldFrom (start_after D)) (fault_behind tokens k.told e (sym (k.is x.pieces x.cut) ∙ x.found)) k.from

-- the offset of a token that isn't one of the first, or the end
offset_from : (T U : List Placed) (k last n : ℕ) → AreFrom k U → k ≤ last → length T ≤ n → k ≤ offset_of (T ++ U) last n
offset_from [] [] k last n h e le = e
offset_from [] (u ∷ U) k last zero h e le = h.0
offset_from [] (u ∷ U) k last (suc n) h e le = offset_from [] U k last n h.1 e (omega arith)
offset_from (x ∷ T) U k last zero h e le = absurd (omega (arith, le))
offset_from (x ∷ T) U k last (suc n) h e le = offset_from T U k last n h e (omega (arith, le))

-- the tokens of definitions begin something
abbrev GoesOn : {A : Type 0} → (List Token → A → Type 0) → List Token → Type 0
GoesOn {A} S T = (X : List Token) × (x : A) × S (T ++ X) x

not_within :
    {A : Type 0} (S : List Token → A → Type 0) (T R : List Token) (n : ℕ) → GoesOn S T → IsFirstFaultIn S (T ++ R) n → n < length T → ⊥
not_within S T R n (X, x, goes) f lt =
    let front : take (n + 1) (T ++ R) ≡ take (n + 1) T = take-append-le (n + 1) T R (omega (arith, lt)) in
    let whole : take (n + 1) (T ++ R) ++ (drop (n + 1) T ++ X) ≡ T ++ X =
    ap (λ L. L ++ (drop (n + 1) T ++ X)) front ∙ sym (append_assoc (take (n + 1) T) (drop (n + 1) T) X)
    ∙ ap (λ L. L ++ X) (take-append-drop (n + 1) T) in
    f.with_it (omega (arith, lt, length-append T R)) (drop (n + 1) T ++ X, x, subst (λ L. S L x) (sym whole) goes)

syntax_after :
    {A : Type 0} (S : List Token → A → Type 0) (D t : List ℕ) (tokens : List Placed) (at : ℕ)
    → HasTokens D tokens → GoesOn S (kinds tokens) → HasSyntaxFaultIn S (text_after D t) at → start_after D ≤ at
syntax_after S D t tokens at h goes f =
    let k = tells_after D t tokens h in
    let x = tokens_told (text_after D t) f.tokens f.cut in
    let m = tokens_behind tokens k.told f.tokens (sym (k.is x.pieces x.cut) ∙ x.found) in
    let n : ℕ = f.place.0 in
    let U : List Placed = m.0 in
    let all : kinds f.tokens ≡ kinds tokens ++ kinds U = ap kinds m.2 ∙ map-append (λ (s : Placed). s.token) tokens U in
    let first : IsFirstFaultIn S (kinds tokens ++ kinds U) n = subst (λ L. IsFirstFaultIn S L n) all f.place.1 in
    let from : AreFrom (start_after D) U = subst (IsToldFrom (start_after D)) m.1 k.from in
    let ends : start_after D ≤ length (text_after D t) = omega (arith, length-append D (10 ∷ t)) in
    elim (cases_lt n (length (kinds tokens))) [
      | inl lt ↦ absurd (not_within S (kinds tokens) (kinds U) n goes first lt)
      | inr le ↦
          let beyond : length tokens ≤ n = omega (arith, le, length-map tokens (λ (s : Placed). s.token)) in
          subst (λ x. start_after D ≤ x) (sym (f.place.2 ∙ ap (λ L. offset_of L (length (text_after D t)) n) m.2))
          (offset_from tokens U (start_after D) (length (text_after D t)) n from ends beyond)
    ]

-- definitions go on to a condition, and to a question
abbrev zero_is_zero : List Token
zero_is_zero = Number 0 ∷ Relation Equal ∷ Number 0 ∷ []

spells_more : {T : List Token} {N : Meanings} → AreDefinitions [] T N → GoesOn Spells T
spells_more d = (
  zero_is_zero,
  compare (number 0) Equal (number 0),
  defined d
      (both (unit (test (comparison {L = Number 0 ∷ []} {R = Number 0 ∷ []} (atom a_number) (atom a_number))))),
)

due_after :
    {A : Type 0} (S : List Token → A → Type 0) (parts : A → ℕ) (D t : List ℕ) (e : CondError) (g : GivesNames D)
    → GoesOn S (kinds g.tokens) → IsDueIn S parts (text_after D t) e → IsFrom (start_after D) e
due_after S parts D t TooLong g goes h = tt
due_after S parts D t (Byte at) g goes h = fault_after D t g.tokens (Byte at) g.cut h
due_after S parts D t (Word at) g goes h = fault_after D t g.tokens (Word at) g.cut h
due_after S parts D t (Digits at) g goes h = fault_after D t g.tokens (Digits at) g.cut h
due_after S parts D t (Syntax at) g goes h = syntax_after S D t g.tokens at g.cut goes h
due_after S parts D t TooManyParts g goes h = tt
due_after S parts D t Memory g goes h = tt

-- A refused condition has its fault after the definitions, and so has a refused question.
pub condition_fault : (D t : List ℕ) (e : CondError) → GivesNames D → IsDueIn Spells parts_of (text_after D t) e → IsFrom (start_after D) e
condition_fault D t e g h = due_after Spells parts_of D t e g (spells_more g.gives) h

pub question_fault : (D t : List ℕ) (e : CondError) → GivesNames D → IsDueIn Asks parts_asked (text_after D t) e → IsFrom (start_after D) e
question_fault D t e g h =
    let c = spells_more g.gives in
    due_after Asks parts_asked D t e g (c.0, asks_condition c.1, c.2) h

pub ruleset no_faults = (condition_fault, question_fault)
