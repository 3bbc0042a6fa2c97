-- What a text with no faulty piece spells, where its syntax fault stands, and what the shortest condition spells.
use Rattle.std.proofs.Common.{◌≡◌, ℕ, ◌+◌, ◌-◌, ◌≤◌, ◌<◌, ◌⊎◌, List, [], ◌∷◌, ◌++◌, length, take, drop, Ok, Err}
use Rattle.std.proofs.Common.{take-append-drop, append_assoc, refl, sym, ap, ◌∙◌, subst, inl, inr, arith}
use Rattle.std.specs.Prelude.{codes}
use Rattle.std.proofs.lemmas.Bool.{cases_lt}
use Rattle.std.proofs.lemmas.List.{take-take}
use Rattle.std.specs.Char.{is_ascii_digit}
use Rattle.conditions.specs.declared.tree.Op.TheVariants.{Equal}
use Rattle.cond_lang.specs.declared.scanner.Token.{Token}
use Rattle.cond_lang.specs.declared.scanner.Token.TheVariants.{Number, Relation}
use Rattle.cond_lang.specs.declared.scanner.Placed.{Placed}
use Rattle.conditions.specs.declared.error.CondError.{CondError}
use Rattle.cond_lang.specs.declared.scanner.Piece.TheVariants.{Token as TokenPiece}
use Rattle.cond_lang.specs.Cut.{symbols, IsRun, IsPiece, number as number_piece, symbol, Pieces, IsCut, end, piece, named, HasTokens}
use Rattle.cond_lang.specs.Faults.{HasFault}
use Rattle.conditions.specs.Form.{Form, number, compare}
use Rattle.cond_lang.specs.Definitions.{Spells, defined, none}
use Rattle.cond_lang.specs.Grammar.{atom, a_number, both, unit, test, comparison}
use Rattle.cond_lang.specs.Faults.{IsViable, IsFirstFault}
use Rattle.cond_lang.specs.Text.{kinds}
use Rattle.cond_lang.specs.Faults.{offset_of}
use Rattle.cond_lang.specs.internal.Defining.{whole}
use Rattle.cond_lang.specs.internal.Reading.{Outcome, got, stuck}
use Rattle.cond_lang.specs.Text.{SpellsTree}
use Rattle.cond_lang.specs.Faults.{HasSyntaxFault}
use Rattle.cond_lang.proofs.Cuts.{some_cut}
use Rattle.cond_lang.proofs.Definitions.{whole_right}
use Rattle.cond_lang.proofs.Place.{first_fault}
use Rattle.cond_lang.proofs.Symbols.{fits}
use Rattle.cond_lang.proofs.Tables.{entry_of}
use Rattle.cond_lang.proofs.Told.{Told, told_from, TellsTokens, told_tokens, told_fault}
use Rattle.cond_lang.proofs.Texts.{one_tokens}

spells_nothing : (T : List Token) (n : ℕ) (t : Form) → IsFirstFault T n → Spells T t → ⊥
spells_nothing T n t f s =
    elim (cases_lt n (length T)) [
      | inl lt ↦ f.with_it lt (drop (n + 1) T, t, subst (λ L. Spells L t) (sym (take-append-drop (n + 1) T)) s)
      | inr ge ↦ f.at_end (omega (arith, f.within, ge)) t s
    ]

-- A text with a syntax fault spells no tree.
pub no_tree : (text : List ℕ) (at : ℕ) (t : Form) → HasSyntaxFault text at → SpellsTree text t → ⊥
no_tree text at t f s =
    spells_nothing (kinds f.tokens) f.place.0 t f.place.1
    (subst (λ ts. Spells (kinds ts) t) (one_tokens text s.tokens f.tokens s.cut f.cut) s.spells)

-- A text has at most one syntax fault.

-- what a viable list begins with is viable
pub viable_part : (n m : ℕ) (T : List Token) → n ≤ m → IsViable (take m T) → IsViable (take n T)
viable_part n m T h v =
    let more : List Token = drop n (take m T) ++ v.0 in
    let front : take n (take m T) ≡ take n T = take-take n m T h in
    let whole : take n T ++ more ≡ take m T ++ v.0 =
    ap (λ L. L ++ more) (sym front)
    ∙ sym (append_assoc (take n (take m T)) (drop n (take m T)) v.0)
    ∙ ap (λ L. L ++ v.0) (take-append-drop n (take m T)) in
    (more, v.1, subst (λ L. Spells L v.1) (sym whole) v.2)

not_before : (T : List Token) (n m : ℕ) → IsFirstFault T n → IsFirstFault T m → n < m → ⊥
not_before T n m f g lt = f.with_it (omega (arith, g.within)) (viable_part (n + 1) m T (omega arith) g.before)

one_first_fault : (T : List Token) (n m : ℕ) → IsFirstFault T n → IsFirstFault T m → n ≡ m
one_first_fault T n m f g =
    elim (cases_lt n m) [
      | inl lt ↦ absurd (not_before T n m f g lt)
      | inr ge ↦ elim (cases_lt m n) [ inl lt ↦ absurd (not_before T m n g f lt) | inr le ↦ omega arith ]
    ]

pub one_syntax_fault : (text : List ℕ) (a b : ℕ) → HasSyntaxFault text a → HasSyntaxFault text b → a ≡ b
one_syntax_fault text a b f g =
    let same : g.tokens ≡ f.tokens = one_tokens text g.tokens f.tokens g.cut f.cut in
    let there : IsFirstFault (kinds f.tokens) g.place.0 = subst (λ ts. IsFirstFault (kinds ts) g.place.0) same g.place.1 in
    let n : f.place.0 ≡ g.place.0 = one_first_fault (kinds f.tokens) f.place.0 g.place.0 f.place.1 there in
    f.place.2
    ∙ ap (λ n. offset_of f.tokens (length text) n) n
    ∙ ap (λ ts. offset_of ts (length text) g.place.0) (sym same)
    ∙ sym g.place.2

-- Tokens spell a tree, or have a first fault.
found_or_fault :
    (text : List ℕ) (ts : List Placed) (o : Outcome Form) → HasTokens text ts → whole (kinds ts) ≡ o
    → ((tree : Form) × SpellsTree text tree) ⊎ ((at : ℕ) × HasSyntaxFault text at)
found_or_fault text ts (got t R) h e = inl (t, record { tokens = ts; cut = h; spells = whole_right (kinds ts) R t e })
found_or_fault text ts (stuck R) h e =
    let n : ℕ = length (kinds ts) - length R in
    inr (offset_of ts (length text) n, record { tokens = ts; cut = h; place = (n, first_fault (kinds ts) R e, refl) })

pub tree_or_fault : (text : List ℕ) (ts : List Placed) → HasTokens text ts
    → ((tree : Form) × SpellsTree text tree) ⊎ ((at : ℕ) × HasSyntaxFault text at)
tree_or_fault text ts h = found_or_fault text ts (whole (kinds ts)) h refl

-- A text has tokens, or a fault.
told_or_fault : (text : List ℕ) (ps : Pieces) (r : Told) → IsCut text ps → told_from 0 (named ps) ≡ r
    → ((ts : List Placed) × HasTokens text ts) ⊎ ((e : CondError) × HasFault text e)
told_or_fault text ps (Ok ts) c e = inl (ts, told_tokens text ts (record { pieces = ps; cut = c; found = e }))
told_or_fault text ps (Err f) c e = inr (f, told_fault text f (record { pieces = ps; cut = c; found = e }))

pub tokens_or_fault : (text : List ℕ) → ((ts : List Placed) × HasTokens text ts) ⊎ ((e : CondError) × HasFault text e)
tokens_or_fault text = let c = some_cut text in told_or_fault text c.0 (told_from 0 (named c.0)) c.1 refl

zero : (rest : List ℕ) → IsRun is_ascii_digit (48 ∷ []) rest → IsPiece (48 ∷ []) rest (TokenPiece (Number 0))
zero rest r = number_piece r (omega arith)

equals : IsPiece (61 ∷ 61 ∷ []) (48 ∷ []) (TokenPiece (Relation Equal))
equals = symbol (entry_of symbols (61 ∷ 61 ∷ []) (Relation Equal) refl) (λ q b. fits q (61 ∷ 61 ∷ 48 ∷ []) b)

zero_is_zero_cut : TellsTokens (codes "0==0") (record { token = Number 0; at = 0 } ∷ record
    { token = Relation Equal; at = 1 } ∷ record { token = Number 0; at = 3 } ∷ [])
zero_is_zero_cut =
    record {
      pieces = (48 ∷ [], TokenPiece (Number 0)) ∷ (61 ∷ 61 ∷ [], TokenPiece (Relation Equal)) ∷ (48 ∷ [], TokenPiece (Number 0)) ∷ [];
      cut =
          piece {p = 48 ∷ []} {rest = 61 ∷ 61 ∷ 48 ∷ []} (omega arith) (zero _ (record { some = omega arith; all = (refl, tt); ends = refl }))
          (piece {p = 61 ∷ 61 ∷ []} {rest = 48 ∷ []} (omega arith) equals
          (piece {p = 48 ∷ []} {rest = []} (omega arith) (zero [] (record { some = omega arith; all = (refl, tt); ends = tt })) end));
      found = refl;
    }

-- The text 0==0 spells the comparison of 0 with 0.
pub zero_is_zero : SpellsTree (codes "0==0") (compare (number 0) Equal (number 0))
zero_is_zero =
    record {
      tokens = record { token = Number 0; at = 0 } ∷ record { token = Relation Equal; at = 1 } ∷ record { token = Number 0; at = 3 } ∷ [];
      cut = told_tokens (codes "0==0") _ zero_is_zero_cut;
      spells = defined {D = []} none (both (unit (test (comparison {L = Number 0 ∷ []} {R = Number 0 ∷ []} (atom a_number) (atom a_number)))));
    }
