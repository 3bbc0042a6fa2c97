-- A number of four digits is at most 9,999, and so are the numbers of the trees that tokens spell.
use Rattle.std.proofs.Common.{◌≡◌, ℕ, zero, suc, slice_get, ◌+◌, ◌-◌, ◌≤◌, ◌&&◌, Bool, true, false, if◌then◌else◌}
use Rattle.std.proofs.Common.{map, List, [], ◌∷◌, ◌++◌, Option, Some, None, length, refl, sym, subst, arith}
use Rattle.std.proofs.lemmas.Bool.{false≢true}
use Rattle.std.proofs.lemmas.Bool.Decides.{nat_tests}
use Rattle.std.specs.Prelude.{All, Contains, fold}
use Rattle.std.specs.List.{AllByRecursion, filter_map, list_any}
use Rattle.std.proofs.lemmas.List.Elements.{All-from_recursion}
use Rattle.std.specs.Char.{is_ascii_digit}
use Rattle.cards.specs.declared.seat.Seat.{Seat}
use Rattle.cond_lang.specs.declared.classes.Bound.{Bound}
use Rattle.cond_lang.specs.declared.classes.Choice.{Choice}
use Rattle.cond_lang.specs.declared.classes.Class.{Class as AClass}
use Rattle.cond_lang.specs.declared.classes.Params.{Params}
use Rattle.cond_lang.specs.declared.classes.Quantifier.{Quantifier as AQuantifier}
use Rattle.cond_lang.specs.declared.classes.Quantifier.TheVariants.{Any as OneOf, Every}
use Rattle.cond_lang.specs.declared.scanner.Token.{Token}
use Rattle.cond_lang.specs.declared.scanner.Token.TheVariants.{Or, And, In, Dash, Number, Open, Close, Plus, Relation, Is, Name}
use Rattle.cond_lang.specs.declared.scanner.Placed.{Placed}
use Rattle.cond_lang.specs.declared.scanner.Piece.{Piece}
use Rattle.cond_lang.specs.declared.scanner.Piece.TheVariants.{Separator, Token as TokenPiece, StrayByte, UnknownWord, LongNumber}
use Rattle.cond_lang.specs.Cut.{words, symbols, decimal, IsPiece, blank, comment, word, ranks, no_word}
use Rattle.cond_lang.specs.Cut.{number as number_piece, long, symbol, stray, Pieces, IsCut, end, piece, placed_from}
use Rattle.cond_lang.specs.Cut.{token_at, HasTokens, Naming, no_names, name_number, name_or, named_piece}
use Rattle.cond_lang.specs.Cut.{naming_after, named_from, named}
use Rattle.conditions.specs.Form.{Amount, Form, shape, pattern, loose_shape, loose_pattern, is_any, number_of, shaped, patterned}
use Rattle.conditions.specs.declared.tree.Item.{Item}
use Rattle.conditions.specs.declared.tree.Item.TheVariants.{Length, Any}
use Rattle.cond_lang.specs.Definitions.{IsBody, a_condition, a_value, IsDefinition, defines, AreDefinitions}
use Rattle.cond_lang.specs.Definitions.{none as no_more, one_more as one_name, defined, Spells, SpellsAmount}
use Rattle.cond_lang.specs.Grammar.{Meaning, Meanings, condition, value, named_value, named_condition, a_count}
use Rattle.cond_lang.specs.Grammar.{multiple, SpellsHandTest, SpellsAtom, SpellsValue, atom, plus, a_number}
use Rattle.cond_lang.specs.Grammar.{item_token, SpellsCond, both, or, SpellsBoth, unit, and, SpellsUnit, not}
use Rattle.cond_lang.specs.Grammar.{brackets, quantified, SpellsEach, none, one_more, joined, test, comparison}
use Rattle.cond_lang.specs.Grammar.{in_range, of_hand, is_balanced, has_shape, has_pattern, has_stopper}
use Rattle.conditions.specs.Limits.{AddsNumbersUpTo, HasNumbersUpTo}
use Rattle.cond_lang.specs.Text.{kinds}
use Rattle.cond_lang.proofs.Tables.{Table, EachEntry, at_entry, pick}

-- a number among the tokens is at most 9,999
abbrev IsSmall : Token → Type 0
IsSmall (Number n) = n ≤ 9999
IsSmall t = Unit {0}

abbrev AreSmall : List Token → Type 0
AreSmall T = AllByRecursion IsSmall T

-- Tokens.

digit : (c : ℕ) → is_ascii_digit c ≡ true → c - 48 ≤ 9
digit c h = grind (arith, nat_tests)

small_decimal : (p : List ℕ) → AllByRecursion (λ c. is_ascii_digit c ≡ true) p → length p ≤ 4 → decimal p ≤ 9999
small_decimal [] a h = omega arith
small_decimal (b ∷ []) a h = omega (arith, digit b a.0)
small_decimal (b ∷ c ∷ []) a h = omega (arith, digit b a.0, digit c a.1.0)
small_decimal (b ∷ c ∷ d ∷ []) a h = omega (arith, digit b a.0, digit c a.1.0, digit d a.1.1.0)
small_decimal (b ∷ c ∷ d ∷ e ∷ []) a h = omega (arith, digit b a.0, digit c a.1.0, digit d a.1.1.0, digit e a.1.1.1.0)
small_decimal (b ∷ c ∷ d ∷ e ∷ f ∷ more) a h = absurd (omega arith)

-- no entry of the table is a number
abbrev is_no_number : Token → Bool
is_no_number (Number n) = false
is_no_number t = true

abbrev has_no_number : Table → Bool
has_no_number [] = true
has_no_number (e ∷ table) = is_no_number e.1 && has_no_number table

small_and : (t : Token) (b : Bool) → (is_no_number t && b) ≡ true → IsSmall t × (b ≡ true)
small_and (Number n) b h = absurd (false≢true h)
small_and t b h = (tt, h)

small_table : (table : Table) → has_no_number table ≡ true → EachEntry (λ p t. IsSmall t) table
small_table [] h = tt
small_table (e ∷ table) h = let both = small_and e.1 (has_no_number table) h in (both.0, small_table table both.1)

small_word : (p : List ℕ) (t : Token) → Contains words (p, t) → IsSmall t
small_word = at_entry (λ p t. IsSmall t) words (small_table words refl)

small_symbol : (p : List ℕ) (t : Token) → Contains symbols (p, t) → IsSmall t
small_symbol = at_entry (λ p t. IsSmall t) symbols (small_table symbols refl)

abbrev IsSmallPiece : Piece → Type 0
IsSmallPiece (TokenPiece t) = IsSmall t
IsSmallPiece k = Unit {0}

small_piece : {p rest : List ℕ} {k : Piece} → IsPiece p rest k → IsSmallPiece k
small_piece (blank h) = tt
small_piece (comment h r) = tt
small_piece (word {p} {t = t} r m) = small_word p t m
small_piece (ranks r h) = tt
small_piece (no_word r n h) = tt
small_piece (number_piece {p} r few) = small_decimal p r.all few
small_piece (long r many) = tt
small_piece (symbol {p} {t = t} m l) = small_symbol p t m
small_piece (stray a g b d n) = tt

small_pieces : {s : List ℕ} {ps : Pieces} → IsCut s ps → AllByRecursion (λ p. IsSmallPiece p.1) ps
small_pieces end = tt
small_pieces (piece l i c) = (small_piece i, small_pieces c)

small_placed :
    (at : ℕ) (ps : Pieces) → AllByRecursion (λ p. IsSmallPiece p.1) ps
    → AreSmall (kinds (filter_map (λ p. token_at p.0 p.1) (placed_from at ps)))
small_placed at [] a = tt
small_placed at ((w, Separator) ∷ ps) a = small_placed (at + length w) ps a.1
small_placed at ((w, TokenPiece t) ∷ ps) a = (a.0, small_placed (at + length w) ps a.1)
small_placed at ((w, StrayByte) ∷ ps) a = small_placed (at + length w) ps a.1
small_placed at ((w, UnknownWord) ∷ ps) a = small_placed (at + length w) ps a.1
small_placed at ((w, LongNumber) ∷ ps) a = small_placed (at + length w) ps a.1

-- a name is no number
small_name : (N : Naming) (o : Option ℕ) → IsSmallPiece (name_or N o)
small_name N (Some n) = tt
small_name N None = pick IsSmallPiece N.after_let (TokenPiece (Name (length N.given))) UnknownWord (λ e. tt) (λ e. tt)

small_named_piece : (N : Naming) (p : List ℕ × Piece) → IsSmallPiece p.1 → IsSmallPiece (named_piece N p)
small_named_piece N (w, UnknownWord) a = small_name N (name_number N w)
small_named_piece N (w, Separator) a = a
small_named_piece N (w, TokenPiece t) a = a
small_named_piece N (w, StrayByte) a = a
small_named_piece N (w, LongNumber) a = a

small_named : (N : Naming) (ps : Pieces) → AllByRecursion (λ p. IsSmallPiece p.1) ps → AllByRecursion (λ p. IsSmallPiece p.1) (named_from N ps)
small_named N [] a = tt
small_named N (p ∷ ps) a = (small_named_piece N p a.0, small_named (naming_after N p) ps a.1)

small_tokens : (text : List ℕ) (ts : List Placed) → HasTokens text ts → AreSmall (kinds ts)
small_tokens text ts h = subst (λ L. AreSmall (kinds L)) (sym h.found)
    (small_placed 0 (named h.pieces) (small_named no_names h.pieces (small_pieces h.cut)))

-- Trees.

left_small : (L R : List Token) → AreSmall (L ++ R) → AreSmall L
left_small [] R a = tt
left_small (c ∷ L) R a = (a.0, left_small L R a.1)

right_small : (L R : List Token) → AreSmall (L ++ R) → AreSmall R
right_small [] R a = a
right_small (c ∷ L) R a = right_small L R a.1

behind_small : (L : List Token) (c : Token) (R : List Token) → AreSmall (L ++ c ∷ R) → AreSmall R
behind_small L c R a = (right_small L (c ∷ R) a).1

-- names that stand for small numbers alone
abbrev IsSmallMeaning : Meaning → Type 0
IsSmallMeaning (condition p f) = (x : Choice) → HasNumbersUpTo 9999 (f x)
IsSmallMeaning (value p f) = (x : Choice) → AddsNumbersUpTo 9999 (f x)

abbrev AreSmallNames : Meanings → Type 0
AreSmallNames N = AllByRecursion IsSmallMeaning N

small_meaning : (N : Meanings) (n : ℕ) (m : Meaning) → slice_get N n ≡ Some m → AreSmallNames N → IsSmallMeaning m
small_meaning [] n m e s = absurd (cc)
small_meaning (k ∷ N) zero m e s = let i : k ≡ m = cc in subst IsSmallMeaning i s.0
small_meaning (k ∷ N) (suc n) m e s = small_meaning N n m e s.1

one_small_more : (N : Meanings) (m : Meaning) → AreSmallNames N → IsSmallMeaning m → AreSmallNames (N ++ m ∷ [])
one_small_more [] m s h = (h, tt)
one_small_more (k ∷ N) m s h = (s.0, one_small_more N m s.1 h)

module _ {N : Meanings} (names : AreSmallNames N) where
  small_atom : {E : Bound} {T : List Token} {a : Amount} → SpellsAtom N E T a → AreSmall T → AddsNumbersUpTo 9999 a
  small_atom a_number s = s.0
  small_atom (a_count h) s = tt
  small_atom (multiple w h) s = s.0
  small_atom (named_value {n} {p} {f} {x} i h) s = small_meaning N n (value p f) i names x

  small_value : {E : Bound} {T : List Token} {a : Amount} → SpellsValue N E T a → AreSmall T → AddsNumbersUpTo 9999 a
  small_value (atom h) s = small_atom h s
  small_value (plus {L} {R} l r) s = (small_value l (left_small L (Plus ∷ R) s), small_atom r (behind_small L Plus R s))

small_item : (i : Item) → IsSmall (item_token i) → number_of i ≤ 9999
small_item (Length n) h = h
small_item Any h = omega arith

small_items : (a b c d : Item) → IsSmall (item_token a) → IsSmall (item_token b) → IsSmall (item_token c)
    → IsSmall (item_token d) → All (λ i. number_of i ≤ 9999) (a ∷ b ∷ c ∷ d ∷ [])
small_items a b c d h i j k = All-from_recursion (λ i. number_of i ≤ 9999) (a ∷ b ∷ c ∷ d ∷ [])
    (small_item a h, (small_item b i, (small_item c j, (small_item d k, tt))))

small_four : (a b c d : Item) → IsSmall (item_token a) → IsSmall (item_token b) → IsSmall (item_token c)
    → IsSmall (item_token d) → All (λ n. n ≤ 9999) (map number_of (a ∷ b ∷ c ∷ d ∷ []))
small_four a b c d h i j k = All-from_recursion (λ n. n ≤ 9999) (map number_of (a ∷ b ∷ c ∷ d ∷ []))
    (small_item a h, (small_item b i, (small_item c j, (small_item d k, tt))))

either : (m : ℕ) (b : Bool) (x y : Form) → HasNumbersUpTo m x → HasNumbersUpTo m y → HasNumbersUpTo m (if b then x else y)
either m true x y h k = h
either m false x y h k = k

small_shape : (q : Seat) (items : List Item) → All (λ i. number_of i ≤ 9999) items
    → All (λ n. n ≤ 9999) (map number_of items) → HasNumbersUpTo 9999 (shaped q items)
small_shape q items h k = either 9999 (list_any is_any items) (loose_shape q items) (shape q (map number_of items)) h k

small_pattern : (q : Seat) (items : List Item) → All (λ i. number_of i ≤ 9999) items
    → All (λ n. n ≤ 9999) (map number_of items) → HasNumbersUpTo 9999 (patterned q items)
small_pattern q items h k = either 9999 (list_any is_any items) (loose_pattern q items) (pattern q (map number_of items)) h k

-- trees that are joined
small_joined : (k : AQuantifier) (a b : Form) → HasNumbersUpTo 9999 a → HasNumbersUpTo 9999 b → HasNumbersUpTo 9999 (joined k a b)
small_joined OneOf a b h i = (h, i)
small_joined Every a b h i = (h, i)

all_joined_small : (k : AQuantifier) (t : Form) (ts : List Form) → HasNumbersUpTo 9999 t
    → AllByRecursion (HasNumbersUpTo 9999) ts → HasNumbersUpTo 9999 (fold (joined k) t ts)
all_joined_small k t [] h hs = h
all_joined_small k t (u ∷ us) h hs = all_joined_small k (joined k t u) us (small_joined k t u h hs.0) hs.1

small_hand : {E : Bound} {c : Token} {R : List Token} {f : Seat → Form} → SpellsHandTest E c R f → (q : Seat) → AreSmall R → HasNumbersUpTo 9999 (f q)
small_hand is_balanced q s = tt
small_hand (has_shape a b c d) q s =
    small_shape q (a ∷ b ∷ c ∷ d ∷ [])
    (small_items a b c d s.1.0 s.1.1.1.0 s.1.1.1.1.1.0 s.1.1.1.1.1.1.1.0)
    (small_four a b c d s.1.0 s.1.1.1.0 s.1.1.1.1.1.0 s.1.1.1.1.1.1.1.0)
small_hand (has_pattern a b c d) q s =
    small_pattern q (a ∷ b ∷ c ∷ d ∷ [])
    (small_items a b c d s.1.0 s.1.1.1.0 s.1.1.1.1.1.0 s.1.1.1.1.1.1.1.0)
    (small_four a b c d s.1.0 s.1.1.1.0 s.1.1.1.1.1.0 s.1.1.1.1.1.1.1.0)
small_hand (has_stopper w i) q s = tt

module _ {N : Meanings} (names : AreSmallNames N) where
  mutual
    small_cond : {E : Bound} {T : List Token} {t : Form} → SpellsCond N E T t → AreSmall T → HasNumbersUpTo 9999 t
    small_cond (both h) s = small_both h s
    small_cond (or {L} {R} l r) s = (small_cond l (left_small L (Or ∷ R) s), small_both r (behind_small L Or R s))

    small_both : {E : Bound} {T : List Token} {t : Form} → SpellsBoth N E T t → AreSmall T → HasNumbersUpTo 9999 t
    small_both (unit h) s = small_unit h s
    small_both (and {L} {R} l r) s = (small_both l (left_small L (And ∷ R) s), small_unit r (behind_small L And R s))

    small_unit : {E : Bound} {T : List Token} {t : Form} → SpellsUnit N E T t → AreSmall T → HasNumbersUpTo 9999 t
    small_unit (not h) s = small_unit h s.1
    small_unit (brackets {T} h) s = small_cond h (left_small T (Close ∷ []) s.1)
    small_unit (quantified {k} {c} {T} {t} {ts} w b each) s =
        let smalls = small_each each (left_small T (Close ∷ []) s.1.1.1) in
        all_joined_small k t ts smalls.0 smalls.1
    small_unit (test (in_range {L} {m = m} {n = n} l)) s =
        let behind : AreSmall (Number m ∷ Dash ∷ Number n ∷ []) = behind_small L In (Number m ∷ Dash ∷ Number n ∷ []) s in
        (small_value names l (left_small L (In ∷ Number m ∷ Dash ∷ Number n ∷ []) s), behind.0, behind.1.1.0)
    small_unit (test (comparison {L} {R} {o = o} l r)) s =
        (small_value names l (left_small L (Relation o ∷ R) s), small_value names r (behind_small L (Relation o) R s))
    small_unit (test (named_condition {n} {p} {f} {x} i h)) s = small_meaning N n (condition p f) i names x
    small_unit (test (of_hand {Q} {R} {q} k h)) s = small_hand k q (right_small Q R s.1.1)

    small_each : {E : Bound} {c : AClass} {ss : List Choice} {T : List Token} {ts : List Form}
        → SpellsEach N E c ss T ts → AreSmall T → AllByRecursion (HasNumbersUpTo 9999) ts
    small_each none s = tt
    small_each (one_more h hs) s = (small_cond h s, small_each hs s)

-- Definitions.

small_body : {N : Meanings} {p : Params} {T : List Token} {m : Meaning} → AreSmallNames N → IsBody N p T m → AreSmall T → IsSmallMeaning m
small_body names (a_condition h) s = λ x. small_cond names (h x) s
small_body names (a_value h) s = λ x. small_value names (h x) s

small_definition : {N : Meanings} {D : List Token} {m : Meaning} → AreSmallNames N → IsDefinition N D m → AreSmall D → IsSmallMeaning m
small_definition names (defines {P} {T} h b) s =
    small_body names b (left_small T (Close ∷ []) (right_small P (Is ∷ Open ∷ T ++ Close ∷ []) s.1).1.1)

small_definitions : {N M : Meanings} {D : List Token} → AreSmallNames N → AreDefinitions N D M → AreSmall D → AreSmallNames M
small_definitions names no_more s = names
small_definitions {N} names (one_name {D} {T} {m} d ds) s =
    small_definitions (one_small_more N m names (small_definition names d (left_small D T s.1))) ds (right_small D T s.1)

small_text : {T : List Token} {t : Form} → Spells T t → AreSmall T → HasNumbersUpTo 9999 t
small_text (defined {D} {T} d h) s = small_cond (small_definitions tt d (left_small D T s)) h (right_small D T s)

small_amount : {T : List Token} {a : Amount} → SpellsAmount T a → AreSmall T → AddsNumbersUpTo 9999 a
small_amount (defined {D} {T} d h) s = small_value (small_definitions tt d (left_small D T s)) h (right_small D T s)

-- The numbers of a text's tree are at most 9,999.
pub small_numbers : (text : List ℕ) (ts us : List Placed) (t : Form) → HasTokens text ts → us ≡ ts → Spells (kinds us) t → HasNumbersUpTo 9999 t
small_numbers text ts us t h e s = small_text s (subst (λ L. AreSmall (kinds L)) (sym e) (small_tokens text ts h))

-- The numbers of a text's value are at most 9,999.
pub small_value_numbers :
    (text : List ℕ) (ts us : List Placed) (a : Amount) → HasTokens text ts → us ≡ ts → SpellsAmount (kinds us) a
    → AddsNumbersUpTo 9999 a
small_value_numbers text ts us a h e s = small_amount s (subst (λ L. AreSmall (kinds L)) (sym e) (small_tokens text ts h))
