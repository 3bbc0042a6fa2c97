-- What a tag at the beginning of a line does to what a text spells.
use Rattle.std.proofs.Common.{◌≡◌, ◌∙◌, ◌<◌, ◌≤◌, ℕ, ◌+◌, ◌==◌, Bool, true, false, List, [], ◌∷◌, ◌++◌, length, ap}
use Rattle.std.proofs.Common.{append_assoc, length-append, drop, take, Option, Some, arith, refl, sym}
use Rattle.std.specs.List.{list_all}
use Rattle.std.specs.Prelude.{nat_eq}
use Rattle.std.specs.Borrow.{Bor}
use Rattle.std.specs.Cmp.Lexicographic.{pointwise}
use Rattle.std.proofs.lemmas.List.{take-append-drop}
use Rattle.std.proofs.lemmas.Bool.Decides.{Decides-eqb}
use Rattle.std.proofs.lemmas.Slice.Eq.{strip_prefix_is}
use Rattle.std.proofs.lemmas.Bool.{and_parts, lt-ltb, ne_eqb}
use Rattle.std.proofs.lemmas.List.{append-nil}
use Rattle.input.specs.Kinds.{kind_of}
use Rattle.input.specs.Places.{is_name_byte}
use Rattle.input.specs.RecordScans.{spells_from}
use Rattle.input.specs.Texts.{Spelled, ends_line, takes_tag}
use Rattle.input.specs.declared.records.kind.TagKind.{TagKind}
use Rattle.input.specs.declared.records.scanner.RecordScanner.{RecordScanner}
use Rattle.input.specs.declared.records.line.LinePart.{LinePart}
use Rattle.input.specs.declared.records.line.LinePart.TheVariants.{Open, Bracket, Name, Gap, Value, Close}
use Rattle.input.specs.declared.records.reading.Reading.{Reading}
use Rattle.input.specs.internal.TagTexts.{IsStart, IsTag, after_tag, is_plain, tag_text, with_place}
use Rattle.input.proofs.Scanning.{at_byte, plainly}

-- a line from within its tag
abbrev at : Reading → LinePart → ℕ → List ℕ → List ℕ → Reading
at s part column name value = record s {
  line = record {
    part = part;
    skips = false;
    comment = false;
    column = column;
    name = name;
    value = value;
  };
}

-- ---- which bytes a name and a value don't have

other : (p : ℕ → Bool) (b c : ℕ) → p b ≡ true → p c ≡ false → (b == c) ≡ false
other p b c is not_it = ne_eqb b c (λ e. let t : p c ≡ true = ap p (sym e) ∙ is in let f : true ≡ false = sym t ∙ not_it in cc)

-- ---- runs of bytes

name_byte : (s : Reading) (b column : ℕ) (name value rest : List ℕ) → is_name_byte b ≡ true → column < 4096
    → spells_from (plainly (at s Name column name value)) (b ∷ rest) ≡ spells_from (plainly (at s Name (column + 1) (name ++ b ∷ []) value)) rest
name_byte s b column name value rest named fits =
    let below = lt-ltb column 4096 fits in
    let quote = other is_name_byte b 34 named refl in
    let space = other is_name_byte b 32 named refl in
    let tab = other is_name_byte b 9 named refl in
    at_byte (plainly (at s Name column name value)) b rest refl (other is_name_byte b 10 named refl) (other is_name_byte b 13 named refl)
    ∙ rw (below, named, quote, space, tab) refl

name_run : (s : Reading) (bs : List ℕ) (column : ℕ) (name value rest : List ℕ) → list_all is_name_byte bs ≡ true → column + length bs ≤ 4096
    → spells_from (plainly (at s Name column name value)) (bs ++ rest) ≡ spells_from
    (plainly (at s Name (column + length bs) (name ++ bs) value)) rest
name_run s [] column name value rest named fits = rw append-nil (ap (λ n. spells_from (plainly (at s Name n name value)) rest) (omega arith))
name_run s (b ∷ bs) column name value rest named fits =
    let parts = and_parts (is_name_byte b) (list_all is_name_byte bs) named in
    name_byte s b column name value (bs ++ rest) parts.0 (omega arith)
    ∙ name_run s bs (column + 1) (name ++ b ∷ []) value rest parts.1 (omega arith)
    ∙ ap (λ l. spells_from (plainly (at s Name (column + 1 + length bs) l value)) rest) (append_assoc name (b ∷ []) bs)
    ∙ ap (λ n. spells_from (plainly (at s Name n (name ++ b ∷ bs) value)) rest) (omega arith)

value_byte : (s : Reading) (b column : ℕ) (name value rest : List ℕ) → is_plain b ≡ true → column < 4096
    → spells_from (plainly (at s Value column name value)) (b ∷ rest) ≡ spells_from (plainly (at s Value (column + 1) name (value ++ b ∷ []))) rest
value_byte s b column name value rest plain fits =
    let below = lt-ltb column 4096 fits in
    let quote = other is_plain b 34 plain refl in
    let slash = other is_plain b 92 plain refl in
    at_byte (plainly (at s Value column name value)) b rest refl (other is_plain b 10 plain refl) (other is_plain b 13 plain refl)
    ∙ rw (below, quote, slash) refl

value_run : (s : Reading) (bs : List ℕ) (column : ℕ) (name value rest : List ℕ) → list_all is_plain bs ≡ true → column + length bs ≤ 4096
    → spells_from (plainly (at s Value column name value)) (bs ++ rest) ≡ spells_from
    (plainly (at s Value (column + length bs) name (value ++ bs))) rest
value_run s [] column name value rest plain fits = rw append-nil (ap (λ n. spells_from (plainly (at s Value n name value)) rest) (omega arith))
value_run s (b ∷ bs) column name value rest plain fits =
    let parts = and_parts (is_plain b) (list_all is_plain bs) plain in
    value_byte s b column name value (bs ++ rest) parts.0 (omega arith)
    ∙ value_run s bs (column + 1) name (value ++ b ∷ []) rest parts.1 (omega arith)
    ∙ ap (λ l. spells_from (plainly (at s Value (column + 1 + length bs) name l)) rest) (append_assoc value (b ∷ []) bs)
    ∙ ap (λ n. spells_from (plainly (at s Value n name (value ++ b ∷ bs))) rest) (omega arith)

-- ---- the signs

bracket : (s : Reading) (rest : List ℕ) → IsStart s.line
    → spells_from (plainly s) (91 ∷ rest) ≡ spells_from (plainly (at s Bracket 1 s.line.name s.line.value)) rest
bracket s rest start = at_byte (plainly s) 91 rest refl refl refl ∙ rw (start.part, start.column, start.comment) refl

first_byte : (s : Reading) (b : ℕ) (name value rest : List ℕ) → is_name_byte b ≡ true
    → spells_from (plainly (at s Bracket 1 name value)) (b ∷ rest) ≡ spells_from (plainly (at s Name 2 (b ∷ []) value)) rest
first_byte s b name value rest named =
    at_byte (plainly (at s Bracket 1 name value)) b rest refl (other is_name_byte b 10 named refl)
    (other is_name_byte b 13 named refl) ∙ rw named refl

space : (s : Reading) (column : ℕ) (name value rest : List ℕ) → column < 4096
    → spells_from (plainly (at s Name column name value)) (32 ∷ rest) ≡ spells_from (plainly (at s Gap (column + 1) name value)) rest
space s column name value rest fits =
    at_byte (plainly (at s Name column name value)) 32 rest refl refl refl ∙ rw (lt-ltb column 4096 fits) refl

opening : (s : Reading) (column : ℕ) (name value rest : List ℕ) → column < 4096
    → spells_from (plainly (at s Gap column name value)) (34 ∷ rest) ≡ spells_from (plainly (at s Value (column + 1) name [])) rest
opening s column name value rest fits =
    at_byte (plainly (at s Gap column name value)) 34 rest refl refl refl ∙ rw (lt-ltb column 4096 fits) refl

closing : (s : Reading) (column : ℕ) (name value rest : List ℕ) → column < 4096
    → spells_from (plainly (at s Value column name value)) (34 ∷ rest) ≡ spells_from (plainly (at s Close (column + 1) name value)) rest
closing s column name value rest fits =
    at_byte (plainly (at s Value column name value)) 34 rest refl refl refl ∙ rw (lt-ltb column 4096 fits) refl

ending : (s : Reading) (column : ℕ) (name value rest : List ℕ) → column < 4096
    → spells_from (plainly (at s Close column name value)) (93 ∷ rest) ≡ takes_tag (kind_of name)
    (at s Open (column + 1) name value) (λ t. spells_from (plainly t) rest)
ending s column name value rest fits =
    at_byte (plainly (at s Close column name value)) 93 rest refl refl refl ∙ rw (lt-ltb column 4096 fits) refl

-- ---- the tag

abbrev from_gap : List ℕ → List ℕ → List ℕ
from_gap value rest = 32 ∷ 34 ∷ (value ++ 34 ∷ 93 ∷ rest)

after_name : (s : Reading) (name old value rest : List ℕ) → list_all is_plain value ≡ true → length name + length value + 5 ≤ 4096
    → spells_from (plainly (at s Name (length name + 1) name old)) (from_gap value rest)
    ≡ takes_tag (kind_of name) (with_place (after_tag name value) s) (λ t. spells_from (plainly t) rest)
after_name s name old value rest plain fits =
    space s (length name + 1) name old _ (omega (arith, fits))
    ∙ opening s (length name + 1 + 1) name old _ (omega (arith, fits))
    ∙ value_run s value (length name + 1 + 1 + 1) name [] _ plain (omega (arith, fits))
    ∙ closing s (length name + 1 + 1 + 1 + length value) name value _ (omega (arith, fits))
    ∙ ending s (length name + 1 + 1 + 1 + length value + 1) name value rest (omega (arith, fits))
    ∙ ap (λ n. takes_tag (kind_of name) (at s Open n name value) (λ t. spells_from (plainly t) rest)) (omega arith)

tag_bytes : (name value rest : List ℕ) → tag_text name value ++ rest ≡ 91 ∷ (name ++ from_gap value rest)
unfolding tag_text
tag_bytes name value rest =
    ap (λ l. 91 ∷ l) (append_assoc name (32 ∷ 34 ∷ (value ++ 34 ∷ 93 ∷ [])) rest
    ∙ ap (λ l. name ++ 32 ∷ 34 ∷ l) (append_assoc value (34 ∷ 93 ∷ []) rest))

pub tag_length : (name value : List ℕ) → length (tag_text name value) ≡ length name + length value + 5
unfolding tag_text
tag_length name value =
    let first = length-append name (32 ∷ 34 ∷ (value ++ 34 ∷ 93 ∷ [])) in
    let second = length-append value (34 ∷ 93 ∷ []) in
    omega (arith, first, second)

pub tag_read : (s : Reading) (name value rest : List ℕ) → IsStart s.line → IsTag name value
    → spells_from (plainly s) (tag_text name value ++ rest) ≡ takes_tag (kind_of name)
    (with_place (after_tag name value) s) (λ t. spells_from (plainly t) rest)
tag_read s [] value rest start tag = absurd (let none : 0 < 0 = tag.some in omega arith)
tag_read s (b ∷ bs) value rest start tag =
    let parts = and_parts (is_name_byte b) (list_all is_name_byte bs) tag.named in
    ap (spells_from (plainly s)) (tag_bytes (b ∷ bs) value rest)
    ∙ bracket s _ start
    ∙ first_byte s b s.line.name s.line.value _ parts.0
    ∙ name_run s bs 2 (b ∷ []) s.line.value (from_gap value rest) parts.1 (omega (arith, tag.fits))
    ∙ ap (λ n. spells_from (plainly (at s Name n (b ∷ bs) s.line.value)) (from_gap value rest)) (omega arith)
    ∙ after_name s (b ∷ bs) s.line.value value rest tag.plain tag.fits

-- ---- what calls return

pub tag_passed : (s : RecordScanner) (t : Reading) (kind : Option TagKind) (name value : List ℕ) → IsStart s.reading.line
    → s.after_cr ≡ false → IsTag name value → kind ≡ kind_of name
    → ((next : Reading → Spelled) → takes_tag kind (with_place (after_tag name value) s.reading) next ≡ next t)
    → (rest : List ℕ) → spells_from s (tag_text name value ++ rest) ≡ spells_from (record { reading = t; after_cr = s.after_cr }) rest
tag_passed s t kind name value start plain tag is takes rest =
    rw plain (tag_read s.reading name value rest start tag
    ∙ ap (λ k. takes_tag k (with_place (after_tag name value) s.reading) (λ u. spells_from (plainly u) rest)) (sym is)
    ∙ takes (λ u. spells_from (plainly u) rest))

-- the end of the line comes next
then_lf : (kind : Option TagKind) (s : Reading) (rest : List ℕ)
    → takes_tag kind s (λ t. spells_from (plainly t) (10 ∷ rest)) ≡ takes_tag kind s (λ t. ends_line t (λ u. spells_from (plainly u) rest))
unfolding spells_from
then_lf kind s rest = refl

pub line_passed : (s : RecordScanner) (t : Reading) (kind : Option TagKind) (name value : List ℕ) → IsStart s.reading.line
    → s.after_cr ≡ false → IsTag name value → kind ≡ kind_of name
    → ((next : Reading → Spelled) → takes_tag kind (with_place (after_tag name value) s.reading) (λ u. ends_line u next) ≡ next t)
    → (rest : List ℕ) → spells_from s (tag_text name value ++ 10 ∷ rest) ≡ spells_from (record { reading = t; after_cr = s.after_cr }) rest
line_passed s t kind name value start plain tag is takes rest =
    rw plain (tag_read s.reading name value (10 ∷ rest) start tag
    ∙ ap (λ k. takes_tag k (with_place (after_tag name value) s.reading) (λ u. spells_from (plainly u) (10 ∷ rest))) (sym is)
    ∙ then_lf kind (with_place (after_tag name value) s.reading) rest
    ∙ takes (λ u. spells_from (plainly u) rest))

-- ---- what a text begins with

pub stripped : (text part : List ℕ) (r : Bor (List ℕ))
    → (pointwise nat_eq (take (length part) text) part ≡ true) × (r.now ≡ drop (length part) text)
    × (length r.now + length part ≡ length text) → text ≡ part ++ r.now
stripped text part r cases = strip_prefix_is Decides-eqb text part (Some r) cases

pub halves : (n : ℕ) (text front back : List ℕ) → front ≡ take n text → back ≡ drop n text → text ≡ front ++ back
halves n text front back e f = rw (e, f) (sym (take-append-drop n text))

pub told_tag : (text name after_space value after_value rest : List ℕ) → text ≡ 91 ∷ (name ++ 32 ∷ 34 ∷ after_space)
    → after_space ≡ value ++ after_value
    → after_value ≡ 34 ∷ 93 ∷ rest → text ≡ tag_text name value ++ rest
told_tag text name after_space value after_value rest e f g =
    e ∙ ap (λ l. 91 ∷ (name ++ 32 ∷ 34 ∷ l)) (f ∙ ap (λ l. value ++ l) g) ∙ sym (tag_bytes name value rest)

pub opened : (text after_bracket name after_name after_space : List ℕ) → text ≡ 91 ∷ after_bracket
    → after_bracket ≡ name ++ after_name → after_name ≡ 32 ∷ 34 ∷ after_space
    → text ≡ 91 ∷ (name ++ 32 ∷ 34 ∷ after_space)
opened text after_bracket name after_name after_space e f g = e ∙ ap (λ l. 91 ∷ l) (f ∙ ap (λ l. name ++ l) g)
