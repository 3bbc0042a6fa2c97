-- A label is a caption.
use Rattle.std.proofs.Common.{◌≡◌, ◌≤◌, ◌<◌, ℕ, zero, suc, true, false, List, [], ◌∷◌, length, arith, refl, sym, subst, ap, ◌∙◌}
use Rattle.std.specs.Prelude.{nat_le, slice_index}
use Rattle.std.specs.Str.{chars, IsAscii}
use Rattle.std.specs.List.{All, list_all}
use Rattle.std.proofs.lemmas.Bool.{and_from, and_left, le-leb, le-ltb, lt-leb, not_from_false, or_from}
use Rattle.std.proofs.lemmas.List.Elements.{All-tail}
use Rattle.std.proofs.lemmas.Str.{IsUtf8-from_ascii, chars-IsAscii, is_utf8-from_IsUtf8}
use Rattle.boards.specs.Labels.{IsLabel, IsLabelByte}
use Rattle.boards.specs.Captions.{is_among, is_caption, is_control, is_printable}

printable : (b : ℕ) → IsLabelByte b → is_printable b ≡ true
printable b h =
    let no_bidi : is_among 0x2066 0x2069 b ≡ false = and_left _ (nat_le b 0x2069) (lt-leb 0x2066 b (omega (arith, h.1))) in
    let no_line : is_among 0x2028 0x202E b ≡ false = and_left _ (nat_le b 0x202E) (lt-leb 0x2028 b (omega (arith, h.1))) in
    let no_c1 : is_among 0x7F 0x9F b ≡ false = and_left _ (nat_le b 0x9F) (lt-leb 0x7F b (omega (arith, h.1))) in
    not_from_false (is_control b) (or_from _ _ (or_from _ _ (or_from _ _ (le-ltb b 0x20 h.0) no_c1) no_line) no_bidi)

all_printable : (xs : List ℕ) → All IsLabelByte xs → list_all is_printable xs ≡ true
all_printable [] h = refl
all_printable (x ∷ xs) h = and_from _ _ (printable x (h 0 x (omega arith))) (all_printable xs (All-tail IsLabelByte x xs h))

ascii : (xs : List ℕ) → All IsLabelByte xs → (i : ℕ) → slice_index xs i < 128
ascii [] h i = omega arith
ascii (x ∷ xs) h zero = omega (arith, (h 0 x (omega arith)).1)
ascii (x ∷ xs) h (suc i) = ascii xs (All-tail IsLabelByte x xs h) i

pub label_is_caption : (text : List ℕ) → IsLabel text → is_caption text ≡ true
label_is_caption text label =
    let is_ascii : IsAscii text = ascii text label.printable in
    let same : chars text ≡ text = chars-IsAscii text is_ascii in
    and_from _ _ (is_utf8-from_IsUtf8 text (IsUtf8-from_ascii text is_ascii))
    (and_from _ _ (le-leb _ 100 (subst (λ cs. length cs ≤ 100) (sym same) label.short))
    (ap (list_all is_printable) same ∙ all_printable text label.printable))
