-- What the tests of texts decide.
use Rattle.std.proofs.Common.{◌≡◌, ◌↔◌, ◌≤◌, ℕ, Bool, true, false, List, length, arith, Option, None, Some, refl, rules}
use Rattle.std.specs.Prelude.{IfSome, IsSome, if◌then◌else◌, nat_le}
use Rattle.std.specs.List.{list_all}
use Rattle.std.specs.Bool.{Decides}
use Rattle.std.proofs.lemmas.Bool.{le-leb, leb-true, false≢true}
use Rattle.std.proofs.lemmas.Bool.Decides.{Decides-and, Decides-by_and, Decides-eqb, Decides-like, Decides-not}
use Rattle.std.specs.Str.{IsUtf8, chars, is_utf8}
use Rattle.std.proofs.lemmas.Bool.{false_from_ne_true}
use Rattle.std.proofs.lemmas.Str.{IsUtf8-from_is_utf8, is_utf8-from_IsUtf8}
use Rattle.boards.specs.Labels.{IsLabel, IsLabelByte}
use Rattle.boards.specs.Headings.{HeadingView}
use Rattle.boards.specs.declared.format.Format.{Format}
use Rattle.boards.specs.declared.format.Format.TheVariants.{Pbn}
use Rattle.boards.specs.Captions.{AreLabels, captions_in, label_of}
use Rattle.boards.specs.Captions.{is_caption, is_label, is_label_byte, is_printable}

pub at_most : (a b : ℕ) → Decides (nat_le a b) (a ≤ b)
at_most a b = (leb-true a b, le-leb a b)

byte_decides : (b : ℕ) → Decides (is_label_byte b) (IsLabelByte b)
byte_decides b =
    Decides-like (is_label_byte b) (λ h. (h.0, h.1.0, h.1.1.0, h.1.1.1)) (λ h. (h.0, (h.1, (h.2, h.3))))
    (Decides-and _ _ (at_most 32 b) (Decides-and _ _ (at_most b 126)
    (Decides-and _ _ (Decides-not _ (Decides-eqb b 34)) (Decides-not _ (Decides-eqb b 92)))))

pub label_decides : (v : List ℕ) → Decides (is_label v) (IsLabel v)
label_decides v =
    Decides-like (is_label v) (λ h. record { short = h.0; printable = h.1 }) (λ h. (h.short, h.printable))
    (Decides-and _ _ (at_most (length v) 100) (Decides-by_and is_label_byte IsLabelByte (list_all is_label_byte) byte_decides refl (λ x xs. refl) v))

pub by_test : (P : Type 0) (test : Bool) (v : List ℕ) (r : Option (List ℕ)) → Decides test P → IsSome r ↔ P
    → IfSome r (λ l. l ≡ v) → r ≡ (if test then Some v else None)
by_test P true v (Some l) d sound kept = rw kept refl
by_test P true v None d sound kept = absurd (let t = sound.1 (d.0 refl) in search rules)
by_test P false v None d sound kept = refl
by_test P false v (Some l) d sound kept = absurd (let t = d.1 (sound.0 refl) in false≢true t)

pub label_made : (v : List ℕ) (r : Option (List ℕ)) → IsSome r ↔ IsLabel v → IfSome r (λ l. l ≡ v) → r ≡ (if is_label v then Some v else None)
label_made v r sound kept = by_test (IsLabel v) (is_label v) v r (label_decides v) sound kept

pub no_utf8 : (text : List ℕ) → (IsUtf8 text → ⊥) → is_utf8 text ≡ false
no_utf8 text h = false_from_ne_true (is_utf8 text) (λ e. h (IsUtf8-from_is_utf8 text e))

pub caption_is : (text : List ℕ) (n : ℕ) → IsUtf8 text → n ≡ length (chars text) → n ≤ 100 → list_all is_printable (chars text) ≡ is_caption text
caption_is text n u e h =
    rw (is_utf8-from_IsUtf8 text u, le-leb (length (chars text)) 100 (omega (arith, e, h))) refl

label_stays : (given : Option (List ℕ)) → IfSome given IsLabel → label_of given ≡ given
label_stays None label = refl
label_stays (Some text) label = rw ((label_decides text).1 label) refl

pub labels_stay : (format : Format) (given : HeadingView) → AreLabels given → captions_in format given ≡ given
labels_stay Pbn given labels = rw (label_stays given.event labels.event, label_stays given.site labels.site) refl
labels_stay _ given labels = refl
