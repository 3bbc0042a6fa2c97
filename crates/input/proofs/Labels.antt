-- Which values are labels and dates.
use Rattle.std.proofs.Common.{◌≡◌, ◌↔◌, ◌≤◌, ℕ, true, false, List, [], ◌∷◌, length, Option, None, Some, arith, refl, sym, ◌∙◌}
use Rattle.std.specs.Prelude.{◌==◌, IfSome, IsSome, if◌then◌else◌}
use Rattle.std.specs.Char.{is_ascii_digit}
use Rattle.std.specs.List.{All, list_all}
use Rattle.std.specs.Bool.{Decides}
use Rattle.std.proofs.lemmas.Bool.{false≢true}
use Rattle.std.proofs.lemmas.Bool.Decides.{Decides-and, Decides-by_and, Decides-eqb, Decides-like}
use Rattle.std.proofs.lemmas.List.Elements.{All-cons, All-nil, All-tail}
use Rattle.std.proofs.lemmas.Bool.{and_from, ne_eqb, not_from_false}
use Rattle.boards.specs.Labels.{IsDate, IsLabel, IsLabelByte}
use Rattle.boards.proofs.Dates.{length-date, places_from_date}
use Rattle.boards.proofs.OfLabels.{label_is_caption}
use Rattle.boards.proofs.Tested.{at_most, by_test}
use Rattle.input.specs.Values.{date_in, is_date, is_no_label, is_unescaped, label_in}

-- ---- dates

abbrev IsDigit : ℕ → Type 0
IsDigit b = (0x30 ≤ b) × (b ≤ 0x39)

digit_decides : (b : ℕ) → Decides (is_ascii_digit b) (IsDigit b)
digit_decides b = Decides-and _ _ (at_most 48 b) (at_most b 57)

digits_decide : (v : List ℕ) → Decides (list_all is_ascii_digit v) (All IsDigit v)
digits_decide v = Decides-by_and is_ascii_digit IsDigit (list_all is_ascii_digit) digit_decides refl (λ x xs. refl) v

abbrev Parts : (a b c d e f g h k l : ℕ) → Type 0
Parts a b c d e f g h k l = All IsDigit (a ∷ b ∷ c ∷ d ∷ []) × ((e ≡ 46) × (All IsDigit (f ∷ g ∷ []) × ((h ≡ 46) × All IsDigit (k ∷ l ∷ []))))

made : (a b c d e f g h k l : ℕ) → Parts a b c d e f g h k l → IsDate (a ∷ b ∷ c ∷ d ∷ e ∷ f ∷ g ∷ h ∷ k ∷ l ∷ [])
made a b c d e f g h k l parts = record {
  year = a ∷ b ∷ c ∷ d ∷ [];
  month = f ∷ g ∷ [];
  day = k ∷ l ∷ [];
  whole = rw (parts.1.0, parts.1.1.1.0) refl;
  year_digits = record { count = refl; digits = parts.0 };
  month_digits = record { count = refl; digits = parts.1.1.0 };
  day_digits = record { count = refl; digits = parts.1.1.1.1 };
}

two : (x y : ℕ) → IsDigit x → IsDigit y → All IsDigit (x ∷ y ∷ [])
two x y p q = All-cons IsDigit x (y ∷ []) p (All-cons IsDigit y [] q (All-nil IsDigit))

taken : (a b c d e f g h k l : ℕ) → IsDate (a ∷ b ∷ c ∷ d ∷ e ∷ f ∷ g ∷ h ∷ k ∷ l ∷ []) → Parts a b c d e f g h k l
taken a b c d e f g h k l date =
    let fits = (places_from_date (a ∷ b ∷ c ∷ d ∷ e ∷ f ∷ g ∷ h ∷ k ∷ l ∷ []) date).1 in
    let first : IsDigit a = (fits 0 (omega arith)).2 (omega arith) (omega arith) in
    let second : IsDigit b = (fits 1 (omega arith)).2 (omega arith) (omega arith) in
    let third : IsDigit c = (fits 2 (omega arith)).2 (omega arith) (omega arith) in
    let fourth : IsDigit d = (fits 3 (omega arith)).2 (omega arith) (omega arith) in (
      All-cons IsDigit a (b ∷ c ∷ d ∷ []) first (All-cons IsDigit b (c ∷ d ∷ []) second (two c d third fourth)),
      (
        (fits 4 (omega arith)).0 refl,
        (
          two f g ((fits 5 (omega arith)).2 (omega arith) (omega arith)) ((fits 6 (omega arith)).2 (omega arith) (omega arith)),
          (
            (fits 7 (omega arith)).1 refl,
            two k l ((fits 8 (omega arith)).2 (omega arith) (omega arith)) ((fits 9 (omega arith)).2 (omega arith) (omega arith)),
          ),
        ),
      ),
    )

no_date : (v : List ℕ) → is_date v ≡ false → (length v ≡ 10 → ⊥) → Decides (is_date v) (IsDate v)
no_date v e other = (λ yes_it. absurd (false≢true (sym e ∙ yes_it)), λ date. absurd (other (length-date v date)))

date_decides : (v : List ℕ) → Decides (is_date v) (IsDate v)
date_decides (a ∷ b ∷ c ∷ d ∷ e ∷ f ∷ g ∷ h ∷ k ∷ l ∷ []) =
    Decides-like (is_date (a ∷ b ∷ c ∷ d ∷ e ∷ f ∷ g ∷ h ∷ k ∷ l ∷ [])) (made a b c d e f g h k l) (taken a b c d e f g h k l)
    (Decides-and _ _ (digits_decide (a ∷ b ∷ c ∷ d ∷ []))
    (Decides-and _ _ (Decides-eqb e 46) (Decides-and _ _ (digits_decide (f ∷ g ∷ []))
    (Decides-and _ _ (Decides-eqb h 46) (digits_decide (k ∷ l ∷ []))))))
date_decides [] = no_date _ refl (λ n. omega arith)
date_decides (a ∷ []) = no_date _ refl (λ n. omega arith)
date_decides (a ∷ b ∷ []) = no_date _ refl (λ n. omega arith)
date_decides (a ∷ b ∷ c ∷ []) = no_date _ refl (λ n. omega arith)
date_decides (a ∷ b ∷ c ∷ d ∷ []) = no_date _ refl (λ n. omega arith)
date_decides (a ∷ b ∷ c ∷ d ∷ e ∷ []) = no_date _ refl (λ n. omega arith)
date_decides (a ∷ b ∷ c ∷ d ∷ e ∷ f ∷ []) = no_date _ refl (λ n. omega arith)
date_decides (a ∷ b ∷ c ∷ d ∷ e ∷ f ∷ g ∷ []) = no_date _ refl (λ n. omega arith)
date_decides (a ∷ b ∷ c ∷ d ∷ e ∷ f ∷ g ∷ h ∷ []) = no_date _ refl (λ n. omega arith)
date_decides (a ∷ b ∷ c ∷ d ∷ e ∷ f ∷ g ∷ h ∷ k ∷ []) = no_date _ refl (λ n. omega arith)
date_decides (a ∷ b ∷ c ∷ d ∷ e ∷ f ∷ g ∷ h ∷ k ∷ l ∷ m ∷ rest) = no_date _ refl (λ n. omega arith)

-- ---- what is made of a value

pub date_made : (v : List ℕ) (r : Option (List ℕ)) → IsSome r ↔ IsDate v → IfSome r (λ l. l ≡ v) → r ≡ date_in v
unfolding date_in
date_made v r sound kept = by_test (IsDate v) (is_date v) v r (date_decides v) sound kept

-- ---- values that are labels and dates

unescaped : (v : List ℕ) → All IsLabelByte v → is_unescaped v ≡ true
unescaped [] all = refl
unescaped (b ∷ bs) all =
    and_from _ _ (not_from_false (b == 0x5C) (ne_eqb b 0x5C (all 0 b (omega arith)).3)) (unescaped bs (All-tail IsLabelByte b bs all))

pub label_again : (v : List ℕ) → IsLabel v → label_in v ≡ (if is_no_label v then None else Some v)
unfolding label_in
label_again v label = rw (unescaped v label.printable, label_is_caption v label) refl

pub date_again : (v : List ℕ) → IsDate v → date_in v ≡ Some v
unfolding date_in
date_again v date = rw ((date_decides v).1 date) refl
