-- A date by its three parts and by its ten places.
use Rattle.std.proofs.Common.{◌≡◌, ◌≢◌, ℕ, zero, suc, ◌<◌, ◌≤◌, List, [], ◌∷◌, ◌++◌, length, get_or, refl, sym, ◌∙◌, ap, arith, subst}
use Rattle.std.proofs.lemmas.List.Elements.{All-nil, All-cons, All-get_or}
use Rattle.std.specs.Prelude.{codes}
use Rattle.std.specs.List.{All}
use Rattle.boards.specs.Labels.{AreDigits, IsDate}
use Rattle.boards.specs.internal.LabelBytes.{FitsDate}

abbrev IsDigit : ℕ → Type 0
IsDigit byte = (0x30 ≤ byte) × (byte ≤ 0x39)

-- each place has what a date has there
abbrev pub FitsAll : List ℕ → Type 0
FitsAll text = (i : ℕ) → i < 10 → FitsDate i (get_or text i 0)

two_digits : (x y : ℕ) → IsDigit x → IsDigit y → AreDigits 2 (x ∷ y ∷ [])
two_digits x y p q = record {
  count = refl;
  digits = All-cons IsDigit x (y ∷ []) p (All-cons IsDigit y [] q (All-nil IsDigit));
}

four_digits : (x y z w : ℕ) → IsDigit x → IsDigit y → IsDigit z → IsDigit w → AreDigits 4 (x ∷ y ∷ z ∷ w ∷ [])
four_digits x y z w p q r s = record {
  count = refl;
  digits = All-cons IsDigit x (y ∷ z ∷ w ∷ []) p (All-cons IsDigit y (z ∷ w ∷ []) q
      (All-cons IsDigit z (w ∷ []) r (All-cons IsDigit w [] s (All-nil IsDigit))));
}

listed : (a b c d e f g h k l : ℕ) → FitsAll (a ∷ b ∷ c ∷ d ∷ e ∷ f ∷ g ∷ h ∷ k ∷ l ∷ []) → IsDate (a ∷ b ∷ c ∷ d ∷ e ∷ f ∷ g ∷ h ∷ k ∷ l ∷ [])
listed a b c d e f g h k l fits =
    let dot : e ≡ 0x2E = (fits 4 (omega arith)).0 refl in
    let second_dot : h ≡ 0x2E = (fits 7 (omega arith)).1 refl in
    record {
      year = a ∷ b ∷ c ∷ d ∷ [];
      month = f ∷ g ∷ [];
      day = k ∷ l ∷ [];
      whole = rw (dot, second_dot) refl;
      year_digits = four_digits a b c d ((fits 0 (omega arith)).2 (omega arith) (omega arith))
          ((fits 1 (omega arith)).2 (omega arith) (omega arith))
          ((fits 2 (omega arith)).2 (omega arith) (omega arith))
          ((fits 3 (omega arith)).2 (omega arith) (omega arith));
      month_digits = two_digits f g ((fits 5 (omega arith)).2 (omega arith) (omega arith)) ((fits 6 (omega arith)).2 (omega arith) (omega arith));
      day_digits = two_digits k l ((fits 8 (omega arith)).2 (omega arith) (omega arith)) ((fits 9 (omega arith)).2 (omega arith) (omega arith));
    }

pub date_from_places : (text : List ℕ) → length text ≡ 10 → FitsAll text → IsDate text
date_from_places (a ∷ b ∷ c ∷ d ∷ e ∷ f ∷ g ∷ h ∷ k ∷ l ∷ []) count fits = listed a b c d e f g h k l fits
date_from_places _ count fits = absurd (omega arith)

two_items : (text : List ℕ) → length text ≡ 2 → (x : ℕ) × (y : ℕ) × (text ≡ x ∷ y ∷ [])
two_items (x ∷ y ∷ []) h = (x, y, refl)
two_items _ h = absurd (omega arith)

four_items : (text : List ℕ) → length text ≡ 4 → (x : ℕ) × (y : ℕ) × (z : ℕ) × (w : ℕ) × (text ≡ x ∷ y ∷ z ∷ w ∷ [])
four_items (x ∷ y ∷ z ∷ w ∷ []) h = (x, y, z, w, refl)
four_items _ h = absurd (omega arith)

digit : (i byte : ℕ) → i ≢ 4 → i ≢ 7 → IsDigit byte → FitsDate i byte
digit i byte p q h = (λ e. absurd (p e), λ e. absurd (q e), λ r s. h)

placed : (a b c d f g k l : ℕ) → IsDigit a → IsDigit b → IsDigit c → IsDigit d → IsDigit f → IsDigit g → IsDigit k
    → IsDigit l → FitsAll (a ∷ b ∷ c ∷ d ∷ 0x2E ∷ f ∷ g ∷ 0x2E ∷ k ∷ l ∷ [])
placed a b c d f g k l pa pb pc pd pf pg pk pl zero below = digit 0 a (omega arith) (omega arith) pa
placed a b c d f g k l pa pb pc pd pf pg pk pl (suc zero) below = digit 1 b (omega arith) (omega arith) pb
placed a b c d f g k l pa pb pc pd pf pg pk pl (suc (suc zero)) below = digit 2 c (omega arith) (omega arith) pc
placed a b c d f g k l pa pb pc pd pf pg pk pl (suc (suc (suc zero))) below = digit 3 d (omega arith) (omega arith) pd
placed a b c d f g k l pa pb pc pd pf pg pk pl (suc (suc (suc (suc zero)))) below = (λ e. refl, λ e. refl, λ r s. absurd (r refl))
placed a b c d f g k l pa pb pc pd pf pg pk pl (suc (suc (suc (suc (suc zero))))) below = digit 5 f (omega arith) (omega arith) pf
placed a b c d f g k l pa pb pc pd pf pg pk pl (suc (suc (suc (suc (suc (suc zero)))))) below = digit 6 g (omega arith) (omega arith) pg
placed a b c d f g k l pa pb pc pd pf pg pk pl (suc (suc (suc (suc (suc (suc (suc zero))))))) below = (λ e. refl, λ e. refl, λ r s. absurd (s refl))
placed a b c d f g k l pa pb pc pd pf pg pk pl (suc (suc (suc (suc (suc (suc (suc (suc zero)))))))) below = digit 8 k (omega arith) (omega arith) pk
placed a b c d f g k l pa pb pc pd pf pg pk pl (suc (suc (suc (suc (suc (suc (suc (suc (suc zero))))))))) below =
    digit 9 l (omega arith) (omega arith) pl
placed a b c d f g k l pa pb pc pd pf pg pk pl (suc (suc (suc (suc (suc (suc (suc (suc (suc (suc i)))))))))) below = absurd (omega arith)

at : (xs ys : List ℕ) (i : ℕ) → xs ≡ ys → i < length ys → All IsDigit xs → IsDigit (get_or ys i 0)
at xs ys i e inside all = All-get_or IsDigit ys i 0 inside (subst (All IsDigit) e all)

pub places_from_date : (text : List ℕ) → IsDate text → (length text ≡ 10) × FitsAll text
places_from_date text ok =
    let y = four_items ok.year ok.year_digits.count in
    let m = two_items ok.month ok.month_digits.count in
    let d = two_items ok.day ok.day_digits.count in
    let year : List ℕ = y.0 ∷ y.1 ∷ y.2 ∷ y.3 ∷ [] in
    let month : List ℕ = m.0 ∷ m.1 ∷ [] in
    let day : List ℕ = d.0 ∷ d.1 ∷ [] in
    let whole : text ≡ year ++ codes "." ++ month ++ codes "." ++ day =
    ok.whole
    ∙ ap (λ xs. xs ++ codes "." ++ ok.month ++ codes "." ++ ok.day) y.4
    ∙ ap (λ xs. year ++ codes "." ++ xs ++ codes "." ++ ok.day) m.2
    ∙ ap (λ xs. year ++ codes "." ++ month ++ codes "." ++ xs) d.2 in
    let fits =
    placed y.0 y.1 y.2 y.3 m.0 m.1 d.0 d.1
    (at ok.year year 0 y.4 (omega arith) ok.year_digits.digits)
    (at ok.year year 1 y.4 (omega arith) ok.year_digits.digits)
    (at ok.year year 2 y.4 (omega arith) ok.year_digits.digits)
    (at ok.year year 3 y.4 (omega arith) ok.year_digits.digits)
    (at ok.month month 0 m.2 (omega arith) ok.month_digits.digits) (at ok.month month 1 m.2 (omega arith) ok.month_digits.digits)
    (at ok.day day 0 d.2 (omega arith) ok.day_digits.digits) (at ok.day day 1 d.2 (omega arith) ok.day_digits.digits) in
    (ap length whole, subst FitsAll (sym whole) fits)

pub length-date : (text : List ℕ) → IsDate text → length text ≡ 10
length-date text ok = (places_from_date text ok).0
