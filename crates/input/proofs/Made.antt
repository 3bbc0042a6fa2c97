-- Games that are written for boards are read as these.
use Rattle.std.proofs.Common.{◌≡◌, ◌∙◌, ◌<◌, ◌≤◌, ℕ, suc, ◌+◌, ◌^◌, ◌==◌, Bool, true, false, List, [], ◌∷◌, ◌++◌}
use Rattle.std.proofs.Common.{length, Some, ap, append_assoc, arith, decimal, refl, rules}
use Rattle.std.specs.Char.{digit_value, is_ascii_digit}
use Rattle.std.specs.List.{list_all}
use Rattle.std.specs.Str.Parse.{AllDigits}
use Rattle.std.proofs.lemmas.Bool.{le-leb, ne_eqb}
use Rattle.std.proofs.lemmas.Fmt.{decimal_is_IsNumeral, length-decimal-le}
use Rattle.std.proofs.lemmas.Str.Parse.{digit_from_value}
use Rattle.std.proofs.Common.{All, get_or, eqb-true}
use Rattle.std.proofs.lemmas.Bool.{eqb-false}
use Rattle.std.proofs.lemmas.List.Elements.{All-tail}
use Rattle.boards.specs.internal.LabelBytes.{FitsDate}
use Rattle.boards.proofs.Dates.{places_from_date}
use Rattle.boards.specs.Labels.{IsDate, IsLabelByte}
use Rattle.cards.specs.declared.seat.Seat.{Seat}
use Rattle.cards.specs.declared.seat.Seat.TheVariants.{North, East, South, West}
use Rattle.boards.specs.declared.setting.Vul.{Vul}
use Rattle.boards.specs.declared.setting.Vul.TheVariants.{Neither, NorthSouth, EastWest, Both}
use Rattle.pbn_text.specs.Games.{dealer_text, tag, vulnerable_text}
use Rattle.input.specs.Games.{has, with_tag}
use Rattle.input.specs.Kinds.{kind_of}
use Rattle.input.specs.Places.{begin}
use Rattle.input.specs.RecordScans.{spells_from}
use Rattle.input.specs.Values.{dealer_in, is_word, number_in, vulnerable_in}
use Rattle.input.specs.declared.records.game.Game.{Game}
use Rattle.input.specs.declared.records.kind.TagKind.{TagKind}
use Rattle.input.specs.declared.records.reading.Reading.{Reading}
use Rattle.input.specs.internal.TagTexts.{IsTag, after_tag, is_plain, tag_text}
use Rattle.input.proofs.Scanning.{at_lf, plainly}
use Rattle.input.proofs.Tags.{tag_read}

-- ---- values

number_digit : (c : ℕ) → digit_value c < 10 → (is_ascii_digit c ≡ true) × (is_plain c ≡ true)
number_digit c h = let within = digit_from_value c h in (search rules, search rules)

all_digits : (ds : List ℕ) → AllDigits 10 ds → list_all is_ascii_digit ds ≡ true
all_digits [] h = refl
all_digits (c ∷ cs) h = rw (number_digit c h.0).0 (all_digits cs h.1)

all_plain : (ds : List ℕ) → AllDigits 10 ds → list_all is_plain ds ≡ true
all_plain [] h = refl
all_plain (c ∷ cs) h = rw (number_digit c h.0).1 (all_plain cs h.1)

pub number_again : (n : ℕ) → n ≤ 2 ^ 40 → number_in (decimal n) ≡ n
unfolding number_in
number_again n most =
    let numeral = decimal_is_IsNumeral n (omega arith) in
    rw (all_digits (decimal n) numeral.0.1, numeral.1, le-leb n (2 ^ 40) most) refl

pub number_plain : (n : ℕ) → n ≤ 2 ^ 40 → list_all is_plain (decimal n) ≡ true
number_plain n most = all_plain (decimal n) (decimal_is_IsNumeral n (omega arith)).0.1

pub number_short : (n : ℕ) → n ≤ 2 ^ 40 → length (decimal n) ≤ 13
number_short n most = length-decimal-le 13 n (omega arith) (omega arith) (omega arith)

pub dealer_again : (seat : Seat) → dealer_in (dealer_text seat) ≡ Some seat
unfolding dealer_in
dealer_again North = refl
dealer_again x = refl

pub vulnerable_again : (vul : Vul) → vulnerable_in (vulnerable_text vul) ≡ Some vul
unfolding vulnerable_in is_word
vulnerable_again Neither = refl
vulnerable_again x = refl

-- ---- a line with a tag

-- a game was read up to the end of a line
abbrev pub in_game : (lines last : ℕ) → Game → Reading
in_game lines last g = record { line = begin; lines = lines; game = g; last = last }

tag_lines : (name value rest : List ℕ) → tag name value ++ rest ≡ tag_text name value ++ 10 ∷ rest
unfolding tag_text
tag_lines name value rest = simp append_assoc refl

not_none : (a b : ℕ) → (a + b + 5 == 0) ≡ false
not_none a b = ne_eqb (a + b + 5) 0 (λ e. omega (arith, e))

pub tag_line : (kind : TagKind) (name value rest : List ℕ) (lines last : ℕ) (g : Game)
    → IsTag name value → kind_of name ≡ Some kind → has kind g ≡ false
    → spells_from (plainly (in_game lines last g)) (tag name value ++ rest) ≡ spells_from
    (plainly (in_game (lines + 1) last (with_tag kind value (lines + 1) g))) rest
tag_line kind name value rest lines last g is_tag named free =
    ap (spells_from (plainly (in_game lines last g))) (tag_lines name value rest)
    ∙ tag_read (in_game lines last g) name value (10 ∷ rest) (record { part = refl; column = refl; comment = refl }) is_tag
    ∙ rw (named, free) (at_lf (plainly (record {
      line = after_tag name value;
      lines = lines;
      game =
          with_tag kind value (lines + 1) g;
      last = last;
    })) rest ∙ rw (not_none (length name) (length value)) refl)

-- ---- values that stand for themselves

pub plain_label : (text : List ℕ) → All IsLabelByte text → list_all is_plain text ≡ true
plain_label [] all = refl
plain_label (b ∷ bs) all =
    let printable = all 0 0 (omega arith) in
    rw (one b printable, plain_label bs (All-tail IsLabelByte b bs all)) refl
  where
    one : (b : ℕ) → IsLabelByte b → is_plain b ≡ true
    one b h = let low = h.0 in let quote = h.2 in let slash = h.3 in search rules

plain_places : (text : List ℕ) → ((i : ℕ) → i < length text → is_plain (get_or text i 0) ≡ true) → list_all is_plain text ≡ true
plain_places [] all = refl
plain_places (b ∷ bs) all = rw (all 0 (omega arith), plain_places bs (λ i below. all (suc i) (omega (arith, below)))) refl

plain_date_byte : (i b : ℕ) → FitsDate i b → is_plain b ≡ true
plain_date_byte i b fits = by_place (i == 4) (i == 7) refl refl
  where
    by_place : (x y : Bool) → (i == 4) ≡ x → (i == 7) ≡ y → is_plain b ≡ true
    by_place true y e f = rw (fits.0 (eqb-true i 4 e)) refl
    by_place false true e f = rw (fits.1 (eqb-true i 7 f)) refl
    by_place false false e f = let digit = fits.2 (eqb-false i 4 e) (eqb-false i 7 f) in search rules

pub plain_date : (text : List ℕ) → IsDate text → list_all is_plain text ≡ true
plain_date text date = let places = places_from_date text date in
    plain_places text (λ i below. plain_date_byte i (get_or text i 0) (places.1 i (omega (arith, places.0, below))))
