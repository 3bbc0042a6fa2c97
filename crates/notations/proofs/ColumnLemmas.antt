-- How many columns a text takes: as many as it has bytes if these are ASCII.
use Rattle.std.proofs.Common.{◌≡◌, ℕ, ◌+◌, ◌<◌, ◌^◌, Bool, true, List, [], ◌∷◌, ◌++◌, cond, length, decimal, refl, ◌∙◌, ap, arith}
use Rattle.std.specs.Prelude.{All, codes, nat_lt, nat_le, ◌||◌}
use Rattle.std.proofs.lemmas.Bool.Decides.{nat_tests}
use Rattle.std.proofs.lemmas.Fmt.{IsAscii-decimal}
use Rattle.std.proofs.lemmas.Str.Ascii.{All-from_ascii}
use Rattle.std.proofs.lemmas.List.Elements.{All-head, All-tail}
use Rattle.std.proofs.lemmas.List.Sums.{sum_by-cons, sum_by-append}
use Rattle.cards.specs.declared.suit.Suit.{Suit}
use Rattle.cards.specs.declared.suit.Suit.TheVariants.{Spades}
use Rattle.boards.specs.Letters.{or_dash, suit_letters}
use Rattle.boards.proofs.Letters.{suit_letters-ascii}
use Rattle.notations.specs.Columns.{begins_character, columns}
use Rattle.notations.specs.Records.{sign_and_space, suit_text}

-- what a byte adds
abbrev counted : ℕ → ℕ
counted byte = cond (begins_character byte) 1 0

low_counts : (byte : ℕ) → byte < 128 → counted byte ≡ 1
low_counts byte low = let one : nat_lt byte 128 ≡ true = grind (arith, nat_tests) in ap (λ b. cond (b || nat_le 0xC0 byte) 1 0) one

pub columns-ascii : (text : List ℕ) → All (λ byte. byte < 128) text → columns text ≡ length text
columns-ascii [] low = refl
columns-ascii (x ∷ xs) low =
    let rest = columns-ascii xs (All-tail (λ byte. byte < 128) x xs low) in
    let first = low_counts x (All-head (λ byte. byte < 128) x xs low) in
    sum_by-cons counted x xs ∙ omega (arith, rest, first)

pub columns-append : (xs ys : List ℕ) → columns (xs ++ ys) ≡ columns xs + columns ys
columns-append xs ys = sum_by-append counted xs ys

-- the part before North's spades
pub columns-number : (number : ℕ) → number < 2 ^ 64 → columns (codes "Board " ++ decimal number) ≡ 6 + length (decimal number)
columns-number number fits =
    columns-append (codes "Board ") (decimal number) ∙ ap (λ n. 6 + n)
    (columns-ascii (decimal number) (All-from_ascii (decimal number) (IsAscii-decimal number fits)))

dashed : (letters : List ℕ) → columns letters ≡ length letters → columns (or_dash (codes "-") letters) ≡ length (or_dash (codes "-") letters)
dashed [] plain = refl
dashed (x ∷ xs) plain = plain

signed : (suit : Suit) → columns (sign_and_space suit) ≡ 2
signed Spades = refl
signed _ = refl

-- a suit takes two columns less than bytes
pub columns-suit_text : (hand : List Bool) (suit : Suit) → columns (suit_text hand suit) ≡ 2 + length (or_dash (codes "-") (suit_letters hand suit))
columns-suit_text hand suit =
    let letters : List ℕ = suit_letters hand suit in
    columns-append (sign_and_space suit) (or_dash (codes "-") letters)
    ∙ omega (arith, signed suit, dashed letters (columns-ascii letters (suit_letters-ascii hand suit)))
