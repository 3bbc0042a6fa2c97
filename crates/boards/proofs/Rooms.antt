-- How much room a caption takes.
use Rattle.std.proofs.Common.{◌≡◌, ◌≤◌, ◌+◌, ◌*◌, ◌/◌, ◌++◌, ℕ, true, List, [], ◌∷◌, length, arith, refl, subst}
use Rattle.std.specs.Prelude.{nat_le, nat_lt, ◌&&◌}
use Rattle.std.specs.Str.{chars, is_utf8}
use Rattle.std.specs.List.{list_all}
use Rattle.std.proofs.lemmas.Bool.{and_parts, cond_both, cond-false, le-ltb, leb-true}
use Rattle.std.proofs.lemmas.List.{length-append}
use Rattle.std.proofs.lemmas.Str.{IsUtf8-from_is_utf8, encodes-chars, length-encode, len_utf8_bounds}
use lib.Utf8.{encode, encodes, next}
use Rattle.boards.specs.Captions.{is_caption, is_printable}
use Rattle.boards.specs.Room.{room, room_of}

pub room-append : (n : ℕ) (xs ys : List ℕ) → room n (xs ++ ys) ≡ room n xs + room n ys
room-append n [] ys = omega arith
room-append n (x ∷ xs) ys = omega (arith, room-append n xs ys)

-- this many for each
abbrev each : ℕ → List ℕ → ℕ
each n [] = 0
each n (x ∷ xs) = n + each n xs

each_five : (xs : List ℕ) → each 5 xs ≡ 5 * length xs
each_five [] = refl
each_five (x ∷ xs) = omega (arith, each_five xs)

each_four : (xs : List ℕ) → each 4 xs ≡ 4 * length xs
each_four [] = refl
each_four (x ∷ xs) = omega (arith, each_four xs)

room_most : (n b : ℕ) → 1 ≤ n → room_of n b ≤ n
room_most n b least = cond_both (nat_lt b 128) n 1 (λ k. k ≤ n) (λ _. omega arith) (λ _. least)

room_of_bytes : (n : ℕ) (xs : List ℕ) → 1 ≤ n → room n xs ≤ each n xs
room_of_bytes n [] least = omega arith
room_of_bytes n (x ∷ xs) least = omega (arith, room_most n x least, room_of_bytes n xs least)

pub wide_bytes : (xs : List ℕ) → room 5 xs ≤ 5 * length xs
wide_bytes xs = omega (arith, room_of_bytes 5 xs (omega arith), each_five xs)

pub narrow_bytes : (xs : List ℕ) → room 4 xs ≤ 4 * length xs
narrow_bytes xs = omega (arith, room_of_bytes 4 xs (omega arith), each_four xs)

high : (n b : ℕ) → 128 ≤ b → room_of n b ≡ 1
high n b h = cond-false (nat_lt b 128) n 1 (le-ltb b 128 h)

room_of_char : (n c : ℕ) → 4 ≤ n → room n (encode c) ≤ n
unfolding encode
room_of_char n c least =
    cond_both (nat_lt c 128) _ _ (λ bs. room n bs ≤ n) (λ _. omega (arith, room_most n c (omega arith)))
    (λ _.
    cond_both (nat_lt c 2048) _ _ (λ bs. room n bs ≤ n) (λ _. omega (arith, high n (192 + c / 64) (omega arith), high n (next c) (omega arith)))
    (λ _.
    cond_both (nat_lt c 65536) _ _ (λ bs. room n bs ≤ n)
    (λ _. omega (arith, high n (224 + c / 4096) (omega arith), high n (next (c / 64)) (omega arith), high n (next c) (omega arith)))
    (λ _. omega (
      arith,
      high n (240 + c / 262144) (omega arith),
      high n (next (c / 4096)) (omega arith),
      high n (next (c / 64)) (omega arith),
      high n (next c) (omega arith),
    ))))

room_of_chars : (n : ℕ) (cs : List ℕ) → 4 ≤ n → room n (encodes cs) ≤ each n cs
room_of_chars n [] least = omega arith
room_of_chars n (c ∷ cs) least = omega (arith, room-append n (encode c) (encodes cs), room_of_char n c least, room_of_chars n cs least)

length_of_chars : (cs : List ℕ) → length (encodes cs) ≤ 4 * length cs
length_of_chars [] = omega arith
length_of_chars (c ∷ cs) = omega (arith, length-append (encode c) (encodes cs), length-encode c, (len_utf8_bounds c).1, length_of_chars cs)

module _ (text : List ℕ) (is : is_caption text ≡ true) where
  parts : (is_utf8 text ≡ true) × ((nat_le (length (chars text)) 100 && list_all is_printable (chars text)) ≡ true)
  parts = and_parts (is_utf8 text) (nat_le (length (chars text)) 100 && list_all is_printable (chars text)) is

  short : length (chars text) ≤ 100
  short = leb-true (length (chars text)) 100 (and_parts (nat_le (length (chars text)) 100) (list_all is_printable (chars text)) parts.1).0

  spelt : encodes (chars text) ≡ text
  spelt = encodes-chars text (IsUtf8-from_is_utf8 text parts.0)

  pub wide_caption : room 5 text ≤ 500
  wide_caption = subst (λ bs. room 5 bs ≤ 500) spelt (omega (arith, room_of_chars 5 (chars text) (omega arith), each_five (chars text), short))

  pub narrow_caption : room 4 text ≤ 400
  narrow_caption = subst (λ bs. room 4 bs ≤ 400) spelt (omega (arith, room_of_chars 4 (chars text) (omega arith), each_four (chars text), short))

  pub length_of_caption : length text ≤ 400
  length_of_caption = subst (λ bs. length bs ≤ 400) spelt (omega (arith, length_of_chars (chars text), short))

pub ruleset sizes = (wide_caption, narrow_caption, length_of_caption)
