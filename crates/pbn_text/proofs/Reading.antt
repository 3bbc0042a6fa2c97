-- What can be read off a game's text: the text of one deal is that of no other.
use Rattle.std.proofs.Common.{◌≡◌, ℕ, zero, suc, ◌+◌, ◌-◌, ◌*◌, ◌<◌, ◌==◌, ◌&&◌, Bool, true, false, not, cond, List}
use Rattle.std.proofs.Common.{[], ◌∷◌, ◌++◌, length, get_or, map, refl, sym, ◌∙◌, ap, arith, subst, inl, inr, ◌⊎◌}
use Rattle.std.specs.Prelude.{slice_index, codes, filter}
use Rattle.std.specs.List.{range_with_len, list_all}
use Rattle.std.proofs.lemmas.Bool.{cases_lt}
use Rattle.std.proofs.lemmas.Bool.Decides.{nat_tests}
use Rattle.std.proofs.lemmas.List.{append_assoc, append_cancel_left, append_cancel_right, ext_get_or, get_or-map}
use Rattle.std.proofs.lemmas.List.Folds.{list_all-append}
use Rattle.std.proofs.lemmas.List.FromFn.{get_or-map-range_with_len}
use Rattle.cards.specs.declared.seat.Seat.{Seat}
use Rattle.cards.specs.declared.seat.Seat.TheVariants.{North, East, South, West}
use Rattle.cards.specs.declared.suit.Suit.{Suit}
use Rattle.cards.specs.declared.suit.Suit.TheVariants.{Spades, Hearts, Diamonds, Clubs}
use Rattle.cards.specs.Pack.{seat_number, suit_number}
use Rattle.cards.specs.Ranks.{has_rank}
use Rattle.cards.specs.Hands.{holds_card, hand_of}
use Rattle.pbn_text.specs.Games.{hand_text, deal_text, heading_text, board_text, tag, game, game_text, HeadingView}
use Rattle.boards.specs.Law2.{board_by_law}
use Rattle.boards.specs.Letters.{letters, suit_letters}

-- whether a byte differs from this one
abbrev differs : ℕ → ℕ → Bool
differs c b = not (b == c)

-- no byte of the text is c
abbrev Lacks : ℕ → List ℕ → Type 0
Lacks c xs = list_all (differs c) xs ≡ true

not_itself : (c x : ℕ) → differs c x ≡ true → x ≡ c → ⊥
not_itself c x h e = grind (arith, nat_tests)

and_left : (a b : Bool) → (a && b) ≡ true → a ≡ true
and_left true b h = refl
and_left false b h = h

and_right : (a b : Bool) → (a && b) ≡ true → b ≡ true
and_right true b h = h
and_right false true h = refl
and_right false false h = h

both : (a b : Bool) → a ≡ true → b ≡ true → (a && b) ≡ true
both a b p q = rw (p, q) refl

first_same : (x y : ℕ) (xs ys : List ℕ) → x ∷ xs ≡ y ∷ ys → x ≡ y
first_same x y xs ys e = cc

rest_same : (x y : ℕ) (xs ys : List ℕ) → x ∷ xs ≡ y ∷ ys → xs ≡ ys
rest_same x y xs ys e = cc

pair_of : (x y : ℕ) (xs ys : List ℕ) → x ≡ y → xs ≡ ys → x ∷ xs ≡ y ∷ ys
pair_of x y xs ys e f = cc

-- two texts that are cut at the first c have the same parts
cut : (c : ℕ) (xs ys us vs : List ℕ) → Lacks c xs → Lacks c ys → xs ++ c ∷ us ≡ ys ++ c ∷ vs → (xs ≡ ys) × (us ≡ vs)
cut c [] [] us vs p q e = (refl, rest_same c c us vs e)
cut c [] (y ∷ ys) us vs p q e = absurd (not_itself c y (and_left (differs c y) (list_all (differs c) ys) q)
    (sym (first_same c y us (ys ++ c ∷ vs) e)))
cut c (x ∷ xs) [] us vs p q e = absurd (not_itself c x (and_left (differs c x) (list_all (differs c) xs) p) (first_same x c (xs ++ c ∷ us) vs e))
cut c (x ∷ xs) (y ∷ ys) us vs p q e =
    let more = cut c xs ys us vs (and_right (differs c x) (list_all (differs c) xs) p)
    (and_right (differs c y) (list_all (differs c) ys) q) (rest_same x y (xs ++ c ∷ us) (ys ++ c ∷ vs) e) in
    (pair_of x y xs ys (first_same x y (xs ++ c ∷ us) (ys ++ c ∷ vs) e) more.0, more.1)

either : (b : Bool) → (b ≡ true) ⊎ (b ≡ false)
either true = inl refl
either false = inr refl

-- what passes a test at all letters passes it at those that are chosen
chosen_pass : (test : ℕ → Bool) (f : ℕ → ℕ) (p : ℕ → Bool) (xs : List ℕ) → list_all (λ x. test (f x)) xs ≡ true
    → list_all test (map f (filter p xs)) ≡ true
chosen_pass test f p [] h = refl
chosen_pass test f p (x ∷ xs) h =
    elim (either (p x)) [
      | inl e ↦ rw e (both (test (f x)) (list_all test (map f (filter p xs)))
          (and_left (test (f x)) (list_all (λ y. test (f y)) xs) h)
          (chosen_pass test f p xs (and_right (test (f x)) (list_all (λ y. test (f y)) xs) h)))
      | inr e ↦ rw e (chosen_pass test f p xs (and_right (test (f x)) (list_all (λ y. test (f y)) xs) h))
    ]

suit_lacks : (c : ℕ) (hand : List Bool) (suit : Suit) → list_all (λ rank. differs c (slice_index letters rank))
    (range_with_len 0 13) ≡ true → Lacks c (suit_letters hand suit)
unfolding suit_letters
suit_lacks c hand suit h = chosen_pass (differs c) (slice_index letters)
    (has_rank hand suit) (range_with_len 0 13) h

-- no two of these have the same letter
apart : (ℕ → ℕ) → List ℕ → Bool
apart f [] = true
apart f (x ∷ xs) = list_all (λ y. differs (f x) (f y)) xs && apart f xs

not_among : (f : ℕ → ℕ) (q : ℕ → Bool) (x : ℕ) (xs zs : List ℕ) → list_all (λ y. differs (f x) (f y)) xs ≡ true → f x ∷ zs ≡ map f (filter q xs) → ⊥
not_among f q x xs zs h e =
    let lacks : Lacks (f x) (f x ∷ zs) = subst (Lacks (f x)) (sym e) (chosen_pass (differs (f x)) f q xs h) in
    not_itself (f x) (f x) (and_left (differs (f x) (f x)) (list_all (differs (f x)) zs) lacks) refl

-- the choice of one more, given whether it is chosen
choice : (f : ℕ → ℕ) (p : ℕ → Bool) (x : ℕ) (xs : List ℕ) (b : Bool) → p x ≡ b
    → map f (filter p (x ∷ xs)) ≡ cond b (f x ∷ map f (filter p xs)) (map f (filter p xs))
choice f p x xs true e = rw e refl
choice f p x xs false e = rw e refl

truths : (b c : Bool) (bs cs : List Bool) → b ≡ c → bs ≡ cs → b ∷ bs ≡ c ∷ cs
truths b c bs cs e f = cc

same_head : (f : ℕ → ℕ) (p q : ℕ → Bool) (x : ℕ) (xs : List ℕ) (b c : Bool) → list_all (λ y. differs (f x) (f y)) xs ≡ true
    → cond b (f x ∷ map f (filter p xs)) (map f (filter p xs)) ≡ cond c (f x ∷ map f (filter q xs))
    (map f (filter q xs)) → (b ≡ c) × (map f (filter p xs) ≡ map f (filter q xs))
same_head f p q x xs true true h e = (refl, rest_same (f x) (f x) (map f (filter p xs)) (map f (filter q xs)) e)
same_head f p q x xs true false h e = absurd (not_among f q x xs (map f (filter p xs)) h e)
same_head f p q x xs false true h e = absurd (not_among f p x xs (map f (filter q xs)) h (sym e))
same_head f p q x xs false false h e = (refl, e)

-- the letters of what is chosen tell what is chosen
same_choice : (f : ℕ → ℕ) (p q : ℕ → Bool) (xs : List ℕ) → apart f xs ≡ true → map f (filter p xs) ≡ map f (filter q xs) → map p xs ≡ map q xs
unfolding apart
same_choice f p q [] h e = refl
same_choice f p q (x ∷ xs) h e =
    let here = same_head f p q x xs (p x) (q x) (and_left (list_all (λ y. differs (f x) (f y)) xs) (apart f xs) h)
    (sym (choice f p x xs (p x) refl) ∙ e ∙ choice f q x xs (q x) refl) in
    truths (p x) (q x) (map p xs) (map q xs) here.0 (same_choice f p q xs (and_right (list_all (λ y. differs (f x) (f y)) xs) (apart f xs) h) here.1)

letters_apart : apart (slice_index letters) (range_with_len 0 13) ≡ true
unfolding apart
letters_apart = refl

ranks_from_suit : (a b : List Bool) (suit : Suit) → suit_letters a suit ≡ suit_letters b suit
    → map (has_rank a suit) (range_with_len 0 13) ≡ map (has_rank b suit) (range_with_len 0 13)
unfolding suit_letters
ranks_from_suit a b suit e = same_choice (slice_index letters) (has_rank a suit) (has_rank b suit) (range_with_len 0 13) letters_apart e

rank_from_suit : (a b : List Bool) (suit : Suit) (rank : ℕ) → rank < 13 → suit_letters a suit ≡ suit_letters b suit
    → has_rank a suit rank ≡ has_rank b suit rank
rank_from_suit a b suit rank h e =
    sym (get_or-map-range_with_len (has_rank a suit) 0 13 rank rank false h (omega arith))
    ∙ ap (λ xs. get_or xs rank false) (ranks_from_suit a b suit e)
    ∙ get_or-map-range_with_len (has_rank b suit) 0 13 rank rank false h (omega arith)

-- four parts with one byte between each two, grouped to the right
grouped : (c : ℕ) (n w x y z : List ℕ) → n ++ w ++ (c ∷ []) ++ x ++ (c ∷ []) ++ y ++ (c ∷ []) ++ z ≡ n ++ (w ++ (c ∷ (x ++ (c ∷ (y ++ (c ∷ z))))))
grouped c n w x y z = simp append_assoc

four_parts : (c : ℕ) (n w x y z w' x' y' z' : List ℕ) → Lacks c w → Lacks c x → Lacks c y → Lacks c w' → Lacks c x' → Lacks c y'
    → n ++ w ++ (c ∷ []) ++ x ++ (c ∷ []) ++ y ++ (c ∷ []) ++ z ≡ n ++ w' ++ (c ∷ []) ++ x' ++ (c ∷ []) ++ y' ++ (c ∷ []) ++ z'
    → (w ≡ w') × (x ≡ x') × (y ≡ y') × (z ≡ z')
four_parts c n w x y z w' x' y' z' a b d a' b' d' e =
    let e0 = append_cancel_left n (w ++ (c ∷ (x ++ (c ∷ (y ++ (c ∷ z))))))
    (w' ++ (c ∷ (x' ++ (c ∷ (y' ++ (c ∷ z')))))) (sym (grouped c n w x y z) ∙ e ∙ grouped c n w' x' y' z') in
    let e1 = cut c w w' (x ++ (c ∷ (y ++ (c ∷ z)))) (x' ++ (c ∷ (y' ++ (c ∷ z')))) a a' e0 in
    let e2 = cut c x x' (y ++ (c ∷ z)) (y' ++ (c ∷ z')) b b' e1.1 in
    let e3 = cut c y y' z z' d d' e2.1 in
    (e1.0, e2.0, e3.0, e3.1)

each_suit : (P : Suit → Type 0) → P Spades → P Hearts → P Diamonds → P Clubs → (suit : Suit) → P suit
each_suit P s h d c Spades = s
each_suit P s h d c Hearts = h
each_suit P s h d c Diamonds = d
each_suit P s h d c Clubs = c

each_seat : (P : Seat → Type 0) → P North → P East → P South → P West → (seat : Seat) → P seat
each_seat P n e s w North = n
each_seat P n e s w East = e
each_seat P n e s w South = s
each_seat P n e s w West = w

no_dot : (hand : List Bool) (suit : Suit) → Lacks 0x2E (suit_letters hand suit)
no_dot hand suit = suit_lacks 0x2E hand suit refl

suits_from_hand : (a b : List Bool) → hand_text a ≡ hand_text b → (suit : Suit) → suit_letters a suit ≡ suit_letters b suit
suits_from_hand a b e suit =
    let parts = four_parts 0x2E [] (suit_letters a Spades) (suit_letters a Hearts) (suit_letters a Diamonds)
    (suit_letters a Clubs) (suit_letters b Spades) (suit_letters b Hearts) (suit_letters b Diamonds) (suit_letters b Clubs)
    (no_dot a Spades) (no_dot a Hearts) (no_dot a Diamonds) (no_dot b Spades) (no_dot b Hearts) (no_dot b Diamonds) e in
    each_suit (λ s. suit_letters a s ≡ suit_letters b s) parts.0 parts.1 parts.2 parts.3 suit

lacks-append : (c : ℕ) (xs ys : List ℕ) → Lacks c xs → Lacks c ys → Lacks c (xs ++ ys)
lacks-append c xs ys p q = list_all-append (differs c) xs ys ∙ both (list_all (differs c) xs) (list_all (differs c) ys) p q

no_space_in_suit : (hand : List Bool) (suit : Suit) → Lacks 0x20 (suit_letters hand suit)
no_space_in_suit hand suit = suit_lacks 0x20 hand suit refl

dotted : (w x y z : List ℕ) → Lacks 0x20 w → Lacks 0x20 x → Lacks 0x20 y → Lacks 0x20 z
    → Lacks 0x20 (w ++ (0x2E ∷ []) ++ x ++ (0x2E ∷ []) ++ y ++ (0x2E ∷ []) ++ z)
dotted w x y z p q r s =
    let a = lacks-append 0x20 w (0x2E ∷ []) p refl in
    let b = lacks-append 0x20 (w ++ (0x2E ∷ [])) x a q in
    let c = lacks-append 0x20 (w ++ (0x2E ∷ []) ++ x) (0x2E ∷ []) b refl in
    let d = lacks-append 0x20 (w ++ (0x2E ∷ []) ++ x ++ (0x2E ∷ [])) y c r in
    let e = lacks-append 0x20 (w ++ (0x2E ∷ []) ++ x ++ (0x2E ∷ []) ++ y) (0x2E ∷ []) d refl in
    lacks-append 0x20 (w ++ (0x2E ∷ []) ++ x ++ (0x2E ∷ []) ++ y ++ (0x2E ∷ [])) z e s

no_space : (hand : List Bool) → Lacks 0x20 (hand_text hand)
no_space hand = dotted (suit_letters hand Spades) (suit_letters hand Hearts) (suit_letters hand Diamonds)
    (suit_letters hand Clubs) (no_space_in_suit hand Spades) (no_space_in_suit hand Hearts)
    (no_space_in_suit hand Diamonds) (no_space_in_suit hand Clubs)

hands_from_deal : (d e : List Seat) → deal_text d ≡ deal_text e → (seat : Seat) → hand_text (hand_of d seat) ≡ hand_text (hand_of e seat)
hands_from_deal d e same seat =
    let parts = four_parts 0x20 (codes "N:") (hand_text (hand_of d North)) (hand_text (hand_of d East))
    (hand_text (hand_of d South)) (hand_text (hand_of d West)) (hand_text (hand_of e North))
    (hand_text (hand_of e East)) (hand_text (hand_of e South)) (hand_text (hand_of e West))
    (no_space (hand_of d North)) (no_space (hand_of d East)) (no_space (hand_of d South)) (no_space (hand_of e North))
    (no_space (hand_of e East)) (no_space (hand_of e South)) same in
    each_seat (λ q. hand_text (hand_of d q) ≡ hand_text (hand_of e q)) parts.0 parts.1 parts.2 parts.3 seat

-- a card by its suit and its rank
by_suit : (a b : List Bool) (c : ℕ) → c < 52 → ((suit : Suit) (rank : ℕ) → rank < 13
    → has_rank a suit rank ≡ has_rank b suit rank) → holds_card a c ≡ holds_card b c
by_suit a b c h same =
    elim (cases_lt c 13) [
      | inl s ↦ at Spades c 0 s refl (omega arith)
      | inr s' ↦ elim (cases_lt c 26) [
        | inl h' ↦ at Hearts (c - 13) 13 (omega arith) refl (omega arith)
        | inr h'' ↦ elim (cases_lt c 39) [
          | inl d ↦ at Diamonds (c - 26) 26 (omega arith) refl (omega arith)
          | inr d' ↦ at Clubs (c - 39) 39 (omega arith) refl (omega arith)
        ]
      ]
    ]
  where
    at : (suit : Suit) (rank first : ℕ) → rank < 13 → 13 * suit_number suit ≡ first → first + rank ≡ c → holds_card a c ≡ holds_card b c
    at suit rank first low is sum =
        let e : 13 * suit_number suit + rank ≡ c = ap (λ n. n + rank) is ∙ sum in
        ap (holds_card a) (sym e) ∙ same suit rank low ∙ ap (holds_card b) e

number_same : (x y : ℕ) → (x == x) ≡ (y == x) → y ≡ x
number_same x y h = grind (arith, nat_tests)

seat_of : ℕ → Seat
seat_of zero = North
seat_of (suc zero) = East
seat_of (suc (suc zero)) = South
seat_of _ = West

seat_back : (seat : Seat) → seat_of (seat_number seat) ≡ seat
unfolding seat_of
seat_back North = refl
seat_back x = refl

seat_same : (x y : Seat) → ((q : Seat) → (seat_number x == seat_number q) ≡ (seat_number y == seat_number q)) → x ≡ y
seat_same x y h = sym (seat_back x) ∙ ap seat_of (sym (number_same (seat_number x) (seat_number y) (h x))) ∙ seat_back y

held : (deal : List Seat) (seat : Seat) (c : ℕ) → c < length deal
    → holds_card (hand_of deal seat) c ≡ (seat_number (get_or deal c North) == seat_number seat)
held deal seat c h = get_or-map (λ holder. seat_number holder == seat_number seat) deal c North false h

pub seats_from_deal : (d e : List Seat) → length d ≡ 52 → length e ≡ 52 → deal_text d ≡ deal_text e → d ≡ e
seats_from_deal d e p q same =
    ext_get_or North d e (p ∙ sym q)
    (λ c h.
    let below : c < 52 = rw p at h in
    seat_same (get_or d c North) (get_or e c North)
    (λ seat.
    sym (held d seat c h)
    ∙ by_suit (hand_of d seat) (hand_of e seat) c below (λ suit rank low. rank_from_suit (hand_of d seat)
    (hand_of e seat) suit rank low (suits_from_hand (hand_of d seat) (hand_of e seat) (hands_from_deal d e same seat)
    suit))
    ∙ held e seat c (rw q below)))

pub deal_from_game : (board : ℕ) (heading : HeadingView) (deal other : List Seat) → length deal ≡ 52
    → length other ≡ 52 → game board heading deal ≡ game board heading other → deal ≡ other
unfolding game game_text
deal_from_game board heading deal other p q e =
    let front : List ℕ = heading_text heading ++ board_text (board_by_law board 0 deal) in
    let e0 = append_cancel_right (front ++ tag (codes "Deal") (deal_text deal)) (front ++ tag (codes "Deal") (deal_text other)) (codes "\n") e in
    let e1 = append_cancel_left front (tag (codes "Deal") (deal_text deal)) (tag (codes "Deal") (deal_text other)) e0 in
    let e2 = append_cancel_right (codes "[Deal \"" ++ deal_text deal) (codes "[Deal \"" ++ deal_text other) (codes "\"]\n") e1 in
    seats_from_deal deal other p q (append_cancel_left (codes "[Deal \"") (deal_text deal) (deal_text other) e2)
