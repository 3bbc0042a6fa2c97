-- The readers of a name's arguments, of atoms and of items.
use Rattle.std.proofs.Common.{◌≡◌, ℕ, List, [], ◌∷◌, ◌++◌, Option, Some, None, slice_get}
use Rattle.std.proofs.Common.{refl, ap, ◌∙◌, append-nil}
use Rattle.cards.specs.declared.seat.Seat.{Seat as ASeat}
use Rattle.cards.specs.declared.seat.Seat.TheVariants.{North}
use Rattle.cards.specs.declared.suit.Suit.{Suit as ASuit}
use Rattle.cards.specs.declared.suit.Suit.TheVariants.{Spades}
use Rattle.cond_lang.specs.declared.classes.Bound.{Bound}
use Rattle.cond_lang.specs.declared.classes.Choice.{Choice}
use Rattle.cond_lang.specs.declared.classes.Params.{Params}
use Rattle.cond_lang.specs.declared.classes.Params.TheVariants.{Plain, OfSeat, OfSuit, OfBoth}
use Rattle.conditions.specs.declared.tree.Item.{Item}
use Rattle.conditions.specs.declared.tree.Item.TheVariants.{Length}
use Rattle.cond_lang.specs.declared.scanner.Token.{Token}
use Rattle.cond_lang.specs.declared.scanner.Token.TheVariants.{Suit, Number, Open}
use Rattle.cond_lang.specs.declared.scanner.Token.TheVariants.{Close, Comma, Dash, Name}
use Rattle.conditions.specs.Form.{number}
use Rattle.cond_lang.specs.Classes.{Names, by_suit, choice}
use Rattle.cond_lang.specs.Grammar.{Meaning, Meanings, condition, value, SpellsArgs, no_args, seat_arg, suit_arg}
use Rattle.cond_lang.specs.Grammar.{both_args, named_value, SpellsSeat}
use Rattle.cond_lang.specs.Grammar.{SpellsAtom, a_number}
use Rattle.cond_lang.specs.Grammar.{item_token, four}
use Rattle.cond_lang.specs.internal.Reading.{got, after, opened, comma, dash}
use Rattle.cond_lang.specs.internal.Reading.{suit, item}
use Rattle.cond_lang.specs.internal.Reading.{closing}
use Rattle.cond_lang.specs.internal.Reading.{number_or_count, seat_in_brackets}
use Rattle.cond_lang.specs.internal.Reading.{seat_and_suit, suit_in_brackets, args}
use Rattle.cond_lang.specs.internal.Reading.{value_used, atom_of, items, seat_and_items}
use Rattle.cond_lang.proofs.Sequences.{Reads, reads_after, reads_token, reads_like, like_at}
use Rattle.cond_lang.proofs.Sequences.{like_at_end, stops_at}
use Rattle.cond_lang.proofs.Terminals.{gets, reads_then, reads_opened, reads_comma, reads_dash, reads_named}
use Rattle.cond_lang.proofs.Terminals.{reads_item, reads_closing, BehindSeat, reads_behind_seat, AreSeatAndSuit}
use Rattle.cond_lang.proofs.Terminals.{reads_seat_and_suit, IsSeatAnd, reads_seat_in_brackets, reads_number_or_count}

-- ---- names of values

-- ( suit )
abbrev IsSuitIn : Bound → List Token → ASuit → Type 0
IsSuitIn E P s = (c : Token) × Names E c s × (P ≡ Open ∷ c ∷ Close ∷ [])

reads_suit_in_brackets : (E : Bound) (S : List Token) → Reads (IsSuitIn E) (suit_in_brackets E) S (suit_in_brackets E S)
reads_suit_in_brackets E S =
    reads_then (λ _. Open ∷ []) (IsSuitIn E) opened (λ _ S. after (suit E S) closing) S (opened S)
    (λ _. (Suit Spades ∷ Close ∷ [], Spades, (Suit Spades, by_suit, refl))) (reads_opened S)
    (λ _ R. reads_named E (λ P. IsSuitIn E (Open ∷ P)) closing R
    (λ s. (Close ∷ [], s, λ c n. (c, n, refl))) (λ s R. reads_closing _ s R (λ c n. (c, n, refl))))

pub reads_args : (E : Bound) (p : Params) (S : List Token) → Reads (SpellsArgs E p) (args E p) S (args E p S)
reads_args E Plain S = gets _ (choice Spades North) S no_args
reads_args E OfSeat S =
    reads_after (IsSeatAnd Close E) (λ q Q x. (Q ≡ []) × (x ≡ choice Spades q)) (SpellsArgs E OfSeat)
    (seat_in_brackets E) (λ q R. got (choice Spades q) R) S (seat_in_brackets E S)
    (λ P Q q x h m. rw (m.0, m.1, append-nil P, h.2) (seat_arg h.1)) (λ q. ([], choice Spades q, (refl, refl)))
    (reads_seat_in_brackets E S) (λ q R. gets _ (choice Spades q) R (refl, refl))
reads_args E OfSuit S =
    reads_after (IsSuitIn E) (λ s Q x. (Q ≡ []) × (x ≡ choice s North)) (SpellsArgs E OfSuit) (suit_in_brackets E)
    (λ s R. got (choice s North) R) S (suit_in_brackets E S)
    (λ P Q s x h m. rw (m.0, m.1, append-nil P, h.2) (suit_arg h.1)) (λ s. ([], choice s North, (refl, refl)))
    (reads_suit_in_brackets E S) (λ s R. gets _ (choice s North) R (refl, refl))
reads_args E OfBoth S =
    reads_after (AreSeatAndSuit E) (λ p Q x. (Q ≡ []) × (x ≡ choice p.1 p.0)) (SpellsArgs E OfBoth) (seat_and_suit E)
    (λ p R. got (choice p.1 p.0) R) S (seat_and_suit E S)
    (λ P Q p x h m. rw (m.0, m.1, append-nil P, h.4) (both_args h.1 h.3)) (λ p. ([], choice p.1 p.0, (refl, refl)))
    (reads_seat_and_suit E S) (λ p R. gets _ (choice p.1 p.0) R (refl, refl))

-- arguments, and what is made of them
pub reads_used :
    {A : Type 0} (E : Bound) (p : Params) (f : Choice → A) (K : List Token → A → Type 0)
    → ((P : List Token) (x : Choice) → SpellsArgs E p P x → K P (f x)) → (S : List Token)
    → Reads K (λ S. after (args E p S) (λ x R. got (f x) R)) S (after (args E p S) (λ x R. got (f x) R))
reads_used {A} E p f K h S =
    reads_after (SpellsArgs E p) (λ x Q a. (Q ≡ []) × (a ≡ f x)) K (args E p) (λ x R. got (f x) R) S (args E p S)
    (λ P Q x a i m. rw (m.0, m.1, append-nil P) (h P x i)) (λ x. ([], f x, (refl, refl))) (reads_args E p S) (λ x R. gets _ (f x) R (refl, refl))

pub reads_value_used : (N : Meanings) (E : Bound) (n : ℕ) (S : List Token) (m : Option Meaning) → slice_get N n ≡ m
    → Reads (SpellsAtom N E) (atom_of N E) (Name n ∷ S) (value_used m E n S)
unfolding atom_of
reads_value_used N E n S (Some (value p f)) e =
    reads_token (λ P. SpellsAtom N E (Name n ∷ P)) (SpellsAtom N E) (Name n)
    (λ S. after (args E p S) (λ x R. got (f x) R)) (atom_of N E) S _ (λ P x m. m)
    (λ X. ap (λ m. value_used m E n X) e) (reads_used E p f (λ P. SpellsAtom N E (Name n ∷ P)) (λ P x h. named_value e h) S)
reads_value_used N E n S (Some (condition p f)) e = stops_at _ (Name n) (atom_of N E) S
    (Number 0 ∷ [], number 0, a_number) (λ X. ap (λ m. value_used m E n X) e)
reads_value_used N E n S None e = stops_at _ (Name n) (atom_of N E) S (Number 0 ∷ [], number 0, a_number) (λ X. ap (λ m. value_used m E n X) e)

pub reads_atom : (N : Meanings) (E : Bound) (S : List Token) → Reads (SpellsAtom N E) (atom_of N E) S (atom_of N E S)
unfolding atom_of
reads_atom N E [] = reads_like _ (number_or_count E) (atom_of N E) [] _
    (like_at_end (number_or_count E) (atom_of N E) refl) (reads_number_or_count N E [])
reads_atom N E (Name n ∷ S) = reads_value_used N E n S (slice_get N n) refl
reads_atom N E (c ∷ S) = reads_like _ (number_or_count E) (atom_of N E) (c ∷ S) _
    (like_at (number_or_count E) (atom_of N E) c S (λ X. refl)) (reads_number_or_count N E (c ∷ S))

-- four items with dashes between them
abbrev pub AreItems : List Token → List Item → Type 0
AreItems P n = (a : Item) × (b : Item) × (c : Item) × (d : Item) × (n ≡ a ∷ b ∷ c ∷ d ∷ [])
    × (P ≡ item_token a ∷ Dash ∷ item_token b ∷ Dash ∷ item_token c ∷ Dash ∷ item_token d ∷ [])

-- a number to go on with
abbrev o : Item
o = Length 0

pub reads_items : (S : List Token) → Reads AreItems items S (items S)
unfolding items
reads_items S =
    reads_then (λ a. item_token a ∷ []) AreItems item _ S (item S)
    (λ a. (Dash ∷ Number 0 ∷ Dash ∷ Number 0 ∷ Dash ∷ Number 0 ∷ [], a ∷ o ∷ o ∷ o ∷ [], (a, o, o, o, refl, refl))) (reads_item S)
    (λ a S. reads_then (λ _. Dash ∷ []) (λ P. AreItems (item_token a ∷ P)) dash _ S (dash S)
    (λ _. (Number 0 ∷ Dash ∷ Number 0 ∷ Dash ∷ Number 0 ∷ [], a ∷ o ∷ o ∷ o ∷ [], (a, o, o, o, refl, refl))) (reads_dash S)
    (λ _ S. reads_then (λ b. item_token b ∷ []) (λ P. AreItems (item_token a ∷ Dash ∷ P)) item _ S (item S)
    (λ b. (Dash ∷ Number 0 ∷ Dash ∷ Number 0 ∷ [], a ∷ b ∷ o ∷ o ∷ [], (a, b, o, o, refl, refl))) (reads_item S)
    (λ b S. reads_then (λ _. Dash ∷ []) (λ P. AreItems (item_token a ∷ Dash ∷ item_token b ∷ P)) dash _ S (dash S)
    (λ _. (Number 0 ∷ Dash ∷ Number 0 ∷ [], a ∷ b ∷ o ∷ o ∷ [], (a, b, o, o, refl, refl))) (reads_dash S)
    (λ _ S. reads_then (λ c. item_token c ∷ []) (λ P. AreItems (item_token a ∷ Dash ∷ item_token b ∷ Dash ∷ P)) item _ S (item S)
    (λ c. (Dash ∷ Number 0 ∷ [], a ∷ b ∷ c ∷ o ∷ [], (a, b, c, o, refl, refl))) (reads_item S)
    (λ c S. reads_then (λ _. Dash ∷ []) (λ P. AreItems (item_token a ∷ Dash ∷ item_token b ∷ Dash ∷ item_token c ∷ P)) dash _ S (dash S)
    (λ _. (Number 0 ∷ [], a ∷ b ∷ c ∷ o ∷ [], (a, b, c, o, refl, refl))) (reads_dash S)
    (λ _ S. reads_then (λ d. item_token d ∷ []) (λ P. AreItems
    (item_token a ∷ Dash ∷ item_token b ∷ Dash ∷ item_token c ∷ Dash ∷ P)) item _ S (item S)
    (λ d. ([], a ∷ b ∷ c ∷ d ∷ [], (a, b, c, d, refl, refl))) (reads_item S)
    (λ d S. gets _ (a ∷ b ∷ c ∷ d ∷ []) S (a, b, c, d, refl, refl))))))))

-- ( seat , a - b - c - d )
abbrev pub AreSeatAndItems : Bound → List Token → ASeat × List Item → Type 0
AreSeatAndItems E P p =
    (a : Item) × (b : Item) × (c : Item) × (d : Item) × (p.1 ≡ a ∷ b ∷ c ∷ d ∷ []) × (L : List Token)
    × SpellsSeat E L p.0 × (P ≡ Open ∷ L ++ four a b c d)

joined :
    (E : Bound) (q : ASeat) (P Q : List Token) (n : List Item) (t : ASeat × List Item) → AreItems P n → (t ≡ (q, n)) × (Q ≡ Close ∷ [])
    → BehindSeat E (AreSeatAndItems E) q (Comma ∷ P ++ Q) t
joined E q P Q n t (a, b, c, d, e, i) m = λ L l. (a, b, c, d, ap (λ t. t.1) m.0 ∙ e, L, rw m.0 l, rw (m.1, i) refl)

pub reads_seat_and_items : (E : Bound) (S : List Token) → Reads (AreSeatAndItems E) (seat_and_items E) S (seat_and_items E S)
unfolding seat_and_items
reads_seat_and_items E S =
    reads_behind_seat E (AreSeatAndItems E) _ S
    (λ q. (
      Comma ∷ Number 0 ∷ Dash ∷ Number 0 ∷ Dash ∷ Number 0 ∷ Dash ∷ Number 0 ∷ Close ∷ [],
      (q, (o ∷ o ∷ o ∷ o ∷ [])),
      λ L l. (o, o, o, o, refl, L, l, refl),
    ))
    (λ q S. reads_then (λ _. Comma ∷ []) (BehindSeat E (AreSeatAndItems E) q) comma _ S (comma S)
    (λ _. (
      Number 0 ∷ Dash ∷ Number 0 ∷ Dash ∷ Number 0 ∷ Dash ∷ Number 0 ∷ Close ∷ [],
      (q, (o ∷ o ∷ o ∷ o ∷ [])),
      λ L l. (o, o, o, o, refl, L, l, refl),
    )) (reads_comma S)
    (λ _ S. reads_after AreItems (λ n P t. (t ≡ (q, n)) × (P ≡ Close ∷ []))
    (λ P. BehindSeat E (AreSeatAndItems E) q (Comma ∷ P)) items (λ n S. closing (q, n) S) S (items S)
    (joined E q)
    (λ n. (Close ∷ [], (q, n), (refl, refl))) (reads_items S)
    (λ n S. reads_closing _ (q, n) S (refl, refl))))
