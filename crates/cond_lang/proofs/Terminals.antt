-- The readers that don't lead back to a condition.
use Rattle.std.proofs.Common.{◌≡◌, ℕ, Bool, true, false, cond, List, [], ◌∷◌, ◌++◌, Option, Some, None}
use Rattle.std.proofs.Common.{refl, sym, ap, subst, append_assoc, append-nil}
use Rattle.cards.specs.declared.honours.Honours.{Honours}
use Rattle.cards.specs.declared.hand.Measure.{Measure as AMeasure}
use Rattle.cards.specs.declared.hand.Measure.TheVariants.{Hcp}
use Rattle.cards.specs.declared.order.Order.{Order as AnOrder}
use Rattle.cards.specs.declared.order.Order.TheVariants.{Second}
use Rattle.cards.specs.declared.seat.Seat.{Seat as ASeat}
use Rattle.cards.specs.declared.seat.Seat.TheVariants.{North}
use Rattle.cards.specs.declared.suit.Suit.{Suit as ASuit}
use Rattle.cards.specs.declared.suit.Suit.TheVariants.{Spades}
use Rattle.cond_lang.specs.declared.classes.Bound.{Bound}
use Rattle.cond_lang.specs.declared.classes.Class.{Class as AClass}
use Rattle.cond_lang.specs.declared.classes.Neighbour.{Neighbour as ANeighbour}
use Rattle.conditions.specs.declared.tree.Count.{Count}
use Rattle.conditions.specs.declared.tree.Item.TheVariants.{Length, Any}
use Rattle.conditions.specs.declared.tree.Op.TheVariants.{Equal}
use Rattle.cond_lang.specs.declared.scanner.Token.{Token}
use Rattle.cond_lang.specs.declared.scanner.Token.TheVariants.{Star, Measure, Cards, Len, Ordered}
use Rattle.cond_lang.specs.declared.scanner.Token.TheVariants.{X, Seat, Suit, Class, Neighbour, Ranks, Number, Open}
use Rattle.cond_lang.specs.declared.scanner.Token.TheVariants.{Close, Comma, Dash, Relation}
use Rattle.conditions.specs.Form.{number, counted, times, measured, suit_measured, cards_held, suit_cards_held}
use Rattle.conditions.specs.Form.{suit_length, length_by}
use Rattle.cond_lang.specs.Classes.{bound_to, seat_bound_to, can_bind, Names, by_suit, by_class, seat_beside}
use Rattle.cond_lang.specs.Grammar.{Meanings}
use Rattle.cond_lang.specs.Grammar.{SpellsCounted, a_count, multiple, SpellsSeat, by_word}
use Rattle.cond_lang.specs.Grammar.{by_bound, beside, SpellsAtom, a_number, count, measure, measure_in, len, cards}
use Rattle.cond_lang.specs.Grammar.{cards_in, ordered_suit, HasOrder, everything, item_token}
use Rattle.cond_lang.specs.internal.Reading.{Outcome, got, stuck, Reader, after, opened, closed, comma, dash, seat}
use Rattle.cond_lang.specs.internal.Reading.{class_seat, suit, class_suit, class, digits, ranks, item, relation}
use Rattle.cond_lang.specs.internal.Reading.{closing, comma_suit_close, rest_of_measure, ranks_close}
use Rattle.cond_lang.specs.internal.Reading.{comma_ranks_close, suit_and_ranks, rest_of_cards, count_of, count_alone}
use Rattle.cond_lang.specs.internal.Reading.{rest_of_number, number_or_count, open_seat, seat_in_brackets}
use Rattle.cond_lang.specs.internal.Reading.{seat_and_suit, open_seat_comma, range}
use Rattle.cond_lang.proofs.Sequences.{Reads, HasSome, reads_after, reads_as, reads_token, reads_like, like_at}
use Rattle.cond_lang.proofs.Sequences.{like_at_end, gets_token, gets_at, gets_at_end, stops_at, stops_at_end}

-- nothing more
pub gets : {A : Type 0} (N : List Token → A → Type 0) (x : A) (S : List Token) → N [] x → Reads N (got x) S (got x S)
gets N x S m = record { done = []; cut = refl; same = λ X i. refl; right = m }

-- tokens that what was read tells, and then a reader
pub reads_then :
    {A B : Type 0} (w : A → List Token) (K : List Token → B → Type 0) (p : Reader A) (f : A → Reader B) (S : List Token) (o : Outcome A)
    → ((x : A) → HasSome (λ Q. K (w x ++ Q)))
    → Reads (λ P x. P ≡ w x) p S o
    → ((x : A) (R : List Token) → Reads (λ Q. K (w x ++ Q)) (f x) R (f x R))
    → Reads K (λ S. after (p S) f) S (after o f)
reads_then w K p f S o some h k =
    reads_after (λ P x. P ≡ w x) (λ x Q. K (w x ++ Q)) K p f S o (λ P Q x y e m. subst (λ P. K (P ++ Q) y) (sym e) m) some h k

pub reads_opened : (S : List Token) → Reads (λ P _. P ≡ Open ∷ []) opened S (opened S)
reads_opened [] = stops_at_end _ opened (Open ∷ [], tt, refl) refl
reads_opened (Open ∷ S) = gets_token _ Open opened S tt refl (λ X. refl)
reads_opened (c ∷ S) = stops_at _ c opened S (Open ∷ [], tt, refl) (λ X. refl)

pub reads_closed : (S : List Token) → Reads (λ P _. P ≡ Close ∷ []) closed S (closed S)
reads_closed [] = stops_at_end _ closed (Close ∷ [], tt, refl) refl
reads_closed (Close ∷ S) = gets_token _ Close closed S tt refl (λ X. refl)
reads_closed (c ∷ S) = stops_at _ c closed S (Close ∷ [], tt, refl) (λ X. refl)

pub reads_comma : (S : List Token) → Reads (λ P _. P ≡ Comma ∷ []) comma S (comma S)
reads_comma [] = stops_at_end _ comma (Comma ∷ [], tt, refl) refl
reads_comma (Comma ∷ S) = gets_token _ Comma comma S tt refl (λ X. refl)
reads_comma (c ∷ S) = stops_at _ c comma S (Comma ∷ [], tt, refl) (λ X. refl)

pub reads_dash : (S : List Token) → Reads (λ P _. P ≡ Dash ∷ []) dash S (dash S)
reads_dash [] = stops_at_end _ dash (Dash ∷ [], tt, refl) refl
reads_dash (Dash ∷ S) = gets_token _ Dash dash S tt refl (λ X. refl)
reads_dash (c ∷ S) = stops_at _ c dash S (Dash ∷ [], tt, refl) (λ X. refl)

-- one token that names the suit
abbrev pub IsNamed : Bound → List Token → ASuit → Type 0
IsNamed E P s = (c : Token) × Names E c s × (P ≡ c ∷ [])

some_named : (E : Bound) → HasSome (IsNamed E)
some_named E = (Suit Spades ∷ [], Spades, (Suit Spades, by_suit, refl))

reads_class_suit : (E : Bound) (c : AClass) (S : List Token) (o : Option ASuit) → bound_to E c ≡ o
    → Reads (IsNamed E) (suit E) (Class c ∷ S) (class_suit o c S)
reads_class_suit E c S None e = stops_at _ (Class c) (suit E) S (some_named E) (λ X. ap (λ o. class_suit o c X) e)
reads_class_suit E c S (Some s) e = gets_token _ (Class c) (suit E) S s (Class c, by_class e, refl) (λ X. ap (λ o. class_suit o c X) e)

pub reads_suit : (E : Bound) (S : List Token) → Reads (IsNamed E) (suit E) S (suit E S)
reads_suit E [] = stops_at_end _ (suit E) (some_named E) refl
reads_suit E (Suit s ∷ S) = gets_token _ (Suit s) (suit E) S s (Suit s, by_suit, refl) (λ X. refl)
reads_suit E (Class c ∷ S) = reads_class_suit E c S (bound_to E c) refl
reads_suit E (c ∷ S) = stops_at _ c (suit E) S (some_named E) (λ X. refl)

-- a token that names a suit, and then a reader
pub reads_named :
    {B : Type 0} (E : Bound) (K : List Token → B → Type 0) (f : ASuit → Reader B) (S : List Token)
    → ((s : ASuit) → HasSome (λ Q y. (c : Token) → Names E c s → K (c ∷ Q) y))
    → ((s : ASuit) (R : List Token) → Reads (λ Q y. (c : Token) → Names E c s → K (c ∷ Q) y) (f s) R (f s R))
    → Reads K (λ S. after (suit E S) f) S (after (suit E S) f)
reads_named E K f S some k =
    reads_after (IsNamed E) (λ s Q y. (c : Token) → Names E c s → K (c ∷ Q) y) K (suit E) f S (suit E S)
    (λ P Q s y h m. subst (λ P. K (P ++ Q) y) (sym h.2) (m h.0 h.1)) some (reads_suit E S) k

-- a class that can be bound
abbrev pub IsBindable : Bound → List Token → AClass → Type 0
IsBindable E P c = (P ≡ Class c ∷ []) × (can_bind E c ≡ true)

reads_this_class : (E : Bound) → HasSome (IsBindable E) → (c : AClass) (S : List Token) (b : Bool) → can_bind E c ≡ b
    → Reads (IsBindable E) (class E) (Class c ∷ S) (cond b (got c S) (stuck (Class c ∷ S)))
reads_this_class E some c S true e = gets_token _ (Class c) (class E) S c (refl, e) (λ X. ap (λ b. cond b (got c X) (stuck (Class c ∷ X))) e)
reads_this_class E some c S false e = stops_at _ (Class c) (class E) S some (λ X. ap (λ b. cond b (got c X) (stuck (Class c ∷ X))) e)

pub reads_class : (E : Bound) → (c : AClass) × (can_bind E c ≡ true) → (S : List Token) → Reads (IsBindable E) (class E) S (class E S)
reads_class E some [] = stops_at_end _ (class E) (Class some.0 ∷ [], some.0, (refl, some.1)) refl
reads_class E some (Class c ∷ S) = reads_this_class E (Class some.0 ∷ [], some.0, (refl, some.1)) c S (can_bind E c) refl
reads_class E some (c ∷ S) = stops_at _ c (class E) S (Class some.0 ∷ [], some.0, (refl, some.1)) (λ X. refl)

pub reads_digits : (S : List Token) → Reads (λ P n. P ≡ Number n ∷ []) digits S (digits S)
reads_digits [] = stops_at_end _ digits (Number 0 ∷ [], 0, refl) refl
reads_digits (Number n ∷ S) = gets_token _ (Number n) digits S n refl (λ X. refl)
reads_digits (c ∷ S) = stops_at _ c digits S (Number 0 ∷ [], 0, refl) (λ X. refl)

pub reads_relation : (S : List Token) → Reads (λ P o. P ≡ Relation o ∷ []) relation S (relation S)
reads_relation [] = stops_at_end _ relation (Relation Equal ∷ [], Equal, refl) refl
reads_relation (Relation o ∷ S) = gets_token _ (Relation o) relation S o refl (λ X. refl)
reads_relation (c ∷ S) = stops_at _ c relation S (Relation Equal ∷ [], Equal, refl) (λ X. refl)

some_ranks : Honours
some_ranks = record { ace = false; king = false; queen = false; jack = false; ten = false }

pub reads_ranks : (S : List Token) → Reads (λ P h. P ≡ Ranks h ∷ []) ranks S (ranks S)
reads_ranks [] = stops_at_end _ ranks (Ranks some_ranks ∷ [], some_ranks, refl) refl
reads_ranks (Ranks h ∷ S) = gets_token _ (Ranks h) ranks S h refl (λ X. refl)
reads_ranks (c ∷ S) = stops_at _ c ranks S (Ranks some_ranks ∷ [], some_ranks, refl) (λ X. refl)

pub reads_item : (S : List Token) → Reads (λ P i. P ≡ item_token i ∷ []) item S (item S)
reads_item [] = stops_at_end _ item (Number 0 ∷ [], Length 0, refl) refl
reads_item (Number n ∷ S) = gets_token _ (Number n) item S (Length n) refl (λ Y. refl)
reads_item (X ∷ S) = gets_token _ X item S Any refl (λ Y. refl)
reads_item (c ∷ S) = stops_at _ c item S (Number 0 ∷ [], Length 0, refl) (λ Y. refl)

pub reads_closing : {A : Type 0} (K : List Token → A → Type 0) (x : A) (S : List Token) → K (Close ∷ []) x → Reads K (closing x) S (closing x S)
reads_closing K x S m =
    reads_then (λ _. Close ∷ []) K closed (λ _ R. got x R) S (closed S) (λ _. ([], x, m)) (reads_closed S) (λ _ R. gets _ x R m)

-- ---- seats

some_seat : (E : Bound) → HasSome (SpellsSeat E)
some_seat E = (Seat North ∷ [], North, by_word)

reads_class_seat : (E : Bound) (c : AClass) (S : List Token) (o : Option ASeat) → seat_bound_to E c ≡ o
    → Reads (SpellsSeat E) (seat E) (Class c ∷ S) (class_seat o c S)
reads_class_seat E c S None e = stops_at _ (Class c) (seat E) S (some_seat E) (λ X. ap (λ o. class_seat o c X) e)
reads_class_seat E c S (Some q) e = gets_token _ (Class c) (seat E) S q (by_bound tt e) (λ X. ap (λ o. class_seat o c X) e)

-- after a neighbour's word and its bracket
abbrev IsBeside : Bound → ANeighbour → List Token → ASeat → Type 0
IsBeside E n P r = SpellsSeat E (Neighbour n ∷ Open ∷ P) r

joined_beside : (E : Bound) (n : ANeighbour) (P Q : List Token) (q r : ASeat) → SpellsSeat E P q
    → (Q ≡ Close ∷ []) × (r ≡ seat_beside n q) → IsBeside E n (P ++ Q) r
joined_beside E n P Q q r h m = rw (m.0, m.1) (beside tt h)

-- what stands after a neighbour's word, if it isn't a bracket
some_beside : (E : Bound) (n : ANeighbour) → HasSome (λ P. SpellsSeat E (Neighbour n ∷ P))
some_beside E n = (Open ∷ Seat North ∷ Close ∷ [], seat_beside n North, beside {Q = Seat North ∷ []} tt by_word)

abbrev behind_neighbour : Bound → ANeighbour → Reader ASeat
behind_neighbour E n S = seat E (Neighbour n ∷ S)

reads_unopened :
    (E : Bound) (n : ANeighbour) (S : List Token) → Reads (λ P. SpellsSeat E (Neighbour n ∷ P)) (behind_neighbour E n) S (stuck S)
    → Reads (SpellsSeat E) (seat E) (Neighbour n ∷ S) (stuck S)
reads_unopened E n S h = reads_token _ (SpellsSeat E) (Neighbour n) (behind_neighbour E n) (seat E) S _ (λ P x m. m) (λ X. refl) h

pub reads_seat : (E : Bound) (S : List Token) → Reads (SpellsSeat E) (seat E) S (seat E S)
reads_seat E [] = stops_at_end _ (seat E) (some_seat E) refl
reads_seat E (Seat q ∷ S) = gets_token _ (Seat q) (seat E) S q by_word (λ X. refl)
reads_seat E (Class c ∷ S) = reads_class_seat E c S (seat_bound_to E c) refl
reads_seat E (Neighbour n ∷ Open ∷ S) =
    reads_token (λ P. SpellsSeat E (Neighbour n ∷ P)) (SpellsSeat E) (Neighbour n) (behind_neighbour E n) (seat E)
    (Open ∷ S) _ (λ P x m. m) (λ X. refl)
    (reads_token (IsBeside E n) _ Open (λ S. after (seat E S) (λ q R. closing (seat_beside n q) R))
    (behind_neighbour E n) S _ (λ P x m. m) (λ X. refl)
    (reads_after (SpellsSeat E) (λ q Q r. (Q ≡ Close ∷ []) × (r ≡ seat_beside n q)) (IsBeside E n) (seat E)
    (λ q R. closing (seat_beside n q) R) S (seat E S)
    (joined_beside E n) (λ q. (Close ∷ [], seat_beside n q, (refl, refl))) (reads_seat E S)
    (λ q R. reads_closing _ (seat_beside n q) R (refl, refl))))
reads_seat E (Neighbour n ∷ []) = reads_unopened E n [] (stops_at_end _ (behind_neighbour E n) (some_beside E n) refl)
reads_seat E (Neighbour n ∷ c ∷ S) = reads_unopened E n (c ∷ S) (stops_at _ c (behind_neighbour E n) S (some_beside E n) (λ X. refl))
reads_seat E (c ∷ S) = stops_at _ c (seat E) S (some_seat E) (λ X. refl)

-- what K means after `( seat`, whatever tokens name the seat
abbrev pub BehindSeat : {A : Type 0} → Bound → (List Token → A → Type 0) → ASeat → List Token → A → Type 0
BehindSeat {A} E K q Q y = (L : List Token) → SpellsSeat E L q → K (Open ∷ L ++ Q) y

-- `( seat`
abbrev IsOpenSeat : Bound → List Token → ASeat → Type 0
IsOpenSeat E P q = (L : List Token) × SpellsSeat E L q × (P ≡ Open ∷ L)

reads_open_seat : (E : Bound) (S : List Token) → Reads (IsOpenSeat E) (open_seat E) S (open_seat E S)
reads_open_seat E S =
    reads_then (λ _. Open ∷ []) (IsOpenSeat E) opened (λ _ R. seat E R) S (opened S)
    (λ _. (Seat North ∷ [], North, (Seat North ∷ [], by_word, refl))) (reads_opened S)
    (λ _ R. reads_as (SpellsSeat E) _ (seat E) (seat E) R (seat E R) (λ P q h. (P, h, refl)) (λ X. refl) (reads_seat E R))

-- `( seat`, and then a reader
pub reads_behind_seat :
    {A : Type 0} (E : Bound) (K : List Token → A → Type 0) (f : ASeat → Reader A) (S : List Token)
    → ((q : ASeat) → HasSome (BehindSeat E K q))
    → ((q : ASeat) (R : List Token) → Reads (BehindSeat E K q) (f q) R (f q R))
    → Reads K (λ S. after (open_seat E S) f) S (after (open_seat E S) f)
reads_behind_seat E K f S some k =
    reads_after (IsOpenSeat E) (BehindSeat E K) K (open_seat E) f S (open_seat E S)
    (λ P Q q y h m. subst (λ P. K (P ++ Q) y) (sym h.2) (m h.0 h.1)) some (reads_open_seat E S) k

-- a count that begins with the word
abbrev Counts : Bound → Token → ASeat → List Token → Count → Type 0
Counts E c q = BehindSeat E (λ Q. SpellsCounted E (c ∷ Q)) q

pub reads_rest_of_measure : (E : Bound) (m : AMeasure) (q : ASeat) (S : List Token)
    → Reads (Counts E (Measure m) q) (rest_of_measure E m q) S (rest_of_measure E m q S)
reads_rest_of_measure E m q [] = stops_at_end _ (rest_of_measure E m q) (Close ∷ [], measured m q, λ L h. count measure h) refl
reads_rest_of_measure E m q (Close ∷ S) = gets_token _ Close (rest_of_measure E m q) S (measured m q) (λ L h. count measure h) (λ X. refl)
reads_rest_of_measure E m q (Comma ∷ S) =
    reads_token _ _ Comma (λ S. after (suit E S) (λ s R. closing (suit_measured m q s) R)) (rest_of_measure E m q) S _ (λ P x h. h) (λ X. refl)
    (reads_named E (λ Q. Counts E (Measure m) q (Comma ∷ Q)) (λ s R. closing (suit_measured m q s) R) S
    (λ s. (Close ∷ [], suit_measured m q s, λ c n L h. count (measure_in n) h))
    (λ s R. reads_closing _ (suit_measured m q s) R (λ c n L h. count (measure_in n) h)))
reads_rest_of_measure E m q (c ∷ S) = stops_at _ c (rest_of_measure E m q) S (Close ∷ [], measured m q, λ L h. count measure h) (λ X. refl)

-- , suit )
abbrev pub IsNamedLast : Bound → List Token → ASuit → Type 0
IsNamedLast E P s = (c : Token) × Names E c s × (P ≡ Comma ∷ c ∷ Close ∷ [])

pub reads_comma_suit_close : (E : Bound) (S : List Token) → Reads (IsNamedLast E) (comma_suit_close E) S (comma_suit_close E S)
reads_comma_suit_close E S =
    reads_then (λ _. Comma ∷ []) (IsNamedLast E) comma (λ _ S. after (suit E S) closing) S (comma S)
    (λ _. (Suit Spades ∷ Close ∷ [], Spades, (Suit Spades, by_suit, refl))) (reads_comma S)
    (λ _ R. reads_named E (λ P. IsNamedLast E (Comma ∷ P)) closing R
    (λ s. (Close ∷ [], s, λ c n. (c, n, refl))) (λ s R. reads_closing _ s R (λ c n. (c, n, refl))))

-- ( seat , suit )
abbrev pub AreSeatAndSuit : Bound → List Token → ASeat × ASuit → Type 0
AreSeatAndSuit E P p = (L : List Token) × SpellsSeat E L p.0 × (c : Token) × Names E c p.1 × (P ≡ Open ∷ L ++ Comma ∷ c ∷ Close ∷ [])

named_pair :
    (E : Bound) (q : ASeat) (P Q : List Token) (s : ASuit) (p : ASeat × ASuit) → IsNamedLast E P s → (Q ≡ []) × (p ≡ (q, s))
    → BehindSeat E (AreSeatAndSuit E) q (P ++ Q) p
named_pair E q P Q s p h m = λ L l. rw (m.0, m.1, h.2) (L, l, h.0, h.1, refl)

pub reads_seat_and_suit : (E : Bound) (S : List Token) → Reads (AreSeatAndSuit E) (seat_and_suit E) S (seat_and_suit E S)
reads_seat_and_suit E S =
    reads_behind_seat E (AreSeatAndSuit E) (λ q S. after (comma_suit_close E S) (λ s R. got (q, s) R)) S
    (λ q. (Comma ∷ Suit Spades ∷ Close ∷ [], (q, Spades), λ L h. (L, h, Suit Spades, by_suit, refl)))
    (λ q R. reads_after (IsNamedLast E) (λ s Q p. (Q ≡ []) × (p ≡ (q, s))) (BehindSeat E (AreSeatAndSuit E) q)
    (comma_suit_close E) (λ s R. got (q, s) R) R (comma_suit_close E R)
    (named_pair E q) (λ s. ([], (q, s), (refl, refl))) (reads_comma_suit_close E R) (λ s R. gets _ (q, s) R (refl, refl)))

-- ( seat and this token
abbrev pub IsSeatAnd : Token → Bound → List Token → ASeat → Type 0
IsSeatAnd c E P q = (L : List Token) × SpellsSeat E L q × (P ≡ Open ∷ L ++ c ∷ [])

pub reads_seat_in_brackets : (E : Bound) (S : List Token) → Reads (IsSeatAnd Close E) (seat_in_brackets E) S (seat_in_brackets E S)
reads_seat_in_brackets E S =
    reads_behind_seat E (IsSeatAnd Close E) closing S (λ q. (Close ∷ [], q, λ L h. (L, h, refl))) (λ q R. reads_closing _ q R (λ L h. (L, h, refl)))

pub reads_open_seat_comma : (E : Bound) (S : List Token) → Reads (IsSeatAnd Comma E) (open_seat_comma E) S (open_seat_comma E S)
reads_open_seat_comma E S =
    reads_behind_seat E (IsSeatAnd Comma E) (λ q S. after (comma S) (λ _ R. got q R)) S (λ q. (Comma ∷ [], q, λ L h. (L, h, refl)))
    (λ q R. reads_then (λ _. Comma ∷ []) (BehindSeat E (IsSeatAnd Comma E) q) comma (λ _ R. got q R) R (comma R)
    (λ _. ([], q, λ L h. (L, h, refl))) (reads_comma R) (λ _ R. gets _ q R (λ L h. (L, h, refl))))

pub reads_ranks_close : (S : List Token) → Reads (λ P h. P ≡ Ranks h ∷ Close ∷ []) ranks_close S (ranks_close S)
reads_ranks_close S =
    reads_then (λ h. Ranks h ∷ []) (λ P h. P ≡ Ranks h ∷ Close ∷ []) ranks closing S (ranks S)
    (λ h. (Close ∷ [], h, refl)) (reads_ranks S) (λ h R. reads_closing _ h R refl)

pub reads_comma_ranks_close : (S : List Token) → Reads (λ P h. P ≡ Comma ∷ Ranks h ∷ Close ∷ []) comma_ranks_close S (comma_ranks_close S)
reads_comma_ranks_close S =
    reads_then (λ _. Comma ∷ []) (λ P h. P ≡ Comma ∷ Ranks h ∷ Close ∷ []) comma (λ _ S. ranks_close S) S (comma S)
    (λ _. (Ranks some_ranks ∷ Close ∷ [], some_ranks, refl)) (reads_comma S)
    (λ _ R. reads_as (λ P h. P ≡ Ranks h ∷ Close ∷ []) _ ranks_close ranks_close R (ranks_close R)
    (λ P h e. ap (λ L. Comma ∷ L) e) (λ X. refl) (reads_ranks_close R))

-- ranks after `cards ( seat ,`
ranks_of_cards : ASeat → Reader Count
ranks_of_cards q S = after (ranks_close S) (λ h R. got (cards_held q h) R)

-- what counts cards after `cards ( seat ,`
abbrev CountsCards : Bound → ASeat → List Token → Count → Type 0
CountsCards E q Q y = Counts E Cards q (Comma ∷ Q) y

reads_ranks_of_cards : (E : Bound) (q : ASeat) (S : List Token) → Reads (CountsCards E q) (ranks_of_cards q) S (ranks_of_cards q S)
unfolding ranks_of_cards
reads_ranks_of_cards E q S =
    reads_then (λ h. Ranks h ∷ Close ∷ []) (CountsCards E q) ranks_close (λ h R. got (cards_held q h) R) S (ranks_close S)
    (λ h. ([], cards_held q h, λ L l. count cards l)) (reads_ranks_close S) (λ h R. gets _ (cards_held q h) R (λ L l. count cards l))

pub reads_suit_and_ranks : (E : Bound) (q : ASeat) (S : List Token) → Reads (CountsCards E q) (suit_and_ranks E q) S (suit_and_ranks E q S)
reads_suit_and_ranks E q S =
    reads_named E (CountsCards E q) (λ s S. after (comma_ranks_close S) (λ h R. got (suit_cards_held q s h) R)) S
    (λ s. (Comma ∷ Ranks some_ranks ∷ Close ∷ [], suit_cards_held q s some_ranks, λ c n L l. count (cards_in n) l))
    (λ s R. reads_then (λ h. Comma ∷ Ranks h ∷ Close ∷ [])
    (λ Q y. (c : Token) → Names E c s → CountsCards E q (c ∷ Q) y) comma_ranks_close
    (λ h R. got (suit_cards_held q s h) R) R (comma_ranks_close R)
    (λ h. ([], suit_cards_held q s h, λ c n L l. count (cards_in n) l)) (reads_comma_ranks_close R)
    (λ h R. gets _ (suit_cards_held q s h) R (λ c n L l. count (cards_in n) l)))

pub reads_rest_of_cards : (E : Bound) (q : ASeat) (S : List Token) → Reads (CountsCards E q) (rest_of_cards E q) S (rest_of_cards E q S)
unfolding ranks_of_cards
reads_rest_of_cards E q [] = reads_like _ (ranks_of_cards q) (rest_of_cards E q) [] _
    (like_at_end (ranks_of_cards q) (rest_of_cards E q) refl) (reads_ranks_of_cards E q [])
reads_rest_of_cards E q (Suit s ∷ S) = reads_like _ (suit_and_ranks E q) (rest_of_cards E q) (Suit s ∷ S) _
    (like_at (suit_and_ranks E q) (rest_of_cards E q) (Suit s) S (λ X. refl)) (reads_suit_and_ranks E q (Suit s ∷ S))
reads_rest_of_cards E q (Class c ∷ S) = reads_like _ (suit_and_ranks E q) (rest_of_cards E q) (Class c ∷ S) _
    (like_at (suit_and_ranks E q) (rest_of_cards E q) (Class c) S (λ X. refl))
    (reads_suit_and_ranks E q (Class c ∷ S))
reads_rest_of_cards E q (c ∷ S) = reads_like _ (ranks_of_cards q) (rest_of_cards E q) (c ∷ S) _
    (like_at (ranks_of_cards q) (rest_of_cards E q) c S (λ X. refl)) (reads_ranks_of_cards E q (c ∷ S))

pub reads_range : (S : List Token) → Reads (λ P p. P ≡ Number p.0 ∷ Dash ∷ Number p.1 ∷ []) range S (range S)
reads_range S =
    reads_then (λ m. Number m ∷ []) (λ P p. P ≡ Number p.0 ∷ Dash ∷ Number p.1 ∷ []) digits _ S (digits S)
    (λ m. (Dash ∷ Number 0 ∷ [], (m, 0), refl)) (reads_digits S)
    (λ m S. reads_then (λ _. Dash ∷ []) (λ P p. Number m ∷ P ≡ Number p.0 ∷ Dash ∷ Number p.1 ∷ []) dash _ S (dash S)
    (λ _. (Number 0 ∷ [], (m, 0), refl)) (reads_dash S)
    (λ _ S. reads_then (λ n. Number n ∷ []) (λ P p. Number m ∷ Dash ∷ P ≡ Number p.0 ∷ Dash ∷ Number p.1 ∷ []) digits _ S (digits S)
    (λ n. ([], (m, n), refl)) (reads_digits S) (λ n S. gets _ (m, n) S refl)))

has_order : (o : AnOrder) → HasOrder everything o
has_order Second = tt
has_order o = tt

some_count : (E : Bound) → HasSome (SpellsCounted E)
some_count E = (Measure Hcp ∷ Open ∷ Seat North ∷ Close ∷ [], measured Hcp North, count {Q = Seat North ∷ []} measure by_word)

joined_len : (E : Bound) (P Q : List Token) (p : ASeat × ASuit) (a : Count) → AreSeatAndSuit E P p
    → (Q ≡ []) × (a ≡ suit_length p.0 p.1) → SpellsCounted E (Len ∷ P ++ Q) a
joined_len E P Q p a h m = rw (m.0, m.1, append-nil P, h.4) (count (len h.3) h.1)

-- tokens after `cards ( seat ,`
joined_cards : (E : Bound) (P Q : List Token) (q : ASeat) (a : Count) → IsSeatAnd Comma E P q → CountsCards E q Q a
    → SpellsCounted E (Cards ∷ P ++ Q) a
joined_cards E P Q q a h m =
    subst (λ P. SpellsCounted E (Cards ∷ P ++ Q) a) (sym h.2)
    (subst (λ L. SpellsCounted E (Cards ∷ Open ∷ L) a) (sym (append_assoc h.0 (Comma ∷ []) Q)) (m h.0 h.1))

-- a word that counts by `( seat )`
joined_seat :
    (E : Bound) (c : Token) (f : ASeat → Count) → ((L : List Token) (q : ASeat) → SpellsSeat E L q
    → SpellsCounted E (c ∷ Open ∷ L ++ Close ∷ []) (f q))
    → (P Q : List Token) (q : ASeat) (a : Count) → IsSeatAnd Close E P q → (Q ≡ []) × (a ≡ f q) → SpellsCounted E (c ∷ P ++ Q) a
joined_seat E c f of P Q q a h m = rw (m.0, m.1, append-nil P, h.2) (of h.0 q h.1)

reads_count :
    (E : Bound) (c : Token) (f : ASeat → Count) → ((L : List Token) (q : ASeat) → SpellsSeat E L q
    → SpellsCounted E (c ∷ Open ∷ L ++ Close ∷ []) (f q))
    → (S : List Token) → Reads (λ P. SpellsCounted E (c ∷ P)) (λ S. after (seat_in_brackets E S) (λ q R. got (f q) R))
    S (after (seat_in_brackets E S) (λ q R. got (f q) R))
reads_count E c f of S =
    reads_after (IsSeatAnd Close E) (λ q Q a. (Q ≡ []) × (a ≡ f q)) (λ P. SpellsCounted E (c ∷ P))
    (seat_in_brackets E) (λ q R. got (f q) R) S (seat_in_brackets E S)
    (joined_seat E c f of) (λ q. ([], f q, (refl, refl))) (reads_seat_in_brackets E S) (λ q R. gets _ (f q) R (refl, refl))

pub reads_count_of : (E : Bound) (S : List Token) → Reads (SpellsCounted E) (count_of E) S (count_of E S)
unfolding count_of
reads_count_of E [] = stops_at_end _ (count_of E) (some_count E) refl
reads_count_of E (Measure m ∷ S) =
    reads_token _ _ (Measure m) (λ S. after (open_seat E S) (rest_of_measure E m)) (count_of E) S _ (λ P x h. h) (λ X. refl)
    (reads_behind_seat E (λ Q. SpellsCounted E (Measure m ∷ Q)) (rest_of_measure E m) S
    (λ q. (Close ∷ [], measured m q, λ L h. count measure h)) (reads_rest_of_measure E m))
reads_count_of E (Len ∷ S) =
    reads_token _ _ Len (λ S. after (seat_and_suit E S) (λ p R. got (suit_length p.0 p.1) R)) (count_of E) S _ (λ P x m. m) (λ X. refl)
    (reads_after (AreSeatAndSuit E) (λ p Q a. (Q ≡ []) × (a ≡ suit_length p.0 p.1)) (λ P. SpellsCounted E (Len ∷ P))
    (seat_and_suit E) (λ p R. got (suit_length p.0 p.1) R) S (seat_and_suit E S)
    (joined_len E) (λ p. ([], suit_length p.0 p.1, (refl, refl))) (reads_seat_and_suit E S) (λ p R. gets _ (suit_length p.0 p.1) R (refl, refl)))
reads_count_of E (Cards ∷ S) =
    reads_token _ _ Cards (λ S. after (open_seat_comma E S) (λ q R. rest_of_cards E q R)) (count_of E) S _ (λ P x m. m) (λ X. refl)
    (reads_after (IsSeatAnd Comma E) (CountsCards E) (λ Q. SpellsCounted E (Cards ∷ Q)) (open_seat_comma E)
    (λ q R. rest_of_cards E q R) S (open_seat_comma E S)
    (joined_cards E) (λ q. (Ranks some_ranks ∷ Close ∷ [], cards_held q some_ranks, λ L h. count cards h))
    (reads_open_seat_comma E S) (reads_rest_of_cards E))
reads_count_of E (Ordered o ∷ S) =
    reads_token _ _ (Ordered o) (λ S. after (seat_in_brackets E S) (λ q R. got (length_by o q) R)) (count_of E) S _ (λ P x m. m) (λ X. refl)
    (reads_count E (Ordered o) (length_by o) (λ L q h. count (ordered_suit (has_order o)) h) S)
reads_count_of E (c ∷ S) = stops_at _ c (count_of E) S (some_count E) (λ X. refl)

-- a count alone
reads_count_alone : (N : Meanings) (E : Bound) (S : List Token) → Reads (SpellsAtom N E) (count_alone E) S (count_alone E S)
reads_count_alone N E S =
    reads_after (SpellsCounted E) (λ k Q a. (Q ≡ []) × (a ≡ counted k)) (SpellsAtom N E) (count_of E) (λ k R. got (counted k) R) S (count_of E S)
    (λ P Q k a h m. rw (m.0, m.1, append-nil P) (a_count h)) (λ k. ([], counted k, (refl, refl))) (reads_count_of E S)
    (λ k R. gets _ (counted k) R (refl, refl))

-- nothing, or a factor's count, after a number
reads_rest_of_number : (N : Meanings) (E : Bound) (n : ℕ) (S : List Token)
    → Reads (λ P. SpellsAtom N E (Number n ∷ P)) (rest_of_number E n) S (rest_of_number E n S)
reads_rest_of_number N E n [] = gets_at_end _ (rest_of_number E n) (number n) a_number refl
reads_rest_of_number N E n (Star ∷ S) =
    reads_token (λ P. SpellsAtom N E (Number n ∷ Star ∷ P)) _ Star
    (λ S. after (count_of E S) (λ k R. got (times n k) R)) (rest_of_number E n) S _ (λ P x m. m) (λ X. refl)
    (reads_after (SpellsCounted E) (λ k Q a. (Q ≡ []) × (a ≡ times n k)) (λ P. SpellsAtom N E (Number n ∷ Star ∷ P))
    (count_of E) (λ k R. got (times n k) R) S (count_of E S)
    (λ P Q k a h m. rw (m.0, m.1, append-nil P) (multiple tt h)) (λ k. ([], times n k, (refl, refl)))
    (reads_count_of E S) (λ k R. gets _ (times n k) R (refl, refl)))
reads_rest_of_number N E n (c ∷ S) = gets_at _ c (rest_of_number E n) S (number n) a_number (λ X. refl)

pub reads_number_or_count : (N : Meanings) (E : Bound) (S : List Token) → Reads (SpellsAtom N E) (number_or_count E) S (number_or_count E S)
unfolding number_or_count
reads_number_or_count N E [] = reads_like _ (count_alone E) (number_or_count E) [] _
    (like_at_end (count_alone E) (number_or_count E) refl) (reads_count_alone N E [])
reads_number_or_count N E (Number n ∷ S) =
    reads_token (λ P. SpellsAtom N E (Number n ∷ P)) (SpellsAtom N E) (Number n) (rest_of_number E n)
    (number_or_count E) S _ (λ P x m. m) (λ X. refl) (reads_rest_of_number N E n S)
reads_number_or_count N E (c ∷ S) = reads_like _ (count_alone E) (number_or_count E) (c ∷ S) _
    (like_at (count_alone E) (number_or_count E) c S (λ X. refl)) (reads_count_alone N E (c ∷ S))
