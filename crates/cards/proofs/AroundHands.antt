-- The hands that are dealt around fixed cards, seat after seat.
use Rattle.std.proofs.Common.{◌≡◌, ℕ, ◌+◌, ◌-◌, ◌≤◌, ◌≢◌, ◌==◌}
use Rattle.std.proofs.Common.{List, refl, sym, ap, ◌∙◌, arith, subst}
use Rattle.std.specs.Prelude.{Option, if◌then◌else◌}
use Rattle.std.proofs.lemmas.Bool.Decides.{nat_tests}
use Rattle.std.specs.Int.Bits.{bit_or, or_zero_r}
use Rattle.cards.specs.declared.seat.Seat.{Seat}
use Rattle.cards.specs.declared.seat.Seat.TheVariants.{North, East, South, West}
use Rattle.cards.specs.Fixed.{IsFixed, free_count, places_for, room}
use Rattle.cards.specs.declared.around.Side.{Side}
use Rattle.cards.specs.internal.Around.{AreCards, IsDealingAround, IsKept, IsListed, IsSettled, IsSide, draws_around}
use Rattle.cards.specs.internal.Dealings.{IsSouthDealt, IsWestDealt, drawn_deal}
use Rattle.cards.specs.internal.Masks.{IsMasks, seat_mask, seats_of_masks}
use Rattle.cards.proofs.FullMasks.{rest_to_east, rest_to_north}
use Rattle.cards.specs.internal.PackedMasks.{rest_of}
use Rattle.lcg48.specs.Sequence.{state_after}
use Rattle.cards.proofs.FreeCards.{dealing_around_at, dealing_around_first, no_mask}
use Rattle.cards.proofs.AroundDeals.{rooms_together, first_of, around_is_partition, seat_mask_around}

-- the mask of a seat whose positions are settled
seat_settled : (fixed : List (Option Seat)) (free : List ℕ) (x old new : ℕ) (cards next : List ℕ) (side : Side)
    (q : Seat) (set low high : ℕ) → IsFixed fixed → IsSide fixed q side
    → low ≡ first_of fixed q → high ≡ first_of fixed q + room fixed q → IsSettled old new cards next set low high
    → high ≤ free_count fixed → IsDealingAround fixed free x old cards high
    → bit_or side.mask set ≡ seat_mask (drawn_deal fixed x) q
seat_settled fixed free x old new cards next side q set low high ok kept from to settled inside d =
    seat_mask_around fixed x q side.mask set ok kept.mask (settled.mask fixed free x inside d ∙ rw (from, to) refl)

-- what is kept, of the list that contracts see
pub kept_of : (kept fixed : List (Option Seat)) (n e s w : Side) (free : List ℕ) (count : ℕ) → kept ≡ fixed
    → IsKept kept n e s w free count → IsKept fixed n e s w free count
kept_of kept fixed n e s w free count same k = subst (λ f. IsKept f n e s w free count) same k

-- the seat's positions are those below `high`, so many
pub record IsNext (fixed : List (Option Seat)) (q : Seat) (high size : ℕ) : Type 0 where
  pub high_is : high ≡ first_of fixed q + room fixed q
  pub size_is : size ≡ room fixed q

-- with no card fixed
pub next_of_whole : (fixed : List (Option Seat)) → IsFixed fixed → free_count fixed ≡ 52
    → IsNext fixed West 52 13 × IsNext fixed South 39 13 × IsNext fixed East 26 13
next_of_whole fixed ok all =
    let sum = rooms_together fixed ok in (
      record { high_is = omega (arith, sum, all); size_is = omega (arith, sum, all) },
      record { high_is = omega (arith, sum, all); size_is = omega (arith, sum, all) },
      record { high_is = omega (arith, sum, all); size_is = omega (arith, sum, all) },
    )

-- and with some
pub next_of_kept : (fixed : List (Option Seat)) (n e s w : Side) (free : List ℕ) (count : ℕ) → IsKept fixed n e s w free count
    → IsNext fixed West count w.room × IsNext fixed South (count - w.room) s.room × IsNext fixed East (count - w.room - s.room) e.room
next_of_kept fixed n e s w free count k =
    let sum = rooms_together fixed k.fits in
    let west = k.west.room in
    let south = k.south.room in (
      record { high_is = omega (arith, sum, k.all); size_is = west },
      record { high_is = omega (arith, sum, k.all, west); size_is = south },
      record { high_is = omega (arith, sum, k.all, west, south); size_is = k.east.room },
    )

-- what West's exchanges leave
pub west_dealt : (fixed : List (Option Seat)) (n e s w : Side) (free : List ℕ) (count high size x now : ℕ)
    (cards : List ℕ) (set : ℕ) → IsKept fixed n e s w free count → IsNext fixed West high size
    → AreCards cards → IsSettled x now free cards set (high - size) high → IsWestDealt fixed x now cards (bit_or w.mask set)
west_dealt fixed n e s w free count high size x now cards set k next are_cards settled =
    let sum = rooms_together fixed k.fits in
    let first : IsDealingAround fixed free x x free high =
    dealing_around_at fixed free x x free (free_count fixed) high (omega (arith, sum, next.high_is))
    (dealing_around_first fixed free x k.fits.count (subst (IsListed fixed free) k.all k.listed)) in
    record {
      is_open = record {
        are_cards = are_cards;
        free = free;
        dealing =
            dealing_around_at fixed free x now cards (high - size) (free_count fixed - room fixed West)
            (omega (arith, sum, next.high_is, next.size_is))
            (settled.dealing fixed free x (omega (arith, sum, next.high_is)) first);
      };
      west_is = seat_settled fixed free x x now free cards w West set (high - size) high k.fits k.west
          (omega (arith, next.high_is, next.size_is)) next.high_is settled (omega (arith, sum, next.high_is)) first;
    }

-- what South's leave
pub south_dealt : (fixed : List (Option Seat)) (n e s w : Side) (free : List ℕ) (count high size x old now : ℕ)
    (cards later : List ℕ) (west set : ℕ) → IsKept fixed n e s w free count → IsNext fixed South high size
    → AreCards later → IsSettled old now cards later set (high - size) high → IsWestDealt fixed x old cards west
    → IsSouthDealt fixed x now later west (bit_or s.mask set)
south_dealt fixed n e s w free count high size x old now cards later west set k next are_cards settled before =
    let sum = rooms_together fixed k.fits in
    let at : IsDealingAround fixed before.is_open.free x old cards high =
    dealing_around_at fixed before.is_open.free x old cards (free_count fixed - room fixed West) high
    (omega (arith, sum, next.high_is)) before.is_open.dealing in
    record {
      is_open = record {
        are_cards = are_cards;
        free = before.is_open.free;
        dealing =
            dealing_around_at fixed before.is_open.free x now later (high - size)
            (free_count fixed - room fixed West - room fixed South)
            (omega (arith, sum, next.high_is, next.size_is))
            (settled.dealing fixed before.is_open.free x (omega (arith, sum, next.high_is)) at);
      };
      west_is = before.west_is;
      south_is = seat_settled fixed before.is_open.free x old now cards later s South set (high - size) high k.fits
          k.south (omega (arith, next.high_is, next.size_is)) next.high_is settled (omega (arith, sum, next.high_is))
          at;
    }

-- East's hand
pub east_dealt : (fixed : List (Option Seat)) (n e s w : Side) (free : List ℕ) (count high size x old now : ℕ)
    (cards later : List ℕ) (west south set : ℕ) → IsKept fixed n e s w free count → IsNext fixed East high size
    → IsSettled old now cards later set (high - size) high → IsSouthDealt fixed x old cards west south
    → bit_or e.mask set ≡ seat_mask (drawn_deal fixed x) East
east_dealt fixed n e s w free count high size x old now cards later west south set k next settled before =
    let sum = rooms_together fixed k.fits in
    let at : IsDealingAround fixed before.is_open.free x old cards high =
    dealing_around_at fixed before.is_open.free x old cards (free_count fixed - room fixed West - room fixed South)
    high (omega (arith, sum, next.high_is)) before.is_open.dealing in
    seat_settled fixed before.is_open.free x old now cards later e East set (high - size) high k.fits k.east
    (omega (arith, next.high_is, next.size_is)) next.high_is settled (omega (arith, sum, next.high_is)) at

-- the deal once West's and South's hands are dealt, where North is fixed whole
pub dealt_without_east : (fixed : List (Option Seat)) (n : Side) (x now : ℕ) (cards : List ℕ) (west south : ℕ)
    → IsFixed fixed → IsSide fixed North n → n.room ≡ 0 → IsSouthDealt fixed x now cards west south
    → (IsMasks n.mask (rest_of n.mask south west) south west) × (seats_of_masks n.mask (rest_of n.mask south west) south ≡ drawn_deal fixed x)
dealt_without_east fixed n x now cards west south ok north none dealt =
    let no_room : room fixed North ≡ 0 = omega (arith, none, north.room) in
    let mask : n.mask ≡ seat_mask (drawn_deal fixed x) North =
    sym (or_zero_r n.mask) ∙ seat_mask_around fixed x North n.mask 0 ok north.mask
    (no_mask fixed (places_for (free_count fixed) x) 0 (0 + room fixed North) (omega (arith, no_room))) in
    rest_to_east (drawn_deal fixed x) n.mask south west (around_is_partition fixed x ok) mask dealt.south_is dealt.west_is

-- and once East's is dealt too
pub dealt_without_north : (fixed : List (Option Seat)) (x now : ℕ) (cards : List ℕ) (east west south : ℕ)
    → IsFixed fixed → east ≡ seat_mask (drawn_deal fixed x) East → IsSouthDealt fixed x now cards west south
    → (IsMasks (rest_of east south west) east south west) × (seats_of_masks (rest_of east south west) east south ≡ drawn_deal fixed x)
dealt_without_north fixed x now cards east west south ok dealt_east dealt =
    rest_to_north (drawn_deal fixed x) east south west (around_is_partition fixed x ok) dealt_east dealt.south_is dealt.west_is

-- all hands in a row, by how many cards are free and how many of them each seat gets
chosen_east : (a b : ℕ) → a ≡ 0 → (if a == 0 then b else a) ≡ b
chosen_east a b e = rw e refl

chosen_north : (a b : ℕ) → a ≢ 0 → (if a == 0 then b else a) ≡ a
chosen_north a b ne = grind (arith, nat_tests)

-- how many free cards there are, and how many of them East, South and West get
pub record AreRooms (fixed : List (Option Seat)) (m e s w : ℕ) : Type 0 where
  pub free : m ≡ free_count fixed
  pub east : e ≡ room fixed East
  pub south : s ≡ room fixed South
  pub west : w ≡ room fixed West

-- the deals of West, then South, then East
record AreDealings (fixed : List (Option Seat)) (free : List ℕ) (x one two : ℕ) (cards later : List ℕ)
    (side side' : Side) (m s w s' w' : ℕ) : Type 0 where
  pub first : IsDealingAround fixed free x x free m
  pub second : IsDealingAround fixed free x one cards (m - w)
  pub third : IsDealingAround fixed free x two later (m - w - s)
  pub south : bit_or side.mask s' ≡ seat_mask (drawn_deal fixed x) South
  pub west : bit_or side'.mask w' ≡ seat_mask (drawn_deal fixed x) West

dealings : (fixed : List (Option Seat)) (n e s w : Side) (free : List ℕ) (count m er sr wr x one two : ℕ)
    (cards later : List ℕ) (s' w' : ℕ) → IsKept fixed n e s w free count → AreRooms fixed m er sr wr
    → IsSettled x one free cards w' (m - wr) m → IsSettled one two cards later s' (m - wr - sr) (m - wr)
    → AreDealings fixed free x one two cards later s w m sr wr s' w'
dealings fixed n e s w free count m er sr wr x one two cards later s' w' k rooms wests souths =
    let sum = rooms_together fixed k.fits in
    let first : IsDealingAround fixed free x x free m =
    dealing_around_at fixed free x x free (free_count fixed) m (sym rooms.free)
    (dealing_around_first fixed free x k.fits.count (subst (IsListed fixed free) k.all k.listed)) in
    let second = wests.dealing fixed free x (omega (arith, rooms.free)) first in
    record {
      first = first;
      second = second;
      third = souths.dealing fixed free x (omega (arith, rooms.free)) second;
      south = seat_settled fixed free x one two cards later s South s' (m - wr - sr) (m - wr) k.fits k.south
          (omega (arith, sum, rooms.free, rooms.south, rooms.west)) (omega (arith, sum, rooms.free, rooms.west))
          souths (omega (arith, rooms.free)) second;
      west = seat_settled fixed free x x one free cards w West w' (m - wr) m k.fits k.west
          (omega (arith, sum, rooms.free, rooms.west)) (omega (arith, sum, rooms.free)) wests
          (omega (arith, rooms.free)) first;
    }

-- the deal once West's and South's positions are settled, where North is fixed whole
pub whole_without_east : (fixed : List (Option Seat)) (n e s w : Side) (free : List ℕ)
    (count m er sr wr x one two : ℕ) (cards later : List ℕ) (s' w' : ℕ) → IsKept fixed n e s w free count
    → AreRooms fixed m er sr wr → m - wr - sr ≡ er
    → IsSettled x one free cards w' (m - wr) m → IsSettled one two cards later s' (m - wr - sr) (m - wr)
    → (IsMasks n.mask (rest_of n.mask (bit_or s.mask s') (bit_or w.mask w')) (bit_or s.mask s') (bit_or w.mask w'))
    × (seats_of_masks n.mask (rest_of n.mask (bit_or s.mask s') (bit_or w.mask w')) (bit_or s.mask s') ≡ drawn_deal
    fixed x) × (two ≡ state_after x (draws_around fixed))
whole_without_east fixed n e s w free count m er sr wr x one two cards later s' w' k rooms full wests souths =
    let sum = rooms_together fixed k.fits in
    let at = dealings fixed n e s w free count m er sr wr x one two cards later s' w' k rooms wests souths in
    let none : room fixed North ≡ 0 = omega (arith, sum, rooms.free, rooms.east, rooms.south, rooms.west, full) in
    let north : n.mask ≡ seat_mask (drawn_deal fixed x) North =
    sym (or_zero_r n.mask) ∙ seat_mask_around fixed x North n.mask 0 k.fits k.north.mask
    (no_mask fixed (places_for (free_count fixed) x) 0 (0 + room fixed North) (omega (arith, none))) in
    let rest = rest_to_east (drawn_deal fixed x) n.mask _ _ (around_is_partition fixed x k.fits) north at.south at.west in
    let draws : free_count fixed - (m - wr - sr) ≡ draws_around fixed =
    omega (arith, full, rooms.east, chosen_east (room fixed North) (room fixed East) none) in
    (rest.0, rest.1, at.third.drawn ∙ ap (state_after x) draws)

-- and once East's are settled too
pub whole_without_north : (fixed : List (Option Seat)) (n e s w : Side) (free : List ℕ)
    (count m er sr wr x one two three : ℕ) (cards later last : List ℕ) (e' s' w' : ℕ)
    → IsKept fixed n e s w free count → AreRooms fixed m er sr wr
    → m - wr - sr ≢ er → IsSettled x one free cards w' (m - wr) m
    → IsSettled one two cards later s' (m - wr - sr) (m - wr)
    → IsSettled two three later last e' (m - wr - sr - er) (m - wr - sr)
    → (IsMasks (rest_of (bit_or e.mask e') (bit_or s.mask s') (bit_or w.mask w')) (bit_or e.mask e') (bit_or s.mask s') (bit_or w.mask w'))
    × (seats_of_masks (rest_of (bit_or e.mask e') (bit_or s.mask s') (bit_or w.mask w')) (bit_or e.mask e')
    (bit_or s.mask s') ≡ drawn_deal fixed x) × (three ≡ state_after x (draws_around fixed))
whole_without_north fixed n e s w free count m er sr wr x one two three cards later last e' s' w' k rooms some wests souths easts =
    let sum = rooms_together fixed k.fits in
    let at = dealings fixed n e s w free count m er sr wr x one two cards later s' w' k rooms wests souths in
    let done = easts.dealing fixed free x (omega (arith, rooms.free)) at.third in
    let east = seat_settled fixed free x two three later last e East e' (m - wr - sr - er) (m - wr - sr) k.fits k.east
    (omega (arith, sum, rooms.free, rooms.east, rooms.south, rooms.west))
    (omega (arith, sum, rooms.free, rooms.south, rooms.west)) easts (omega (arith, rooms.free)) at.third in
    let rest = rest_to_north (drawn_deal fixed x) _ _ _ (around_is_partition fixed x k.fits) east at.south at.west in
    let given : room fixed North ≢ 0 = λ z. some (omega (arith, sum, rooms.free, rooms.east, rooms.south, rooms.west, z)) in
    let draws : free_count fixed - (m - wr - sr - er) ≡ draws_around fixed =
    omega (arith, sum, rooms.free, rooms.east, rooms.south, rooms.west, chosen_north (room fixed North) (room fixed East) given) in
    (rest.0, rest.1, done.drawn ∙ ap (state_after x) draws)
