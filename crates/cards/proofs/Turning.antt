-- A turned deal has the same hands, each at another seat.
use Rattle.std.proofs.Common.{◌≡◌, ◌==◌, ℕ, List, [], ◌∷◌, refl, sym, ap, ◌∙◌}
use Rattle.std.specs.Int.RustNames.{count_ones}
use Rattle.std.proofs.lemmas.List.{length-map}
use Rattle.std.proofs.lemmas.Simd.{ones-mask_l}
use lib.Lanes.{mask_l}
use Rattle.cards.specs.declared.seat.Seat.{Seat}
use Rattle.cards.specs.declared.seat.Seat.TheVariants.{North, East, South, West}
use Rattle.cards.specs.Pack.{seat_number}
use Rattle.cards.specs.Deals.{IsPartition, cards_of}
use Rattle.cards.specs.Turning.{next_seat, goes_to, turned}
use Rattle.cards.specs.Hands.{hand_of}
use Rattle.cards.specs.internal.Masks.{IsMasks, seat_mask, seats_of_masks}
use Rattle.cards.proofs.DealMasks.{masks_view}
use Rattle.cards.proofs.FullMasks.{masks_of_partition}

-- two seats are the same exactly if their next ones are
same_next : (a b : Seat) → (seat_number (next_seat a) == seat_number (next_seat b)) ≡ (seat_number a == seat_number b)
same_next North North = refl
same_next East North = refl
same_next South North = refl
same_next West North = refl
same_next a b = refl

same_place : (to a b : Seat) → (seat_number (goes_to to a) == seat_number (goes_to to b)) ≡ (seat_number a == seat_number b)
same_place North a b = refl
same_place East a b = same_next a b
same_place South a b = same_next (next_seat a) (next_seat b) ∙ same_next a b
same_place West a b = same_next (next_seat (next_seat a)) (next_seat (next_seat b)) ∙ same_next (next_seat a) (next_seat b) ∙ same_next a b

-- Each hand goes as it is.
pub hand_kept : (to seat : Seat) (deal : List Seat) → hand_of (turned to deal) (goes_to to seat) ≡ hand_of deal seat
hand_kept to seat [] = refl
hand_kept to seat (holder ∷ deal) =
    ap (λ b. b ∷ hand_of (turned to deal) (goes_to to seat)) (same_place to holder seat)
    ∙ ap (λ hand. (seat_number holder == seat_number seat) ∷ hand) (hand_kept to seat deal)

cards_kept : (to seat : Seat) (deal : List Seat) → cards_of (turned to deal) (goes_to to seat) ≡ cards_of deal seat
cards_kept to seat deal =
    sym (ones-mask_l (λ holder. seat_number holder == seat_number (goes_to to seat)) (turned to deal))
    ∙ ap (λ hand. count_ones (mask_l hand)) (hand_kept to seat deal)
    ∙ ones-mask_l (λ holder. seat_number holder == seat_number seat) deal

-- each seat is where some hand goes
came_from : (to seat : Seat) → (from : Seat) × (goes_to to from ≡ seat)
came_from North seat = (seat, refl)
came_from East North = (West, refl)
came_from East East = (North, refl)
came_from East South = (East, refl)
came_from East West = (South, refl)
came_from South North = (South, refl)
came_from South East = (West, refl)
came_from South South = (North, refl)
came_from South West = (East, refl)
came_from West North = (East, refl)
came_from West East = (South, refl)
came_from West South = (West, refl)
came_from West West = (North, refl)

pub partition_kept : (to : Seat) (deal : List Seat) → IsPartition deal → IsPartition (turned to deal)
partition_kept to deal ok =
    record {
      count = length-map deal (goes_to to) ∙ ok.count;
      thirteen = λ seat.
          let from = came_from to seat in
          ap (cards_of (turned to deal)) (sym from.1) ∙ cards_kept to from.0 deal ∙ ok.thirteen from.0;
    }

-- the mask of a seat where a hand has gone is the hand's
mask_kept : (to from seat : Seat) (deal : List Seat) (mask : ℕ) → goes_to to from ≡ seat → mask ≡ seat_mask deal from
    → mask ≡ seat_mask (turned to deal) seat
mask_kept to from seat deal mask goes is =
    is ∙ ap mask_l (sym (hand_kept to from deal)) ∙ ap (seat_mask (turned to deal)) goes

-- four masks of a deal, each taken for the seat where its hand goes, are those of the turned deal
pub masks_turned :
    (to a b c d : Seat) (deal : List Seat) (n e s w : ℕ) → IsPartition deal
    → goes_to to a ≡ North → goes_to to b ≡ East → goes_to to c ≡ South → goes_to to d ≡ West
    → n ≡ seat_mask deal a → e ≡ seat_mask deal b → s ≡ seat_mask deal c → w ≡ seat_mask deal d
    → IsMasks n e s w × (seats_of_masks n e s ≡ turned to deal)
masks_turned to a b c d deal n e s w ok ga gb gc gd ia ib ic id =
    let north = mask_kept to a North deal n ga ia in
    let east = mask_kept to b East deal e gb ib in
    let south = mask_kept to c South deal s gc ic in
    let west = mask_kept to d West deal w gd id in
    let turn : IsPartition (turned to deal) = partition_kept to deal ok in (
      masks_of_partition (turned to deal) n e s w turn north east south west,
      masks_view (turned to deal) n e s turn north east south,
    )
