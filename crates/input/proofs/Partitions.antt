-- The seats of a deal, and the test that each has thirteen cards.
use Rattle.std.proofs.Common.{◌≡◌, ◌==◌, Bool, true, false, List, length, Option, None, Some, refl}
use Rattle.std.proofs.Common.{[], ◌∷◌}
use Rattle.std.specs.List.{list_all}
use Rattle.std.specs.Prelude.{IfSome, IsSome, is_some}
use Rattle.std.proofs.lemmas.Bool.{and_parts, eqb-true}
use Rattle.std.proofs.Common.{eq-eqb, ◌&&◌}
use Rattle.cards.specs.declared.seat.Seat.{Seat}
use Rattle.cards.specs.declared.seat.Seat.TheVariants.{North, East, South, West}
use Rattle.cards.specs.Deals.{IsPartition, cards_of}
use Rattle.input.specs.DealValues.{is_partition, seats_of, whole}
use Rattle.std.proofs.lemmas.List.{length-map}
use Rattle.std.proofs.Common.{ap, map}

is_it : (deal : List Seat) → length deal ≡ 52 → is_partition deal ≡ true → IsPartition deal
is_it deal count test =
    let n = and_parts (cards_of deal North == 13) ((cards_of deal East == 13) &&
    ((cards_of deal South == 13) && ((cards_of deal West == 13) && true))) test in
    let e = and_parts (cards_of deal East == 13) ((cards_of deal South == 13) && ((cards_of deal West == 13) && true)) n.1 in
    let s = and_parts (cards_of deal South == 13) ((cards_of deal West == 13) && true) e.1 in
    let w = and_parts (cards_of deal West == 13) true s.1 in
    record {
      count = count;
      thirteen = λ seat. elim seat as (λ q. cards_of deal q ≡ 13) [
        | North ↦ eqb-true (cards_of deal North) 13 n.0
        | East ↦ eqb-true (cards_of deal East) 13 e.0
        | South ↦ eqb-true (cards_of deal South) 13 s.0
        | West ↦ eqb-true (cards_of deal West) 13 w.0
      ];
    }

pub passes : (deal : List Seat) → IsPartition deal → is_partition deal ≡ true
passes deal p =
    rw (
      eq-eqb (cards_of deal North) 13 (p.thirteen North),
      eq-eqb (cards_of deal East) 13 (p.thirteen East),
      eq-eqb (cards_of deal South) 13 (p.thirteen South),
      eq-eqb (cards_of deal West) 13 (p.thirteen West),
    ) refl

-- ---- the given cards

pub all_some : (deal : List Seat) → list_all is_some (map (λ seat. Some seat) deal) ≡ true
all_some [] = refl
all_some (x ∷ xs) = all_some xs

pub seats_again : (deal : List Seat) → seats_of (map (λ seat. Some seat) deal) ≡ deal
seats_again [] = refl
seats_again (x ∷ xs) = ap (λ l. x ∷ l) (seats_again xs)

none_missing : (seats : List (Option Seat)) → list_all is_some seats ≡ true → seats ≡ map (λ seat. Some seat) (seats_of seats)
none_missing [] all = refl
none_missing (Some seat ∷ seats) all = ap (λ l. Some seat ∷ l) (none_missing seats all)
none_missing (None ∷ seats) all = absurd cc

pub whole_is : (seats : List (Option Seat)) (r : Option (List Seat)) → length seats ≡ 52
    → IfSome r (λ d. IsPartition d) → IfSome r (λ d. seats ≡ map (λ seat. Some seat) d)
    → ((d : List Seat) → IsPartition d → seats ≡ map (λ seat. Some seat) d → IsSome r) → r ≡ whole (Some seats)
whole_is seats (Some deal) count ok is every = rw (is, all_some deal, seats_again deal, passes deal ok) refl
whole_is seats None count ok is every = by_tests (list_all is_some seats) (is_partition (seats_of seats)) refl refl
  where
    by_tests : (p q : Bool) → list_all is_some seats ≡ p → is_partition (seats_of seats) ≡ q → None ≡ whole (Some seats)
    by_tests false q ep eq = rw ep refl
    by_tests true false ep eq = rw (ep, eq) refl
    by_tests true true ep eq =
        absurd (let long : length (seats_of seats) ≡ 52 = simp length-map count in
        let some = every (seats_of seats) (is_it (seats_of seats) long eq) (none_missing seats ep) in
        let bad : false ≡ true = some in cc)
