-- What chains over all cards, and over the suits of a text, give.
use Rattle.std.proofs.Common.{◌≡◌, ◌∙◌, ◌<◌, ℕ, Bool, List, Option, None, Some, ap, length, map, refl, get_or}
use Rattle.std.specs.Borrow.{Bor}
use Rattle.std.specs.Prelude.{count_by, option_map, slice_get, unwrap_or}
use Rattle.std.specs.List.{list_all, list_any, range_with_len}
use Rattle.std.proofs.lemmas.Option.{unwrap_or-slice_get}
use Rattle.std.proofs.lemmas.List.FromFn.{fill_by_all}
use Rattle.cards.specs.declared.seat.Seat.{Seat}
use Rattle.cards.specs.Shuffle.{pack}

pub all_of_pack : (test : ℕ → Bool) → list_all test (range_with_len 0 52) ≡ list_all test pack
unfolding pack
all_of_pack test = refl

pub count_of_pack : (test : ℕ → Bool) → count_by test (range_with_len 0 52) ≡ count_by test pack
unfolding pack
count_of_pack test = refl

pub any_of_pack : (test : ℕ → Bool) → list_any test (range_with_len 0 52) ≡ list_any test pack
unfolding pack
any_of_pack test = refl

-- the seats of all cards, card by card
pub all_seats : (f : ℕ → Option Seat) (seats : List (Option Seat)) → length seats ≡ 52
    → ((k : ℕ) → k < 52 → get_or seats k None ≡ f k) → seats ≡ map f pack
unfolding pack
all_seats f seats count each = fill_by_all f seats 52 None count each

-- what a reference points to, where there is one
pub or_nothing : (r : Option (Bor (List ℕ))) (d : Bor (List ℕ)) (xs : List (List ℕ)) (n : ℕ)
    → option_map (λ x. x.now) r ≡ slice_get xs n → (unwrap_or r d).now ≡ get_or xs n d.now
or_nothing None d xs n e = ap (λ o. unwrap_or o d.now) e ∙ unwrap_or-slice_get xs n d.now
or_nothing (Some x) d xs n e = ap (λ o. unwrap_or o d.now) e ∙ unwrap_or-slice_get xs n d.now
