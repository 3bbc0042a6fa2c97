-- Tests of all cards.
use Rattle.std.proofs.Common.{◌≡◌, ℕ, ◌<◌, Bool, false, true, length, ap, ◌∙◌}
use Rattle.std.specs.List.{list_all, list_any}
use Rattle.std.proofs.lemmas.List.Elements.{All-from_get_or}
use Rattle.std.proofs.lemmas.List.Folds.{list_all_at, list_any_at, list_any_none}
use Rattle.std.proofs.lemmas.List.Sums.{list_all-from_AllPass}
use Rattle.cards.proofs.Tracing.{get_or-pack, length-pack}
use Rattle.cards.specs.Shuffle.{pack}

in_pack : (c : ℕ) → c < 52 → c < length pack
in_pack c h = rw length-pack h

below_52 : (c : ℕ) → c < length pack → c < 52
below_52 c h = rw length-pack at h

pub all_cards : (test : ℕ → Bool) → ((c : ℕ) → c < 52 → test c ≡ true) → list_all test pack ≡ true
all_cards test each =
    list_all-from_AllPass test pack
    (All-from_get_or (λ c. test c ≡ true) pack 0 (λ k h. ap test (get_or-pack k 0 (below_52 k h)) ∙ each k (below_52 k h)))

pub not_all_cards : (test : ℕ → Bool) (c : ℕ) → c < 52 → test c ≡ false → list_all test pack ≡ false
not_all_cards test c h e = list_all_at test pack c 0 (in_pack c h) (ap test (get_or-pack c 0 h) ∙ e)

pub no_card : (test : ℕ → Bool) → ((c : ℕ) → c < 52 → test c ≡ false) → list_any test pack ≡ false
no_card test each =
    list_any_none test pack
    (All-from_get_or (λ c. test c ≡ false) pack 0 (λ k h. ap test (get_or-pack k 0 (below_52 k h)) ∙ each k (below_52 k h)))

pub some_card : (test : ℕ → Bool) (c : ℕ) → c < 52 → test c ≡ true → list_any test pack ≡ true
some_card test c h e = list_any_at test pack c 0 (in_pack c h) (ap test (get_or-pack c 0 h) ∙ e)
