use Rattle.std.proofs.Common.{◌∙◌, ap, refl, rules, tests}
use Rattle.std.specs.Prelude.{nat_le}
use Rattle.std.proofs.lemmas.Iterator.{YieldsList-from_range}
use Rattle.std.proofs.lemmas.Iterator.Consumers.{YieldsList-from_filter, count_from_yields_List}
use Rattle.std.proofs.lemmas.List.Sums.{length-filter}
use Rattle.std.specs.List.{range_with_len}
use Rattle.requests.specs.PredealtHands.{has_card}
use Rattle.requests.proofs.Chains.{count_of_pack}
use Rattle.requests.proofs.hand.has_room.Goals as goal

pub returns : goal.returns
returns c =
    ap (λ n. nat_le n 13)
    (count_from_yields_List c.filter.result _ c.count.ensures.ran
    (YieldsList-from_filter _ (has_card c.args.text.now)
    (YieldsList-from_range 0 52 52 c.filter.ensures.source refl) c.filter.ensures.closure
    (λ x r q k. search (rules, tests)))
    ∙ length-filter (has_card c.args.text.now) (range_with_len 0 52)
    ∙ count_of_pack (has_card c.args.text.now))
