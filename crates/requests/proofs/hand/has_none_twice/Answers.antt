use Rattle.std.proofs.Common.{◌∙◌, refl, rules, tests}
use Rattle.std.specs.Prelude.{nat_le}
use Rattle.std.proofs.lemmas.Iterator.{YieldsList-from_range}
use Rattle.std.proofs.lemmas.Iterator.Search.{all_from_yields_List}
use Rattle.requests.specs.PredealtHands.{times_in}
use Rattle.requests.proofs.Chains.{all_of_pack}
use Rattle.requests.proofs.hand.has_none_twice.Goals as goal

pub returns : goal.returns
returns c =
    all_from_yields_List (λ k. nat_le (times_in c.args.text.now k) 1) _ _ _ c.all.ensures.ran
    (YieldsList-from_range 0 52 52 refl refl) (λ x r q k. search (rules, tests))
    ∙ all_of_pack (λ k. nat_le (times_in c.args.text.now k) 1)
