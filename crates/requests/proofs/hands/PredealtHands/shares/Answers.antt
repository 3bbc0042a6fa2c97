use Rattle.std.proofs.Common.{◌∙◌, ◌&&◌, refl, rules, tests}
use Rattle.std.specs.Prelude.{is_some}
use Rattle.std.proofs.lemmas.Iterator.{YieldsList-from_range}
use Rattle.std.proofs.lemmas.Iterator.Search.{any_from_yields_List}
use Rattle.requests.specs.PredealtHands.{given_by, has_card, seat_given, shares}
use Rattle.requests.proofs.Chains.{any_of_pack}
use Rattle.requests.proofs.hands.PredealtHands.shares.Goals as goal

pub returns : goal.returns
unfolding shares
returns c =
    any_from_yields_List (λ k. has_card c.args.text.now k && is_some (seat_given (given_by c.args.self.now) k)) _ _ _
    c.any.ensures.ran (YieldsList-from_range 0 52 52 refl refl) (λ x r q k. search (rules, tests))
    ∙ any_of_pack (λ k. has_card c.args.text.now k && is_some (seat_given (given_by c.args.self.now) k))
