use Rattle.std.proofs.Common.{◌∙◌, ap, rules, tests}
use Rattle.std.proofs.lemmas.Iterator.Consumers.{nth_from_yields_List}
use Rattle.std.proofs.lemmas.Iterator.Splits.{YieldsList-from_slice_split}
use Rattle.requests.specs.PredealtHands.{is_dot, suits_of}
use Rattle.requests.proofs.Chains.{or_nothing}
use Rattle.requests.proofs.hand.suit_text.Goals as goal

pub returns : goal.returns
returns c =
    ap (λ s. s.now) c.unwrap_or.ensures
    ∙ or_nothing c.nth.result _ (suits_of c.args.text.now) c.args.suit
    (nth_from_yields_List _ _ _ c.nth.ensures.ran
    (YieldsList-from_slice_split _ is_dot c.args.text.now c.split.ensures.rest c.split.ensures.done
    c.split.ensures.closure (λ x r q k. search (rules, tests))))
