use Rattle.std.proofs.Common.{refl, rules, tests}
use Rattle.std.proofs.lemmas.Iterator.{YieldsList-from_range}
use Rattle.std.proofs.lemmas.Iterator.Search.{any_from_yields_List}
use Rattle.conditions.specs.Form.{form_of}
use Rattle.screens.specs.Torn.{is_torn_by_ranks, ranks_tear}
use Rattle.screens.specs.Wholes.{honours_by}
use Rattle.screens.proofs.unmet.torn.ranks_tear.Goals as goal

pub returns : goal.returns
unfolding ranks_tear
returns c =
    any_from_yields_List (λ n. is_torn_by_ranks c.args.fixed.now (honours_by n) (form_of c.args.tree.now)) _ _ _
    c.any.ensures.ran (YieldsList-from_range 1 32 31 refl refl) (λ x r q k. search (rules, tests))
