use Rattle.std.proofs.Common.{◌∙◌, sym, ap}
use Rattle.cards.specs.Packed.{flag_in}
use Rattle.cards.proofs.PackedDeals.{flag_shown}
use Rattle.cards.proofs.packed.Packed.flag.Goals as goal

pub returns : goal.returns
returns c =
    let p = c.self.inside in
    sym (flag_shown p.first p.second p.third) ∙ ap flag_in c.self.view_is
