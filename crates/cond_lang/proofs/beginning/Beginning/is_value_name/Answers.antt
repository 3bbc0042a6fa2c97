use Rattle.std.proofs.Common.{◌∙◌, IfOk, ap, subst, take}
use Rattle.cond_lang.specs.Definitions.{TellsName}
use Rattle.cond_lang.specs.Text.{kinds}
use Rattle.cond_lang.proofs.Beginnings.{kinds_of_part}
use Rattle.cond_lang.proofs.beginning.Beginning.is_value_name.Goals as goal

pub returns-clause-told : goal.returns-clause-told
returns-clause-told c =
    let b = c.self.inside in
    let same =
    ap (λ xs. kinds (take b.count xs)) c.as_slice.ensures.value ∙ kinds_of_part b.tokens.items b.count ∙ c.self.view_is in
    subst (λ T. IfOk c.is_value_name.result (λ told. TellsName T c.args.name told)) same c.is_value_name.ensures.told
