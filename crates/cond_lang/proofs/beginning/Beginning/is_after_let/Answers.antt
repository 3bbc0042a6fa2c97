use Rattle.std.proofs.Common.{Some, None, sym, ap, ◌∙◌, take}
use Rattle.cond_lang.specs.Continuations.{is_let}
use Rattle.cond_lang.specs.Text.{kinds}
use Rattle.cond_lang.proofs.Beginnings.{kinds_of_part}
use Rattle.cond_lang.proofs.LastLet.{after_let, no_let}
use Rattle.cond_lang.proofs.beginning.Beginning.is_after_let.Goals as goal

pub returns-in-Let : goal.returns-in-Let
returns-in-Let c =
    let b = c.self.inside in
    let same = ap (λ xs. kinds (take b.count xs)) c.as_slice.ensures.value ∙ kinds_of_part b.tokens.items b.count ∙ c.self.view_is in
    sym (ap (λ t. is_let (Some t)) c.in-Let.is)
    ∙ after_let (take b.count c.as_slice.result.now) c.args.self.now (Some c.in-Some.last.now) same c.in-Some.ensures.value

pub returns-in_default : goal.returns-in_default
returns-in_default c =
    let b = c.self.inside in
    let same = ap (λ xs. kinds (take b.count xs)) c.as_slice.ensures.value ∙ kinds_of_part b.tokens.items b.count ∙ c.self.view_is in
    sym (no_let c.in-Some.last.now.token c.in_default.not-Let)
    ∙ after_let (take b.count c.as_slice.result.now) c.args.self.now (Some c.in-Some.last.now) same c.in-Some.ensures.value

pub returns-in-None : goal.returns-in-None
returns-in-None c =
    let b = c.self.inside in
    let same = ap (λ xs. kinds (take b.count xs)) c.as_slice.ensures.value ∙ kinds_of_part b.tokens.items b.count ∙ c.self.view_is in
    after_let (take b.count c.as_slice.result.now) c.args.self.now None same c.in-None.ensures.value
