use Rattle.std.proofs.Common.{◌∙◌, [], ◌∷◌, ◌++◌, take, ap, sym}
use Rattle.cond_lang.specs.Text.{kinds}
use Rattle.cond_lang.proofs.Beginnings.{kinds_of_part, may_end, may_follow}
use Rattle.cond_lang.proofs.beginning.Beginning.allows.Goals as goal

pub returns-in_ok-read_as_far-in-None-clause-allowed : goal.returns-in_ok-read_as_far-in-None-clause-allowed
returns-in_ok-read_as_far-in-None-clause-allowed c =
    let b = c.self.inside in
    let same =
    ap (λ xs. kinds (take b.count xs)) c.as_slice.ensures.value ∙ kinds_of_part b.tokens.items b.count ∙ c.self.view_is in
    may_end c.args.self.now _ c.args.kind _ same (c.token.ensures.end c.in-None.is) c.in_ok-read_as_far-in-None.ensures.whole

pub returns-in_ok-read_as_far-in-Some-clause-allowed : goal.returns-in_ok-read_as_far-in-Some-clause-allowed
returns-in_ok-read_as_far-in-Some-clause-allowed c =
    let b = c.self.inside in
    let same =
    ap (λ xs. kinds (take b.count xs)) c.as_slice.ensures.value ∙ kinds_of_part b.tokens.items b.count ∙ c.self.view_is in
    let is =
    ap kinds c.as_slice-in-Some.ensures.value ∙ c.in-Ok.ensures ∙ ap (λ T. T ++ c.in-Some.token ∷ []) same in
    may_follow c.args.self.now c.as_slice-in-Some.result.now c.args.kind c.in-Some.token _ _ c.in-Some.ensures.some is
    (c.len.ensures ∙ sym c.as_slice-in-Some.ensures.len)
    c.in_ok-read_as_far-in-Some.ensures.count
