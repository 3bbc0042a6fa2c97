use Rattle.std.proofs.Common.{◌∙◌, [], ap, subst, sym, Err}
use Rattle.std.proofs.lemmas.Result.{err_from_is_err_and}
use Rattle.cond_lang.specs.Definitions.{AreDefinitions}
use Rattle.cond_lang.specs.Text.{kinds}
use Rattle.cond_lang.proofs.Texts.{no_tokens, one_tokens, piece_fault}
use Rattle.cond_lang.proofs.beside.check_definitions.Goals as goal

pub returns-in_err-tokens-clause-fault : goal.returns-in_err-tokens-clause-fault
returns-in_err-tokens-clause-fault c = λ e short h.
    let p = err_from_is_err_and c.from_residual.result c.from_residual.ensures.1 in
    piece_fault c.args.text.now c.from_residual.result c.in_err-tokens.field-0.0 e (p.1 ∙ ap (λ e. Err e) p.2) c.in_err-tokens.ensures.fault h

pub returns-in_err-tokens-clause-accepted : goal.returns-in_err-tokens-clause-accepted
returns-in_err-tokens-clause-accepted c = λ short h.
    absurd (no_tokens c.args.text.now c.in_err-tokens.field-0.0 h.tokens c.in_err-tokens.ensures.fault h.cut)

pub returns-clause-fault : goal.returns-clause-fault
returns-clause-fault c = λ e short h. absurd (no_tokens c.args.text.now e c.in_ok-tokens.tokens.items h c.in_ok-tokens.ensures.tokens)

pub returns-clause-accepted : goal.returns-clause-accepted
returns-clause-accepted c = λ short h.
    let same = one_tokens c.args.text.now h.tokens c.in_ok-tokens.tokens.items h.cut c.in_ok-tokens.ensures.tokens in
    c.read_definitions.ensures.found h.names (subst (λ ts. AreDefinitions [] (kinds ts) h.names) (same ∙ sym c.as_slice.ensures.value) h.gives)
