use Rattle.std.proofs.Common.{◌≡◌, ap, ◌∙◌, arith, Err}
use Rattle.std.proofs.lemmas.Result.{err_from_is_err_and}
use Rattle.conditions.specs.declared.limits.TheConstants.{MOST_PARTS}
use Rattle.conditions.specs.Form.{form_of}
use Rattle.conditions.specs.Limits.{parts_of}
use Rattle.cond_lang.proofs.Texts.{piece_no_limit, piece_refused, piece_fault, no_tokens, one_text_tree, its_tokens_spell}
use Rattle.cond_lang.proofs.AtomCounts.{few_atoms}
use Rattle.cond_lang.proofs.Growing.{no_more, one_of}
use Rattle.cond_lang.proofs.SmallNumbers.{small_numbers}
use Rattle.cond_lang.proofs.condition.parse_whole.Goals as goal

pub returns-in_err-tokens-clause-short : goal.returns-in_err-tokens-clause-short
returns-in_err-tokens-clause-short g c = λ h.
    let p = err_from_is_err_and c.from_residual.result c.from_residual.ensures.1 in
    piece_no_limit c.args.text.now c.from_residual.result c.in_err-tokens.field-0.0 (p.1 ∙ ap (λ e. Err e) p.2) c.in_err-tokens.ensures.fault h

pub returns-in_err-tokens-clause-fault : goal.returns-in_err-tokens-clause-fault
returns-in_err-tokens-clause-fault g c = λ e h.
    let p = err_from_is_err_and c.from_residual.result c.from_residual.ensures.1 in
    piece_fault c.args.text.now c.from_residual.result c.in_err-tokens.field-0.0 e (p.1 ∙ ap (λ e. Err e) p.2) c.in_err-tokens.ensures.fault h

pub returns-in_err-tokens-clause-spelled : goal.returns-in_err-tokens-clause-spelled
returns-in_err-tokens-clause-spelled g c = λ t h few.
    absurd (no_tokens c.args.text.now c.in_err-tokens.field-0.0 h.tokens c.in_err-tokens.ensures.fault h.cut)

pub returns-in_err-tokens-clause-too_many : goal.returns-in_err-tokens-clause-too_many
returns-in_err-tokens-clause-too_many g c = λ t h more.
    absurd (no_tokens c.args.text.now c.in_err-tokens.field-0.0 h.tokens c.in_err-tokens.ensures.fault h.cut)

pub returns-in_err-tokens-clause-refused : goal.returns-in_err-tokens-clause-refused
returns-in_err-tokens-clause-refused g c =
    let p = err_from_is_err_and c.from_residual.result c.from_residual.ensures.1 in
    piece_refused c.args.text.now c.from_residual.result c.in_err-tokens.field-0.0 (p.1 ∙ ap (λ e. Err e) p.2) c.in_err-tokens.ensures.fault

pub returns-in_err-tree-clause-fault : goal.returns-in_err-tree-clause-fault
returns-in_err-tree-clause-fault g c = λ e h. absurd (no_tokens c.args.text.now e c.in_ok-tokens.tokens.items h c.in_ok-tokens.ensures.tokens)

pub returns-in_err-tree-clause-spelled : goal.returns-in_err-tree-clause-spelled
returns-in_err-tree-clause-spelled g c = λ t h few.
    let p = err_from_is_err_and c.from_residual-in_err-tree.result c.from_residual-in_err-tree.ensures.1 in
    let s = its_tokens_spell c.args.text.now c.in_ok-tokens.tokens.items c.as_slice.result.now t
    c.in_ok-tokens.ensures.tokens c.as_slice.ensures.value h in
    rw (p.1, p.2) (no_more _ (parts_of t) few (c.in_err-tree.ensures.found t s))

pub returns-in_err-tree-clause-too_many : goal.returns-in_err-tree-clause-too_many
returns-in_err-tree-clause-too_many g c = λ t h more.
    let p = err_from_is_err_and c.from_residual-in_err-tree.result c.from_residual-in_err-tree.ensures.1 in
    let s = its_tokens_spell c.args.text.now c.in_ok-tokens.tokens.items c.as_slice.result.now t
    c.in_ok-tokens.ensures.tokens c.as_slice.ensures.value h in
    rw (p.1, p.2) (one_of _ (parts_of t) (c.in_err-tree.ensures.found t s))

pub of_tree-requires : goal.of_tree-requires
of_tree-requires g c =
    let text = c.args.text.now in
    let tokens = c.in_ok-tokens.tokens.items in
    let read = c.as_slice.result.now in
    let tree = form_of c.in_ok-tree.tree in
    record {
      few = few_atoms MOST_PARTS tree c.in_ok-tree.ensures.spelled.1;
      small = small_numbers text tokens read tree c.in_ok-tokens.ensures.tokens c.as_slice.ensures.value c.in_ok-tree.ensures.spelled.0;
    }

pub returns-clause-fault : goal.returns-clause-fault
returns-clause-fault g c = λ e h. absurd (no_tokens c.args.text.now e c.in_ok-tokens.tokens.items h c.in_ok-tokens.ensures.tokens)

pub returns-clause-spelled : goal.returns-clause-spelled
returns-clause-spelled g c = λ t h few.
    c.of_tree.ensures
    ∙ one_text_tree c.args.text.now c.as_slice.result.now (form_of c.in_ok-tree.tree) t
    (rw c.as_slice.ensures.value c.in_ok-tokens.ensures.tokens) c.in_ok-tree.ensures.spelled.0 h

pub returns-clause-too_many : goal.returns-clause-too_many
returns-clause-too_many g c = λ t h more.
    let same : form_of c.in_ok-tree.tree ≡ t =
    one_text_tree c.args.text.now c.as_slice.result.now (form_of c.in_ok-tree.tree) t
    (rw c.as_slice.ensures.value c.in_ok-tokens.ensures.tokens) c.in_ok-tree.ensures.spelled.0 h in
    absurd (omega (arith, more, c.in_ok-tree.ensures.spelled.1, ap parts_of same))
