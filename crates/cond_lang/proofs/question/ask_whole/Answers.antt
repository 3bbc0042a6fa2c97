use Rattle.std.proofs.Common.{◌<◌, ◌∙◌, ap, arith, sym, Err}
use Rattle.std.proofs.lemmas.Result.{err_from_is_err_and}
use Rattle.conditions.specs.declared.limits.TheConstants.{MOST_PARTS}
use Rattle.conditions.specs.Form.{amount_of, form_of}
use Rattle.conditions.specs.Limits.{atoms_of}
use Rattle.conditions.specs.Questions.{asks_condition, asks_value, parts_asked}
use Rattle.cond_lang.specs.Text.{kinds}
use Rattle.cond_lang.proofs.Asking.{its_tokens_ask, no_value_of, one_text_question, tree_found, tree_refused}
use Rattle.cond_lang.proofs.AtomCounts.{few_atoms}
use Rattle.cond_lang.proofs.Growing.{no_more, one_of}
use Rattle.cond_lang.proofs.SmallNumbers.{small_numbers, small_value_numbers}
use Rattle.cond_lang.proofs.Texts.{no_tokens, piece_fault}
use Rattle.cond_lang.proofs.question.ask_whole.Goals as goal

pub returns-in_err-tokens-clause-fault : goal.returns-in_err-tokens-clause-fault
returns-in_err-tokens-clause-fault g c = λ e h.
    let p = err_from_is_err_and c.from_residual.result c.from_residual.ensures.1 in
    piece_fault c.args.text.now c.from_residual.result c.in_err-tokens.field-0.0 e (p.1 ∙ ap (λ e. Err e) p.2) c.in_err-tokens.ensures.fault h

pub returns-in_err-tokens-clause-spelled : goal.returns-in_err-tokens-clause-spelled
returns-in_err-tokens-clause-spelled g c = λ q h few.
    absurd (no_tokens c.args.text.now c.in_err-tokens.field-0.0 h.tokens c.in_err-tokens.ensures.fault h.cut)

pub returns-in_err-tokens-clause-too_many : goal.returns-in_err-tokens-clause-too_many
returns-in_err-tokens-clause-too_many g c = λ q h more.
    absurd (no_tokens c.args.text.now c.in_err-tokens.field-0.0 h.tokens c.in_err-tokens.ensures.fault h.cut)

pub returns-in_err-grown-clause-fault : goal.returns-in_err-grown-clause-fault
returns-in_err-grown-clause-fault g c = λ e h. absurd (no_tokens c.args.text.now e c.in_ok-tokens.tokens.items h c.in_ok-tokens.ensures.tokens)

pub of_value-requires : goal.of_value-requires
of_value-requires g c =
    let text = c.args.text.now in
    let tokens = c.in_ok-tokens.tokens.items in
    let read = c.as_slice.result.now in
    let spelled = rw c.in-Some.is at c.in_ok-grown.ensures.value in
    let kept = rw c.in-Some-value.is at spelled.1.value in
    rw (c.in-Some-value.value-is, kept.0)
    (record {
      few = kept.1;
      small = small_value_numbers text tokens read spelled.0 c.in_ok-tokens.ensures.tokens c.as_slice.ensures.value spelled.2;
    })

pub returns-in-Some-value-clause-fault : goal.returns-in-Some-value-clause-fault
returns-in-Some-value-clause-fault g c = λ e h. absurd (no_tokens c.args.text.now e c.in_ok-tokens.tokens.items h c.in_ok-tokens.ensures.tokens)

pub returns-in-Some-value-clause-spelled : goal.returns-in-Some-value-clause-spelled
returns-in-Some-value-clause-spelled g c = λ q h few.
    let spelled = rw c.in-Some.is at c.in_ok-grown.ensures.value in
    let kept = rw c.in-Some-value.is at spelled.1.value in
    c.of_value.ensures
    ∙ ap (λ v. asks_value (amount_of v)) c.in-Some-value.value-is
    ∙ ap (λ a. asks_value a) kept.0
    ∙ one_text_question c.args.text.now c.in_ok-tokens.tokens.items c.as_slice.result.now (asks_value spelled.0) q
    c.in_ok-tokens.ensures.tokens c.as_slice.ensures.value spelled.2 h

pub returns-in-Some-value-clause-too_many : goal.returns-in-Some-value-clause-too_many
returns-in-Some-value-clause-too_many g c = λ q h more.
    let spelled = rw c.in-Some.is at c.in_ok-grown.ensures.value in
    let kept = rw c.in-Some-value.is at spelled.1.value in
    let same = one_text_question c.args.text.now c.in_ok-tokens.tokens.items c.as_slice.result.now (asks_value spelled.0) q
    c.in_ok-tokens.ensures.tokens c.as_slice.ensures.value spelled.2 h in
    absurd (omega (arith, more, kept.1, ap parts_asked same))

pub returns-in-None-clause-fault : goal.returns-in-None-clause-fault
returns-in-None-clause-fault g c = λ e h. absurd (no_tokens c.args.text.now e c.in_ok-tokens.tokens.items h c.in_ok-tokens.ensures.tokens)

pub returns-in-None-clause-spelled : goal.returns-in-None-clause-spelled
returns-in-None-clause-spelled g c = λ q h few.
    let spelled = rw c.in-Some.is at c.in_ok-grown.ensures.value in
    let more : MOST_PARTS < atoms_of spelled.0 = rw c.in-None.is at spelled.1.value in
    let same = one_text_question c.args.text.now c.in_ok-tokens.tokens.items c.as_slice.result.now (asks_value spelled.0) q
    c.in_ok-tokens.ensures.tokens c.as_slice.ensures.value spelled.2 h in
    absurd (omega (arith, more, few, ap parts_asked same))

pub returns-in-None-clause-refused : goal.returns-in-None-clause-refused
returns-in-None-clause-refused g c =
    let spelled = rw c.in-Some.is at c.in_ok-grown.ensures.value in
    let more : MOST_PARTS < atoms_of spelled.0 = rw c.in-None.is at spelled.1.value in
    record {
      tokens = c.as_slice.result.now;
      cut = rw c.as_slice.ensures.value c.in_ok-tokens.ensures.tokens;
      spelled = asks_value spelled.0;
      spells = spelled.2;
      more = more;
    }

pub returns-in_err-tree-clause-fault : goal.returns-in_err-tree-clause-fault
returns-in_err-tree-clause-fault g c = λ e h. absurd (no_tokens c.args.text.now e c.in_ok-tokens.tokens.items h c.in_ok-tokens.ensures.tokens)

pub returns-in_err-tree-clause-spelled : goal.returns-in_err-tree-clause-spelled
returns-in_err-tree-clause-spelled g c = λ q h few.
    let p = err_from_is_err_and c.from_residual-in_err-tree.result c.from_residual-in_err-tree.ensures.1 in
    let none = rw c.in_default.is at c.in_ok-grown.ensures.value in
    let read = c.as_slice-2.result.now in
    let asks = its_tokens_ask c.args.text.now c.in_ok-tokens.tokens.items read q c.in_ok-tokens.ensures.tokens c.as_slice-2.ensures.value h in
    rw (p.1, p.2)
    (no_more _ (parts_asked q) few
    (tree_found (kinds read) q c.in_err-tree.field-0.0
    (no_value_of c.as_slice.result.now read (c.as_slice.ensures.value ∙ sym c.as_slice-2.ensures.value) none)
    c.in_err-tree.ensures.found asks))

pub returns-in_err-tree-clause-too_many : goal.returns-in_err-tree-clause-too_many
returns-in_err-tree-clause-too_many g c = λ q h more.
    let p = err_from_is_err_and c.from_residual-in_err-tree.result c.from_residual-in_err-tree.ensures.1 in
    let none = rw c.in_default.is at c.in_ok-grown.ensures.value in
    let read = c.as_slice-2.result.now in
    let asks = its_tokens_ask c.args.text.now c.in_ok-tokens.tokens.items read q c.in_ok-tokens.ensures.tokens c.as_slice-2.ensures.value h in
    rw (p.1, p.2)
    (one_of _ (parts_asked q)
    (tree_found (kinds read) q c.in_err-tree.field-0.0
    (no_value_of c.as_slice.result.now read (c.as_slice.ensures.value ∙ sym c.as_slice-2.ensures.value) none)
    c.in_err-tree.ensures.found asks))

pub returns-in_err-tree-clause-refused : goal.returns-in_err-tree-clause-refused
returns-in_err-tree-clause-refused g c =
    let p = err_from_is_err_and c.from_residual-in_err-tree.result c.from_residual-in_err-tree.ensures.1 in
    let none = rw c.in_default.is at c.in_ok-grown.ensures.value in
    let read = c.as_slice-2.result.now in
    tree_refused c.args.text.now c.in_ok-tokens.tokens.items read c.from_residual-in_err-tree.result c.in_err-tree.field-0.0
    (p.1 ∙ ap (λ e. Err e) p.2) c.in_ok-tokens.ensures.tokens c.as_slice-2.ensures.value
    (no_value_of c.as_slice.result.now read (c.as_slice.ensures.value ∙ sym c.as_slice-2.ensures.value) none)
    c.in_err-tree.ensures.errors (λ at i. c.in_err-tree.ensures.place at (ap (λ e. Err e) i)) (λ i. c.in_err-tree.ensures.many (ap (λ e. Err e) i))

pub of_tree-requires : goal.of_tree-requires
of_tree-requires g c =
    let text = c.args.text.now in
    let tokens = c.in_ok-tokens.tokens.items in
    let read = c.as_slice-2.result.now in
    let tree = form_of c.in_ok-tree.tree in
    record {
      few = few_atoms MOST_PARTS tree c.in_ok-tree.ensures.spelled.1;
      small = small_numbers text tokens read tree c.in_ok-tokens.ensures.tokens c.as_slice-2.ensures.value c.in_ok-tree.ensures.spelled.0;
    }

pub returns-clause-fault : goal.returns-clause-fault
returns-clause-fault g c = λ e h. absurd (no_tokens c.args.text.now e c.in_ok-tokens.tokens.items h c.in_ok-tokens.ensures.tokens)

pub returns-clause-spelled : goal.returns-clause-spelled
returns-clause-spelled g c = λ q h few.
    c.of_condition.ensures
    ∙ ap (λ t. asks_condition t) c.of_tree.ensures
    ∙ one_text_question c.args.text.now c.in_ok-tokens.tokens.items c.as_slice-2.result.now (asks_condition (form_of c.in_ok-tree.tree)) q
    c.in_ok-tokens.ensures.tokens c.as_slice-2.ensures.value c.in_ok-tree.ensures.spelled.0 h

pub returns-clause-too_many : goal.returns-clause-too_many
returns-clause-too_many g c = λ q h more.
    let same = one_text_question c.args.text.now c.in_ok-tokens.tokens.items c.as_slice-2.result.now (asks_condition (form_of c.in_ok-tree.tree)) q
    c.in_ok-tokens.ensures.tokens c.as_slice-2.ensures.value c.in_ok-tree.ensures.spelled.0 h in
    absurd (omega (arith, more, c.in_ok-tree.ensures.spelled.1, ap parts_asked same))
