use Rattle.std.proofs.Common.{◌∷◌, []}
use Rattle.input.proofs.Tags.{halves, stripped, told_tag}
use Rattle.input.proofs.records.tag.tag_at.Goals as goal

pub returns-clause-text : goal.returns-clause-text
returns-clause-text c =
    let opening = c.in_ok-opening.opening in
    told_tag c.args.text.now opening.name.now opening.after.now c.split_at.result.0.now c.split_at.result.1.now
    c.in_ok-rest.rest.now c.in_ok-opening.ensures.bytes
    (halves c.value_length.result _ _ _ c.split_at.ensures.front c.split_at.ensures.back)
    (stripped c.split_at.result.1.now (34 ∷ 93 ∷ []) c.in_ok-rest.rest c.in_ok-rest.ensures.cases)
