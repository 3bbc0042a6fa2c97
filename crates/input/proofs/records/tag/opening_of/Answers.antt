use Rattle.std.proofs.Common.{◌∷◌, [], sym}
use Rattle.input.proofs.Tags.{opened, stripped}
use Rattle.input.proofs.records.tag.opening_of.Goals as goal

pub returns : goal.returns
returns c =
    record {
      some = c.requires.some;
      named = c.requires.named;
      kind_is = sym c.requires.kind;
      bytes = opened c.args.text.now c.in_ok-after.after.now c.args.name.now c.in_ok-after-2.after.now c.in_ok-after-3.after.now
          (stripped c.args.text.now (91 ∷ []) c.in_ok-after.after c.in_ok-after.ensures.cases)
          (stripped c.in_ok-after.after.now c.args.name.now c.in_ok-after-2.after c.in_ok-after-2.ensures.cases)
          (stripped c.in_ok-after-2.after.now (32 ∷ 34 ∷ []) c.in_ok-after-3.after c.in_ok-after-3.ensures.cases);
    }
