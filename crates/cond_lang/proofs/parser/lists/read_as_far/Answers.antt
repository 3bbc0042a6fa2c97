use Rattle.std.proofs.Common.{refl}
use Rattle.cond_lang.proofs.Beginnings.{is_spelled, none_spelled, read_whole, read_to_fault}
use Rattle.cond_lang.proofs.parser.lists.read_as_far.Goals as goal
use Rattle.cond_lang.proofs.parser.lists.read_as_far.Goals.{in-Ok, in-Err-Syntax, in-Err-Memory}

pub returns-clause-count : goal.returns-clause-count
returns-clause-count c =
    elim c.match-whole.branch [
      | in-Ok w ↦ rw w.result-is (read_whole c.args.tokens.now _ _ _ c.new-parser.ensures w.in-Ok.ensures.gives.2)
      | in-Err-Syntax w ↦
          let g = rw w.in-Err-Syntax.field-0-is at w.in-Err-Syntax.ensures.gives in
          rw w.result-is (read_to_fault c.args.tokens.now _ _ _ c.new-parser.ensures g w.left.ensures)
      | in-Err-Memory w ↦ rw w.result-is tt
    ]

pub returns-clause-whole : goal.returns-clause-whole
returns-clause-whole c =
    elim c.match-whole.branch [
      | in-Ok w ↦
          rw w.result-is
          (λ e. is_spelled c.args.tokens.now _ _ _ c.new-parser.ensures w.in-Ok.ensures.gives.2, λ s. refl)
      | in-Err-Syntax w ↦
          let g = rw w.in-Err-Syntax.field-0-is at w.in-Err-Syntax.ensures.gives in
          rw w.result-is (λ e. absurd (cc), λ s. absurd (none_spelled c.args.tokens.now _ _ c.new-parser.ensures g s))
      | in-Err-Memory w ↦ rw w.result-is tt
    ]
