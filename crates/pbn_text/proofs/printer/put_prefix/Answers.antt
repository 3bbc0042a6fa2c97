use Rattle.std.proofs.Common.{◌≡◌, ◌++◌, ◌∙◌, ap, arith}
use Rattle.std.specs.Prelude.{codes}
use Rattle.pbn_text.specs.Games.{heading_text}
use Rattle.pbn_text.specs.internal.Lines.{prefix_text}
use Rattle.pbn_text.proofs.Buffers.{between_copied, digits_kept}
use Rattle.pbn_text.proofs.printer.put_prefix.Goals as goal

pub returns-clause-prefix : goal.returns-clause-prefix
returns-clause-prefix c =
    let piece : c.copy_from_slice.new.self ≡ prefix_text c.args.heading.now =
    c.copy_from_slice.ensures.after ∙ c.as_slice.ensures.value ∙ c.put.ensures.items
    ∙ ap (λ xs. xs ++ codes "[Board \"") (c.put_heading.ensures.items ∙ ap (λ xs. xs ++ heading_text c.args.heading.now) c.new-lines.ensures) in
    record {
      order = omega arith;
      inside = c.requires.max;
      lines = between_copied c.args.buffer.now c.copy_from_slice.new.self _ _ c.args.number_start (omega arith) (omega arith) ∙ piece;
      digits = digits_kept c.args.buffer.now c.copy_from_slice.new.self _ _ _ c.args.number_start 272 (omega arith)
          (omega arith) (omega arith) (omega arith) c.requires.digits;
    }
