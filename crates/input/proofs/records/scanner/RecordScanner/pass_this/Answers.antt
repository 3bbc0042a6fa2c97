use Rattle.std.proofs.Common.{[], ◌∷◌, refl}
use Rattle.std.specs.Prelude.{None}
use Rattle.input.proofs.Passing.{reads_line, reads_tag}
use Rattle.input.proofs.Tags.{stripped}
use Rattle.input.proofs.records.scanner.RecordScanner.pass_this.Goals as goal

pub returns-then-pass_line : goal.returns-then-pass_line
returns-then-pass_line c =
    reads_line c.args.self.now c.pass_line.new.self c.args.tag.now.name.now c.args.tag.now.value.now
    c.args.tag.now.rest.now _ (stripped c.args.tag.now.rest.now (10 ∷ []) c.in-Some.field-0
    c.in-Some.ensures.cases)
    (c.pass_line.ensures.passed c.if-pass_line.true) c.pass_line.ensures.room

pub returns-then-pass_tag : goal.returns-then-pass_tag
returns-then-pass_tag c =
    reads_tag c.args.self.now c.pass_tag.new.self c.args.tag.now.name.now c.args.tag.now.value.now
    c.args.tag.now.rest.now _ None refl (c.pass_tag.ensures.passed c.if-pass_tag.true) c.pass_tag.ensures.room
