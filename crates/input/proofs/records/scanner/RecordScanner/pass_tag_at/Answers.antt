use Rattle.std.proofs.Common.{subst, sym}
use Rattle.std.specs.Prelude.{None}
use Rattle.input.specs.internal.TagTexts.{Reads}
use Rattle.input.proofs.records.scanner.RecordScanner.pass_tag_at.Goals as goal

pub returns-in-Some : goal.returns-in-Some
returns-in-Some c =
    subst (λ l. Reads c.args.self.now c.pass_this.new.self l c.pass_this.result None) (sym c.in-Some.ensures.text) c.pass_this.ensures
