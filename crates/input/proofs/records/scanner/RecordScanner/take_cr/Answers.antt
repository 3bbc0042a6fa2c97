use Rattle.std.proofs.Common.{◌≡◌, ◌∙◌, ◌≢◌, ap, arith, rules, true}
use Rattle.std.specs.Prelude.{false}
use Rattle.input.specs.RecordScans.{spells_from}
use Rattle.input.specs.Texts.{after, list_of}
use Rattle.input.specs.internal.Endings.{told_if}
use Rattle.input.proofs.Scanning.{cr_within, plainly}
use Rattle.input.proofs.records.scanner.RecordScanner.take_cr.Goals as goal

pub returns-in-Ok-clause-goes_on : goal.returns-in-Ok-clause-goes_on
returns-in-Ok-clause-goes_on c rest off =
    let cr : c.args.self.now.after_cr ≡ true = search rules in
    let other : 13 ≢ 93 = omega arith in
    let none : c.in-Ok.field-0 ≡ false = c.in-Ok.ensures.tag other in
    cr_within c.args.self.now rest cr off ∙ c.in-Ok.ensures.reads (λ t. spells_from (plainly t) rest)
    ∙ ap (λ b. after (list_of (told_if b c.take.new.told)) (spells_from (plainly c.take.new.self) rest)) none

pub returns-in-Err-clause-refused : goal.returns-in-Err-clause-refused
returns-in-Err-clause-refused c rest off =
    let cr : c.args.self.now.after_cr ≡ true = search rules in
    cr_within c.args.self.now rest cr off ∙ c.in-Err.ensures.refused (λ t. spells_from (plainly t) rest)
