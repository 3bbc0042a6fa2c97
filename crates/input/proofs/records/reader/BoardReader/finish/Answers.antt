use Rattle.std.proofs.Common.{◌∙◌, []}
use Rattle.input.proofs.Unread.{none_unread}
use Rattle.input.proofs.records.reader.BoardReader.finish.Goals as goal

pub returns-in-Ok-true : goal.returns-in-Ok-true
returns-in-Ok-true c = none_unread c.args.self.now c.requires.empty [] ∙ (rw c.in-Ok-true.field-0-test at c.in-Ok-true.ensures.says)

pub returns-in-Ok-false : goal.returns-in-Ok-false
returns-in-Ok-false c = none_unread c.args.self.now c.requires.empty [] ∙ (rw c.in-Ok-false.field-0-test at c.in-Ok-false.ensures.says)

pub returns-in-Err : goal.returns-in-Err
returns-in-Err c = none_unread c.args.self.now c.requires.empty [] ∙ c.in-Err.ensures.refused
