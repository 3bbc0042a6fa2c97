use Rattle.notations.specs.internal.Titles.{AddsAtMost}
use Rattle.notations.proofs.TitleLemmas.{comma_added, nothing_added, text_added}
use Rattle.notations.proofs.page.header.put_shown.Goals.{then-len-gt0, else-len-gt0}
use Rattle.notations.proofs.page.header.put_shown.Goals as goal

pub returns-clause-most : goal.returns-clause-most
returns-clause-most c = λ n m short within.
    let old = c.args.title.now in
    let before : AddsAtMost 2 2 old c.if-len-gt0.title =
    elim c.if-len-gt0.branch [
      | then-len-gt0 w ↦ rw (w.title-is, w.put.ensures.text) (comma_added old)
      | else-len-gt0 w ↦ rw w.title-is (nothing_added old)
    ] in
    text_added old c.if-len-gt0.title c.put-2.new.self c.args.label.now n m before c.put-2.ensures.text short within
