use Rattle.std.proofs.Common.{◌≡◌, ◌∙◌, take, true, sym}
use Rattle.std.specs.Prelude.{bytes_eq, codes}
use Rattle.std.proofs.lemmas.List.{take_rest}
use Rattle.input.proofs.tricks.judge.is_deal_end.Goals as goal

pub returns-then-is_start : goal.returns-then-is_start
returns-then-is_start c =
    let front : bytes_eq (take 3 c.args.end.now) (codes " N:") ≡ true = sym c.is_start.ensures ∙ c.if-is_start.true in
    rw front (rw take_rest at c.all_are_of_deal.ensures)
