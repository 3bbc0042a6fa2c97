use Rattle.std.proofs.Common.{◌≡◌, ◌∙◌, true, sym, ap}
use Rattle.std.proofs.lemmas.List.{take_rest}
use Rattle.std.specs.Prelude.{bytes_eq}
use Rattle.boards.specs.TricksLines.{told}
use Rattle.pbn_text.specs.Games.{deal_text}
use Rattle.input.specs.Lines.{before_deal, deal_value, has_deal, if_same, told_of}
use Rattle.input.proofs.tricks.judge.judge.Goals as goal

pub returns : goal.returns
unfolding told_of
returns c =
    let line = c.args.line.now in
    let has : has_deal line ≡ true = sym c.has_deal.ensures.value ∙ c.if-not-has_deal.false in
    let same : c.is_same.result ≡ bytes_eq (deal_value line) (deal_text c.args.deal.now) = rw take_rest at (rw take_rest at c.is_same.ensures) in
    rw has (c.if_same-2.ensures ∙ ap (λ o. if_same o c.is_same.result) c.read-tricks.ensures ∙ ap (if_same (told (before_deal line))) same)
