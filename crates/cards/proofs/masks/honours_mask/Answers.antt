use Rattle.cards.proofs.HonourMasks.{honours_by_case}
use Rattle.cards.proofs.masks.honours_mask.Goals as goal

pub returns : goal.returns
returns c =
    let h = c.args.honours in
    rw (c.chosen.ensures, c.chosen-2.ensures, c.chosen-3.ensures, c.chosen-4.ensures, c.chosen-5.ensures)
    (honours_by_case h.ace h.king h.queen h.jack h.ten)
