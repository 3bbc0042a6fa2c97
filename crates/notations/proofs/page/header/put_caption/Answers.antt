use Rattle.std.proofs.Common.{◌≤◌, ◌*◌, length, subst, sym}
use Rattle.boards.specs.Room.{room}
use Rattle.notations.proofs.page.header.put_caption.Goals as goal

pub returns-in-Some-clause-most : goal.returns-in-Some-clause-most
returns-in-Some-clause-most c =
    let e = c.as_bytes.ensures in
    c.put_shown.ensures.most 400 100 (subst (λ t. length t ≤ 400) (sym e.value) e.most)
    record { wide = subst (λ t. room 5 t ≤ 5 * 100) (sym e.value) e.wide; narrow = subst (λ t. room 4 t ≤ 4 * 100) (sym e.value) e.narrow }
