use Rattle.std.proofs.Common.{refl}
use Rattle.requests.proofs.lessons.groups.groups.Goals as goal

pub returns : goal.returns
returns c =
    rw (
      c.group.ensures.title,
      c.group.ensures.rows,
      c.group-2.ensures.title,
      c.group-2.ensures.rows,
      c.group-3.ensures.title,
      c.group-3.ensures.rows,
      c.group-4.ensures.title,
      c.group-4.ensures.rows,
      c.group-5.ensures.title,
      c.group-5.ensures.rows,
      c.group-6.ensures.title,
      c.group-6.ensures.rows,
      c.group-7.ensures.title,
      c.group-7.ensures.rows,
      c.group-8.ensures.title,
      c.group-8.ensures.rows,
      c.group-9.ensures.title,
      c.group-9.ensures.rows,
      c.group-10.ensures.title,
      c.group-10.ensures.rows,
      c.group-11.ensures.title,
      c.group-11.ensures.rows,
    ) refl
