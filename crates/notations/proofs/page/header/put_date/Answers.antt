use Rattle.std.proofs.Common.{arith}
use Rattle.notations.proofs.TitleLemmas.{short_within}
use Rattle.notations.proofs.page.header.put_date.Goals as goal

pub returns-in-Some-clause-most : goal.returns-in-Some-clause-most
returns-in-Some-clause-most c =
    let ten = c.as_bytes.ensures.ten in
    c.put_shown.ensures.most 10 10 (omega (arith, ten)) (short_within c.as_bytes.result.now 10 (omega (arith, ten)))
