use Rattle.std.proofs.Common.{◌≡◌, ◌∙◌, List, ap, arith, drop, length, map}
use Rattle.statistics.specs.internal.Kept.{KeptOne}
use Rattle.statistics.proofs.EachDeal.{same_asked, written}
use Rattle.statistics.proofs.each.Each.count.Goals as goal

pub returns-clause-asked : goal.returns-clause-asked
returns-clause-asked c =
    let len : length c.loop-one.one-items ≡ c.self.inside.ones.len = grind arith in
    ap (λ (ones : List KeptOne). map (λ (o : KeptOne). o.asked) ones)
    (written c.loop-one.one-items (drop (length c.loop-one.one-items) c.self.inside.ones.items)
    c.self.inside.ones.len len)
    ∙ same_asked c.args.deal.now c.args.self.now.ones c.loop-one.one-items (record {
      same = c.loop-one.invariant.same;
      each = λ k d lt. c.loop-one.invariant.done k d (omega (
        arith,
        lt,
        c.loop-one-test.false,
        c.loop-one.invariant.same,
        c.loop-one.auto.one-items,
        c.loop-one.auto.one-index-end,
      ));
    })
