-- Each digit is one more of the groups.
use Rattle.std.proofs.Common.{◌∙◌, ◌++◌, ℕ, length, ap, sym, arith, append_assoc}
use Rattle.std.proofs.lemmas.List.{append-nil, take_all}
use Rattle.statistics.proofs.Appending.{groups, groups_all, groups_more, groups_none}
use Rattle.statistics.proofs.numbers.put_groups.Goals as goal

pub loop-i-init : goal.loop-i-init
loop-i-init c = record {
  text = sym (ap (λ l. c.args.text.now ++ l) (groups_none (length c.args.digits.now)) ∙ append-nil c.args.text.now);
  most = omega arith;
}

pub loop-i-preserved : goal.loop-i-preserved
loop-i-preserved c =
    let e = groups_more (length c.args.digits.now) c.args.digits.now c.loop-i.i (omega arith) in
    record {
      text = grind (arith, append_assoc {A = ℕ}, e);
      most = omega arith;
    }

pub returns-clause-text : goal.returns-clause-text
returns-clause-text c =
    let n = length c.args.digits.now in
    let e = take_all c.loop-i.i c.args.digits.now (omega arith) in
    c.loop-i.invariant.text ∙ ap (λ l. c.args.text.now ++ groups n l) e
    ∙ ap (λ l. c.args.text.now ++ l) (sym (groups_all c.args.digits.now))
