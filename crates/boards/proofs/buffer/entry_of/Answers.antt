use Rattle.std.proofs.Common.{sym, refl, ◌≤◌, ◌/◌, ◌^◌, bit_and, ap, length, arith}
use Rattle.std.proofs.lemmas.List.{length-set}
use Rattle.std.proofs.lemmas.Nat.{and_le_r}
use Rattle.boards.proofs.Sets.{first_letters-none, next_rank, whole_entry}
use Rattle.boards.proofs.buffer.entry_of.Goals as goal

pub loop-rank-init : goal.loop-rank-init
loop-rank-init c = record {
  written = sym (first_letters-none c.args.set);
  size = refl;
  count = omega (arith, ap length (first_letters-none c.args.set));
  room = omega arith;
}

pub loop-rank-preserved : goal.loop-rank-preserved
loop-rank-preserved c =
    let at_most_one : bit_and (c.args.set / 2 ^ c.loop-rank.rank) 1 ≤ 1 = and_le_r (c.args.set / 2 ^ c.loop-rank.rank) 1 in
    let more = next_rank c.loop-rank.entry c.args.set c.loop-rank.rank c.loop-rank.end _ c.loop-rank-test.true
    (omega arith) refl c.loop-rank.invariant.written c.loop-rank.invariant.count in
    record {
      written = more.0;
      size = simp length-set c.loop-rank.invariant.size;
      count = more.1;
      room = omega arith;
    }

pub returns : goal.returns
returns c = whole_entry c.loop-rank.entry c.args.set c.loop-rank.rank c.loop-rank.end (omega arith)
    c.loop-rank.invariant.size c.loop-rank.invariant.room c.loop-rank.invariant.written c.loop-rank.invariant.count
