use Rattle.std.proofs.Common.{◌≡◌, ◌+◌, ◌++◌, ◌∙◌, false, length, get_or, sym, ap, arith, take, inl, inr}
use Rattle.std.proofs.lemmas.List.{append-nil, length-set}
use Rattle.pbn_text.proofs.Suits.{first_ranks-none, first_ranks-all, length-suit_letters, rank_read, either, one_written, one_passed}
use Rattle.pbn_text.proofs.reference.write_suit.Goals as goal

pub loop-rank-init : goal.loop-rank-init
loop-rank-init c = record {
  written = sym (ap (λ xs. take c.args.start c.args.buffer.now ++ xs) (first_ranks-none c.args.hand.now c.args.suit)
      ∙ append-nil (take c.args.start c.args.buffer.now));
  size = c.told-buffer;
  end_is = omega (arith, ap length (first_ranks-none c.args.hand.now c.args.suit));
  at_most = omega arith;
}

pub loop-rank-preserved : goal.loop-rank-preserved
loop-rank-preserved c =
    let read = rank_read c.args.hand.now c.args.suit c.ranks-ranks.result c.loop-rank.rank c.ranks-ranks.ensures c.loop-rank-test.true in
    elim (either (get_or c.ranks-ranks.result c.loop-rank.rank false)) [
      | inl held ↦
          let one : c.from-end.result ≡ 1 = rw held at c.from-end.ensures in
          let more = one_written c.loop-rank.buffer (take c.args.start c.args.buffer.now) c.args.start c.args.hand.now
          c.args.suit c.loop-rank.rank c.loop-rank.end (c.loop-rank.end + c.from-end.result) (omega arith)
          (omega arith) c.loop-rank.invariant.written c.loop-rank.invariant.end_is (sym held ∙ read) in
          record {
            written = more.0;
            size = simp length-set c.loop-rank.invariant.size;
            end_is = more.1;
            at_most = omega arith;
          }
      | inr not ↦
          let none : c.from-end.result ≡ 0 = rw not at c.from-end.ensures in
          let same = one_passed c.loop-rank.buffer (take c.args.start c.args.buffer.now) c.args.start c.args.hand.now
          c.args.suit c.loop-rank.rank c.loop-rank.end (c.loop-rank.end + c.from-end.result) (omega arith)
          c.loop-rank.invariant.written c.loop-rank.invariant.end_is (sym not ∙ read) in
          record {
            written = same.0;
            size = simp length-set c.loop-rank.invariant.size;
            end_is = same.1;
            at_most = omega arith;
          }
    ]

pub returns-clause-written : goal.returns-clause-written
returns-clause-written c = c.loop-rank.invariant.written
    ∙ ap (λ xs. take c.args.start c.args.buffer.now ++ xs)
    (first_ranks-all c.args.hand.now c.args.suit c.loop-rank.rank (omega arith))

pub returns-clause-len : goal.returns-clause-len
returns-clause-len c =
    c.loop-rank.invariant.end_is
    ∙ ap (λ n. c.args.start + n) (ap length (first_ranks-all c.args.hand.now c.args.suit c.loop-rank.rank
    (omega arith)) ∙ length-suit_letters c.args.hand.now c.args.suit)
