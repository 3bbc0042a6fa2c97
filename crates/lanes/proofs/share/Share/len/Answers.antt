use Rattle.std.proofs.Common.{◌≡◌, ◌+◌, ◌/◌, ◌%◌, ◌∙◌, ap, sym, arith}
use Rattle.lanes.proofs.Places.{count_more, count_even}
use Rattle.lanes.proofs.share.Share.len.Goals as goal

pub returns-then-from-self : goal.returns-then-from-self
returns-then-from-self c =
    let s = c.args.self.now in
    let rest : s.count % c.from-workers.result ≡ s.count % s.workers = ap (λ k. s.count % k) c.from-workers.ensures in
    ap (λ k. s.count / k + 1) c.from-workers.ensures ∙ sym (count_more s.workers s.worker s.count s.one_of (omega arith))

pub returns-else-from-self : goal.returns-else-from-self
returns-else-from-self c =
    let s = c.args.self.now in
    let rest : s.count % c.from-workers.result ≡ s.count % s.workers = ap (λ k. s.count % k) c.from-workers.ensures in
    ap (λ k. s.count / k) c.from-workers.ensures ∙ sym (count_even s.workers s.worker s.count s.one_of (omega arith))
