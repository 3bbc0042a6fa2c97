use Rattle.std.proofs.Common.{◌≡◌, ap, arith, ◌*◌}
use Rattle.lanes.proofs.Places.{bounds, scaled}
use Rattle.lanes.proofs.share.Share.at.Goals as goal

pub overflow_mul-result : goal.overflow_mul-result
overflow_mul-result c =
    let s = c.args.self.now in
    let same : c.args.i * c.from-2.result ≡ c.args.i * s.workers = ap (λ k. c.args.i * k) c.from-2.ensures in
    let b = bounds s.workers s.worker s.count s.one_of in
    let step = scaled s.workers c.args.i _ c.requires in
    omega arith

pub overflow_add-result-2 : goal.overflow_add-result-2
overflow_add-result-2 c =
    let s = c.args.self.now in
    let same : c.args.i * c.from-2.result ≡ c.args.i * s.workers = ap (λ k. c.args.i * k) c.from-2.ensures in
    let b = bounds s.workers s.worker s.count s.one_of in
    let step = scaled s.workers c.args.i _ c.requires in
    omega arith
