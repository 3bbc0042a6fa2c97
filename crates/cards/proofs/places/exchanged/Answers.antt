use Rattle.std.proofs.Common.{◌≡◌, ℕ, ◌+◌, ◌-◌, ◌∙◌, get_or, sym, ap, arith, subst}
use Rattle.cards.specs.Shuffle.{pack}
use Rattle.cards.specs.internal.Exchanges.{IsTraced}
use Rattle.cards.proofs.Partitions.{traced_at_first, traced_on}
use Rattle.cards.proofs.Tracing.{traced-none}
use Rattle.cards.proofs.places.exchanged.Goals as goal

pub loop-i-init : goal.loop-i-init
unfolding pack
loop-i-init c = traced_at_first c.args.places.now c.requires

pub loop-i-preserved : goal.loop-i-preserved
loop-i-preserved c =
    let p : ℕ = 51 - c.loop-i.i in
    let e : p - 1 ≡ 51 - (c.loop-i.i + 1) = omega arith in
    let read : c.from.result ≡ get_or c.args.places.now (51 - p) 0 = c.from.ensures
    ∙ ap (λ i. get_or c.args.places.now i 0) (let f : c.loop-i.i ≡ 51 - p = omega arith in f) in
    subst (IsTraced c.args.places.now c.swap.new.self) e
    (traced_on c.args.places.now c.loop-i.pack c.swap.new.self c.from.result p c.requires (omega arith) (omega arith)
    read c.swap.ensures.after c.swap.ensures.permutation c.loop-i.invariant)

pub returns : goal.returns
returns c i h = ap (λ k. get_or c.loop-i.pack k 0) (sym
    (traced-none c.args.places.now i (51 - c.loop-i.i) (omega arith))) ∙ c.loop-i.invariant.card i h
