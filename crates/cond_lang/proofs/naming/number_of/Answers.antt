use Rattle.std.proofs.Common.{◌≡◌, length, drop, ℕ, sym, ◌∙◌, arith}
use Rattle.std.specs.List.{position_or_len}
use Rattle.std.specs.Str.{bytes_eq}
use Rattle.cond_lang.proofs.NamesFound.{position-map, position_is, position_none, passes_here, none_passes}
use Rattle.cond_lang.proofs.naming.number_of.Goals as goal

pub returns-then-eq : goal.returns-then-eq
returns-then-eq c =
    let n : ℕ = c.loop-number.number in
    let here : position_or_len (λ q. bytes_eq q.now c.args.letters.now) (drop n c.args.names.now) ≡ 0 =
    passes_here (λ q. bytes_eq q.now c.args.letters.now) c.args.names.now n _ c.loop-number-test.true (sym (c.eq.ensures) ∙ c.if-eq.true) in
    let there : position_or_len (λ q. bytes_eq q.now c.args.letters.now) c.args.names.now ≡ n = omega (arith, c.loop-number.invariant, here) in
    sym (position-map (λ q. bytes_eq q c.args.letters.now) (λ q. q.now) c.args.names.now
    ∙ position_is (λ q. bytes_eq q.now c.args.letters.now) c.args.names.now n c.loop-number-test.true there)

pub returns : goal.returns
returns c =
    let end : c.loop-number.number ≡ length c.args.names.now = omega (arith, c.loop-number-test.false, c.loop-number.auto.number-end) in
    sym (position-map (λ q. bytes_eq q c.args.letters.now) (λ q. q.now) c.args.names.now
    ∙ position_none (λ q. bytes_eq q.now c.args.letters.now) c.args.names.now
    (none_passes (λ q. bytes_eq q.now c.args.letters.now) c.args.names.now c.loop-number.number end c.loop-number.invariant))
