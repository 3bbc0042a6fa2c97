use Rattle.std.proofs.Common.{◌≡◌, ap, arith, below_more, bytes_eq, false, get_or, length, List, ℕ, Bool, refl, sym, true}
use Rattle.std.proofs.lemmas.List.{ext_get_or}
use Rattle.std.proofs.lemmas.Slice.Eq.{bytes_eq-Decides}
use Rattle.input.proofs.records.kind.is_name.Goals as goal

other : (xs ys : List ℕ) → (xs ≡ ys → ⊥) → false ≡ bytes_eq xs ys
other xs ys ne = by_test (bytes_eq xs ys) refl
  where
    by_test : (b : Bool) → bytes_eq xs ys ≡ b → false ≡ bytes_eq xs ys
    by_test true e = absurd (ne ((bytes_eq-Decides xs ys).0 e))
    by_test false e = sym e

pub returns-then-name-word : goal.returns-then-name-word
returns-then-name-word c = other c.args.name.now c.args.word.now (λ e. c.if-name-word.true (ap length e))

pub returns-then-name-i : goal.returns-then-name-i
returns-then-name-i c = other c.args.name.now c.args.word.now (λ e. c.if-name-i.true (ap (λ l. get_or l c.loop-i.i 0) e))

pub loop-i-preserved : goal.loop-i-preserved
loop-i-preserved c = below_more _ _ c.loop-i.invariant c.if-name-i.false

pub returns : goal.returns
returns c =
    let same : c.args.name.now ≡ c.args.word.now = ext_get_or 0 _ _ c.if-name-word.false
    (λ k below. c.loop-i.invariant k (omega (arith, below, c.if-name-word.false, c.loop-i-test.false))) in
    sym ((bytes_eq-Decides c.args.name.now c.args.word.now).1 same)
