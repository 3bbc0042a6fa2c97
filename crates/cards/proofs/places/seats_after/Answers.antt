use Rattle.std.proofs.Common.{◌≡◌, ℕ, ◌<◌, ◌≢◌, ◌∙◌, get_or, refl, sym, ap, arith, below_more}
use Rattle.std.proofs.lemmas.List.{get_or-set_same, get_or-set_other, length-set}
use Rattle.std.proofs.lemmas.List.FromFn.{fill_by_all}
use Rattle.cards.specs.declared.seat.Seat.TheVariants.{North}
use Rattle.cards.specs.Pack.{seat_at_position}
use Rattle.cards.specs.Shuffle.{card_at, pack}
use Rattle.cards.specs.Deals.{dealt, position_of}
use Rattle.cards.proofs.Dealing.{card_at-position_of}
use Rattle.cards.proofs.Tracing.{card_at-below, card_at-injective}
use Rattle.cards.proofs.places.seats_after.Goals as goal

pub bounds-seats-from : goal.bounds-seats-from
bounds-seats-from c = omega (
  arith,
  c.from.ensures,
  c.exchanged-pack.ensures c.loop-position.position (omega arith),
  card_at-below c.args.places.now c.loop-position.position c.requires (omega arith),
)

pub loop-position-init : goal.loop-position-init
loop-position-init c = record {
  long = refl;
  dealt = λ i h. absurd (omega arith);
}

pub loop-position-preserved : goal.loop-position-preserved
loop-position-preserved c =
    let places = c.args.places.now in
    let before = c.loop-position.invariant in
    let at : c.from.result ≡ card_at places c.loop-position.position = c.from.ensures
    ∙ c.exchanged-pack.ensures c.loop-position.position (omega arith) in
    record {
      long = simp length-set before.long;
      dealt = below_more _ _
          (λ (k : ℕ) (h : k < c.loop-position.position).
          let apart : card_at places k ≢ c.from.result = λ e. let same : k ≡ c.loop-position.position =
          card_at-injective places k c.loop-position.position (e ∙ at) in absurd (omega arith) in
          rw (get_or-set_other c.loop-position.seats c.from.result (card_at places k) c.at_position.result North apart) (before.dealt k h))
          (rw (
            ← at,
            get_or-set_same c.loop-position.seats c.from.result c.at_position.result North
                (omega (arith, bounds-seats-from c, before.long)),
          ) c.at_position.ensures);
    }

pub returns : goal.returns
unfolding dealt pack
returns c =
    let places = c.args.places.now in
    let done = c.loop-position.invariant in
    fill_by_all (λ card. seat_at_position (position_of places card)) c.loop-position.seats 52 North done.long
    (λ card h.
    let at = card_at-position_of places card c.requires h in
    ap (λ k. get_or c.loop-position.seats k North) (sym at.1) ∙ done.dealt (position_of places card) (omega (arith, at.0)))
