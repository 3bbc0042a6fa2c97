use Rattle.std.proofs.Common.{◌≡◌, ◌+◌, ◌∙◌, true, refl, arith, ap, inl, inr, sym, subst}
use Rattle.cards.specs.CandidateWalks.{GoesOnAt}
use Rattle.boards.proofs.Running.{breaks_board, breaks_header, ended, running_next, running_none, running_skip}
use Rattle.boards.proofs.Results.{at_err, at_ok}
use Rattle.boards.proofs.reference.write_accepted.Goals as goal
use Rattle.boards.proofs.reference.write_accepted.Goals.{then-holds+else-is_err-2, else-holds}

pub returns-then-is_err-clause-bytes : goal.returns-then-is_err-clause-bytes
returns-then-is_err-clause-bytes g c =
    breaks_header (g.N.Notation.layout c.args.notation.now) c.args.plan.now c.args.cond.now _ _ _ c.header.ensures
    (at_err _ _ c.put_all.result c.if-is_err.ensures.value c.put_all.ensures.bytes)

pub loop-place-init : goal.loop-place-init
loop-place-init g c =
    let first : c.first-first.result ≡ c.args.plan.now.first + 0 = omega (arith, c.first-first.ensures.value) in
    record {
      layout = refl;
      running = running_none (g.N.Notation.layout c.args.notation.now) (g.N.Notation.has_printed c.args.notation.now)
          c.args.plan.now c.args.cond.now _ _ _ c.header.ensures
          (at_ok _ _ c.put_all.result c.if-is_err.ensures.value c.put_all.ensures.bytes) c.requires.printed;
      next = subst (λ n. GoesOnAt c.around-candidates.result c.args.plan.now.fixed c.args.plan.now.seed n 1) first
          (subst (λ seed. GoesOnAt c.around-candidates.result c.args.plan.now.fixed seed c.first-first.result 1) c.seed.ensures
          (subst (λ fixed. GoesOnAt c.around-candidates.result fixed c.seed.result c.first-first.result 1)
          c.fixed.ensures.value c.around-candidates.ensures));
      tried = refl;
      faults = at_ok _ _ c.put_all.result c.if-is_err.ensures.value c.put_all.ensures.faults;
    }

pub returns-then-is_full-clause-bytes : goal.returns-then-is_full-clause-bytes
returns-then-is_full-clause-bytes g c =
    (ended (g.N.Notation.layout c.args.notation.now) (g.N.Notation.has_printed c.loop-place.notation) c.args.plan.now
    c.args.cond.now c.loop-place.place c.loop-place.boards (g.S.Sink.bytes c.args.sink.now)
    (g.S.Sink.bytes c.loop-place.sink) c.loop-place.invariant.running
    (omega (arith, c.count-place-end.ensures.value)) (inr (c.is_full.ensures.0 c.if-is_full.true))).bytes

pub returns-then-is_full-clause-boards : goal.returns-then-is_full-clause-boards
returns-then-is_full-clause-boards g c =
    (ended (g.N.Notation.layout c.args.notation.now) (g.N.Notation.has_printed c.loop-place.notation) c.args.plan.now
    c.args.cond.now c.loop-place.place c.loop-place.boards (g.S.Sink.bytes c.args.sink.now)
    (g.S.Sink.bytes c.loop-place.sink) c.loop-place.invariant.running
    (omega (arith, c.count-place-end.ensures.value)) (inr (c.is_full.ensures.0 c.if-is_full.true))).count

pub returns-then-is_full-clause-printed : goal.returns-then-is_full-clause-printed
returns-then-is_full-clause-printed g c =
    (ended (g.N.Notation.layout c.args.notation.now) (g.N.Notation.has_printed c.loop-place.notation) c.args.plan.now
    c.args.cond.now c.loop-place.place c.loop-place.boards (g.S.Sink.bytes c.args.sink.now)
    (g.S.Sink.bytes c.loop-place.sink) c.loop-place.invariant.running
    (omega (arith, c.count-place-end.ensures.value)) (inr (c.is_full.ensures.0 c.if-is_full.true))).printed

pub returns-then-is_full-clause-tried : goal.returns-then-is_full-clause-tried
returns-then-is_full-clause-tried g c =
    let end = ended (g.N.Notation.layout c.args.notation.now) (g.N.Notation.has_printed c.loop-place.notation)
    c.args.plan.now c.args.cond.now c.loop-place.place c.loop-place.boards (g.S.Sink.bytes c.args.sink.now)
    (g.S.Sink.bytes c.loop-place.sink) c.loop-place.invariant.running
    (omega (arith, c.count-place-end.ensures.value)) (inr (c.is_full.ensures.0 c.if-is_full.true)) in
    c.loop-place.invariant.tried ∙ sym end.tried

pub returns-then-is_err-2-clause-bytes : goal.returns-then-is_err-2-clause-bytes
returns-then-is_err-2-clause-bytes g c =
    let deal = c.next-deal.ensures.deal c.args.plan.now.fixed c.args.plan.now.seed
    (c.args.plan.now.first + c.loop-place.place) 1 c.loop-place.invariant.next in
    breaks_board (g.N.Notation.layout c.args.notation.now) (g.N.Notation.layout c.loop-place.notation)
    (g.N.Notation.has_printed c.loop-place.notation) c.args.plan.now c.args.cond.now c.loop-place.place _
    c.loop-place.boards _ _ _ c.next-deal.result deal (sym c.if-holds.true ∙ c.holds.ensures)
    (λ e. let full : c.is_full.result ≡ true = c.is_full.ensures.1 e in let not_full = c.if-is_full.false in absurd cc)
    (omega (arith, c.count-place-end.ensures.value)) c.loop-place.invariant.layout
    (ap (λ n. n + c.loop-place.place) c.first-first.ensures.value) c.loop-place.invariant.running
    (at_err _ _ c.put_board.result c.if-is_err-2.ensures.value c.put_board.ensures.bytes)

pub loop-place-preserved : goal.loop-place-preserved
loop-place-preserved g c =
    let deal = c.next-deal.ensures.deal c.args.plan.now.fixed c.args.plan.now.seed
    (c.args.plan.now.first + c.loop-place.place) 1 c.loop-place.invariant.next in
    let after : c.args.plan.now.first + c.loop-place.place + 1 ≡ c.args.plan.now.first + (c.loop-place.place + 1) = omega arith in
    let next = subst (λ n. GoesOnAt c.next-deal.new.self c.args.plan.now.fixed c.args.plan.now.seed n 1) after
    (c.next-deal.ensures.moved c.args.plan.now.fixed c.args.plan.now.seed (c.args.plan.now.first + c.loop-place.place)
    1 c.loop-place.invariant.next) in
    elim c.if-holds.branch [
      | then-holds+else-is_err-2 w ↦ record {
        layout = ap g.N.Notation.layout w.notation-is ∙ w.put_board.ensures.layout ∙ c.loop-place.invariant.layout;
        running = rw (w.boards-is, w.sink-is, w.notation-is)
            (running_next (g.N.Notation.layout c.args.notation.now) (g.N.Notation.layout c.loop-place.notation)
            (g.N.Notation.has_printed c.loop-place.notation) (g.N.Notation.has_printed w.put_board.new.notation)
            c.args.plan.now c.args.cond.now c.loop-place.place _ c.loop-place.boards _
            (g.S.Sink.bytes c.loop-place.sink) _ c.next-deal.result deal
            (sym w.if-holds.true ∙ c.holds.ensures)
            (λ e. let full : c.is_full.result ≡ true = c.is_full.ensures.1 e in let not_full = c.if-is_full.false in absurd cc)
            c.loop-place.invariant.layout (ap (λ n. n + c.loop-place.place) c.first-first.ensures.value) c.loop-place.invariant.running
            (at_ok _ _ w.put_board.result w.if-is_err-2.ensures.value w.put_board.ensures.bytes)
            w.put_board.ensures.printed);
        next = next;
        tried = refl;
        faults = ap g.S.Sink.faults w.sink-is ∙ at_ok _ _ w.put_board.result w.if-is_err-2.ensures.value
            w.put_board.ensures.faults ∙ c.loop-place.invariant.faults;
      }
      | else-holds w ↦ record {
        layout = ap g.N.Notation.layout w.notation-is ∙ c.loop-place.invariant.layout;
        running = rw (w.boards-is, w.sink-is, w.notation-is)
            (running_skip (g.N.Notation.layout c.args.notation.now) (g.N.Notation.has_printed c.loop-place.notation)
            c.args.plan.now c.args.cond.now c.loop-place.place c.loop-place.boards _ _ c.next-deal.result deal
            (sym w.if-holds.false ∙ c.holds.ensures)
            (λ e. let full : c.is_full.result ≡ true = c.is_full.ensures.1 e in let not_full = c.if-is_full.false in
            absurd cc) c.loop-place.invariant.running);
        next = next;
        tried = refl;
        faults = ap g.S.Sink.faults w.sink-is ∙ c.loop-place.invariant.faults;
      }
    ]

pub returns-after-loop-place-clause-tried : goal.returns-after-loop-place-clause-tried
returns-after-loop-place-clause-tried g c =
    let all : c.loop-place.place ≡ c.args.plan.now.count =
    omega (arith, c.loop-place.auto.place-end, c.loop-place-test.false, c.count-place-end.ensures.value) in
    let end = ended (g.N.Notation.layout c.args.notation.now) (g.N.Notation.has_printed c.loop-place.notation)
    c.args.plan.now c.args.cond.now c.loop-place.place c.loop-place.boards (g.S.Sink.bytes c.args.sink.now)
    (g.S.Sink.bytes c.loop-place.sink) c.loop-place.invariant.running (omega (arith, all)) (inl all) in
    c.loop-place.invariant.tried ∙ sym end.tried
