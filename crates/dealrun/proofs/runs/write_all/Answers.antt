use Rattle.std.proofs.Common.{◌≡◌, ◌<◌, ◌∙◌, [], All, ap, arith, false, length, refl, subst, sym, vec_len}
use Rattle.std.proofs.lemmas.List.{length-map}
use Rattle.std.proofs.lemmas.Option.{MatchOption-at_none, MatchOption-at_some}
use Rattle.lanes.specs.Views.{OutView}
use Rattle.dealrun.specs.Interrupted.{InterruptedIn}
use Rattle.boards.specs.declared.cause.Cause.TheVariants.{Output}
use Rattle.dealrun.specs.internal.Ends.{Closes}
use Rattle.dealrun.specs.internal.Handles.{IsIdle, owed_by}
use Rattle.dealrun.proofs.Causes.{at_join, said_at}
use Rattle.dealrun.proofs.Finals.{same_at}
use Rattle.boards.proofs.Results.{at_err, at_ok}
use Rattle.dealrun.proofs.runs.write_all.Goals as goal

pub join_all-joined-requires-clause-unsettled : goal.join_all-joined-requires-clause-unsettled
join_all-joined-requires-clause-unsettled g c k d lt =
    let w = c.write_beside_workers-written in
    let lanes = c.new-writer.result.lanes.items in
    let same = w.ensures.lanes.settled in
    let lens : length w.new.self.lanes.items ≡ length lanes = simp length-map at (ap length same) in
    let given = ap (λ v. v.items) c.new-writer.ensures.given.1 in
    let short : k < length lanes = omega (arith, lt, lens) in
    same_at (λ (l : OutView). l.settled) _ _ k d same short
    ∙ (subst (All IsIdle) (sym given) c.requires.lanes.1 k d short).1

pub returns-in-Some-clause-ends : goal.returns-in-Some-clause-ends
returns-in-Some-clause-ends g c form owes =
    let layout = g.N.Notation.layout c.args.notation.now in
    let w = c.write_beside_workers-written in
    let base = g.S.Sink.bytes c.args.sink.now in
    let new = g.S.Sink.bytes w.new.sink in
    let how = at_join layout layout (g.N.Notation.has_printed w.new.notation) c.args.plan.now form w.new.self
    (vec_len c.args.handles) (owed_by c.args.handles.items) c.join_all-joined.new.lanes.items w.result _ _
    c.cause_of.result base new
    refl (w.ensures.plan ∙ c.new-writer.ensures.given.0) c.requires.counts.0 owes c.join_all-joined.ensures.taken
    w.ensures.wrote c.join_all-joined.ensures.joined c.cause_of.ensures in
    subst (λ e. InterruptedIn layout c.args.plan.now form e.cause e.lanes.items e.boards base new)
    (sym c.fault.ensures) (MatchOption-at_some _ _ c.in-Some.cause c.in-Some.is how)

pub returns-then-is_err-clause-ends : goal.returns-then-is_err-clause-ends
returns-then-is_err-clause-ends g c form owes =
    let layout = g.N.Notation.layout c.args.notation.now in
    let w = c.write_beside_workers-written in
    let now = g.N.Notation.layout w.new.notation in
    let base = g.S.Sink.bytes c.args.sink.now in
    let new = g.S.Sink.bytes w.new.sink in
    let plan_is = w.ensures.plan ∙ c.new-writer.ensures.given.0 in
    let how = at_join layout now (g.N.Notation.has_printed w.new.notation) c.args.plan.now form w.new.self
    (vec_len c.args.handles) (owed_by c.args.handles.items) c.join_all-joined.new.lanes.items w.result _ _
    c.cause_of.result base new
    w.ensures.layout plan_is c.requires.counts.0 owes c.join_all-joined.ensures.taken w.ensures.wrote
    c.join_all-joined.ensures.joined c.cause_of.ensures in
    let rest = MatchOption-at_none _ _ c.in-None.is how in
    let after = c.write_rest.new in
    let stands = at_err _ _ c.write_rest.result c.if-is_err.ensures.value (c.write_rest.ensures.ends base form rest) in
    subst (λ e. InterruptedIn layout c.args.plan.now form e.cause e.lanes.items e.boards base
    (g.S.Sink.bytes after.sink)) (sym c.fault-then-is_err.ensures)
    (said_at (λ l p. InterruptedIn l p form Output after.self.lanes.items after.self.progress.boards base
    (g.S.Sink.bytes after.sink)) layout now c.args.plan.now w.new.self.plan w.ensures.layout plan_is stands)

pub returns-clause-ends : goal.returns-clause-ends
returns-clause-ends g c form owes =
    let layout = g.N.Notation.layout c.args.notation.now in
    let w = c.write_beside_workers-written in
    let now = g.N.Notation.layout w.new.notation in
    let base = g.S.Sink.bytes c.args.sink.now in
    let new = g.S.Sink.bytes w.new.sink in
    let plan_is = w.ensures.plan ∙ c.new-writer.ensures.given.0 in
    let how = at_join layout now (g.N.Notation.has_printed w.new.notation) c.args.plan.now form w.new.self
    (vec_len c.args.handles) (owed_by c.args.handles.items) c.join_all-joined.new.lanes.items w.result _ _
    c.cause_of.result base new
    w.ensures.layout plan_is c.requires.counts.0 owes c.join_all-joined.ensures.taken w.ensures.wrote
    c.join_all-joined.ensures.joined c.cause_of.ensures in
    let rest = MatchOption-at_none _ _ c.in-None.is how in
    let after = c.write_rest.new in
    let closes = at_ok _ _ c.write_rest.result c.if-is_err.ensures.value (c.write_rest.ensures.ends base form rest) in
    said_at (λ l p. Closes l p form after.self.lanes.items after.self.progress.boards after.self.progress.taken base
    (g.S.Sink.bytes after.sink)) layout now c.args.plan.now w.new.self.plan w.ensures.layout plan_is closes
