use Rattle.std.proofs.Common.{◌∙◌, ◌++◌, ap, sym, append_assoc, codes, decimal, refl}
use Rattle.std.proofs.lemmas.List.{append-nil}
use Rattle.boards.specs.Reports.{boards_text, candidates_text, report_line, shortfall}
use Rattle.boards.proofs.Saying.{as_text, last_part, part, written}
use Rattle.boards.proofs.report.Report.say_counts.Goals as goal

pub returns-clause-text : goal.returns-clause-text
returns-clause-text g c =
    let s = c.args.self.now in
    let base = g.E.Sink.bytes c.args.err.now in
    let b1 = g.E.Sink.bytes c.put_boards.new.err in
    let b2 = g.E.Sink.bytes c.put_all.new.sink in
    let b3 = g.E.Sink.bytes c.put_candidates.new.err in
    let b4 = g.E.Sink.bytes c.print.new.err in
    let b5 = g.E.Sink.bytes c.put_shortfall.new.err in
    let b6 = g.E.Sink.bytes c.put_all-2.new.sink in
    let x1 = boards_text s.boards in
    let x2 = x1 ++ codes " from " in
    let tried = candidates_text s.plan.first s.candidates in
    let x3 = x2 ++ tried in
    let seed = decimal s.plan.seed in
    let x4 = x3 ++ codes " of seed " ++ seed in
    let few = shortfall s.plan.limit s.boards in
    let x5 = x4 ++ few in
    let of_seed = c.with.ensures ∙ append-nil _ ∙ ap (λ n. codes " of seed " ++ decimal n) (c.from.ensures ∙ c.seed.ensures) in
    let p2 = part base b1 b2 x1 (codes " from ") x2 refl c.in_ok-put_boards.ensures.text c.in_ok-put_all.ensures.bytes in
    let p3 = part base b2 b3 x2 tried x3 refl p2 (as_text b2 b3 _ tried
    (ap (λ n. candidates_text n s.candidates) c.first.ensures.value) c.in_ok-put_candidates.ensures.text) in
    let p4 = part base b3 b4 x3 (codes " of seed " ++ seed) x4 (sym (append_assoc x3 (codes " of seed ") seed)) p3
    (as_text b3 b4 _ (codes " of seed " ++ seed) of_seed c.in_ok-print.ensures.text) in
    let p5 = part base b4 b5 x4 few x5 refl p4 (as_text b4 b5 _ few
    (ap (λ o. shortfall o s.boards) c.limit.ensures.value) c.in_ok-put_shortfall.ensures.text) in
    last_part c.put_all-2.result base b5 b6 x5 (codes "\n") (report_line s.plan s.candidates s.boards) refl p5
    (written c.put_all-2.result b5 b6 (codes "\n") c.put_all-2.ensures.bytes)
