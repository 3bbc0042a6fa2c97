use Rattle.std.proofs.Common.{◌≡◌, Err, refl, rules, subst, sym}
use Rattle.input.specs.declared.records.reader.ReadFault.TheVariants.{Input}
use Rattle.input.specs.Shown.{Shows}
use Rattle.input.specs.internal.Showing.{ShownFrom}
use Rattle.sinks.specs.Appended.{AppendsAll, AppendsPart}
use Rattle.input.proofs.Written.{breaks_board, breaks_header, shown_none, shows_board, shows_end, shows_failed, shows_last}
use Rattle.input.proofs.records.shown.show.Goals as goal

pub returns-in-Err-clause-shows : goal.returns-in-Err-clause-shows
returns-in-Err-clause-shows g c start before fresh reads =
    let base = g.S.Sink.bytes c.args.sink.now in
    breaks_header (g.N.SolvedNotation.layout c.args.notation.now) start c.args.reader.now c.args.first before
    (g.I.Source.rest c.args.input.now) base (g.S.Sink.bytes c.put_all.new.sink) fresh reads
    (subst (AppendsPart base (g.S.Sink.bytes c.put_all.new.sink)) c.header.ensures c.in-Err.ensures.bytes)

pub returns-in-Ok-Last-clause-shows : goal.returns-in-Ok-Last-clause-shows
returns-in-Ok-Last-clause-shows g c start before fresh reads =
    let layout = g.N.SolvedNotation.layout c.args.notation.now in
    let rest = g.I.Source.rest c.args.input.now in
    let base = g.S.Sink.bytes c.args.sink.now in
    let out = g.S.Sink.bytes c.put_all.new.sink in
    let header = subst (AppendsAll base out) c.header.ensures c.in-Ok.ensures.bytes in
    let none = shown_none layout start before base out fresh header in
    let read = rw (c.in-Ok-Last.is, c.in-Ok-Last.field-0-is) at reads in
    shows_last layout layout start c.args.reader.now 0 before before rest base out
    (g.S.Sink.bytes c.put_last.new.sink) c.in-Ok-Last.told c.put_last.result refl read c.put_last.ensures.bytes
    none

pub returns-in-Ok-End-clause-shows : goal.returns-in-Ok-End-clause-shows
returns-in-Ok-End-clause-shows g c start before fresh reads =
    let layout = g.N.SolvedNotation.layout c.args.notation.now in
    let rest = g.I.Source.rest c.args.input.now in
    let base = g.S.Sink.bytes c.args.sink.now in
    let out = g.S.Sink.bytes c.put_all.new.sink in
    let header = subst (AppendsAll base out) c.header.ensures c.in-Ok.ensures.bytes in
    let none = shown_none layout start before base out fresh header in
    let read = rw (c.in-Ok-End.is, c.in-Ok-End.field-0-is) at reads in
    shows_end layout layout start c.args.reader.now 0 before before rest base out (g.S.Sink.bytes c.put_end.new.sink)
    c.put_end.result refl read c.put_end.ensures.bytes none

pub returns-in-Err-Input-clause-shows : goal.returns-in-Err-Input-clause-shows
returns-in-Err-Input-clause-shows g c start before fresh reads =
    let layout = g.N.SolvedNotation.layout c.args.notation.now in
    let rest = g.I.Source.rest c.args.input.now in
    let base = g.S.Sink.bytes c.args.sink.now in
    let out = g.S.Sink.bytes c.put_all.new.sink in
    let header = subst (AppendsAll base out) c.header.ensures c.in-Ok.ensures.bytes in
    let none = shown_none layout start before base out fresh header in
    let is : c.args.first ≡ Err Input = first_of (cc, search rules) in
    let read = rw is at reads in
    shows_failed layout start c.args.reader.now 0 before before rest base out read none

pub returns-in-Err-put-clause-shows : goal.returns-in-Err-put-clause-shows
returns-in-Err-put-clause-shows g c start before fresh reads =
    let layout = g.N.SolvedNotation.layout c.args.notation.now in
    let rest = g.I.Source.rest c.args.input.now in
    let base = g.S.Sink.bytes c.args.sink.now in
    let out = g.S.Sink.bytes c.put_all.new.sink in
    let header = subst (AppendsAll base out) c.header.ensures c.in-Ok.ensures.bytes in
    let none = shown_none layout start before base out fresh header in
    let read = rw (c.in-Ok-Board.is, c.in-Ok-Board.field-0-is) at reads in
    breaks_board layout layout start c.args.reader.now 0 before before rest base out (g.S.Sink.bytes c.put.new.sink)
    c.in-Ok-Board.told refl read c.in-Err-put.ensures.bytes none

pub returns-in-Ok-put-clause-shows : goal.returns-in-Ok-put-clause-shows
returns-in-Ok-put-clause-shows g c start before fresh reads =
    let layout = g.N.SolvedNotation.layout c.args.notation.now in
    let rest = g.I.Source.rest c.args.input.now in
    let base = g.S.Sink.bytes c.args.sink.now in
    let out = g.S.Sink.bytes c.put_all.new.sink in
    let header = subst (AppendsAll base out) c.header.ensures c.in-Ok.ensures.bytes in
    let none = shown_none layout start before base out fresh header in
    let read = rw (c.in-Ok-Board.is, c.in-Ok-Board.field-0-is) at reads in
    let same = c.put.ensures.layout in
    let one = shows_board layout layout start c.args.reader.now 0 before before rest base out
    (g.S.Sink.bytes c.put.new.sink) c.in-Ok-Board.told refl read c.in-Ok-put.ensures.bytes none in
    let next = g.N.SolvedNotation.layout c.put.new.notation in
    let written = g.S.Sink.bytes c.put.new.sink in
    subst (λ l. Shows l c.show_rest.result before (g.I.Source.rest c.show_rest.new.input) base (g.S.Sink.bytes c.show_rest.new.sink)) same
    (c.show_rest.ensures.shows before base (subst (λ l. ShownFrom l c.args.reader.now 1 before rest base written) (sym same) one))
