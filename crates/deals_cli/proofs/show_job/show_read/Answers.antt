use Rattle.std.proofs.Common.{◌≡◌, Err, rules}
use Rattle.input.specs.declared.records.reader.ReadFault.TheVariants.{Input}
use Rattle.deals_cli.specs.Shown.{GoesOn}
use Rattle.deals_cli.proofs.Showing.{ends_shown, goes_on}
use Rattle.deals_cli.proofs.show_job.show_read.Goals as goal

pub returns-clause-shows : goal.returns-clause-shows
returns-clause-shows g c =
    let first = c.next-first.result in
    let rest = g.I.Source.rest c.args.input.now in
    let layout = c.in_ok-printer.ensures.layout in
    let shows = rw (layout, c.labelled-heading.ensures, c.expects-expects.ensures) at
    (c.show.ensures.shows c.new-reader.result rest c.new-reader.ensures.begin c.next-first.ensures.reads) in
    let not_failed : first ≡ Err Input → ⊥ = λ bad. first_of (cc, search rules) in
    let goes : GoesOn first c.show.result = goes_on first c.show.result _ _ c.show.ensures.input not_failed in
    ends_shown c.args.job.now c.show.result rest (g.I.Source.rest c.show.new.input) (g.O.Sink.bytes c.args.out.now)
    (g.O.Sink.bytes c.show.new.sink) (record {
      start = c.new-reader.result;
      next = c.next-first.new.self;
      first = first;
      rest = g.I.Source.rest c.next-first.new.input;
      fresh = c.new-reader.ensures.begin;
      reads = c.next-first.ensures.reads;
      goes_on = goes;
      shows = shows;
    })
