use Rattle.std.proofs.Common.{string_bytes}
use Rattle.explain_conditions.specs.Excerpt.{IsLineAt}
use Rattle.explain_conditions.proofs.Appending.{no_end_between, puts_excerpt}
use Rattle.explain_conditions.proofs.excerpt.put_excerpt.Goals as goal

pub returns : goal.returns
returns c =
    let text = c.args.text.now in
    let start = c.line_start-start.result in
    let end = c.line_end-end.result in
    let place = c.place_of-place.result in
    let is_line : IsLineAt text place start end = record {
      from = c.line_start-start.ensures.within;
      to = c.line_end-end.ensures.from;
      within = c.line_end-end.ensures.within;
      begins = c.line_start-start.ensures.begins;
      one = no_end_between text start place end c.line_start-start.ensures.one c.line_end-end.ensures.one;
      ends = c.line_end-end.ensures.ends;
    } in
    puts_excerpt c.put_line_and_carets.result text c.args.at place start end c.without_return-line.result.now
    c.width_at.result (string_bytes c.args.out.now) (string_bytes c.put_line_and_carets.new.out)
    c.place_of-place.ensures.place is_line c.without_return-line.ensures c.width_at.ensures c.put_line_and_carets.ensures
