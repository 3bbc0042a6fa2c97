use Rattle.std.proofs.Common.{ap, sym, Bool, Some, map, refl, string_bytes, subst, if◌then◌else◌}
use Rattle.std.proofs.lemmas.Result.{err_from_is_err_and}
use Rattle.clap.specs.Words.{found_of, rows_of}
use Rattle.command_line.specs.CommandLine.{asked, read_kinds, unless_fault, wish_in}
use Rattle.command_line.specs.internal.Asking.{Asks, HasValues}
use Rattle.command_line.proofs.Asked.{chosen, err_kind, error_kind, same_subcommand}
use Rattle.requests.specs.Requests.{conditions}
use Rattle.command_line.proofs.words.read_words.Goals as goal

pub returns-then-asks_page : goal.returns-then-asks_page
unfolding asked
returns-then-asks_page c =
    let words = map string_bytes c.args.words.now in
    ap (λ (b : Bool). if b then Some conditions else unless_fault (read_kinds words) (wish_in words)) (sym c.if-asks_page.ensures)

pub returns-in_err-matches : goal.returns-in_err-matches
returns-in_err-matches c =
    let p = err_from_is_err_and c.from_residual-in_err-matches.result c.from_residual-in_err-matches.ensures.1 in
    let words = map string_bytes c.args.words.now in
    rw (p.1, p.2) (
      err_kind _ words c.in_err-matches.field-0.0 c.in_ok-command.ensures c.in_err-matches.ensures.kinds (sym c.if-asks_page.ensures),
      error_kind _ words c.in_err-matches.field-0.0 c.in_ok-command.ensures c.in_err-matches.ensures.kinds (sym c.if-asks_page.ensures),
    )

pub unwrap-requires-2 : goal.unwrap-requires-2
unwrap-requires-2 c =
    let at = chosen _ (map string_bytes c.args.words.now) c.in_ok-matches.matches c.subcommand.result c.unwrap.result
    c.in_ok-command.ensures c.in_ok-matches.ensures.matches
    c.in_ok-matches.ensures.kinds c.subcommand.ensures.name c.subcommand.ensures.rows c.unwrap.ensures (sym c.if-asks_page.ensures) in
    rw (c.subcommand_named.ensures, at.named) refl

pub request_of-requires : goal.request_of-requires
request_of-requires c =
    let at = chosen _ (map string_bytes c.args.words.now) c.in_ok-matches.matches c.subcommand.result c.unwrap.result
    c.in_ok-command.ensures c.in_ok-matches.ensures.matches
    c.in_ok-matches.ensures.kinds c.subcommand.ensures.name c.subcommand.ensures.rows c.unwrap.ensures (sym c.if-asks_page.ensures) in
    subst (λ s. HasValues s (rows_of (found_of c.unwrap.result.1.now)))
    (same_subcommand at.named c.subcommand_named.ensures c.unwrap-2.ensures) at.values

pub returns : goal.returns
returns c =
    let words = map string_bytes c.args.words.now in
    let at = chosen _ words c.in_ok-matches.matches c.subcommand.result c.unwrap.result c.in_ok-command.ensures c.in_ok-matches.ensures.matches
    c.in_ok-matches.ensures.kinds c.subcommand.ensures.name c.subcommand.ensures.rows c.unwrap.ensures (sym c.if-asks_page.ensures) in
    c.request_of.ensures words (subst (λ s. Asks words s (rows_of (found_of c.unwrap.result.1.now)))
    (same_subcommand at.named c.subcommand_named.ensures c.unwrap-2.ensures) at.asks)
