use Rattle.std.proofs.Common.{◌∙◌, ap, is_some, refl, sym, Some}
use Rattle.clap.specs.Words.{found_of, rows_of}
use Rattle.clap.specs.declared.error.kind.ErrorKind.TheVariants.{ArgumentConflict, InvalidValue, MissingRequiredArgument, ValueValidation}
use Rattle.requests.specs.Requests.{Wish}
use Rattle.command_line.specs.CommandLine.{lacks_option, made_by}
use Rattle.command_line.specs.declared.subcommands.Subcommand.TheVariants.{Deals}
use Rattle.command_line.proofs.Asked.{are_read, are_refused, dealing_kinds_are}
use Rattle.command_line.proofs.words.dealing_request.Goals as goal

pub search_in-search-requires : goal.search_in-search-requires
search_in-search-requires c = c.requires.search

pub request_by-requires : goal.request_by-requires
request_by-requires c = c.requires.first_board

pub returns-in-Some : goal.returns-in-Some
returns-in-Some c words at =
    let rows = rows_of (found_of c.args.matches.now) in
    let unknown = sym c.unknown_in.ensures ∙ ap is_some c.in-Some.is in
    are_refused words (Deals c.args.dealing) rows InvalidValue c.or_out_of_memory.result at
    (dealing_kinds_are c.args.dealing rows unknown refl refl refl refl)
    (c.or_out_of_memory.ensures InvalidValue c.invalid_value.ensures)

pub returns-in-Some-no_lesson_in : goal.returns-in-Some-no_lesson_in
returns-in-Some-no_lesson_in c words at =
    let rows = rows_of (found_of c.args.matches.now) in
    let known = sym c.unknown_in.ensures ∙ ap is_some c.in_default.is in
    let no_lesson = sym c.no_lesson_in.ensures ∙ ap is_some c.in-Some-no_lesson_in.is in
    are_refused words (Deals c.args.dealing) rows InvalidValue c.or_out_of_memory-in-Some-no_lesson_in.result at
    (dealing_kinds_are c.args.dealing rows known no_lesson refl refl refl)
    (c.or_out_of_memory-in-Some-no_lesson_in.ensures InvalidValue c.invalid_name.ensures)

pub returns-in-Some-bad_workers_in : goal.returns-in-Some-bad_workers_in
returns-in-Some-bad_workers_in c words at =
    let rows = rows_of (found_of c.args.matches.now) in
    let known = sym c.unknown_in.ensures ∙ ap is_some c.in_default.is in
    let taught = sym c.no_lesson_in.ensures ∙ ap is_some c.in_default-no_lesson_in.is in
    let bad = sym c.bad_workers_in.ensures ∙ ap is_some c.in-Some-bad_workers_in.is in
    are_refused words (Deals c.args.dealing) rows ValueValidation c.or_out_of_memory-in-Some-bad_workers_in.result at
    (dealing_kinds_are c.args.dealing rows known taught bad refl refl)
    (c.or_out_of_memory-in-Some-bad_workers_in.ensures ValueValidation c.invalid_number.ensures)

pub returns-in-Some-missing_of : goal.returns-in-Some-missing_of
returns-in-Some-missing_of c words at =
    let rows = rows_of (found_of c.args.matches.now) in
    let known = sym c.unknown_in.ensures ∙ ap is_some c.in_default.is in
    let taught = sym c.no_lesson_in.ensures ∙ ap is_some c.in_default-no_lesson_in.is in
    let counted = sym c.bad_workers_in.ensures ∙ ap is_some c.in_default-bad_workers_in.is in
    let lacks = ap (λ s. lacks_option c.args.dealing s rows) (sym c.search_in-search.ensures)
    ∙ sym c.missing_of.ensures ∙ ap is_some c.in-Some-missing_of.is in
    are_refused words (Deals c.args.dealing) rows MissingRequiredArgument c.or_out_of_memory-in-Some-missing_of.result at
    (dealing_kinds_are c.args.dealing rows known taught counted lacks refl)
    (c.or_out_of_memory-in-Some-missing_of.ensures MissingRequiredArgument c.missing_option.ensures)

pub returns-in-Some-extra_of : goal.returns-in-Some-extra_of
returns-in-Some-extra_of c words at =
    let rows = rows_of (found_of c.args.matches.now) in
    let known = sym c.unknown_in.ensures ∙ ap is_some c.in_default.is in
    let taught = sym c.no_lesson_in.ensures ∙ ap is_some c.in_default-no_lesson_in.is in
    let counted = sym c.bad_workers_in.ensures ∙ ap is_some c.in_default-bad_workers_in.is in
    let lacks = ap (λ s. lacks_option c.args.dealing s rows) (sym c.search_in-search.ensures)
    ∙ sym c.missing_of.ensures ∙ ap is_some c.in_default-missing_of.is in
    let extra = sym c.extra_of.ensures ∙ ap is_some c.in-Some-extra_of.is in
    are_refused words (Deals c.args.dealing) rows ArgumentConflict c.or_out_of_memory-in-Some-extra_of.result at
    (dealing_kinds_are c.args.dealing rows known taught counted lacks extra)
    (c.or_out_of_memory-in-Some-extra_of.ensures ArgumentConflict c.conflicting_option.ensures)

pub returns : goal.returns
returns c words at =
    let rows = rows_of (found_of c.args.matches.now) in
    let known = sym c.unknown_in.ensures ∙ ap is_some c.in_default.is in
    let taught = sym c.no_lesson_in.ensures ∙ ap is_some c.in_default-no_lesson_in.is in
    let counted = sym c.bad_workers_in.ensures ∙ ap is_some c.in_default-bad_workers_in.is in
    let lacks = ap (λ s. lacks_option c.args.dealing s rows) (sym c.search_in-search.ensures)
    ∙ sym c.missing_of.ensures ∙ ap is_some c.in_default-missing_of.is in
    let extra = sym c.extra_of.ensures ∙ ap is_some c.in_default-extra_of.is in
    are_read words (Deals c.args.dealing) rows at (dealing_kinds_are c.args.dealing rows known taught counted lacks extra)
    ∙ ap (λ s. Some (made_by c.args.dealing s rows)) (sym c.search_in-search.ensures)
    ∙ ap (λ (w : Wish). Some w) (sym c.request_by.ensures)
