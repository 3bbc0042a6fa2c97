use Rattle.std.proofs.Common.{◌∙◌, ◌∷◌, [], Bool, ap, if◌then◌else◌, is_some, sym}
use Rattle.clap.specs.Words.{found_of, rows_of}
use Rattle.clap.specs.declared.error.kind.ErrorKind.TheVariants.{InvalidValue}
use Rattle.command_line.specs.declared.subcommands.Subcommand.TheVariants.{Show}
use Rattle.command_line.proofs.Asked.{are_read, are_refused}
use Rattle.command_line.proofs.words.show_request.Goals as goal

pub returns-in-Some : goal.returns-in-Some
returns-in-Some c words at =
    let unknown = sym c.unknown_in.ensures ∙ ap is_some c.in-Some.is in
    are_refused words Show (rows_of (found_of c.args.matches.now)) InvalidValue c.or_out_of_memory.result at
    (ap (λ (b : Bool). if b then InvalidValue ∷ [] else []) unknown)
    (c.or_out_of_memory.ensures InvalidValue c.invalid_value.ensures)

pub returns : goal.returns
returns c words at =
    let known = sym c.unknown_in.ensures ∙ ap is_some c.in_default.is in
    rw (c.shown_look.ensures, c.hints_in.ensures) (are_read words Show (rows_of (found_of c.args.matches.now)) at
    (ap (λ (b : Bool). if b then InvalidValue ∷ [] else []) known))
