use Rattle.std.proofs.Common.{map, string_bytes}
use Rattle.command_line.specs.CommandLine.{asked}
use Rattle.deals_cli.proofs.NoInput.{six}
use Rattle.deals_cli.proofs.entry.program.Goals as goal

pub returns-clause-told : goal.returns-clause-told
returns-clause-told g c w is failed = c.program_with_input.ensures.told w is failed

pub returns-clause-status : goal.returns-clause-status
returns-clause-status g c other =
    six (map string_bytes c.args.words.now) (asked (map string_bytes c.args.words.now)) c.program_with_input.result _
    _ _ _ _ c.program_with_input.ensures.status
    (λ w is failed. c.program_with_input.ensures.told w is failed)
    c.program_with_input.ensures.asked.unasked (λ w is needs. other (w, is, needs))
