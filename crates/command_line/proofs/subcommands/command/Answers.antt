use Rattle.std.proofs.Common.{◌≡◌, List, Result, IfOk, fold, map, subst}
use Rattle.clap.specs.Simple.{Shape}
use Rattle.clap.specs.Words.{App, app_of, with_subcommand}
use Rattle.clap.specs.declared.Command.{Command}
use Rattle.command_line.specs.Commands.{deals_top, subcommands}
use Rattle.command_line.specs.internal.Rows.{top_for}
use Rattle.command_line.proofs.subcommands.command.Goals as goal

on_top_of : {E : Type 0} (r : Result Command E) (a b : App) (subs tops : List Shape) → a ≡ b → subs ≡ tops
    → IfOk r (λ c. app_of c ≡ fold with_subcommand a subs)
    → IfOk r (λ c. app_of c ≡ fold with_subcommand b tops)
on_top_of r a b subs tops same same_subs h =
    subst (λ x. IfOk r (λ c. app_of c ≡ fold with_subcommand b x)) same_subs
    (subst (λ x. IfOk r (λ c. app_of c ≡ fold with_subcommand x subs)) same h)

pub returns : goal.returns
returns c =
    let subs = map top_for c.subcommands.result.now in
    let tops = map (λ p. p.1.top) subcommands in
    on_top_of c.with_subcommands.result (app_of c.in_ok-top.field-0) deals_top subs tops c.in_ok-top.ensures.app
    c.subcommands.ensures.made c.with_subcommands.ensures
