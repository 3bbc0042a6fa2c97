use Rattle.std.proofs.Common.{rules, ◌≡◌}
use Rattle.boards.specs.Settings.{dealer_in, vulnerable_in}
use Rattle.boards.proofs.Rotating.{made}
use Rattle.boards.proofs.setting.Setting.board.Goals as goal

pub returns : goal.returns
returns c =
    let dealer : c.unwrap_or-dealer.result ≡ dealer_in c.args.self.now c.args.number = search rules in
    let vulnerable : c.unwrap_or.result ≡ vulnerable_in c.args.self.now c.args.number = search rules in
    made c.args.self.now c.args.number c.args.candidate c.args.deal c.dealt.result c.unwrap_or-dealer.result
    c.unwrap_or.result dealer vulnerable c.dealt.ensures
