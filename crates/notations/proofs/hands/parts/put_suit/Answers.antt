use Rattle.std.proofs.Common.{ap, length, arith}
use Rattle.std.specs.Prelude.{codes}
use Rattle.std.proofs.lemmas.List.{length-append}
use Rattle.boards.specs.Letters.{or_dash, suit_letters}
use Rattle.notations.proofs.ColumnLemmas.{columns-suit_text}
use Rattle.notations.proofs.hands.parts.put_suit.Goals as goal

pub returns-clause-columns : goal.returns-clause-columns
returns-clause-columns c =
    let letters = or_dash (codes "-") (suit_letters c.args.hand.now c.args.suit) in
    omega (
      arith,
      c.put.ensures.len,
      ap length c.put_or_dash.ensures.text,
      length-append c.put.new.self letters,
      columns-suit_text c.args.hand.now c.args.suit,
    )
