use Rattle.std.proofs.Common.{◌≡◌, ◌<◌, ℕ, List, [], ◌∷◌, ◌++◌, length, arith, rules}
use Rattle.std.proofs.lemmas.List.{append_assoc}
use Rattle.cards.specs.declared.seat.Seat.TheVariants.{North, East, South, West}
use Rattle.notations.specs.Records.{declarer_line, head_line, table_lines}
use Rattle.notations.specs.Tricks.{five_of}
use Rattle.notations.proofs.hands.table.put_table.Goals as goal

whole_table : (old digits : List ℕ) → 0 < length digits
    → ((((old ++ head_line) ++ declarer_line North (five_of North digits))
    ++ declarer_line South (five_of South digits)) ++ declarer_line East (five_of East digits))
    ++ declarer_line West (five_of West digits)
    ≡ old ++ table_lines digits
unfolding table_lines
whole_table old [] some = absurd (omega arith)
whole_table old (x ∷ digits) some = simp append_assoc

pub returns-clause-text : goal.returns-clause-text
returns-clause-text c =
    let some : 0 < length c.args.digits.now = search rules in
    let whole = whole_table c.args.text.now c.args.digits.now some in
    cc
