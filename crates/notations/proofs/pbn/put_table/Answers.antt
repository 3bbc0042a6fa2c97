use Rattle.std.proofs.Common.{◌≡◌, ◌<◌, ℕ, List, [], ◌∷◌, ◌++◌, length, arith, rules}
use Rattle.std.proofs.lemmas.List.{append_assoc}
use Rattle.cards.specs.declared.seat.Seat.TheVariants.{North, East, South, West}
use Rattle.notations.specs.Games.{rows_of, table_tag, table_text}
use Rattle.notations.specs.Tricks.{five_of}
use Rattle.notations.proofs.pbn.put_table.Goals as goal

whole_table : (old digits : List ℕ) → 0 < length digits
    → ((((old ++ table_tag) ++ rows_of North (five_of North digits)) ++ rows_of South (five_of South digits))
    ++ rows_of East (five_of East digits)) ++ rows_of West (five_of West digits)
    ≡ old ++ table_text digits
unfolding table_text
whole_table old [] some = absurd (omega arith)
whole_table old (x ∷ digits) some = simp append_assoc

pub returns-clause-text : goal.returns-clause-text
returns-clause-text c =
    let some : 0 < length c.args.digits.now = search rules in
    let whole = whole_table c.args.text.now c.args.digits.now some in
    cc
