use Rattle.std.proofs.Common.{◌≡◌, ℕ, ◌-◌, List, ◌++◌, ◌∙◌, length, decimal, codes, ap, arith}
use Rattle.std.proofs.lemmas.List.{append_assoc, length-append}
use Rattle.cards.specs.declared.suit.Suit.TheVariants.{Spades}
use Rattle.notations.specs.Columns.{columns}
use Rattle.notations.specs.internal.Parts.{rest_of_line}
use Rattle.notations.proofs.ColumnLemmas.{columns-number}
use Rattle.notations.proofs.LineLemmas.{whole_line}
use Rattle.notations.proofs.hands.put_number_line.Goals as goal

grouped : (old name digits rest : List ℕ) → old ++ name ++ digits ++ rest ≡ old ++ (name ++ digits ++ rest)
grouped old name digits rest = simp append_assoc

pub returns-clause-text : goal.returns-clause-text
returns-clause-text c =
    let number = c.args.number in
    let old = c.args.text.now in
    let north = c.args.north.now in
    let left : List ℕ = codes "Board " ++ decimal number in
    let written = c.put_number.ensures.text ∙ ap (λ xs. xs ++ decimal number) c.put.ensures.text in
    let used : c.len.result - c.len-start.result ≡ columns left =
    omega (
      arith,
      c.len.ensures,
      c.len-start.ensures,
      c.put.ensures.len,
      ap length c.put_number.ensures.text,
      length-append c.put.new.self (decimal number),
      columns-number number (omega arith),
    ) in
    c.put_rest.ensures.text
    ∙ ap (λ n. c.put_number.new.self ++ rest_of_line 18 n north Spades) used
    ∙ ap (λ xs. xs ++ rest_of_line 18 (columns left) north Spades) written
    ∙ grouped old (codes "Board ") (decimal number) (rest_of_line 18 (columns left) north Spades)
    ∙ ap (λ xs. old ++ xs) (whole_line left north Spades)
