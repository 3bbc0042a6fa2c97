use Rattle.std.proofs.Common.{◌≡◌, ◌∙◌, false, true, sym, ap, Some, refl, rules}
use Rattle.std.specs.Option.{is_some}
use Rattle.boards.specs.TricksLines.{told}
use Rattle.boards.proofs.TricksForms.{five_words, four_words, no_contract, no_par}
use Rattle.boards.proofs.tricks.Tricks.read.Goals as goal

pub returns-in_default : goal.returns-in_default
unfolding told
returns-in_default c = rw (c.split_word.ensures, c.in_default.is) c.alone.ensures

pub returns-in_default-after : goal.returns-in_default-after
unfolding told
returns-in_default-after c = rw (c.split_word.ensures, c.in-Some.is, c.split_word-2.ensures, c.in_default-after.is) refl

pub returns-then-not-are_with_par : goal.returns-then-not-are_with_par
unfolding told
returns-then-not-are_with_par c =
    rw (c.split_word.ensures, c.in-Some.is, c.split_word-2.ensures, c.in-Some-after.is, c.split_word-3.ensures)
    (no_par c.split_word.result.0.now c.split_word-2.result.0.now c.split_word-3.result.0.now _
    (sym c.are_with_par.ensures ∙ c.if-not-are_with_par.true))

pub returns-in_default-after-2 : goal.returns-in_default-after-2
unfolding told
returns-in_default-after-2 c =
    let par = sym c.are_with_par.ensures ∙ c.if-not-are_with_par.false in
    rw (
      c.split_word.ensures,
      c.in-Some.is,
      c.split_word-2.ensures,
      c.in-Some-after.is,
      c.split_word-3.ensures,
      c.in_default-after-2.is,
      par,
    ) (ap (λ t. Some t) c.with_par.ensures)

pub returns-then-is_some : goal.returns-then-is_some
unfolding told
returns-then-is_some c =
    let some : is_some c.split_word-4.result.1 ≡ true = search rules in
    rw (
      c.split_word.ensures,
      c.in-Some.is,
      c.split_word-2.ensures,
      c.in-Some-after.is,
      c.split_word-3.ensures,
      c.in-Some-after-2.is,
      c.split_word-4.ensures,
    )
    (five_words c.split_word.result.0.now c.split_word-2.result.0.now c.split_word-3.result.0.now
    c.split_word-4.result.0.now c.split_word-4.result.1 some)

pub returns-then-not-is_contract : goal.returns-then-not-is_contract
unfolding told
returns-then-not-is_contract c =
    let none : is_some c.split_word-4.result.1 ≡ false = search rules in
    let not_so = sym c.is_contract.ensures ∙ c.if-not-is_contract.true in
    rw (
      c.split_word.ensures,
      c.in-Some.is,
      c.split_word-2.ensures,
      c.in-Some-after.is,
      c.split_word-3.ensures,
      c.in-Some-after-2.is,
      c.split_word-4.ensures,
      four_words c.split_word-4.result.1 none,
    )
    (no_contract c.split_word.result.0.now c.split_word-2.result.0.now c.split_word-3.result.0.now c.split_word-4.result.0.now not_so)

pub returns : goal.returns
unfolding told
returns c =
    let none : is_some c.split_word-4.result.1 ≡ false = search rules in
    let par = sym c.are_with_par.ensures ∙ c.if-not-are_with_par.false in
    let contract = sym c.is_contract.ensures ∙ c.if-not-is_contract.false in
    rw (
      c.split_word.ensures,
      c.in-Some.is,
      c.split_word-2.ensures,
      c.in-Some-after.is,
      c.split_word-3.ensures,
      c.in-Some-after-2.is,
      c.split_word-4.ensures,
      four_words c.split_word-4.result.1 none,
      par,
      contract,
    )
    (ap (λ t. Some t) c.with_par-2.ensures)
