use Rattle.std.proofs.Common.{◌==◌, ◌∙◌, sym}
use Rattle.std.proofs.lemmas.List.{take_rest}
use Rattle.boards.proofs.FirstWord.{first_part, one_part}
use Rattle.boards.proofs.tricks.words.split_word.Goals as goal

pub returns-in-Some : goal.returns-in-Some
returns-in-Some c = rw take_rest (first_part (λ b. b == 32) c.args.text.now c.in-Some.end (sym c.first_space.ensures ∙ c.in-Some.is))

pub returns-in-None : goal.returns-in-None
returns-in-None c = one_part (λ b. b == 32) c.args.text.now (sym c.first_space.ensures ∙ c.in-None.is)
