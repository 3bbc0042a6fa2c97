use Rattle.input.proofs.Words.{clean_word}
use Rattle.input.proofs.tricks.picker.TricksPicker.board_of.Goals as goal

pub number_in-requires : goal.number_in-requires
number_in-requires c = rw c.split_word.ensures.word (clean_word c.args.line.now c.requires.line)
