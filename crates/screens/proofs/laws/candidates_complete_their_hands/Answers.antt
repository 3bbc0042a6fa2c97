use Rattle.screens.proofs.Completed.{completed}
use Rattle.screens.proofs.laws.candidates_complete_their_hands.Goals as goal

pub returns : goal.returns
returns c = completed
