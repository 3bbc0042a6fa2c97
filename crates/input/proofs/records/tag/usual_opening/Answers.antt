use Rattle.std.proofs.Common.{refl}
use Rattle.input.specs.Kinds.{kind_of}
use Rattle.input.proofs.records.tag.usual_opening.Goals as goal

pub opening_of-requires-clause-kind : goal.opening_of-requires-clause-kind
unfolding kind_of
opening_of-requires-clause-kind c = refl

pub opening_of-requires-2-clause-kind : goal.opening_of-requires-2-clause-kind
unfolding kind_of
opening_of-requires-2-clause-kind c = refl

pub opening_of-requires-3-clause-kind : goal.opening_of-requires-3-clause-kind
unfolding kind_of
opening_of-requires-3-clause-kind c = refl

pub opening_of-requires-4-clause-kind : goal.opening_of-requires-4-clause-kind
unfolding kind_of
opening_of-requires-4-clause-kind c = refl
