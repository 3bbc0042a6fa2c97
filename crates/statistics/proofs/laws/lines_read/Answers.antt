-- They are computed, but for the root of a great number, which is known by its square.
use Rattle.std.proofs.Common.{◌≡◌, ◌++◌, codes, ap, refl, sym, arith}
use Rattle.std.specs.Fmt.{digits}
use Rattle.statistics.specs.Columns.{commas, grouped}
use Rattle.statistics.specs.OneQuestion.{deviation, mean_text}
use Rattle.statistics.specs.Rounded.{whole_root, with_point}
use Rattle.statistics.specs.Sentence.{sentence}
use Rattle.statistics.proofs.Roots.{root_is}
use Rattle.statistics.proofs.laws.lines_read.Goals as goal

pub returns-clause-sentence : goal.returns-clause-sentence
unfolding sentence commas grouped digits
returns-clause-sentence c = refl

pub returns-clause-all : goal.returns-clause-all
unfolding sentence commas grouped digits
returns-clause-all c = refl

pub returns-clause-none : goal.returns-clause-none
unfolding sentence commas grouped digits
returns-clause-none c = refl

pub returns-clause-row : goal.returns-clause-row
unfolding commas grouped digits
returns-clause-row c = refl

pub returns-clause-mean : goal.returns-clause-mean
unfolding commas grouped deviation digits mean_text
returns-clause-mean c =
    let e : whole_root 1250000 ≡ 1118 = sym (root_is 1250000 1118 (omega arith) (omega arith)) in
    ap (λ r. codes "mean 2.500, standard deviation " ++ with_point 3 r) e
