use Rattle.std.proofs.Common.{ap}
use Rattle.cond_lang.specs.Form.{Form}
use Rattle.conditions.specs.Meaning.{holds}
use Rattle.jobs.proofs.laws.a_lesson_and_a_condition.Goals as goal

pub returns : goal.returns
returns c s lesson given named asked form means =
    let both = rw (named, asked) at means.1 in
    (both.0, both.1, both.2, both.3, λ deal. ap (λ (f : Form). holds f deal) both.4)
