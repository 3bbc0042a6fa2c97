use Rattle.std.proofs.Common.{◌∙◌, ap, option_map}
use Rattle.statistics.specs.Counting.{title_of}
use Rattle.statistics.specs.Json.{string_of}
use Rattle.jobs.proofs.Asking.{only_question, question_memory}
use Rattle.jobs.proofs.questions.asked_of.Goals as goal

pub returns-in_ok-new-in-Ok-clause-only : goal.returns-in_ok-new-in-Ok-clause-only
returns-in_ok-new-in-Ok-clause-only c b asks =
    only_question (option_map (λ t. t.now) c.args.definitions) c.args.text.now c.in-Ok.question c.in_ok-new-in-Ok.field-0 b c.in-Ok.ensures.spelled
    c.in_ok-new-in-Ok.ensures.question (c.in_ok-new-in-Ok.ensures.title ∙ ap title_of c.as_bytes.ensures.value)
    (c.in_ok-new-in-Ok.ensures.string ∙ ap string_of c.as_bytes.ensures.value) asks

pub returns-in-Err-clause-memory : goal.returns-in-Err-clause-memory
returns-in-Err-clause-memory c b asks =
    question_memory (option_map (λ t. t.now) c.args.definitions) c.args.text.now c.args.name c.in-Err.error
    c.of_question.result b c.in-Err.ensures.spelled
    c.of_question.ensures asks
