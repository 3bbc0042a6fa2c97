use Rattle.cond_lang.proofs.question.parse_question.Goals as goal

pub returns-clause-fault : goal.returns-clause-fault
returns-clause-fault c = λ e short h. c.ask_whole.ensures.fault e h
