use Rattle.cond_lang.proofs.condition.parse.Goals as goal

pub returns-clause-fault : goal.returns-clause-fault
returns-clause-fault c = λ e short h. c.parse_whole.ensures.fault e h
