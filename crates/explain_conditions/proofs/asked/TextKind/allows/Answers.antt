use Rattle.explain_conditions.proofs.asked.TextKind.allows.Goals as goal

pub returns-in-Condition-clause-allowed : goal.returns-in-Condition-clause-allowed
returns-in-Condition-clause-allowed c = rw c.in-Condition.is c.allows.ensures.allowed

pub returns-in-Question-clause-allowed : goal.returns-in-Question-clause-allowed
returns-in-Question-clause-allowed c = rw c.in-Question.is c.allows_in_question.ensures.allowed
