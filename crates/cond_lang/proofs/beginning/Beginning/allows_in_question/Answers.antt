use Rattle.cond_lang.proofs.Asking.{end_of_value, end_of_condition, in_default}
use Rattle.cond_lang.proofs.beginning.Beginning.allows_in_question.Goals as goal

pub returns-then-branch-clause-allowed : goal.returns-then-branch-clause-allowed
returns-then-branch-clause-allowed c =
    end_of_value c.args.self.now c.args.kind c.in_ok-is_value-in-End.field-0 c.in-End.is c.if-branch.true c.in_ok-is_value-in-End.ensures.value

pub returns-in_ok-allows-in-End-clause-allowed : goal.returns-in_ok-allows-in-End-clause-allowed
returns-in_ok-allows-in-End-clause-allowed c =
    end_of_condition c.args.self.now c.args.kind c.in_ok-is_value-in-End.field-0 c.in_ok-allows-in-End.field-0 c.in-End.is c.if-branch.false
    c.in_ok-is_value-in-End.ensures.value c.in_ok-allows-in-End.ensures.allowed

pub returns-in_default : goal.returns-in_default
returns-in_default c =
    record {
      allowed = in_default c.args.self.now c.args.kind c.allows-in_default.result c.in_default.not-End c.allows-in_default.ensures.allowed;
      memory = c.allows-in_default.ensures.memory;
    }
