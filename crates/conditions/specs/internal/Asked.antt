-- What a question asks, as its struct keeps it.
use Rattle.conditions.specs.declared.question.Asked.{Asked}
use Rattle.conditions.specs.declared.question.Asked.TheVariants.{Condition, Value}
use Rattle.conditions.specs.Form.{amount_of}
use Rattle.conditions.specs.Questions.{Question, asks_condition, asks_value}

abbrev pub question_of : Asked → Question
question_of (Condition tree) = asks_condition tree
question_of (Value value) = asks_value (amount_of value)
