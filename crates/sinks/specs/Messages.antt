-- The text of a message.
use Rattle.std.specs.Prelude.{ℕ, List, [], ◌++◌, Option, None, Some, decimal}
use Rattle.sinks.specs.declared.message.Message.{Message}

abbrev pub number_text : Option ℕ → List ℕ
number_text None = []
number_text (Some n) = decimal n

-- a message's two texts, with its number between them
abbrev pub text_of : Message → List ℕ
text_of m = m.before.now ++ number_text m.number ++ m.after.now
