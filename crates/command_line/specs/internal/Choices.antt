-- The tables that the options of a few words are written as.
use Rattle.std.specs.Prelude.{List, map}
use Rattle.clap.specs.Words.{Text}
use Rattle.command_line.specs.declared.given.OptionWords.{OptionWords}

-- what each word means
abbrev pub table_of : {A : Type 0} → OptionWords A → List (Text × A)
table_of choice = map (λ p. (p.0.now, p.1)) choice.words.table.now
