-- What is told of several questions.
use Rattle.std.specs.Prelude.{◌<◌, ◌==◌, ℕ, List, [], ◌++◌, codes, if◌then◌else◌, length, slice_index}
use Rattle.cards.specs.declared.seat.Seat.{Seat}
use Rattle.boards.specs.declared.style.TableStyle.{TableStyle}
use Rattle.boards.specs.declared.style.TableStyle.TheVariants as told
use Rattle.statistics.specs.declared.line_style.LineStyle.{LineStyle}
use Rattle.statistics.specs.declared.line_style.LineStyle.TheVariants.{Csv, Html, Table}
use Rattle.statistics.specs.Counting.{TitledQuestion, parts_text}
use Rattle.statistics.specs.Csv.{csv_counts, csv_numbered_row}
use Rattle.statistics.specs.internal.Kept.{KeptOne}
use Rattle.statistics.specs.internal.Texts.{asks_condition}

-- below the sentence
abbrev pub each_text : LineStyle → List TitledQuestion → List (List Seat) → ℕ → List ℕ
each_text Table asked deals tried = parts_text told.Table asked deals
each_text Csv asked deals tried =
    csv_counts (length deals) tried ++ parts_text told.Csv asked deals
each_text Html asked deals tried = parts_text told.Html asked deals

-- a table for people has a deal
abbrev pub TellsDeals : TableStyle → ℕ → Type 0
TellsDeals told.Table deals = 0 < deals
TellsDeals told.Csv deals = Unit {0}
TellsDeals told.Html deals = 0 < deals
TellsDeals told.Json deals = Unit {0}

-- the line of a number, with the number of the question
abbrev pub numbered_kept : ℕ → KeptOne → ℕ → List ℕ
numbered_kept question one n =
    csv_numbered_row question (asks_condition one) n (slice_index one.counts n)

abbrev pub comma_before : ℕ → List ℕ
comma_before number = if number == 1 then [] else codes ","
