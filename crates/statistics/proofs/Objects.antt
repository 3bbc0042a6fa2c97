-- What is written as JSON is the object of the deals.
use Rattle.std.proofs.Common.{◌≡◌, ◌++◌, ℕ, List, codes, refl}
use Rattle.cards.specs.declared.seat.Seat.{Seat}
use Rattle.statistics.specs.Answers.{answers_of}
use Rattle.statistics.specs.Counting.{by_one, by_two, json_questions, pairs_of}
use Rattle.statistics.specs.Json.{json_object}
use Rattle.statistics.specs.internal.Counters.{json_start}
use Rattle.statistics.specs.internal.Items.{one_json, two_json}
use Rattle.statistics.specs.internal.Kept.{CountsOne, CountsTwo, IsKeptOne, IsKeptTwo, KeptOne, KeptTwo}
use Rattle.statistics.proofs.OneJson.{one_json_is}
use Rattle.statistics.proofs.TwoJson.{two_json_is}

pub one_question : (one : KeptOne) (deals : List (List Seat)) → IsKeptOne one → CountsOne one (answers_of one.asked.question deals)
    → one_json one ≡ json_questions (by_one one.asked) deals
unfolding json_questions
one_question one deals kept h = one_json_is one (answers_of one.asked.question deals) kept h

pub two_questions : (two : KeptTwo) (deals : List (List Seat)) → IsKeptTwo two → CountsTwo two (pairs_of two.of.asked.question two.by.question deals)
    → two_json two ≡ json_questions (by_two two.of.asked two.by) deals
unfolding json_questions
two_questions two deals kept h = two_json_is two (pairs_of two.of.asked.question two.by.question deals) kept h

pub object_is : (deals tried : ℕ) (xs : List ℕ) → json_start deals tried ++ xs ++ codes "]}\n" ≡ json_object deals tried xs
unfolding json_start json_object
object_is deals tried xs = refl
