-- The texts in the places so far ask their questions.
use Rattle.std.proofs.Common.{◌≡◌, List, option_map}
use Rattle.statistics.specs.Counting.{TitledQuestion}
use Rattle.requests.specs.Requests.{places_of}
use Rattle.jobs.specs.Counting.{AskEach}
use Rattle.jobs.proofs.EachAsked.{texts_before}
use Rattle.jobs.proofs.questions.read_each.Given as goal

abbrev pub invariant-loop-place : goal.invariant-loop-place
invariant-loop-place l = record {
  asks : AskEach (option_map (λ t. t.now) l.fn.definitions) (texts_before l.place (places_of l.fn.texts)) l.asked.items;
  only : (b : List TitledQuestion) → AskEach (option_map (λ t. t.now) l.fn.definitions) (texts_before l.place (places_of l.fn.texts)) b → b ≡ l.asked.items;
}
