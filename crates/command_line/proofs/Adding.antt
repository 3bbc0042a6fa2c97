-- Rows that are added one by one.
use Rattle.std.proofs.Common.{◌≡◌, ◌∙◌, ap, sym, ℕ, ◌+◌, ◌<◌, List, length, fold, map, take, get_or}
use Rattle.std.proofs.lemmas.List.{map_more}
use Rattle.std.proofs.lemmas.List.Sums.{fold_push}

-- with one row more
pub one_more : {R B C : Type 0} (add : C → B → C) (f : R → B) (start : C) (rows : List R) (k : ℕ) (d : R) (before after : C) (item : B)
    → k < length rows
    → before ≡ fold add start (map f (take k rows))
    → item ≡ f (get_or rows k d)
    → after ≡ add before item
    → after ≡ fold add start (map f (take (k + 1) rows))
one_more add f start rows k d before after item within known row added =
    added ∙ ap (add before) row
    ∙ ap (λ b. add b (f (get_or rows k d))) known
    ∙ sym (ap (fold add start) (map_more f rows k d within)
    ∙ fold_push add start (map f (take k rows)) (f (get_or rows k d)))
