-- The csv tables of shards, and of the whole.
use Rattle.std.proofs.Common.{◌≡◌, ◌∙◌, ◌+◌, ◌++◌, ℕ, List, None, map, refl, ap, ap₂}
use Rattle.std.proofs.lemmas.List.{map-append}
use Rattle.boards.specs.declared.style.TableStyle.TheVariants.{Csv}
use Rattle.cards.specs.declared.seat.Seat.{Seat}
use Rattle.conditions.specs.Form.{Form}
use Rattle.jobs.specs.Counting.{table_by}
use Rattle.boards.specs.Plans.{Planned, candidate_of}
use Rattle.boards.specs.Text.{accepted, end_of}
use Rattle.statistics.specs.Counting.{Subject, count_text, csv_text}
use Rattle.statistics.specs.Shards.{AddUp}
use Rattle.statistics.proofs.Shards.{adds_up}
use Rattle.deals_cli.proofs.Finding.{accepted_shards, tried_shards}

-- the accepted deals of a plan
abbrev deals_of : Planned → Form → List (List Seat)
deals_of plan form = map (candidate_of plan) (accepted plan form)

whole : (subject : Subject) (plan : Planned) (form : Form) (deals : List (List Seat)) (tried : ℕ)
    → deals_of plan form ≡ deals → end_of plan form ≡ tried
    → table_by Csv subject plan form ≡ csv_text subject deals tried
unfolding table_by count_text
whole subject plan form deals tried deals_are tried_is = ap₂ (csv_text subject) deals_are tried_is

shard : (subject : Subject) (plan : Planned) (form : Form) → table_by Csv subject plan form ≡ csv_text subject (deals_of plan form) (end_of plan form)
unfolding table_by count_text
shard subject plan form = refl

pub tables_add_up : (subject : Subject) (plan : Planned) (form : Form) (m n : ℕ) → plan.limit ≡ None → plan.count ≡ m + n
    → AddUp subject (table_by Csv subject (record plan { count = m }) form)
    (table_by Csv subject (record plan { first = plan.first + m; count = n }) form) (table_by Csv subject plan form)
tables_add_up subject plan form m n none all =
    let one : Planned = record plan { count = m } in
    let two : Planned = record plan { first = plan.first + m; count = n } in
    let deals = ap (map (candidate_of plan)) (accepted_shards plan form m n none all)
    ∙ map-append (candidate_of plan) (accepted one form) (accepted two form) in
    let all_is = whole subject plan form (deals_of one form ++ deals_of two form) (end_of one form + end_of two form)
    deals (tried_shards plan form m n none all) in
    rw (shard subject one form, shard subject two form, all_is)
    (adds_up subject (deals_of one form) (deals_of two form) (end_of one form) (end_of two form))
