use Rattle.std.proofs.Common.{◌≡◌, ◌∙◌, List, ℕ, ap, length, refl}
use Rattle.std.proofs.lemmas.Result.{MatchResult-from_err}
use Rattle.statistics.specs.Counting.{count_text, page_text, page_title}
use Rattle.boards.specs.Html.{html_end}
use Rattle.statistics.specs.Page.{page_head}
use Rattle.statistics.specs.Sentence.{sentence}
use Rattle.statistics.specs.internal.Counters.{asked_of, page_part}
use Rattle.statistics.proofs.Boards.{deals_counted}
use Rattle.statistics.proofs.Parts.{three_at_first, three_at_second, three_parts}
use Rattle.statistics.proofs.kept.Kept.put_page.Goals as goal

pub returns-in_err-put_piece-clause-bytes : goal.returns-in_err-put_piece-clause-bytes
unfolding count_text page_text
returns-in_err-put_piece-clause-bytes g c deals h =
    let head : List ℕ = page_head (page_title (asked_of c.args.self.now)) (sentence (length deals) c.args.tried) in
    let e : c.page_head.result ≡ head = c.page_head.ensures
    ∙ ap (λ (n : ℕ). page_head (page_title (asked_of c.args.self.now)) (sentence n c.args.tried))
    (deals_counted c.args.self.now deals h) in
    let broken = three_at_first (g.S.Sink.bytes c.args.sink.now) (g.S.Sink.bytes c.put_piece.new.sink) c.page_head.result
    head (page_part (asked_of c.args.self.now) deals) html_end e c.in_err-put_piece.ensures.bytes in
    MatchResult-from_err c.from_residual.result _ _ c.from_residual.ensures.0 (λ _. broken)

pub returns-in_err-put_page_part-clause-bytes : goal.returns-in_err-put_page_part-clause-bytes
unfolding count_text page_text
returns-in_err-put_page_part-clause-bytes g c deals h =
    let head : List ℕ = page_head (page_title (asked_of c.args.self.now)) (sentence (length deals) c.args.tried) in
    let e : c.page_head.result ≡ head = c.page_head.ensures
    ∙ ap (λ (n : ℕ). page_head (page_title (asked_of c.args.self.now)) (sentence n c.args.tried))
    (deals_counted c.args.self.now deals h) in
    let broken = three_at_second (g.S.Sink.bytes c.args.sink.now) (g.S.Sink.bytes c.put_piece.new.sink)
    (g.S.Sink.bytes c.put_page_part.new.sink) c.page_head.result
    head (page_part (asked_of c.args.self.now) deals) html_end e c.in_ok-put_piece.ensures.bytes (c.in_err-put_page_part.ensures.bytes deals h) in
    MatchResult-from_err c.from_residual-in_err-put_page_part.result _ _ c.from_residual-in_err-put_page_part.ensures.0 (λ _. broken)

pub returns-clause-bytes : goal.returns-clause-bytes
unfolding count_text page_text html_end
returns-clause-bytes g c deals h =
    let head : List ℕ = page_head (page_title (asked_of c.args.self.now)) (sentence (length deals) c.args.tried) in
    let e : c.page_head.result ≡ head = c.page_head.ensures
    ∙ ap (λ (n : ℕ). page_head (page_title (asked_of c.args.self.now)) (sentence n c.args.tried))
    (deals_counted c.args.self.now deals h) in
    three_parts c.put_all.result (g.S.Sink.bytes c.args.sink.now) (g.S.Sink.bytes c.put_piece.new.sink)
    (g.S.Sink.bytes c.put_page_part.new.sink) (g.S.Sink.bytes c.put_all.new.sink)
    c.page_head.result html_end head (page_part (asked_of c.args.self.now) deals) html_end e refl
    c.in_ok-put_piece.ensures.bytes (c.in_ok-put_page_part.ensures.bytes deals h) c.put_all.ensures.bytes
