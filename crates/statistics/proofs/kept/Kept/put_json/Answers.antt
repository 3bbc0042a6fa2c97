use Rattle.std.proofs.Common.{◌≡◌, ◌++◌, ◌∙◌, List, ℕ, ap, codes, length, refl, subst}
use Rattle.std.proofs.lemmas.Result.{MatchResult-from_err}
use Rattle.sinks.specs.Appended.{AppendsPart}
use Rattle.sinks.specs.Sinks.{AppendsOrBreaksOff}
use Rattle.statistics.specs.Counting.{count_text, json_questions}
use Rattle.statistics.specs.internal.Counters.{asked_of, json_start}
use Rattle.statistics.proofs.Boards.{deals_counted}
use Rattle.statistics.proofs.Objects.{object_is}
use Rattle.statistics.proofs.Parts.{three_at_first, three_at_second, three_parts}
use Rattle.statistics.proofs.kept.Kept.put_json.Goals as goal

pub returns-in_err-put_piece-clause-bytes : goal.returns-in_err-put_piece-clause-bytes
unfolding count_text
returns-in_err-put_piece-clause-bytes g c deals h =
    let e : c.json_start.result ≡ json_start (length deals) c.args.tried = c.json_start.ensures
    ∙ ap (λ (n : ℕ). json_start n c.args.tried) (c.deals.ensures.value ∙ deals_counted c.args.self.now deals h) in
    let items : List ℕ = json_questions (asked_of c.args.self.now) deals in
    let broken = subst (AppendsPart (g.S.Sink.bytes c.args.sink.now) (g.S.Sink.bytes c.put_piece.new.sink))
    (object_is (length deals) c.args.tried items)
    (three_at_first (g.S.Sink.bytes c.args.sink.now) (g.S.Sink.bytes c.put_piece.new.sink) c.json_start.result
    (json_start (length deals) c.args.tried) items (codes "]}\n") e c.in_err-put_piece.ensures.bytes) in
    MatchResult-from_err c.from_residual.result _ _ c.from_residual.ensures.0 (λ _. broken)

pub returns-in_err-put_questions-clause-bytes : goal.returns-in_err-put_questions-clause-bytes
unfolding count_text
returns-in_err-put_questions-clause-bytes g c deals h =
    let e : c.json_start.result ≡ json_start (length deals) c.args.tried = c.json_start.ensures
    ∙ ap (λ (n : ℕ). json_start n c.args.tried) (c.deals.ensures.value ∙ deals_counted c.args.self.now deals h) in
    let items : List ℕ = json_questions (asked_of c.args.self.now) deals in
    let broken = subst (AppendsPart (g.S.Sink.bytes c.args.sink.now) (g.S.Sink.bytes c.put_questions.new.sink))
    (object_is (length deals) c.args.tried items)
    (three_at_second (g.S.Sink.bytes c.args.sink.now) (g.S.Sink.bytes c.put_piece.new.sink)
    (g.S.Sink.bytes c.put_questions.new.sink) c.json_start.result
    (json_start (length deals) c.args.tried) items (codes "]}\n") e c.in_ok-put_piece.ensures.bytes (c.in_err-put_questions.ensures.bytes deals h)) in
    MatchResult-from_err c.from_residual-in_err-put_questions.result _ _ c.from_residual-in_err-put_questions.ensures.0 (λ _. broken)

pub returns-clause-bytes : goal.returns-clause-bytes
unfolding count_text
returns-clause-bytes g c deals h =
    let e : c.json_start.result ≡ json_start (length deals) c.args.tried = c.json_start.ensures
    ∙ ap (λ (n : ℕ). json_start n c.args.tried) (c.deals.ensures.value ∙ deals_counted c.args.self.now deals h) in
    let items : List ℕ = json_questions (asked_of c.args.self.now) deals in
    subst (AppendsOrBreaksOff (g.S.Sink.bytes c.args.sink.now) (g.S.Sink.bytes c.put_all.new.sink) c.put_all.result)
    (object_is (length deals) c.args.tried items)
    (three_parts c.put_all.result (g.S.Sink.bytes c.args.sink.now) (g.S.Sink.bytes c.put_piece.new.sink)
    (g.S.Sink.bytes c.put_questions.new.sink) (g.S.Sink.bytes c.put_all.new.sink)
    c.json_start.result (codes "]}\n") (json_start (length deals) c.args.tried) items (codes "]}\n") e refl
    c.in_ok-put_piece.ensures.bytes (c.in_ok-put_questions.ensures.bytes deals h) c.put_all.ensures.bytes)
