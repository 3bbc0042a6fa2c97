use Rattle.std.proofs.Common.{◌∙◌, List, ℕ, subst, sym}
use Rattle.std.proofs.lemmas.Result.{MatchResult-from_err}
use Rattle.sinks.specs.Appended.{AppendsAll, AppendsPart}
use Rattle.sinks.specs.Sinks.{AppendsOrBreaksOff}
use Rattle.conditions.specs.Questions.{is_condition}
use Rattle.boards.specs.declared.style.TableStyle.{TableStyle}
use Rattle.statistics.specs.Counting.{part_text}
use Rattle.statistics.specs.Json.{json_one}
use Rattle.statistics.specs.Page.{page_heading, page_one}
use Rattle.statistics.specs.internal.Parts.{comma_before}
use Rattle.statistics.proofs.Numbered.{numbered_is}
use Rattle.statistics.proofs.OneJson.{one_json_is}
use Rattle.statistics.proofs.OnePage.{one_page_is}
use Rattle.statistics.proofs.OneTable.{one_table_is}
use Rattle.statistics.proofs.Parts.{part_more, then_either}
use Rattle.statistics.proofs.one.One.put_part.Goals as goal

pub returns-in-Table-clause-bytes : goal.returns-in-Table-clause-bytes
returns-in-Table-clause-bytes g c answers h =
    subst (λ (style : TableStyle). AppendsOrBreaksOff (g.S.Sink.bytes c.args.sink.now) (g.S.Sink.bytes c.put.new.sink)
    c.put.result (part_text style c.args.number c.args.self.now.asked answers)) (sym c.in-Table.is)
    (subst (AppendsOrBreaksOff (g.S.Sink.bytes c.args.sink.now) (g.S.Sink.bytes c.put.new.sink) c.put.result)
    (one_table_is c.args.self.now answers c.widths.result c.widths.ensures.kept h c.widths.ensures.widths) c.put.ensures.bytes)

pub returns-in-Csv-clause-bytes : goal.returns-in-Csv-clause-bytes
returns-in-Csv-clause-bytes g c answers h =
    subst (λ (style : TableStyle). AppendsOrBreaksOff (g.S.Sink.bytes c.args.sink.now)
    (g.S.Sink.bytes c.put_numbered.new.sink) c.put_numbered.result
    (part_text style c.args.number c.args.self.now.asked answers)) (sym c.in-Csv.is)
    (subst (AppendsOrBreaksOff (g.S.Sink.bytes c.args.sink.now) (g.S.Sink.bytes c.put_numbered.new.sink) c.put_numbered.result)
    (numbered_is c.args.number c.args.self.now answers c.put_numbered.ensures.kept h) c.put_numbered.ensures.bytes)

pub returns-in_err-put_piece-in-Html-clause-bytes : goal.returns-in_err-put_piece-in-Html-clause-bytes
returns-in_err-put_piece-in-Html-clause-bytes g c answers h =
    let broken = part_more (g.S.Sink.bytes c.args.sink.now) (g.S.Sink.bytes c.put_piece.new.sink)
    (page_heading c.args.self.now.asked.title) (page_one (is_condition c.args.self.now.asked.question) answers)
    (subst (AppendsPart (g.S.Sink.bytes c.args.sink.now) (g.S.Sink.bytes c.put_piece.new.sink)) c.heading.ensures
    c.in_err-put_piece-in-Html.ensures.bytes) in
    subst (λ (style : TableStyle). AppendsOrBreaksOff (g.S.Sink.bytes c.args.sink.now)
    (g.S.Sink.bytes c.put_piece.new.sink) c.from_residual.result
    (part_text style c.args.number c.args.self.now.asked answers)) (sym c.in-Html.is)
    (MatchResult-from_err c.from_residual.result _ _ c.from_residual.ensures.0 (λ _. broken))

pub returns-in_ok-put_piece-in-Html-clause-bytes : goal.returns-in_ok-put_piece-in-Html-clause-bytes
returns-in_ok-put_piece-in-Html-clause-bytes g c answers h =
    subst (λ (style : TableStyle). AppendsOrBreaksOff (g.S.Sink.bytes c.args.sink.now)
    (g.S.Sink.bytes c.put-in-Html.new.sink) c.put-in-Html.result
    (part_text style c.args.number c.args.self.now.asked answers)) (sym c.in-Html.is)
    (then_either c.put-in-Html.result (g.S.Sink.bytes c.args.sink.now) (g.S.Sink.bytes c.put_piece.new.sink) (g.S.Sink.bytes c.put-in-Html.new.sink)
    (page_heading c.args.self.now.asked.title) (page_one (is_condition c.args.self.now.asked.question) answers)
    (subst (AppendsAll (g.S.Sink.bytes c.args.sink.now) (g.S.Sink.bytes c.put_piece.new.sink)) c.heading.ensures
    c.in_ok-put_piece-in-Html.ensures.bytes)
    (subst (AppendsOrBreaksOff (g.S.Sink.bytes c.put_piece.new.sink) (g.S.Sink.bytes c.put-in-Html.new.sink) c.put-in-Html.result)
    (one_page_is c.args.self.now answers c.widths-in-Html.result c.widths-in-Html.ensures.kept h
    c.widths-in-Html.ensures.widths) c.put-in-Html.ensures.bytes))

pub returns-in_err-put_piece-in-Json-clause-bytes : goal.returns-in_err-put_piece-in-Json-clause-bytes
returns-in_err-put_piece-in-Json-clause-bytes g c answers h =
    let broken = part_more (g.S.Sink.bytes c.args.sink.now) (g.S.Sink.bytes c.put_piece-in-Json.new.sink)
    (comma_before c.args.number) (json_one (is_condition c.args.self.now.asked.question)
    c.args.self.now.asked.string answers)
    (subst (AppendsPart (g.S.Sink.bytes c.args.sink.now) (g.S.Sink.bytes c.put_piece-in-Json.new.sink))
    c.comma_before.ensures c.in_err-put_piece-in-Json.ensures.bytes) in
    subst (λ (style : TableStyle). AppendsOrBreaksOff (g.S.Sink.bytes c.args.sink.now)
    (g.S.Sink.bytes c.put_piece-in-Json.new.sink) c.from_residual-in_err-put_piece-in-Json.result
    (part_text style c.args.number c.args.self.now.asked answers)) (sym c.in-Json.is)
    (MatchResult-from_err c.from_residual-in_err-put_piece-in-Json.result _ _ c.from_residual-in_err-put_piece-in-Json.ensures.0 (λ _. broken))

pub returns-in_ok-put_piece-in-Json-clause-bytes : goal.returns-in_ok-put_piece-in-Json-clause-bytes
returns-in_ok-put_piece-in-Json-clause-bytes g c answers h =
    subst (λ (style : TableStyle). AppendsOrBreaksOff (g.S.Sink.bytes c.args.sink.now) (g.S.Sink.bytes c.put_json.new.sink)
    c.put_json.result (part_text style c.args.number c.args.self.now.asked answers)) (sym c.in-Json.is)
    (then_either c.put_json.result (g.S.Sink.bytes c.args.sink.now) (g.S.Sink.bytes c.put_piece-in-Json.new.sink) (g.S.Sink.bytes c.put_json.new.sink)
    (comma_before c.args.number) (json_one (is_condition c.args.self.now.asked.question) c.args.self.now.asked.string answers)
    (subst (AppendsAll (g.S.Sink.bytes c.args.sink.now) (g.S.Sink.bytes c.put_piece-in-Json.new.sink))
    c.comma_before.ensures c.in_ok-put_piece-in-Json.ensures.bytes)
    (subst (AppendsOrBreaksOff (g.S.Sink.bytes c.put_piece-in-Json.new.sink) (g.S.Sink.bytes c.put_json.new.sink) c.put_json.result)
    (one_json_is c.args.self.now answers c.put_json.ensures.kept h) c.put_json.ensures.bytes))
