use Rattle.std.proofs.Common.{◌∙◌, ap, ap₂, codes, List, Option, map, option_map, unwrap_or, [], sym}
use Rattle.clap.proofs.WalkLemmas.{raw_values-rows}
use Rattle.clap.specs.Words.{Text, first_of, found_of, rows_of}
use Rattle.command_line.specs.options.Questions.{questions_from}
use Rattle.command_line.proofs.options.questions.questions_in.Goals as goal

pub returns-in-Some : goal.returns-in-Some
returns-in-Some c =
    c.questions_from.ensures
    ∙ ap₂ questions_from
    (ap (λ (o : Option (List Text)). unwrap_or o [])
    (sym (ap (option_map (λ s. map (λ v. v.now) s.now)) c.in-Some.is) ∙ c.get_strs.ensures
    ∙ raw_values-rows (found_of c.args.matches.now) (codes "of")))
    c.text_in.ensures

pub returns-in-None : goal.returns-in-None
returns-in-None c =
    ap (λ (o : Option (List Text)). questions_from (unwrap_or o []) (first_of (codes "by") (rows_of (found_of c.args.matches.now))))
    (sym (ap (option_map (λ s. map (λ v. v.now) s.now)) c.in-None.is) ∙ c.get_strs.ensures
    ∙ raw_values-rows (found_of c.args.matches.now) (codes "of"))
