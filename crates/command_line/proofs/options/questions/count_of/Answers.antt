use Rattle.std.proofs.Common.{◌∙◌, ap, codes, length, List, Option, map, option_map, unwrap_or, [], sym}
use Rattle.std.proofs.lemmas.List.{length-map}
use Rattle.clap.proofs.WalkLemmas.{raw_values-rows}
use Rattle.clap.specs.Words.{Text, found_of}
use Rattle.command_line.proofs.options.questions.count_of.Goals as goal

pub returns-in-None : goal.returns-in-None
returns-in-None c =
    ap (λ (o : Option (List Text)). length (unwrap_or o []))
    (sym (ap (option_map (λ s. map (λ v. v.now) s.now)) c.in-None.is) ∙ c.get_strs.ensures
    ∙ raw_values-rows (found_of c.args.matches.now) (codes "of"))

pub returns-in-Some : goal.returns-in-Some
returns-in-Some c =
    sym (length-map c.in-Some.texts.now (λ v. v.now))
    ∙ ap (λ (o : Option (List Text)). length (unwrap_or o []))
    (sym (ap (option_map (λ s. map (λ v. v.now) s.now)) c.in-Some.is) ∙ c.get_strs.ensures
    ∙ raw_values-rows (found_of c.args.matches.now) (codes "of"))
