use Rattle.std.proofs.Common.{◌∙◌, ◌+◌, length, take, drop, sym, ap, arith}
use Rattle.std.proofs.lemmas.List.{drop_all, take_all, take_rest}
use Rattle.input.proofs.Words.{at_place, behind_word-drop, first_word-take, no_place}
use Rattle.input.proofs.tricks.word.split_word.Goals as goal

pub returns-in-Some-clause-word : goal.returns-in-Some-clause-word
returns-in-Some-clause-word c =
    let line = c.args.line.now in
    let place = at_place line c.in-Some.end (sym c.first_blank.ensures ∙ c.in-Some.is) in
    sym (first_word-take line ∙ ap (λ n. take n line) place)

pub returns-in-Some-clause-behind : goal.returns-in-Some-clause-behind
returns-in-Some-clause-behind c =
    let line = c.args.line.now in
    let place = at_place line c.in-Some.end (sym c.first_blank.ensures ∙ c.in-Some.is) in
    rw take_rest (sym (behind_word-drop line ∙ ap (λ n. drop (n + 1) line) place))

pub returns-in-None-clause-word : goal.returns-in-None-clause-word
returns-in-None-clause-word c =
    let line = c.args.line.now in
    let past = no_place line (sym c.first_blank.ensures ∙ c.in-None.is) in
    sym (first_word-take line ∙ take_all _ line past)

pub returns-in-None-clause-behind : goal.returns-in-None-clause-behind
returns-in-None-clause-behind c =
    let line = c.args.line.now in
    let past = no_place line (sym c.first_blank.ensures ∙ c.in-None.is) in
    rw take_rest (drop_all (length line) line (omega arith) ∙ sym (behind_word-drop line ∙ drop_all _ line (omega (arith, past))))
