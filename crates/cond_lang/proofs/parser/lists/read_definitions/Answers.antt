use Rattle.std.proofs.Common.{◌-◌, List, length, refl}
use Rattle.cond_lang.specs.declared.scanner.Token.{Token}
use Rattle.cond_lang.specs.Text.{kinds}
use Rattle.cond_lang.proofs.Place.{from_ok_alone, never_both_alone, first_fault_alone, same_at, at_place}
use Rattle.cond_lang.proofs.parser.lists.read_definitions.Goals as goal
use Rattle.cond_lang.proofs.parser.lists.read_definitions.Goals.{in-Ok, in-Err-Syntax, in-Err-Memory}

pub returns-clause-names : goal.returns-clause-names
returns-clause-names c =
    elim c.match-definitions_alone.branch [
      | in-Ok w ↦
          rw w.result-is
          (_, from_ok_alone (kinds c.args.tokens.now) c.new-parser.result c.definitions_alone.new.self _ c.new-parser.ensures w.in-Ok.ensures.gives)
      | in-Err-Syntax w ↦ rw w.result-is tt
      | in-Err-Memory w ↦ rw w.result-is tt
    ]

pub returns-clause-found : goal.returns-clause-found
returns-clause-found c = λ N h.
    elim c.match-definitions_alone.branch [
      | in-Ok w ↦ rw w.result-is tt
      | in-Err-Syntax w ↦
          let g = rw w.in-Err-Syntax.field-0-is at w.in-Err-Syntax.ensures.gives in
          absurd (never_both_alone (kinds c.args.tokens.now) c.new-parser.result c.definitions_alone.new.self N c.new-parser.ensures g h)
      | in-Err-Memory w ↦ rw w.result-is refl
    ]

pub returns-clause-place : goal.returns-clause-place
returns-clause-place c = λ at i.
    elim c.match-definitions_alone.branch [
      | in-Ok w ↦ absurd (cc)
      | in-Err-Syntax w ↦
          let T : List Token = kinds c.args.tokens.now in
          let R : List Token = c.definitions_alone.new.self in
          let g = rw w.in-Err-Syntax.field-0-is at w.in-Err-Syntax.ensures.gives in (
            length T - length R,
            first_fault_alone T c.new-parser.result R c.new-parser.ensures g,
            at_place c.args.tokens.now R c.args.end w.left.result w.offset_of.result at w.left.ensures
                w.offset_of.ensures (same_at _ _ (rw w.result-is at i)),
          )
      | in-Err-Memory w ↦ absurd (cc)
    ]
