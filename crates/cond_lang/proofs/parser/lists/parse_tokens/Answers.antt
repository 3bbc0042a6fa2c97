use Rattle.std.proofs.Common.{◌≡◌, ◌-◌, ◌≤◌, ◌<◌, ◌∙◌, List, ap, arith, inr, length, refl, rules, subst, sym}
use Rattle.cond_lang.specs.declared.scanner.Token.{Token}
use Rattle.cond_lang.specs.internal.Defining.{whole}
use Rattle.cond_lang.specs.internal.Reading.{stuck}
use Rattle.conditions.specs.declared.limits.TheConstants.{MOST_PARTS}
use Rattle.conditions.specs.Form.{form_of}
use Rattle.conditions.specs.Limits.{parts_of}
use Rattle.cond_lang.specs.Definitions.{Spells}
use Rattle.cond_lang.specs.Text.{kinds}
use Rattle.cond_lang.proofs.Place.{from_ok, from_stuck, never_both, first_fault, same_at, at_place}
use Rattle.cond_lang.proofs.Definitions.{one_tree}
use Rattle.cond_lang.proofs.parser.lists.parse_tokens.Goals as goal

pub returns-in-Some-clause-spelled : goal.returns-in-Some-clause-spelled
returns-in-Some-clause-spelled c =
    let read = c.in-Ok.ensures.gives in
    let kept = rw c.in-Some.is at read.1.tree in
    let inner : c.into_inner.result ≡ c.in-Some.tree.value = search rules in
    let same : read.0 ≡ form_of c.into_inner.result = sym kept.0 ∙ ap form_of (sym inner) in
    subst (λ t. Spells (kinds c.args.tokens.now) t × (parts_of t ≤ MOST_PARTS)) same
    (from_ok (kinds c.args.tokens.now) c.new-parser.result c.whole.new.self read.0 c.new-parser.ensures read.2, kept.1)

pub returns-in-None-clause-found : goal.returns-in-None-clause-found
returns-in-None-clause-found c = λ t h.
    let read = c.in-Ok.ensures.gives in
    let more : MOST_PARTS < parts_of read.0 = rw c.in-None.is at read.1.tree in
    let spelled = from_ok (kinds c.args.tokens.now) c.new-parser.result c.whole.new.self read.0 c.new-parser.ensures read.2 in
    inr (refl, omega (arith, more, ap parts_of (one_tree (kinds c.args.tokens.now) read.0 t spelled h)))

pub returns-in-None-clause-many : goal.returns-in-None-clause-many
returns-in-None-clause-many c = λ same.
    let read = c.in-Ok.ensures.gives in (
      read.0,
      from_ok (kinds c.args.tokens.now) c.new-parser.result c.whole.new.self read.0 c.new-parser.ensures
          read.2,
      rw c.in-None.is at read.1.tree,
    )

pub returns-in-Err-Syntax-clause-found : goal.returns-in-Err-Syntax-clause-found
returns-in-Err-Syntax-clause-found c = λ t h.
    let g = rw c.in-Err-Syntax.field-0-is at c.in-Err-Syntax.ensures.gives in
    absurd (never_both (kinds c.args.tokens.now) c.whole.new.self t (from_stuck _ _ _ c.new-parser.ensures g) h)

pub returns-in-Err-Syntax-clause-place : goal.returns-in-Err-Syntax-clause-place
returns-in-Err-Syntax-clause-place c = λ at i.
    let T : List Token = kinds c.args.tokens.now in
    let R : List Token = c.whole.new.self in
    let g = rw c.in-Err-Syntax.field-0-is at c.in-Err-Syntax.ensures.gives in
    let e : whole T ≡ stuck R = from_stuck T c.new-parser.result R c.new-parser.ensures g in (
      length T - length R,
      first_fault T R e,
      at_place c.args.tokens.now R c.args.end c.left.result c.offset_of.result
          at c.left.ensures c.offset_of.ensures (same_at _ _ i),
    )
