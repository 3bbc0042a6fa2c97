use Rattle.std.proofs.Common.{◌≡◌, ◌∙◌, ap, sym, Err, subst}
use Rattle.std.proofs.lemmas.Result.{err_from_is_err_and}
use Rattle.cond_lang.specs.Classes.{given}
use Rattle.cond_lang.specs.internal.Defining.{body, meaning_by, meanings, IsRead}
use Rattle.cond_lang.specs.internal.Reading.{got}
use Rattle.cond_lang.proofs.Reread.{value_body, cond_body, err_body, value_read_each, cond_read_each}
use Rattle.cond_lang.proofs.parser.Parser.body.Goals as goal
use Rattle.cond_lang.proofs.parser.Parser.body.Goals.{then-not-is_value+in_ok-cond+in-Some-1}
use Rattle.cond_lang.proofs.parser.Parser.body.Goals.{then-not-is_value+in_ok-cond+in-None-1, else-not-is_value}

pub returns-in_err-cond-clause-gives : goal.returns-in_err-cond-clause-gives
returns-in_err-cond-clause-gives c =
    let p = err_from_is_err_and c.from_residual-in_err-cond.result c.from_residual-in_err-cond.ensures.1 in
    err_body (meanings c.args.names.now) c.args.params c.args.self.now c.given-bound.result c.given-bound.ensures
    c.in_ok-is_value.is_value c.in_ok-is_value.ensures.is
    _ c.cond.new.self c.in_err-cond.field-0.0 c.from_residual-in_err-cond.result c.if-not-is_value.true c.self.view_is
    (p.1 ∙ ap (λ e. Err e) p.2) c.in_err-cond.ensures.gives

pub returns-clause-gives : goal.returns-clause-gives
returns-clause-gives c =
    let same : body (meanings c.args.names.now) c.args.params c.args.self.now
    ≡ got (meaning_by (meanings c.args.names.now) c.in_ok-is_value.is_value c.args.params c.args.self.now) c.if-not-is_value.self =
    elim c.if-not-is_value.branch [
      | then-not-is_value+in_ok-cond+in-Some-1 w ↦
          rw w.self-is (cond_body (meanings c.args.names.now) c.args.params c.args.self.now c.given-bound.result
          c.given-bound.ensures c.in_ok-is_value.is_value c.in_ok-is_value.ensures.is _ w.cond.new.self _
          w.if-not-is_value.true c.self.view_is w.in_ok-cond.ensures.gives.2)
      | then-not-is_value+in_ok-cond+in-None-1 w ↦
          rw w.self-is (cond_body (meanings c.args.names.now) c.args.params c.args.self.now c.given-bound.result
          c.given-bound.ensures c.in_ok-is_value.is_value c.in_ok-is_value.ensures.is _ w.cond.new.self _
          w.if-not-is_value.true c.self.view_is w.in_ok-cond.ensures.gives.2)
      | else-not-is_value w ↦
          rw w.self-is (value_body (meanings c.args.names.now) c.args.params c.args.self.now c.given-bound.result
          c.given-bound.ensures c.in_ok-is_value.is_value c.in_ok-is_value.ensures.is c.is_value.new.self
          w.if-not-is_value.false (c.in_ok-is_value.ensures.left w.if-not-is_value.false))
    ] in
    same ∙ ap (λ S. got (meaning_by (meanings c.args.names.now) c.in_ok-is_value.is_value c.args.params S)
    c.if-not-is_value.self) (sym c.self.view_is)

pub returns-clause-sound : goal.returns-clause-sound
returns-clause-sound c =
    let read : (x : _) → IsRead (meanings c.args.names.now) c.in_ok-is_value.is_value (given c.args.params x) c.args.self.now =
    elim c.if-not-is_value.branch [
      | then-not-is_value+in_ok-cond+in-Some-1 w ↦
          cond_read_each (meanings c.args.names.now) c.args.params c.args.self.now c.given-bound.result
          c.given-bound.ensures c.in_ok-is_value.is_value c.in_ok-is_value.ensures.is _ w.cond.new.self _
          w.if-not-is_value.true c.self.view_is w.in_ok-cond.ensures.gives.2
      | then-not-is_value+in_ok-cond+in-None-1 w ↦
          cond_read_each (meanings c.args.names.now) c.args.params c.args.self.now c.given-bound.result
          c.given-bound.ensures c.in_ok-is_value.is_value c.in_ok-is_value.ensures.is _ w.cond.new.self _
          w.if-not-is_value.true c.self.view_is w.in_ok-cond.ensures.gives.2
      | else-not-is_value w ↦ value_read_each (meanings c.args.names.now) c.args.params c.args.self.now
          c.given-bound.result c.given-bound.ensures c.in_ok-is_value.is_value c.in_ok-is_value.ensures.is
          w.if-not-is_value.false
    ] in
    record {
      read = subst (λ S. (x : _) → IsRead (meanings c.args.names.now) c.in_ok-is_value.is_value (given c.args.params x) S) (sym c.self.view_is) read;
      counted = c.in_ok-parts.ensures.counted;
    }
