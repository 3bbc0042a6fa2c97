use Rattle.std.proofs.Common.{[], Ok, append-nil, inl, inr, refl, map, string_bytes, sym, ap, ◌∙◌, ◌≡◌, length, subst, arith}
use Rattle.std.specs.declared.alloc.AllocError.{AllocError}
use Rattle.std.proofs.lemmas.List.{length-map}
use Rattle.explain_conditions.specs.Asked.{IsTold}
use Rattle.explain_conditions.specs.Expected.{expected_line}
use Rattle.explain_conditions.specs.Explanation.{MayTell}
use Rattle.explain_conditions.specs.internal.Kinds.{in_set, of_value}
use Rattle.explain_conditions.proofs.Appending.{shows}
use Rattle.explain_conditions.proofs.Begun.{begins}
use Rattle.explain_conditions.proofs.refusal.put_syntax.Goals as goal

pub returns : goal.returns
returns c =
    let found = rw c.in-Some.is at c.in_ok-beginning.ensures in
    let names = map (λ p. p.now) c.as_slice.result.now in
    let count : length names ≡ c.len.result = length-map c.as_slice.result.now (λ p. p.now)
    ∙ ap length c.as_slice.ensures.value ∙ sym c.len.ensures.value in
    shows c.put_hint.result (MayTell c.args.asked c.args.text.now) c.args.text.now c.args.at
    (string_bytes c.args.out.now) (string_bytes c.put_excerpt.new.out) (string_bytes c.put_expected.new.out)
    (string_bytes c.put_hint.new.out) (expected_line c.is_after_let.result names (of_value c.in-Ok.can)
    (in_set c.in-Ok.can)) c.in_ok-put_excerpt.ensures
    c.in_ok-put_expected.ensures
    (inl (record {
      beginning = c.in-Some.beginning;
      begins =
          begins c.args.asked c.args.text.now c.in-Some.beginning found.0;
      names = names;
      has =
          rw c.as_slice.ensures.value (c.names_of-names.ensures found.1);
      can = in_set c.in-Ok.can;
      is_value =
          of_value c.in-Ok.can;
      values = λ n l. c.in-Ok.ensures.values n (omega (arith, l, count));
      all =
          λ k told. c.in-Ok.ensures.allowed k (subst (λ n. IsTold n k) count told);
      is =
          ap (λ b. expected_line b names (of_value c.in-Ok.can) (in_set c.in-Ok.can)) c.is_after_let.ensures;
    }))
    c.put_hint.ensures

pub returns-in_default : goal.returns-in_default
returns-in_default c =
    let mid = string_bytes c.put_excerpt.new.out in
    shows {T = Unit {0}} {E = AllocError} (Ok (tt {0})) (MayTell c.args.asked c.args.text.now) c.args.text.now
    c.args.at (string_bytes c.args.out.now) mid mid mid
    [] c.in_ok-put_excerpt.ensures (sym (append-nil mid))
    (inr (refl, rw c.in_default.is at c.in_ok-beginning.ensures))
    (record { more = []; is = sym (append-nil mid); holds = inl refl })
