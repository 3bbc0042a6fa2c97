use Rattle.std.proofs.Common.{◌∙◌, ◌++◌, ap, codes, map, string_bytes}
use Rattle.explain_conditions.specs.Expected.{joined, terms}
use Rattle.explain_conditions.specs.internal.Kinds.{in_set, of_value}
use Rattle.explain_conditions.proofs.Appending.{if_put, then_three}
use Rattle.explain_conditions.proofs.expected.put_expected.Goals as goal

pub returns : goal.returns
returns c =
    let names = map (λ p. p.now) c.args.names.now in
    then_three c.push_str-2.result (string_bytes c.args.out.now) (codes "  expected ")
    (joined names (terms c.args.is_new names (of_value c.args.can.now) (in_set c.args.can.now)))
    (codes "\n") (string_bytes c.push_str.new.self) (string_bytes c.put_joined.new.out) (string_bytes c.push_str-2.new.self)
    c.in_ok-push_str.ensures.bytes
    (c.in_ok-put_joined.ensures
    ∙ ap (λ ts. string_bytes c.push_str.new.self ++ joined names ts) (c.as_slice.ensures.value ∙ c.in_ok-terms.ensures))
    (if_put c.push_str-2.result _ _ _ c.push_str-2.ensures.bytes)
