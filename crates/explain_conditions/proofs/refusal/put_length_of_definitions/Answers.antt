use Rattle.std.proofs.Common.{◌++◌, ◌∙◌, ap, codes, decimal, length, string_bytes}
use Rattle.explain_conditions.proofs.Appending.{if_put, then_three}
use Rattle.explain_conditions.proofs.refusal.put_length_of_definitions.Goals as goal

pub returns : goal.returns
returns c =
    then_three c.push_str-3.result (string_bytes c.args.out.now) (codes "  hint: definitions have at most 4096 bytes, and these have ")
    (decimal (length c.args.text.now)) (codes "\n")
    (string_bytes c.push_str.new.self) (string_bytes c.push_str-2.new.self) (string_bytes c.push_str-3.new.self)
    c.in_ok-push_str.ensures.bytes
    (c.in_ok-push_str-2.ensures.bytes ∙ ap (λ l. string_bytes c.push_str.new.self ++ l) c.format.ensures.text)
    (if_put c.push_str-3.result _ _ _ c.push_str-3.ensures.bytes)
