use Rattle.std.proofs.Common.{◌++◌, ◌∙◌, ap, codes, decimal, length, string_bytes}
use Rattle.explain_conditions.specs.Asked.{asked_name}
use Rattle.explain_conditions.proofs.Appending.{if_put, then_five}
use Rattle.explain_conditions.proofs.refusal.put_length.Goals as goal

pub returns : goal.returns
returns c =
    then_five c.push_str-5.result (string_bytes c.args.out.now) (codes "  hint: a ") (asked_name c.args.asked)
    (codes " has at most 1024 bytes, and this one has ") (decimal (length c.args.text.now)) (codes "\n")
    (string_bytes c.push_str.new.self) (string_bytes c.push_str-2.new.self) (string_bytes c.push_str-3.new.self)
    (string_bytes c.push_str-4.new.self) (string_bytes c.push_str-5.new.self)
    c.in_ok-push_str.ensures.bytes
    (c.in_ok-push_str-2.ensures.bytes ∙ ap (λ l. string_bytes c.push_str.new.self ++ l) c.name.ensures)
    c.in_ok-push_str-3.ensures.bytes
    (c.in_ok-push_str-4.ensures.bytes ∙ ap (λ l. string_bytes c.push_str-3.new.self ++ l) c.format.ensures.text)
    (if_put c.push_str-5.result _ _ _ c.push_str-5.ensures.bytes)
