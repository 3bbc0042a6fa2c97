use Rattle.std.proofs.Common.{codes, string_bytes}
use Rattle.explain_conditions.specs.Note.{ends, turned_line}
use Rattle.explain_conditions.proofs.Appending.{if_put, then_five}
use Rattle.explain_conditions.proofs.noted.put_turned.Goals as goal

pub returns : goal.returns
unfolding turned_line
returns c =
    then_five c.push_str-3.result (string_bytes c.args.out.now) (codes "note: no deal meets this condition: in ")
    (ends c.args.first c.args.last) (codes " has its ends turned; write in ") (ends c.args.last c.args.first)
    (codes "\n") (string_bytes c.push_str.new.self) (string_bytes c.put_ends.new.out)
    (string_bytes c.push_str-2.new.self) (string_bytes c.put_ends-2.new.out) (string_bytes c.push_str-3.new.self)
    c.in_ok-push_str.ensures.bytes c.in_ok-put_ends.ensures c.in_ok-push_str-2.ensures.bytes
    c.in_ok-put_ends-2.ensures (if_put c.push_str-3.result _ _ _ c.push_str-3.ensures.bytes)
