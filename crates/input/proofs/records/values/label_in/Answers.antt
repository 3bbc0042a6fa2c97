use Rattle.std.proofs.Common.{◌≡◌, false, refl, rules, true}
use Rattle.input.specs.Values.{is_no_label, is_unescaped, label_in}
use Rattle.input.proofs.records.values.label_in.Goals as goal

pub returns-then-is_unescaped : goal.returns-then-is_unescaped
unfolding label_in
returns-then-is_unescaped c =
    let other : is_no_label c.args.value.now ≡ false = search rules in
    let plain : is_unescaped c.args.value.now ≡ true = search rules in
    rw (other, plain) c.new.ensures

pub returns-else-is_unescaped : goal.returns-else-is_unescaped
unfolding label_in
returns-else-is_unescaped c =
    let other : is_no_label c.args.value.now ≡ false = search rules in
    let escaped : is_unescaped c.args.value.now ≡ false = search rules in
    rw (other, escaped) refl

pub returns-then-is_no_label : goal.returns-then-is_no_label
unfolding label_in
returns-then-is_no_label c =
    let none : is_no_label c.args.value.now ≡ true = search rules in
    search rules
