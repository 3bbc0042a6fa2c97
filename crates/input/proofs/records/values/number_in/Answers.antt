use Rattle.std.proofs.Common.{◌≡◌, ◌<◌, ◌+◌, ◌^◌, ◌∙◌, false, true, length, get_or, take, refl, arith, rules}
use Rattle.std.specs.Prelude.{nat_le}
use Rattle.std.specs.Char.{digit_value, is_ascii_digit}
use Rattle.std.specs.List.{list_all}
use Rattle.std.specs.Str.Parse.{digits_value}
use Rattle.std.proofs.lemmas.Bool.{and_right, le-leb, lt-leb}
use Rattle.std.proofs.lemmas.Int.Digits.{digits_value_more}
use Rattle.std.proofs.lemmas.List.{take_all}
use Rattle.std.proofs.lemmas.List.Folds.{list_all_at, list_all_more}
use Rattle.std.proofs.lemmas.Str.{digit_value_digit}
use Rattle.std.proofs.lemmas.Str.Parse.{digits_value-take-le}
use Rattle.input.specs.Values.{number_in}
use Rattle.input.proofs.records.values.number_in.Goals as goal

pub returns-then-not-is_ascii_digit-clause-value : goal.returns-then-not-is_ascii_digit-clause-value
unfolding number_in
returns-then-not-is_ascii_digit-clause-value c =
    let i = c.loop-byte.byte-index in
    let v = c.args.value.now in
    let none : list_all is_ascii_digit v ≡ false = list_all_at is_ascii_digit v i 0 c.loop-byte-test.true (search rules) in
    rw none refl

pub returns-then-number-gt-MOST_NUMBER-clause-value : goal.returns-then-number-gt-MOST_NUMBER-clause-value
unfolding number_in
returns-then-number-gt-MOST_NUMBER-clause-value c =
    let i = c.loop-byte.byte-index in
    let v = c.args.value.now in
    let below : i < length v = c.loop-byte-test.true in
    let digit : digit_value (get_or v i 0) + 48 ≡ get_or v i 0 = digit_value_digit (get_or v i 0) c.if-not-is_ascii_digit.ensures.cases in
    let more = digits_value_more 10 v i below in
    let within = digits_value-take-le 10 v (i + 1) (omega arith) in
    let big : nat_le (digits_value 10 v) (2 ^ 40) ≡ false = lt-leb (digits_value 10 v) (2 ^ 40) (omega arith) in
    rw (and_right (list_all is_ascii_digit v) (nat_le (digits_value 10 v) (2 ^ 40)) big) refl

pub loop-byte-preserved : goal.loop-byte-preserved
loop-byte-preserved c =
    let i = c.loop-byte.byte-index in
    let v = c.args.value.now in
    let below : i < length v = c.loop-byte-test.true in
    let digit : is_ascii_digit (get_or v i 0) ≡ true = search rules in
    let value : digit_value (get_or v i 0) + 48 ≡ get_or v i 0 = digit_value_digit (get_or v i 0) c.if-not-is_ascii_digit.ensures.cases in
    let more = digits_value_more 10 v i below in
    record {
      digits = list_all_more is_ascii_digit v i 0 below ∙ rw (c.loop-byte.invariant.digits, digit) refl;
      number = omega arith;
      small = omega arith;
    }

pub returns-clause-value : goal.returns-clause-value
unfolding number_in
returns-clause-value c =
    let i = c.loop-byte.byte-index in
    let v = c.args.value.now in
    let end : take i v ≡ v = take_all i v (omega arith) in
    let digits : list_all is_ascii_digit v ≡ true = rw end at c.loop-byte.invariant.digits in
    let number : c.loop-byte.number ≡ digits_value 10 v = rw end at c.loop-byte.invariant.number in
    let small : nat_le (digits_value 10 v) (2 ^ 40) ≡ true = le-leb (digits_value 10 v) (2 ^ 40) (omega arith) in
    rw (digits, small) number
