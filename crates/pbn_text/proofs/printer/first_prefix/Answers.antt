use Rattle.std.proofs.Common.{◌≤◌, length, drop, decimal, rules, arith}
use Rattle.std.proofs.lemmas.Fmt.{length-decimal-le}
use Rattle.pbn_text.proofs.Buffers.{digits_written}
use Rattle.pbn_text.proofs.printer.first_prefix.Goals as goal

pub write_digits-number_start-requires : goal.write_digits-number_start-requires
write_digits-number_start-requires c = search (rules, length-decimal-le 20)

pub put_prefix-requires-clause-min : goal.put_prefix-requires-clause-min
put_prefix-requires-clause-min c =
    let few : length (decimal 0) ≤ 20 = search (rules, length-decimal-le 20) in
    omega (arith, few)

pub put_prefix-requires-clause-digits : goal.put_prefix-requires-clause-digits
put_prefix-requires-clause-digits c =
    digits_written c.write_digits-number_start.new.buf (decimal 0) (drop 272 c.args.buffer.now)
    c.write_digits-number_start.result 272 (omega arith) c.write_digits-number_start.ensures.written
