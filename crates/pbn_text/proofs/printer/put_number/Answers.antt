use Rattle.std.proofs.Common.{◌≡◌, ◌+◌, ◌<◌, ◌≤◌, ◌∙◌, get_or, drop, take, length, decimal, rules, sym, ap, arith}
use Rattle.std.proofs.lemmas.Fmt.{length-decimal-le}
use Rattle.std.proofs.lemmas.List.{take-set-le}
use Rattle.pbn_text.proofs.Buffers.{digits_written, digits_before, digit_raised}
use Rattle.pbn_text.proofs.printer.put_number.Goals as goal

pub returns-then-buffer-lt57-clause-prefix : goal.returns-then-buffer-lt57-clause-prefix
returns-then-buffer-lt57-clause-prefix c =
    let buffer = c.args.buffer.now in
    let last = c.args.last.number in
    let start = c.args.last.number_start in
    let next : last + 1 ≡ c.args.number = omega arith in
    let inside : start < 272 = digits_before buffer last start 272 (omega arith) (omega arith) c.requires.digits in
    record {
      order = c.requires.order;
      inside = c.requires.inside;
      lines = ap (drop c.args.last.start) (take-set-le start buffer 271 (get_or buffer 271 0 + 1) (omega arith)) ∙ c.requires.lines;
      digits = digit_raised buffer last start 271 (omega arith) (omega arith) (omega arith) c.if-buffer-lt57.true c.requires.digits ∙ ap decimal next;
    }

pub write_digits-number_start-requires : goal.write_digits-number_start-requires
write_digits-number_start-requires c = search (rules, length-decimal-le 20)

pub returns-then-number_start-last-clause-prefix : goal.returns-then-number_start-last-clause-prefix
returns-then-number_start-last-clause-prefix c =
    let written = c.write_digits-number_start.new.buf in
    let same = c.if-number_start-last.true in
    record {
      order = c.requires.order;
      inside = c.requires.inside;
      lines = ap (drop c.args.last.start) (ap (λ n. take n written) (sym same)
          ∙ c.write_digits-number_start.ensures.before ∙ ap (λ n. take n c.args.buffer.now) same) ∙ c.requires.lines;
      digits = ap (λ n. drop n (take 272 written)) (sym same)
          ∙ digits_written written (decimal c.args.number) (drop 272 c.args.buffer.now)
          c.write_digits-number_start.result 272 (omega arith) c.write_digits-number_start.ensures.written;
    }

pub put_prefix-requires-clause-min : goal.put_prefix-requires-clause-min
put_prefix-requires-clause-min c =
    let few : length (decimal c.args.number) ≤ 20 = search (rules, length-decimal-le 20) in
    omega (arith, few)

pub put_prefix-requires-clause-digits : goal.put_prefix-requires-clause-digits
put_prefix-requires-clause-digits c =
    digits_written c.write_digits-number_start.new.buf (decimal c.args.number) (drop 272 c.args.buffer.now)
    c.write_digits-number_start.result 272 (omega arith) c.write_digits-number_start.ensures.written
