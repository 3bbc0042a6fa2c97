use Rattle.std.proofs.Common.{◌++◌, ◌∙◌, take, get_or, refl, ap, arith}
use Rattle.pbn_text.specs.declared.lines.TheConstants.{LENGTHS}
use Rattle.pbn_text.proofs.Buffers.{take_copied, length-copied}
use Rattle.pbn_text.proofs.BoardLines.{board_lines_at, length-board_lines, board_lines_fit}
use Rattle.pbn_text.proofs.lines.put_board_lines.Goals as goal

pub returns-clause-written : goal.returns-clause-written
returns-clause-written c =
    let row = c.row_of.ensures in
    let column = c.column_of-column.ensures in
    let count = get_or LENGTHS c.column_of-column.result 0 in
    let long = length-board_lines c.args.dealer c.args.vulnerable c.row_of.result c.column_of-column.result row column in
    let few = board_lines_fit c.args.vulnerable c.column_of-column.result column in
    take_copied c.args.buffer.now c.copy_from_slice.new.self 272 48 count _ (omega arith)
    (rw c.copy_from_slice.ensures.after (omega (arith, few, long))) refl
    ∙ ap (λ xs. take 272 c.args.buffer.now ++ take count xs) c.copy_from_slice.ensures.after
    ∙ ap (λ xs. take 272 c.args.buffer.now ++ xs) (board_lines_at c.args.dealer c.args.vulnerable c.row_of.result
    c.column_of-column.result row column)

pub returns-clause-len : goal.returns-clause-len
returns-clause-len c =
    let long = length-board_lines c.args.dealer c.args.vulnerable c.row_of.result c.column_of-column.result
    c.row_of.ensures c.column_of-column.ensures in
    length-copied c.args.buffer.now c.copy_from_slice.new.self 272 48 (omega arith)
    (rw c.copy_from_slice.ensures.after (omega (arith, long))) ∙ c.told-buffer
