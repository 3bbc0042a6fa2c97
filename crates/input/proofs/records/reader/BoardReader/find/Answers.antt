use Rattle.std.proofs.Common.{◌≡◌, ℕ, List, arith, rules}
use Rattle.input.specs.Readers.{unread_spells}
use Rattle.input.specs.internal.Endings.{next_found}
use Rattle.input.proofs.Filling.{fills_on, no_board, none_left, reads_end, reads_failed, reads_refused}
use Rattle.input.proofs.records.reader.BoardReader.find.Goals as goal

pub finish-requires-clause-empty : goal.finish-requires-clause-empty
finish-requires-clause-empty g c = c.in-Ok-false-fill.ensures.none c.in-Ok-false-fill.field-0-test

pub returns-in-Ok-false-fill-clause-reads : goal.returns-in-Ok-false-fill-clause-reads
returns-in-Ok-false-fill-clause-reads g c =
    let before = g.I.Source.rest c.args.input.now in
    let middle = g.I.Source.rest c.loop-turn.input in
    let after_read = g.I.Source.rest c.fill.new.input in
    let same : (rest : List ℕ) → unread_spells c.loop-turn.self rest ≡ unread_spells c.take_piece.new.self rest =
    λ rest. (rw c.in-Ok-false.field-0-test at c.in-Ok-false.ensures.goes_on) rest in
    let all = fills_on c.args.self.now c.loop-turn.self c.take_piece.new.self c.fill.new.self before middle after_read
    c.loop-turn.invariant.so_far same c.in-Ok-false-fill.ensures.fills in
    reads_end c.args.self.now c.fill.new.self c.finish.new.self (next_found c.finish.result c.finish.new.told) before
    after_read all (c.in-Ok-false-fill.ensures.end c.in-Ok-false-fill.field-0-test) c.finish.ensures

pub returns-in-Ok-false-fill-clause-ready : goal.returns-in-Ok-false-fill-clause-ready
returns-in-Ok-false-fill-clause-ready g c = no_board c.fill.new.self (next_found c.finish.result c.finish.new.told) _ c.finish.ensures

pub returns-in-Ok-false-fill-clause-fed : goal.returns-in-Ok-false-fill-clause-fed
returns-in-Ok-false-fill-clause-fed g c = no_board c.fill.new.self (next_found c.finish.result c.finish.new.told) _ c.finish.ensures

pub returns-in-Ok-false-fill-clause-more : goal.returns-in-Ok-false-fill-clause-more
returns-in-Ok-false-fill-clause-more g c = no_board c.fill.new.self (next_found c.finish.result c.finish.new.told) _ c.finish.ensures

pub returns-in-Err-fill-clause-reads : goal.returns-in-Err-fill-clause-reads
returns-in-Err-fill-clause-reads g c =
    let same : (rest : List ℕ) → unread_spells c.loop-turn.self rest ≡ unread_spells c.take_piece.new.self rest =
    λ rest. (rw c.in-Ok-false.field-0-test at c.in-Ok-false.ensures.goes_on) rest in
    reads_failed c.args.self.now c.loop-turn.self c.fill.new.self (g.I.Source.rest c.args.input.now)
    (g.I.Source.rest c.loop-turn.input) (g.I.Source.rest c.fill.new.input) c.loop-turn.invariant.so_far
    c.in-Err-fill.ensures.kept
    (none_left c.loop-turn.self c.take_piece.new.self same (c.in-Ok-false.ensures.all c.in-Ok-false.field-0-test))

pub loop-turn-preserved : goal.loop-turn-preserved
loop-turn-preserved g c =
    let before = g.I.Source.rest c.args.input.now in
    let middle = g.I.Source.rest c.loop-turn.input in
    let after_read = g.I.Source.rest c.fill.new.input in
    let same : (rest : List ℕ) → unread_spells c.loop-turn.self rest ≡ unread_spells c.take_piece.new.self rest =
    λ rest. (rw c.in-Ok-false.field-0-test at c.in-Ok-false.ensures.goes_on) rest in
    record {
      so_far = fills_on c.args.self.now c.loop-turn.self c.take_piece.new.self c.fill.new.self before middle
          after_read c.loop-turn.invariant.so_far same c.in-Ok-true-fill.ensures.fills;
      ready = search rules;
      fed = search rules;
      taken = search rules;
      faults = search rules;
      turns = omega (
        arith,
        c.loop-turn.invariant.turns,
        c.in-Ok-false.ensures.left,
        c.in-Ok-false.ensures.all c.in-Ok-false.field-0-test,
        c.in-Ok-true-fill.ensures.some c.in-Ok-true-fill.field-0-test,
        c.fill.ensures.taken,
      );
    }

pub returns-in-Err-clause-reads : goal.returns-in-Err-clause-reads
returns-in-Err-clause-reads g c =
    reads_refused c.args.self.now c.loop-turn.self c.take_piece.new.self (g.I.Source.rest c.args.input.now)
    (g.I.Source.rest c.loop-turn.input) c.in-Err.line c.loop-turn.invariant.so_far c.in-Err.ensures.refused
