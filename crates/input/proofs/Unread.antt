-- The bytes of a piece that weren't read.
use Rattle.std.proofs.Common.{Bool, ◌≡◌, ◌∙◌, ◌≤◌, ◌+◌, ◌-◌, ℕ, List, [], ◌++◌, length, take, drop, Option, Result}
use Rattle.std.proofs.Common.{Ok, Err, IfOk, IfErr, sym, ap, arith, length-take, refl, subst}
use Rattle.std.proofs.lemmas.List.{drop-drop, drop-take, drop_all, length-drop}
use Rattle.input.specs.declared.records.game.Told.{Told}
use Rattle.input.specs.Readers.{IsReady, unread, unread_spells}
use Rattle.input.specs.RecordScans.{IsWithin, spells_from}
use Rattle.input.specs.Texts.{after, list_of, refused_with}
use Rattle.input.specs.declared.records.fault.RefusedRecord.{RefusedRecord}
use Rattle.input.specs.declared.records.reader.BoardReader.{BoardReader}
use Rattle.input.specs.declared.records.scanner.RecordScanner.{RecordScanner}
use Rattle.input.specs.internal.Endings.{told_if}
use Rattle.input.specs.internal.TagTexts.{Reads}

-- ---- a part of a piece

same_part : (piece : List ℕ) (from to : ℕ) → from ≤ to → drop from (take to piece) ≡ take (to - from) (drop from piece)
same_part piece from to within =
    let is : to ≡ from + (to - from) = omega (arith, within) in
    ap (λ n. drop from (take n piece)) is ∙ drop-take from (to - from) piece

pub part_read : (s t : RecordScanner) (told : Told) (piece : List ℕ) (from to : ℕ) (r : Result (ℕ × Bool) RefusedRecord) → from ≤ to
    → IfOk r (λ q. Reads s t (take (to - from) (drop from piece)) q.0 (told_if q.1 told))
    → IfOk r (λ q. Reads s t (drop from (take to piece)) q.0 (told_if q.1 told))
part_read s t told piece from to (Err e) within reads = tt
part_read s t told piece from to (Ok q) within reads = subst (λ l. Reads s t l q.0 (told_if q.1 told)) (sym (same_part piece from to within)) reads

pub part_refused : (s : RecordScanner) (piece : List ℕ) (from to : ℕ) (r : Result (ℕ × Bool) RefusedRecord) → from ≤ to
    → IfErr r (λ e. (rest : List ℕ) → spells_from s (take (to - from) (drop from piece) ++ rest) ≡ refused_with e)
    → IfErr r (λ e. (rest : List ℕ) → spells_from s (drop from (take to piece) ++ rest) ≡ refused_with e)
part_refused s piece from to (Ok q) within reads = tt
part_refused s piece from to (Err e) within reads = λ rest. ap (λ l. spells_from s (l ++ rest)) (same_part piece from to within) ∙ reads rest

-- ---- bytes of the piece were read

pub bytes_read : (r s : BoardReader) (count : ℕ) (board : Option Told) → Reads r.scanner s.scanner (drop r.from (take r.to r.piece)) count board
    → s.piece ≡ r.piece → s.from ≡ r.from + count → s.to ≡ r.to → (rest : List ℕ)
    → unread_spells r rest ≡ after (list_of board) (unread_spells s rest)
unfolding unread_spells unread
bytes_read r s count board reads piece from to rest =
    reads.spells rest ∙ ap (λ l. after (list_of board) (spells_from s.scanner (l ++ rest)))
    (drop-drop count r.from (take r.to r.piece) ∙ rw (piece, from, to) refl)

pub bytes_refused : (r : BoardReader) (e : RefusedRecord)
    → ((rest : List ℕ) → spells_from r.scanner (drop r.from (take r.to r.piece) ++ rest) ≡ refused_with e)
    → (rest : List ℕ) → unread_spells r rest ≡ refused_with e
unfolding unread_spells unread
bytes_refused r e refused rest = refused rest

pub still_ready : (r s : BoardReader) (count : ℕ) (board : Option Told) → Reads r.scanner s.scanner (drop r.from (take r.to r.piece)) count board
    → s.piece ≡ r.piece → s.from ≡ r.from + count → s.to ≡ r.to → s.taken ≡ r.taken + count → IsReady r → IsReady s
still_ready r s count board reads piece from to taken ready =
    let all : length (take r.to r.piece) ≡ r.to = rw length-take (omega (arith, ready.piece)) in
    let within : count ≤ r.to - r.from = omega (arith, reads.within, length-drop r.from (take r.to r.piece), all) in
    let room : IsWithin s.scanner (r.taken + count) = reads.room r.taken ready.room in
    record {
      within = omega (arith, within, from, to, ready.within);
      piece = rw (piece, to) ready.piece;
      few = omega (arith, within, from, to, taken, ready.few, ready.within);
      room = rw taken room;
    }

-- a piece is read after the last
pub filled : (r s : BoardReader) → r.from ≡ r.to → s.scanner ≡ r.scanner → s.from ≡ 0 → (rest : List ℕ)
    → unread_spells r (take s.to s.piece ++ rest) ≡ unread_spells s rest
unfolding unread_spells unread
filled r s empty same first rest =
    let none : drop r.from (take r.to r.piece) ≡ [] = drop_all r.from (take r.to r.piece) (rw length-take (omega (arith, empty))) in
    rw (none, same, first) refl

-- nothing is left of a piece
pub none_unread : (r : BoardReader) → r.from ≡ r.to → (rest : List ℕ) → unread_spells r rest ≡ spells_from r.scanner rest
unfolding unread_spells unread
none_unread r empty rest =
    let none : drop r.from (take r.to r.piece) ≡ [] = drop_all r.from (take r.to r.piece) (rw length-take (omega (arith, empty))) in
    rw none refl
