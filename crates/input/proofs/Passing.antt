-- Bytes that were read, one after another.
use Rattle.std.proofs.Common.{Bool, ◌≡◌, ◌∙◌, ◌<◌, ℕ, ◌+◌, ◌-◌, add-one, take, List, [], ◌∷◌, ◌++◌, length, drop}
use Rattle.std.proofs.Common.{drop-cons, get_or, Option, None, Result, Ok, Err, IfOk, append_assoc, length-append, ap}
use Rattle.std.proofs.Common.{arith, refl, sym}
use Rattle.input.specs.declared.records.game.Told.{Told}
use Rattle.std.specs.Prelude.{OnOk}
use Rattle.input.specs.RecordScans.{IsWithin, spells_from}
use Rattle.input.specs.Texts.{after, list_of, refused_with}
use Rattle.input.specs.declared.records.fault.RefusedRecord.{RefusedRecord}
use Rattle.input.specs.declared.records.scanner.RecordScanner.{RecordScanner}
use Rattle.input.specs.internal.Endings.{told_if}
use Rattle.input.specs.internal.TagTexts.{Reads, tag_text}
use Rattle.input.proofs.Rooms.{roomier}
use Rattle.input.proofs.Tags.{tag_length}
use Rattle.std.proofs.Math.Seq.{drop-append_seam}
use Rattle.std.proofs.lemmas.List.{drop-drop, length-drop, take_rest}

pub reads_none : (s : RecordScanner) (bytes : List ℕ) → Reads s s bytes 0 None
reads_none s bytes = record {
  within = omega arith;
  spells = λ rest. refl;
  room = λ n h. roomier s.reading (n + n) (n + 0 + (n + 0)) (omega arith) h;
}

pub reads_on : (s t u : RecordScanner) (bytes : List ℕ) (n m : ℕ) (board : Option Told) → Reads s t bytes n None
    → Reads t u (take (length bytes - n) (drop n bytes)) m board → Reads s u bytes (n + m) board
reads_on s t u bytes n m board p r =
    let q : Reads t u (drop n bytes) m board = rw (take_rest bytes n) at r in
    record {
      within = omega (arith, p.within, q.within, length-drop n bytes);
      spells = λ rest. p.spells rest ∙ q.spells rest ∙ ap (λ l. after (list_of board) (spells_from u (l ++ rest))) (drop-drop m n bytes);
      room = λ k h. roomier u.reading (k + n + m + (k + n + m)) (k + (n + m) + (k + (n + m))) (omega arith) (q.room (k + n) (p.room k h));
    }

pub reads_byte : (s t : RecordScanner) (b : ℕ) (bytes : List ℕ) (board : Option Told) → 0 < length bytes → b ≡ get_or bytes 0 0
    → ((rest : List ℕ) → spells_from s (b ∷ rest) ≡ after (list_of board) (spells_from t rest))
    → ((n : ℕ) → IsWithin s n → IsWithin t (n + 1)) → Reads s t bytes 1 board
reads_byte s t b [] board some is reads room = absurd (let none : 0 < 0 = some in omega arith)
reads_byte s t b (x ∷ bytes) board some is reads room = record {
  within = omega arith;
  spells = λ rest. ap (λ y. spells_from s (y ∷ (bytes ++ rest))) (sym is) ∙ reads (bytes ++ rest);
  room = room;
}

next_one : (b : ℕ) (bytes : List ℕ) (i : ℕ) → i < length bytes → b ≡ get_or bytes i 0 → drop i bytes ≡ b ∷ drop (i + 1) bytes
next_one b bytes i below is = drop-cons bytes i 0 below ∙ rw (is, add-one) refl

pub reads_passed : (s t u : RecordScanner) (b : ℕ) (bytes : List ℕ) (i : ℕ) → i < length bytes → b ≡ get_or bytes i 0 → Reads s t bytes i None
    → ((rest : List ℕ) → spells_from t (b ∷ rest) ≡ spells_from u rest) → ((n : ℕ) → IsWithin t n → IsWithin u (n + 1)) → Reads s u bytes (i + 1) None
reads_passed s t u b bytes i below is p reads room = record {
  within = omega (arith, below);
  spells = λ rest. p.spells rest
      ∙ ap (λ l. spells_from t (l ++ rest)) (next_one b bytes i below is)
      ∙ reads (drop (i + 1) bytes ++ rest);
  room = λ n h. roomier u.reading (n + i + 1 + (n + i + 1)) (n + (i + 1) + (n + (i + 1))) (omega arith) (room (n + i) (p.room n h));
}

pub reads_refused : (s t : RecordScanner) (bytes : List ℕ) (n : ℕ) (e : RefusedRecord) → Reads s t bytes n None
    → ((rest : List ℕ) → spells_from t (take (length bytes - n) (drop n bytes) ++ rest) ≡ refused_with e)
    → (rest : List ℕ) → spells_from s (bytes ++ rest) ≡ refused_with e
reads_refused s t bytes n e p refused rest = p.spells rest ∙ (rw (take_rest bytes n) at refused rest)

pub first_read : (s t : RecordScanner) (told : Told) (b : ℕ) (bytes : List ℕ) (r : Result Bool RefusedRecord)
    → 0 < length bytes → b ≡ get_or bytes 0 0
    → IfOk r (λ ended. (rest : List ℕ) → spells_from s (b ∷ rest) ≡ after (list_of (told_if ended told))
    (spells_from t rest)) → ((n : ℕ) → IsWithin s n → OnOk r (IsWithin t (n + 1)))
    → IfOk r (λ ended. Reads s t bytes 1 (told_if ended told))
first_read s t told b bytes (Err e) some is reads room = tt
first_read s t told b bytes (Ok ended) some is reads room = reads_byte s t b bytes (told_if ended told) some is reads room

pub reads_line : (s t : RecordScanner) (name value after_it later : List ℕ) → after_it ≡ 10 ∷ later
    → ((rest : List ℕ) → spells_from s (tag_text name value ++ 10 ∷ rest) ≡ spells_from t rest)
    → ((n : ℕ) → IsWithin s n → IsWithin t (n + 1)) → Reads s t (tag_text name value ++ after_it) (length name + length value + 5 + 1) None
reads_line s t name value after_it later is reads room =
    let count : length (tag_text name value) ≡ length name + length value + 5 = tag_length name value in
    let signs : length (tag_text name value ++ 10 ∷ []) ≡ length name + length value + 5 + 1 =
    length-append (tag_text name value) (10 ∷ []) ∙ ap (λ n. n + 1) count in
    let whole : tag_text name value ++ after_it ≡ (tag_text name value ++ 10 ∷ []) ++ later =
    ap (λ l. tag_text name value ++ l) is ∙ sym (append_assoc (tag_text name value) (10 ∷ []) later) in
    let left : drop (length name + length value + 5 + 1) (tag_text name value ++ after_it) ≡ later =
    rw (← signs, whole) (drop-append_seam (tag_text name value ++ 10 ∷ []) later) in
    record {
      within = rw (is, length-append, count) (omega arith);
      spells = λ rest. rw left (ap (λ l. spells_from s (l ++ rest)) (ap (λ l. tag_text name value ++ l) is)
          ∙ ap (spells_from s) (append_assoc (tag_text name value) (10 ∷ later) rest) ∙ reads (later ++ rest));
      room = λ n h. roomier t.reading (n + 1 + (n + 1)) (n + (length name + length value + 5 + 1)
          + (n + (length name + length value + 5 + 1))) (omega arith) (room n h);
    }

pub reads_tag : (s t : RecordScanner) (name value after_it bytes : List ℕ) (board : Option Told) → bytes ≡ tag_text name value ++ after_it
    → ((rest : List ℕ) → spells_from s (tag_text name value ++ rest) ≡ after (list_of board) (spells_from t rest))
    → ((n : ℕ) → IsWithin s n → IsWithin t (n + 1))
    → Reads s t bytes (length name + length value + 5) board
reads_tag s t name value after_it bytes board is reads room =
    let count : length (tag_text name value) ≡ length name + length value + 5 = tag_length name value in
    let left : drop (length name + length value + 5) bytes ≡ after_it = rw (← count, is) (drop-append_seam (tag_text name value) after_it) in
    record {
      within = rw (is, length-append, count) (omega arith);
      spells = λ rest. rw left (ap (λ l. spells_from s (l ++ rest)) is
          ∙ ap (spells_from s) (append_assoc (tag_text name value) after_it rest) ∙ reads (after_it ++ rest));
      room = λ n h. roomier t.reading (n + 1 + (n + 1)) (n + (length name + length value + 5)
          + (n + (length name + length value + 5))) (omega arith) (room n h);
    }
