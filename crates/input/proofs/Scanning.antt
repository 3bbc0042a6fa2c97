-- What a byte does to what a text spells.
use Rattle.std.proofs.Common.{◌≡◌, ◌∙◌, ℕ, ◌==◌, Bool, true, false, List, [], ◌∷◌, Result, Ok, Err, IfOk, IfErr, None, refl}
use Rattle.input.specs.declared.records.game.Told.{Told}
use Rattle.input.specs.NumberTexts.{starts_with_lf}
use Rattle.input.specs.RecordScans.{spells_from}
use Rattle.input.specs.internal.Endings.{told_if}
use Rattle.input.specs.Texts.{Spelled, after, begin_text, ends_game, ends_line, list_of, nothing_more, reads_byte, refused_with, spelled}
use Rattle.input.specs.declared.records.fault.RefusedRecord.{RefusedRecord}
use Rattle.input.specs.declared.records.reading.Reading.{Reading}
use Rattle.input.specs.declared.records.scanner.RecordScanner.{RecordScanner}

abbrev pub plainly : Reading → RecordScanner
plainly t = record { reading = t; after_cr = false }

pub at_begin : (s : Reading) → s ≡ begin_text → (text : List ℕ) → spells_from (plainly s) text ≡ spelled text
unfolding spells_from spelled
at_begin s e text = rw e refl

by_lf : (cr : Bool) (s : Reading) (rest : List ℕ) → spells_from (record { reading = s; after_cr = cr })
    (10 ∷ rest) ≡ ends_line s (λ t. spells_from (plainly t) rest)
unfolding spells_from
by_lf true s rest = refl
by_lf false s rest = refl

pub at_lf : (s : RecordScanner) (rest : List ℕ) → spells_from s (10 ∷ rest) ≡ ends_line s.reading (λ t. spells_from (plainly t) rest)
at_lf s rest = by_lf s.after_cr s.reading rest

pub at_cr : (s : RecordScanner) (rest : List ℕ) → s.after_cr ≡ false
    → spells_from s (13 ∷ rest) ≡ spells_from (record { reading = s.reading; after_cr = true }) rest
unfolding spells_from
at_cr s rest e = rw e refl

pub at_byte : (s : RecordScanner) (b : ℕ) (rest : List ℕ) → s.after_cr ≡ false → (b == 10) ≡ false → (b == 13) ≡ false
    → spells_from s (b ∷ rest) ≡ reads_byte s.reading b (λ t. spells_from (plainly t) rest)
unfolding spells_from
at_byte s b rest e ten thirteen = rw (e, thirteen, ten) refl

pub cr_within : (s : RecordScanner) (rest : List ℕ) → s.after_cr ≡ true → starts_with_lf rest ≡ false
    → spells_from s rest ≡ reads_byte s.reading 13 (λ t. spells_from (plainly t) rest)
unfolding spells_from
cr_within s rest e off = rw (e, off) refl

pub at_end : (s : RecordScanner) → s.after_cr ≡ false → spells_from s [] ≡ ends_line s.reading (λ t. ends_game t nothing_more)
unfolding spells_from
at_end s e = rw e refl

-- ---- what calls return

pub line_ended : (s : RecordScanner) (t : Reading) (told : Told) (r : Result Bool RefusedRecord)
    → IfOk r (λ ended. (next : Reading → Spelled) → ends_line s.reading next ≡ after (list_of (told_if ended told)) (next t))
    → IfOk r (λ ended. (rest : List ℕ) → spells_from s (10 ∷ rest) ≡ after (list_of (told_if ended told)) (spells_from (plainly t) rest))
line_ended s t told (Err e) ends = tt
line_ended s t told (Ok ended) ends = λ rest. at_lf s rest ∙ ends (λ t. spells_from (plainly t) rest)

pub line_refused : (s : RecordScanner) (r : Result Bool RefusedRecord)
    → IfErr r (λ e. (next : Reading → Spelled) → ends_line s.reading next ≡ refused_with e)
    → IfErr r (λ e. (rest : List ℕ) → spells_from s (10 ∷ rest) ≡ refused_with e)
line_refused s (Ok ended) ends = tt
line_refused s (Err e) ends = λ rest. at_lf s rest ∙ ends (λ t. spells_from (plainly t) rest)

pub byte_read : (s : RecordScanner) (t : Reading) (told : Told) (cr : Bool) (b : ℕ) (r : Result Bool RefusedRecord)
    → s.after_cr ≡ false → cr ≡ false → (b == 10) ≡ false → (b == 13) ≡ false
    → IfOk r (λ ended. (next : Reading → Spelled) → reads_byte s.reading b next ≡ after (list_of (told_if ended told)) (next t))
    → IfOk r (λ ended. (rest : List ℕ) → spells_from s (b ∷ rest) ≡ after (list_of (told_if ended told))
    (spells_from (record { reading = t; after_cr = cr }) rest))
byte_read s t told cr b (Err e) plain same ten thirteen reads = tt
byte_read s t told cr b (Ok ended) plain same ten thirteen reads =
    λ rest. rw same (at_byte s b rest plain ten thirteen ∙ reads (λ t. spells_from (plainly t) rest))

pub byte_refused : (s : RecordScanner) (b : ℕ) (r : Result Bool RefusedRecord) → s.after_cr ≡ false → (b == 10) ≡ false → (b == 13) ≡ false
    → IfErr r (λ e. (next : Reading → Spelled) → reads_byte s.reading b next ≡ refused_with e)
    → IfErr r (λ e. (rest : List ℕ) → spells_from s (b ∷ rest) ≡ refused_with e)
byte_refused s b (Ok ended) plain ten thirteen reads = tt
byte_refused s b (Err e) plain ten thirteen reads = λ rest. at_byte s b rest plain ten thirteen ∙ reads (λ t. spells_from (plainly t) rest)

pub text_ended : (s t : RecordScanner) (told : Told) (r : Result Bool RefusedRecord) → spells_from s [] ≡ spells_from t [] → t.after_cr ≡ false
    → IfOk r (λ ended. ends_line t.reading (λ u. ends_game u nothing_more) ≡ record { boards = list_of (told_if ended told); refused = None })
    → IfOk r (λ ended. spells_from s [] ≡ record { boards = list_of (told_if ended told); refused = None })
text_ended s t told (Err e) same plain ends = tt
text_ended s t told (Ok ended) same plain ends = same ∙ at_end t plain ∙ ends

pub text_refused : (s t : RecordScanner) (r : Result Bool RefusedRecord) → spells_from s [] ≡ spells_from t [] → t.after_cr ≡ false
    → IfErr r (λ e. ends_line t.reading (λ u. ends_game u nothing_more) ≡ refused_with e) → IfErr r (λ e. spells_from s [] ≡ refused_with e)
text_refused s t (Ok ended) same plain ends = tt
text_refused s t (Err e) same plain ends = same ∙ at_end t plain ∙ ends
