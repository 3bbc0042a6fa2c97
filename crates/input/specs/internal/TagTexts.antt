-- A tag at the beginning of a line, in the form that most programs write.
use Rattle.std.specs.Prelude.{◌≡◌, ◌<◌, ◌≤◌, ℕ, ◌+◌, ◌==◌, ◌||◌, Bool, true, false, not}
use Rattle.std.specs.Prelude.{List, [], ◌∷◌, ◌++◌, Option, Result, IfErr, IfOk, drop, length}
use Rattle.std.specs.List.{list_all}
use Rattle.input.specs.declared.records.game.Told.{Told}
use Rattle.input.specs.Kinds.{kind_of}
use Rattle.input.specs.Places.{Place, is_name_byte}
use Rattle.input.specs.RecordScans.{IsWithin, spells_from}
use Rattle.input.specs.Texts.{after, list_of, refused_with}
use Rattle.input.specs.declared.records.fault.RefusedRecord.{RefusedRecord}
use Rattle.input.specs.internal.Endings.{told_if}
use Rattle.input.specs.declared.records.line.LinePart.TheVariants.{Open}
use Rattle.input.specs.declared.records.reading.Reading.{Reading}
use Rattle.input.specs.declared.records.scanner.RecordScanner.{RecordScanner}
use Rattle.input.specs.declared.records.tag.Opening.{Opening}

-- a byte that stands for itself in a value
abbrev pub is_plain : ℕ → Bool
is_plain b = not (b == 34 || (b == 92 || (b == 10 || b == 13)))

-- [NAME "VALUE"]
unfoldable pub tag_text : List ℕ → List ℕ → List ℕ
tag_text name value = 91 ∷ (name ++ 32 ∷ 34 ∷ (value ++ 34 ∷ 93 ∷ []))

pub record IsTag (name value : List ℕ) : Type 0 where
  pub some : 0 < length name
  pub named : list_all is_name_byte name ≡ true
  pub plain : list_all is_plain value ≡ true
  pub fits : length name + length value + 5 ≤ 4096

-- a tag begins with this name, which has this kind, and this comes after the first quote
pub record Opens (text : List ℕ) (o : Opening) : Type 0 where
  pub some : 0 < length o.name.now
  pub named : list_all is_name_byte o.name.now ≡ true
  pub kind_is : o.kind ≡ kind_of o.name.now
  pub bytes : text ≡ 91 ∷ (o.name.now ++ 32 ∷ 34 ∷ o.after.now)

-- nothing was read of the line, and no comment goes on
pub record IsStart (p : Place) : Type 0 where
  pub part : p.part ≡ Open
  pub column : p.column ≡ 0
  pub comment : p.comment ≡ false

-- after such a tag
abbrev pub after_tag : List ℕ → List ℕ → Place
after_tag name value = record {
  part = Open;
  skips = false;
  comment = false;
  column = length name + length value + 5;
  name = name;
  value = value;
}

abbrev pub with_place : Place → Reading → Reading
with_place p s = record s { line = p }

-- the byte was read, and the board came of it if a game ends with it
abbrev pub ReadsByte :
    RecordScanner → RecordScanner → ℕ → Told → Result Bool RefusedRecord → Type 0
ReadsByte s t byte told r = IfOk r (λ ended. (rest : List ℕ) → spells_from s (byte ∷ rest)
    ≡ after (list_of (told_if ended told)) (spells_from t rest))

-- with this byte the text is refused, whatever comes after
abbrev pub RefusesByte : RecordScanner → ℕ → Result Bool RefusedRecord → Type 0
RefusesByte s byte r =
    IfErr r (λ e. (rest : List ℕ) → spells_from s (byte ∷ rest) ≡ refused_with e)

-- these many bytes were read, and the board came of them
pub record Reads (s t : RecordScanner) (bytes : List ℕ) (count : ℕ) (board : Option Told)
    : Type 0 where
  pub within : count ≤ length bytes
  pub spells : (rest : List ℕ) → spells_from s (bytes ++ rest)
      ≡ after (list_of board) (spells_from t (drop count bytes ++ rest))
  pub room : (n : ℕ) → IsWithin s n → IsWithin t (n + count)
