-- Where in a line a reader is, and what a byte does there.
use Rattle.std.specs.Prelude.{ℕ, ◌+◌, ◌==◌, ◌&&◌, ◌||◌, Bool, true, false, not}
use Rattle.std.specs.Prelude.{List, [], ◌∷◌, ◌++◌, if◌then◌else◌}
use Rattle.std.specs.Char.{is_ascii_alphanumeric}
use Rattle.input.specs.NumberTexts.{is_blank}
use Rattle.input.specs.declared.records.line.LinePart.{LinePart}
use Rattle.input.specs.declared.records.line.LinePart.TheVariants.{Open, Rest, Bracket, Name, Gap, Value}
use Rattle.input.specs.declared.records.line.LinePart.TheVariants.{Escape, Close}
use Rattle.input.specs.declared.records.line.LineStep.{LineStep}
use Rattle.input.specs.declared.records.line.LineStep.TheVariants.{On, Whole, Wrong}

-- `skips`: all is skipped up to the next line that begins with `[`. `comment`: it is in braces.
-- `column`: how many bytes of the line there were. `name`, `value`: those of the last tag, as far
-- as they were read
pub record Place : Type 0 where
  pub part : LinePart
  pub skips : Bool
  pub comment : Bool
  pub column : ℕ
  pub name : List ℕ
  pub value : List ℕ

abbrev pub begin : Place
begin = record {
  part = Open;
  skips = false;
  comment = false;
  column = 0;
  name = [];
  value = [];
}

-- the next line
abbrev pub new_line : Place → Place
new_line p = record p { part = Open; column = 0; name = []; value = [] }

-- a line without a byte, outside braces
abbrev pub is_empty : Place → Bool
is_empty p = p.column == 0 && not p.comment

-- a letter, a digit, or _
abbrev pub is_name_byte : ℕ → Bool
is_name_byte b = is_ascii_alphanumeric b || b == 95

-- ---- outside a tag, at a byte that was counted

-- a line that begins with `%` is skipped, and so is text in braces, what is after `;`, and all
-- that isn't a tag up to the next line that begins with `[`
abbrev pub opened : Place → ℕ → Place
opened p b =
    if p.column == 1 && b == 37 then record p { part = Rest }
    else (if p.comment then record p { comment = not (b == 125) }
    else (if b == 123 then record p { comment = true }
    else (if b == 59 then record p { part = Rest }
    else (if b == 91 && (p.column == 1 || not p.skips)
    then record p { part = Bracket; skips = false }
    else (if is_blank b then p else record p { skips = true })))))

-- ---- in a tag: `[`, a name, blanks, `"`, a value, `"`, blanks, `]`

abbrev pub is_in_tag : LinePart → Bool
is_in_tag Open = false
is_in_tag Rest = false
is_in_tag _ = true

abbrev pub step_at : LinePart → ℕ → LineStep
step_at Bracket b = if is_name_byte b then On else Wrong
step_at Name b = if is_name_byte b || (b == 34 || is_blank b) then On else Wrong
step_at Gap b = if b == 34 || is_blank b then On else Wrong
step_at Close b = if b == 93 then Whole else (if is_blank b then On else Wrong)
step_at _ b = On

-- `\` takes the next byte with it. No value that says something has one, so that it stays
abbrev pub moved : LinePart → Place → ℕ → Place
moved Open p b = opened p b
moved Rest p b = p
moved Bracket p b = record p { part = Name; name = b ∷ [] }
moved Name p b =
    if b == 34 then record p { part = Value; value = [] }
    else (if is_blank b then record p { part = Gap } else record p { name = p.name ++ b ∷ [] })
moved Gap p b = if b == 34 then record p { part = Value; value = [] } else p
moved Value p b =
    if b == 34 then record p { part = Close }
    else (if b == 92 then record p { part = Escape; value = p.value ++ b ∷ [] }
    else record p { value = p.value ++ b ∷ [] })
moved Escape p b = record p { part = Value; value = p.value ++ b ∷ [] }
moved Close p b = if b == 93 then record p { part = Open } else p

-- after a byte
abbrev pub place_after : Place → ℕ → Place
place_after p b = moved p.part (record p { column = p.column + 1 }) b
