-- A line may go on until it is too long, so that no board comes after what was read.
use Rattle.std.proofs.Common.{◌≡◌, ◌≤◌, ◌<◌, ◌==◌, ◌&&◌, ◌||◌, ℕ, suc, zero, ◌+◌, Bool, true, false, not, List, []}
use Rattle.std.proofs.Common.{◌∷◌, ◌++◌, replicate, nat_lt}
use Rattle.std.proofs.Common.{arith, refl, if◌then◌else◌}
use Rattle.std.proofs.lemmas.Bool.{ltb-true}
use Rattle.input.specs.NumberTexts.{is_blank}
use Rattle.input.specs.Places.{Place, moved, opened, place_after, step_at}
use Rattle.input.specs.RecordScans.{spells_from}
use Rattle.input.specs.Texts.{MayEnd, Spelled, reads_byte, refused_at, steps}
use Rattle.input.specs.declared.records.fault.RecordFault.TheVariants.{TooLong}
use Rattle.input.specs.declared.records.line.LinePart.{LinePart}
use Rattle.input.specs.declared.records.line.LinePart.TheVariants.{Open, Rest, Bracket, Name, Gap, Value}
use Rattle.input.specs.declared.records.line.LinePart.TheVariants.{Escape, Close}
use Rattle.input.specs.declared.records.line.LineStep.TheVariants.{On, Wrong}
use Rattle.input.specs.declared.records.reading.Reading.{Reading}
use Rattle.input.specs.declared.records.scanner.RecordScanner.{RecordScanner}
use Rattle.input.proofs.Scanning.{at_byte, cr_within, plainly}

-- ---- each byte moves one column on

either : (test : Bool) (a b : Place) (n : ℕ) → a.column ≡ n → b.column ≡ n → (if test then a else b).column ≡ n
either true a b n left right = left
either false a b n left right = right

abbrev unless_blank : Place → ℕ → Place
unless_blank p b = if is_blank b then p else record p { skips = true }

abbrev from_bracket : Place → ℕ → Place
from_bracket p b =
    if b == 91 && (p.column == 1 || not p.skips) then record p { part = Bracket; skips = false }
    else unless_blank p b

abbrev from_semicolon : Place → ℕ → Place
from_semicolon p b = if b == 59 then record p { part = Rest } else from_bracket p b

abbrev from_brace : Place → ℕ → Place
from_brace p b = if b == 123 then record p { comment = true } else from_semicolon p b

abbrev from_comment : Place → ℕ → Place
from_comment p b = if p.comment then record p { comment = not (b == 125) } else from_brace p b

opened_column : (p : Place) (b : ℕ) → (opened p b).column ≡ p.column
opened_column p b =
    either (p.column == 1 && b == 37) (record p { part = Rest }) (from_comment p b) p.column refl
    (either p.comment (record p { comment = not (b == 125) }) (from_brace p b) p.column refl
    (either (b == 123) (record p { comment = true }) (from_semicolon p b) p.column refl
    (either (b == 59) (record p { part = Rest }) (from_bracket p b) p.column refl
    (either (b == 91 && (p.column == 1 || not p.skips)) (record p { part = Bracket; skips = false }) (unless_blank p b) p.column refl
    (either (is_blank b) p (record p { skips = true }) p.column refl refl)))))

abbrev in_name : Place → ℕ → Place
in_name p b = if is_blank b then record p { part = Gap } else record p { name = p.name ++ b ∷ [] }

abbrev in_value : Place → ℕ → Place
in_value p b =
    if b == 92 then record p { part = Escape; value = p.value ++ b ∷ [] }
    else record p { value = p.value ++ b ∷ [] }

moved_column : (part : LinePart) (p : Place) (b : ℕ) → (moved part p b).column ≡ p.column
moved_column Open p b = opened_column p b
moved_column Rest p b = refl
moved_column Bracket p b = refl
moved_column Name p b =
    either (b == 34) (record p { part = Value; value = [] }) (in_name p b) p.column refl
    (either (is_blank b) (record p { part = Gap }) (record p { name = p.name ++ b ∷ [] }) p.column refl refl)
moved_column Gap p b = either (b == 34) (record p { part = Value; value = [] }) p p.column refl refl
moved_column Value p b =
    either (b == 34) (record p { part = Close }) (in_value p b) p.column refl
    (either (b == 92) (record p { part = Escape; value = p.value ++ b ∷ [] }) (record p { value = p.value ++ b ∷ [] }) p.column refl refl)
moved_column Escape p b = refl
moved_column Close p b = either (b == 93) (record p { part = Open }) p p.column refl refl

-- ---- no byte but `]` ends a tag

on_or_wrong : (test : Bool) (s : Reading) (next : Reading → Spelled) → (next s).boards ≡ []
    → (steps (if test then On else Wrong) s next).boards ≡ []
on_or_wrong true s next none = none
on_or_wrong false s next none = refl

stepped : (part : LinePart) (b : ℕ) (s : Reading) (next : Reading → Spelled) → (b == 93) ≡ false
    → (next s).boards ≡ [] → (steps (step_at part b) s next).boards ≡ []
stepped Open b s next within none = none
stepped Rest b s next within none = none
stepped Bracket b s next within none = on_or_wrong _ s next none
stepped Name b s next within none = on_or_wrong _ s next none
stepped Gap b s next within none = on_or_wrong _ s next none
stepped Value b s next within none = none
stepped Escape b s next within none = none
stepped Close b s next within none = rw within (on_or_wrong (is_blank b) s next none)

-- ---- bytes up to the last column

-- what is read after a byte
abbrev after_byte : Reading → ℕ → Reading
after_byte s b = record s { line = place_after s.line b }

byte_by : (fits : Bool) (s : Reading) (b : ℕ) (next : Reading → Spelled) → (b == 93) ≡ false
    → (fits ≡ true → (next (after_byte s b)).boards ≡ [])
    → (if fits then steps (step_at s.line.part b) (after_byte s b) next else refused_at s TooLong).boards ≡ []
byte_by true s b next within none = stepped s.line.part b (after_byte s b) next within (none refl)
byte_by false s b next within none = refl

spaces_end : (n : ℕ) (s : Reading) → 4096 ≤ s.line.column + n
    → (spells_from (plainly s) (replicate (suc n) 32)).boards ≡ []
spaces_end zero s long =
    rw (at_byte (plainly s) 32 [] refl refl refl)
    (byte_by (nat_lt s.line.column 4096) s 32 (λ t. spells_from (plainly t) []) refl
    (λ fits. let below : s.line.column < 4096 = ltb-true s.line.column 4096 fits in absurd (omega (arith, below, long))))
spaces_end (suc n) s long =
    rw (at_byte (plainly s) 32 (replicate (suc n) 32) refl refl refl)
    (byte_by (nat_lt s.line.column 4096) s 32 (λ t. spells_from (plainly t) (replicate (suc n) 32)) refl
    (λ fits. spaces_end n (after_byte s 32) (omega (arith, long, moved_column s.line.part (record s.line { column = s.line.column + 1 }) 32))))

-- what a scanner read may go on so that no board comes
none_comes : (after_cr : Bool) (s : Reading)
    → (spells_from (record { reading = s; after_cr = after_cr }) (replicate 4097 32)).boards ≡ []
none_comes false s = spaces_end 4096 s (omega arith)
none_comes true s =
    rw (cr_within (record { reading = s; after_cr = true }) (replicate 4097 32) refl refl)
    (byte_by (nat_lt s.line.column 4096) s 13 (λ t. spells_from (plainly t) (replicate 4097 32)) refl
    (λ fits. spaces_end 4096 (after_byte s 13) (omega arith)))

pub may_end : (s : RecordScanner) → MayEnd (spells_from s)
may_end s = record { rest = replicate 4097 32; none = none_comes s.after_cr s.reading }
