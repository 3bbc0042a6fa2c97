-- A CR that no LF follows, and the end of a text.
use Rattle.std.proofs.Common.{◌≡◌, ◌∙◌, ℕ, ◌+◌, ◌==◌, true, false, List, [], ◌∷◌, ◌++◌, length, Option, None, Some}
use Rattle.std.proofs.Common.{Result, Ok, Err, IfOk, IfErr, refl, sym, ap}
use Rattle.std.proofs.lemmas.List.{append-nil}
use Rattle.input.specs.NumberTexts.{Said, first_line, later_lines, lines_say, number_of, refused_after, said}
use Rattle.input.specs.NumberTexts.{unless_blank, with_lf, with_line, without_last_blanks}
use Rattle.input.specs.Scans.{HasScanned, ScannerView, after, digits_and, goes_on, line_from, list_of, number_and, said_from}
use Rattle.input.specs.internal.Lines.{start_of_line}
use Rattle.input.specs.declared.numbers.line.NumberPart.{NumberPart}
use Rattle.input.specs.declared.numbers.line.NumberPart.TheVariants.{Blank, Digits, Over}
use Rattle.input.specs.declared.refused_line.LineFault.TheVariants.{NotANumber}
use Rattle.input.specs.declared.refused_line.RefusedLine.{RefusedLine}
use Rattle.input.proofs.Scanned.{scanned_line}

-- a CR within a line is refused
in_blank : (l : List ℕ) → number_of (unless_blank 13 l) ≡ Err NotANumber
in_blank [] = refl
in_blank (x ∷ xs) = refl

in_digits : (value digits : ℕ) (l : List ℕ) → digits_and value digits (unless_blank 13 l) ≡ Err NotANumber
in_digits value digits [] = refl
in_digits value digits (x ∷ xs) = refl

behind_number : (value : ℕ) (l : List ℕ) → number_and value (unless_blank 13 l) ≡ Err NotANumber
behind_number value [] = refl
behind_number value (x ∷ xs) = refl

cr_stops : (part : NumberPart) (value digits : ℕ) (rest : List ℕ) → goes_on part value digits (13 ∷ rest) ≡ Err NotANumber
cr_stops Blank value digits rest = in_blank (without_last_blanks rest)
cr_stops Digits value digits rest = in_digits value digits (without_last_blanks rest)
cr_stops Over value digits rest = behind_number value (without_last_blanks rest)

pub cr_and_byte : (s : ScannerView) (b : ℕ) (rest : List ℕ) → s.after_cr ≡ true → (b == 10) ≡ false
    → said_from s (b ∷ rest) ≡ refused_after s.lines NotANumber
cr_and_byte s b rest e other =
    rw (e, other) (ap (λ w. with_line s.lines s.numbers w
    (λ n. lines_say (s.lines + 1) n (later_lines (with_lf (b ∷ rest)))))
    (cr_stops s.line.part s.line.value s.line.digits (first_line (with_lf (b ∷ rest)))))

cr_and_end : (s : ScannerView) → s.after_cr ≡ true → said_from s [] ≡ refused_after s.lines NotANumber
cr_and_end s e = rw e (ap (λ w. with_line s.lines s.numbers w (λ n. lines_say (s.lines + 1) n []))
    (cr_stops s.line.part s.line.value s.line.digits []))

-- ---- the end of a text

said_at_end : (s : ScannerView) (text numbers : List ℕ) → HasScanned s text numbers → said text ≡ after numbers (said_from s [])
said_at_end s text numbers h = ap said (sym (append-nil text)) ∙ h.goes_on_so []

refusal_after : (numbers : List ℕ) (e : Option RefusedLine)
    → after numbers (record { numbers = []; refused = e }) ≡ record { numbers = numbers; refused = e }
refusal_after numbers e = let as_said : List ℕ → Said = λ l. record { numbers = l; refused = e } in ap as_said (append-nil numbers)

pub ends_in_cr : (s : ScannerView) (text numbers : List ℕ) (e : RefusedLine) → s.after_cr ≡ true
    → e ≡ record { line = s.lines + 1; fault = NotANumber }
    → HasScanned s text numbers → said text ≡ record { numbers = numbers; refused = Some e }
ends_in_cr s text numbers e cr is h =
    said_at_end s text numbers h ∙ ap (after numbers) (cr_and_end s cr)
    ∙ refusal_after numbers (Some (record { line = s.lines + 1; fault = NotANumber })) ∙ rw is refl

abbrev pub SaysHere : ScannerView → Option ℕ → Type 0
SaysHere s n = (later : ℕ → Said) → with_line s.lines s.numbers (line_from s.line []) later ≡ after (list_of n)
    (later (s.numbers + length (list_of n)))

abbrev pub RefusesHere : ScannerView → RefusedLine → Type 0
RefusesHere s e = (later : ℕ → Said) → with_line s.lines s.numbers (line_from s.line []) later ≡ record { numbers = []; refused = Some e }

pub ends_well : (s : ScannerView) (text numbers : List ℕ) (r : Result (Option ℕ) RefusedLine) → s.after_cr ≡ false → IfOk r (λ n. SaysHere s n)
    → HasScanned s text numbers → IfOk r (λ n. said text ≡ record { numbers = numbers ++ list_of n; refused = None })
ends_well s text numbers (Err e) cr says h = tt
ends_well s text numbers (Ok n) cr says h =
    let as_said : List ℕ → Said = λ l. record { numbers = numbers ++ l; refused = None } in
    let here : said_from s [] ≡ after (list_of n) (record { numbers = []; refused = None }) = rw cr (says (λ n. lines_say (s.lines + 1) n [])) in
    said_at_end s text numbers h ∙ ap (after numbers) here ∙ ap as_said (append-nil (list_of n))

pub ends_badly : (s : ScannerView) (text numbers : List ℕ) (r : Result (Option ℕ) RefusedLine) → s.after_cr ≡ false → IfErr r (λ e. RefusesHere s e)
    → HasScanned s text numbers → IfErr r (λ e. said text ≡ record { numbers = numbers; refused = Some e })
ends_badly s text numbers (Ok n) cr says h = tt
ends_badly s text numbers (Err e) cr says h =
    let here : said_from s [] ≡ record { numbers = []; refused = Some e } = rw cr (says (λ n. lines_say (s.lines + 1) n [])) in
    said_at_end s text numbers h ∙ ap (after numbers) here ∙ refusal_after numbers (Some e)

pub lines_end : (s t : ScannerView) (r : Result (Option ℕ) RefusedLine) (text numbers : List ℕ)
    → IfOk r (λ n. (rest : List ℕ) → said_from s (10 ∷ rest) ≡ after (list_of n) (said_from t rest))
    → IfOk r (λ n. t ≡ record { line = start_of_line; after_cr = false; lines = s.lines + 1; numbers = s.numbers + length (list_of n) })
    → HasScanned s text numbers → IfOk r (λ n. HasScanned t (text ++ 10 ∷ []) (numbers ++ list_of n))
lines_end s t (Err e) text numbers same is h = tt
lines_end s t (Ok n) text numbers same is h = scanned_line s t n text numbers same is h
