-- One line more of numbers with tricks.
use Rattle.std.proofs.Common.{◌≡◌, ◌∙◌, ℕ, ◌+◌, ◌==◌, Bool, true, false, List, [], ◌∷◌, ◌++◌, length, Option, None}
use Rattle.std.proofs.Common.{Some, refl, sym, ap, subst, arith, append_assoc}
use Rattle.std.specs.Prelude.{if◌then◌else◌, Err, Ok, OnErr, Result}
use Rattle.std.proofs.lemmas.List.{append-nil}
use Rattle.std.proofs.KnownBytes.{Consumes-nil, Consumes-trans}
use Rattle.std.specs.Io.KnownBytes.{Consumes, IsAtEnd}
use Rattle.notations.specs.Formats.{header_with_tricks}
use Rattle.input.specs.NumberTexts.{ended, has_lf, is_blank}
use Rattle.input.specs.TextLines.{text_lines, unless_empty}
use Rattle.input.specs.internal.LineEnds.{without_cr}
use Rattle.input.specs.declared.numbers.fault.PickFault.{PickFault}
use Rattle.input.specs.declared.numbers.fault.PickFault.TheVariants.{Refused, Input, Output}
use Rattle.input.proofs.LineEnds.{line_alone, line_ends, no_lf_cr}
use Rattle.input.proofs.Scanned.{has_lf-other}
use Rattle.boards.specs.Plans.{Planned}
use Rattle.input.specs.declared.refused_line.LineFault.{LineFault}
use Rattle.sinks.specs.Appended.{AppendsAll, AppendsPart, append_known}
use Rattle.sinks.proofs.SinkLemmas.{append_known-append}
use Rattle.input.specs.TricksPicked.{line_tells, lines_pick, text_picks, with_line}
use Rattle.input.specs.Told.{Solved, TellsBy, Told, Written, after, boards_text, solved_text}
use Rattle.input.specs.declared.tricks.line.LineEnd.{LineEnd}
use Rattle.input.specs.declared.tricks.line.LineEnd.TheVariants.{Feed, Last, TooLong, Nothing}
use Rattle.input.specs.internal.TricksPicking.{FailsWithinText, PickedFrom, PickedLast, ReadsText, Stepped, TextSoFar, no_more, starts, text_of}
use Rattle.input.specs.internal.Telling.{EndsAfter, GivesByte}
use Rattle.input.proofs.TellSteps.{after-after, broken_at, ended-behind, ended-none, failed_at, foot, more_text, refused_at}
use Rattle.input.proofs.Words.{blanks_more, clean_all, long_refused, starts_at, starts_more, tells_cr, tells_from, tells_line}

-- ---- what was read of a line

pub text_none : (before : Option (List ℕ)) → TextSoFar [] before before
text_none before = record { blanks = []; are_blank = refl; clean = refl; start = refl; consumed = Consumes-nil before }

module _ (line : List ℕ) (before then_it now : Option (List ℕ)) where
  ends_here : TextSoFar line before then_it → Consumes then_it now [] → (t : TextSoFar line before then_it) → Consumes before now (t.blanks ++ line)
  ends_here h none t = subst (Consumes before now) (append-nil (t.blanks ++ line))
      (Consumes-trans before then_it now (t.blanks ++ line) [] t.consumed none)

  pub text_ends : (is_empty : Bool) → TextSoFar line before then_it → GivesByte then_it now None
      → ReadsText (if is_empty then Nothing else Last) line before now
  text_ends true h end = record { blanks = h.blanks; are_blank = h.are_blank; clean = h.clean; start = h.start; reads = (ends_here h end.0 h, end.1) }
  text_ends false h end = record {
    blanks = h.blanks;
    are_blank = h.are_blank;
    clean = h.clean;
    start = h.start;
    reads = (ends_here h end.0 h, end.1);
  }

  pub text_feed : TextSoFar line before then_it → Consumes then_it now (10 ∷ []) → ReadsText Feed line before now
  text_feed h more = record {
    blanks = h.blanks;
    are_blank = h.are_blank;
    clean = h.clean;
    start = h.start;
    reads =
        Consumes-trans before then_it now (h.blanks ++ line) (10 ∷ []) h.consumed more;
  }

  pub text_long : (b : ℕ) → (b == 10) ≡ false → length line ≡ 256 → TextSoFar line before then_it
      → Consumes then_it now (b ∷ []) → ReadsText TooLong line before now
  text_long b other full h more = record {
    blanks = h.blanks;
    are_blank = h.are_blank;
    clean = h.clean;
    start = h.start;
    reads = (b, other, full, Consumes-trans before then_it now (h.blanks ++ line) (b ∷ []) h.consumed more);
  }

  pub text_more : (b : ℕ) → (b == 10) ≡ false → starts (line ++ b ∷ []) ≡ true → TextSoFar line before then_it
      → Consumes then_it now (b ∷ []) → TextSoFar (line ++ b ∷ []) before now
  text_more b other start h more = record {
    blanks = h.blanks;
    are_blank = h.are_blank;
    clean = has_lf-other b line other ∙ h.clean;
    start = start;
    consumed = subst (Consumes before now) (append_assoc h.blanks line (b ∷ []))
        (Consumes-trans before then_it now (h.blanks ++ line) (b ∷ []) h.consumed more);
  }

  pub text_fails : TextSoFar line before then_it → Consumes then_it now [] → FailsWithinText before now
  text_fails h none = (h.blanks ++ line, clean_all h.blanks line h.are_blank h.clean, ends_here h none h)

pub text_blank : (before then_it now : Option (List ℕ)) (b : ℕ) → is_blank b ≡ true → TextSoFar [] before then_it
    → Consumes then_it now (b ∷ []) → TextSoFar [] before now
text_blank before then_it now b blank h more = record {
  blanks = h.blanks ++ b ∷ [];
  are_blank = blanks_more h.blanks b h.are_blank blank;
  clean = refl;
  start = refl;
  consumed = subst (Consumes before now) (ap (λ l. l ++ b ∷ []) (append-nil h.blanks)
      ∙ sym (append-nil (h.blanks ++ b ∷ []))) (Consumes-trans before then_it now (h.blanks ++ []) (b ∷ []) h.consumed
      more);
}

-- a byte after others, or one that is no blank
pub starts_with : (line : List ℕ) (b : ℕ) → starts line ≡ true → (line ≡ [] → is_blank b ≡ false) → starts (line ++ b ∷ []) ≡ true
starts_with [] b start other = starts_at b (other refl)
starts_with (x ∷ xs) b start other = start

-- ---- the end of a line

-- what was given up to the end of a line, which tells this
pub record LineGiven (w : Written) (plan : Planned) (lines count : ℕ) (end : LineEnd)
    (r : Result (Option Solved) LineFault) (before now base old : Option (List ℕ)) : Type 0 where
  pub given : List ℕ
  pub boards : List Solved
  pub consumed : Consumes before now given
  pub bytes : AppendsAll base old (boards_text w boards)
  pub told : text_picks plan given ≡ after boards (with_line lines count r (λ n. no_more))
  pub goes_on : end ≡ Feed → (more : List ℕ) → text_picks plan (given ++ more) ≡ after boards
      (with_line lines count r (λ n. lines_pick plan (lines + 1) n (text_lines more)))
  pub are_ended : end ≡ Feed → (more : List ℕ) → has_lf more ≡ false → ended (given ++ more) ≡ given
  pub at_end : (end ≡ Feed → ⊥) → (end ≡ TooLong → ⊥) → IsAtEnd now

alone : (plan : Planned) (lines count : ℕ) (l : List ℕ)
    → lines_pick plan lines count (unless_empty l) ≡ with_line lines count (line_tells plan count l) (λ n. no_more)
alone plan lines count [] = refl
alone plan lines count (b ∷ bs) = refl

module _ (w : Written) (plan : Planned) (lines count : ℕ) (line : List ℕ) (before then_it now base old : Option (List ℕ)) where
  abbrev pub given_to : LineEnd → Type 0
  given_to end = LineGiven w plan lines count end (tells_from plan count (text_of end line)) before now base old

  -- a last line
  by_last : (end : LineEnd) (whole : List ℕ) (r : Result (Option Solved) LineFault) → (end ≡ Feed → ⊥)
      → ((end ≡ TooLong → ⊥) → IsAtEnd now) → has_lf whole ≡ false → line_tells plan count whole ≡ r
      → Consumes then_it now whole → PickedFrom w plan lines count before then_it base old → LineGiven w plan lines count end r before now base old
  by_last end whole r other at_end clean is read h = record {
    given = h.given ++ whole;
    boards = h.boards;
    consumed = Consumes-trans before then_it now h.given whole h.consumed read;
    bytes = h.bytes;
    told = h.goes_on whole ∙ ap (λ ls. after h.boards (lines_pick plan lines count ls)) (line_alone whole clean)
        ∙ ap (after h.boards) (alone plan lines count whole ∙ ap (λ t. with_line lines count t (λ n. no_more)) is);
    goes_on = λ is. absurd (other is);
    are_ended = λ is. absurd (other is);
    at_end = λ no long. at_end long;
  }

  by_feed : (whole : List ℕ) (r : Result (Option Solved) LineFault) → has_lf whole ≡ false → line_tells plan count (without_cr whole) ≡ r
      → Consumes then_it now (whole ++ 10 ∷ []) → PickedFrom w plan lines count before then_it base old
      → LineGiven w plan lines count Feed r before now base old
  by_feed whole r clean is read h =
      let goes_on : (more : List ℕ) → text_picks plan ((h.given ++ (whole ++ 10 ∷ [])) ++ more) ≡ after h.boards
      (with_line lines count r (λ n. lines_pick plan (lines + 1) n (text_lines more))) =
      λ more. ap (text_picks plan) (append_assoc h.given (whole ++ 10 ∷ []) more ∙ ap (λ l. h.given ++ l) (append_assoc whole (10 ∷ []) more))
      ∙ h.goes_on (whole ++ 10 ∷ more) ∙ ap (λ ls. after h.boards (lines_pick plan lines count ls)) (line_ends whole more clean)
      ∙ ap (λ t. after h.boards (with_line lines count t (λ n. lines_pick plan (lines + 1) n (text_lines more)))) is in record {
        given = h.given ++ (whole ++ 10 ∷ []);
        boards = h.boards;
        consumed = Consumes-trans before then_it now h.given (whole ++ 10 ∷ []) h.consumed read;
        bytes = h.bytes;
        told = ap (text_picks plan) (sym (append-nil (h.given ++ (whole ++ 10 ∷ [])))) ∙ goes_on [];
        goes_on = λ is. goes_on;
        are_ended = λ is more none. ap ended (append_assoc h.given (whole ++ 10 ∷ []) more
            ∙ ap (λ l. h.given ++ l) (append_assoc whole (10 ∷ []) more)
            ∙ sym (append_assoc h.given whole (10 ∷ more)))
            ∙ ended-behind (h.given ++ whole) more none ∙ append_assoc h.given whole (10 ∷ []);
        at_end = λ other. absurd (other refl);
      }

  pub line_given : (end : LineEnd) → ReadsText end line then_it now → PickedFrom w plan lines count before then_it base old → given_to end
  line_given Feed r h = by_feed (r.blanks ++ line) (tells_from plan count (without_cr line))
      (clean_all r.blanks line r.are_blank r.clean) (tells_cr plan count r.blanks line r.are_blank r.start) r.reads h
  line_given Last r h =
      by_last Last (r.blanks ++ line) (tells_from plan count line) (λ e. cc) (λ e. r.reads.1)
      (clean_all r.blanks line r.are_blank r.clean) (tells_line plan count r.blanks line r.are_blank r.start)
      r.reads.0 h
  line_given Nothing r h =
      by_last Nothing (r.blanks ++ line) (tells_from plan count line) (λ e. cc) (λ e. r.reads.1)
      (clean_all r.blanks line r.are_blank r.clean) (tells_line plan count r.blanks line r.are_blank r.start)
      r.reads.0 h
  line_given TooLong r h =
      let whole : List ℕ = (r.blanks ++ line) ++ r.reads.0 ∷ [] in
      let refused = long_refused plan count line r.reads.0 r.reads.2 r.start in
      let clean : has_lf whole ≡ false = has_lf-other r.reads.0 (r.blanks ++ line) r.reads.1 ∙ clean_all r.blanks line r.are_blank r.clean in
      let start = starts_more line r.reads.0 (omega (arith, r.reads.2)) r.start in
      let is : line_tells plan count whole ≡ tells_from plan count line =
      ap (line_tells plan count) (append_assoc r.blanks line (r.reads.0 ∷ []))
      ∙ tells_line plan count r.blanks (line ++ r.reads.0 ∷ []) r.are_blank start ∙ refused.2 ∙ sym refused.1 in
      by_last TooLong whole (tells_from plan count line) (λ e. cc) (λ e. absurd (e refl)) clean is r.reads.3 h

-- ---- what the line tells

module _ (w : Written) (plan : Planned) (lines count : ℕ) (end : LineEnd) (before now base old : Option (List ℕ)) where
  pub line_refused : (fault : LineFault) → LineGiven w plan lines count end (Err fault) before now base old
      → TellsBy {T = Unit {0}} w (text_picks plan) (Err (Refused (record { line = lines + 1; fault = fault }))) before now base old
  line_refused fault h = refused_at w (text_picks plan) before now base h.given h.boards lines fault old h.consumed h.bytes h.told

  pub board_broken : (s : Solved) (new : Option (List ℕ))
      → LineGiven w plan lines count end (Ok (Some s)) before now base old → AppendsPart old new (solved_text w s)
      → TellsBy {T = Unit {0}} w (text_picks plan) (Err Output) before now base new
  board_broken s new h part = broken_at w (text_picks plan) before now base h.given h.boards s no_more old new h.consumed h.bytes part h.told

module _ (w : Written) (plan : Planned) (lines count : ℕ) (before now base old : Option (List ℕ)) where
  pub nothing_picked : (end : LineEnd) → (end ≡ TooLong → ⊥)
      → LineGiven w plan lines count end (Ok None) before now base old
      → Stepped w plan lines end count before now base old
  nothing_picked Feed short h = record {
    given = h.given;
    boards = h.boards;
    consumed = h.consumed;
    goes_on =
        h.goes_on refl;
    are_ended = h.are_ended refl;
    bytes = h.bytes;
  }
  nothing_picked Last short h = record {
    given = h.given;
    boards = h.boards;
    consumed = h.consumed;
    at_end =
        h.at_end (λ e. cc) short;
    told = h.told;
    bytes = h.bytes;
  }
  nothing_picked Nothing short h = record {
    given = h.given;
    boards = h.boards;
    consumed = h.consumed;
    at_end =
        h.at_end (λ e. cc) short;
    told = h.told;
    bytes = h.bytes;
  }
  nothing_picked TooLong short h = absurd (short refl)

  board_written : (boards : List Solved) (s : Solved) (new : Option (List ℕ))
      → AppendsAll base old (boards_text w boards) → AppendsAll old new (solved_text w s)
      → AppendsAll base new (boards_text w (boards ++ s ∷ []))
  board_written boards s new bytes put =
      put ∙ ap (λ o. append_known o (solved_text w s)) bytes ∙ append_known-append base (boards_text w boards) (solved_text w s)
      ∙ ap (append_known base) (sym (more_text w (text_picks plan) before now base boards s))

  board_last : (end : LineEnd) (s : Solved) (new : Option (List ℕ)) → IsAtEnd now
      → LineGiven w plan lines count end (Ok (Some s)) before now base old → AppendsAll old new (solved_text w s)
      → PickedLast w plan before now base new
  board_last end s new at_end h put = record {
    given = h.given;
    boards = h.boards ++ s ∷ [];
    consumed = h.consumed;
    at_end = at_end;
    told = h.told ∙ after-after h.boards (s ∷ []) no_more;
    bytes = board_written h.boards s new h.bytes put;
  }

  pub board_picked : (end : LineEnd) (s : Solved) (new : Option (List ℕ)) → (end ≡ TooLong → ⊥)
      → LineGiven w plan lines count end (Ok (Some s)) before now base old → AppendsAll old new (solved_text w s)
      → Stepped w plan lines end (count + 1) before now base new
  board_picked Feed s new short h put = record {
    given = h.given;
    boards = h.boards ++ s ∷ [];
    consumed = h.consumed;
    goes_on = λ more. h.goes_on refl more ∙ after-after h.boards (s ∷ []) (lines_pick plan (lines + 1) (count + 1) (text_lines more));
    are_ended = h.are_ended refl;
    bytes = board_written h.boards s new h.bytes put;
  }
  board_picked Last s new short h put = board_last Last s new (h.at_end (λ e. cc) short) h put
  board_picked Nothing s new short h put = board_last Nothing s new (h.at_end (λ e. cc) short) h put
  board_picked TooLong s new short h put = absurd (short refl)

-- a line that is too long is refused
pub too_long : (plan : Planned) (count : ℕ) (line : List ℕ) (end : LineEnd) (r : Option Solved)
    (then_it now : Option (List ℕ)) → ReadsText end line then_it now → tells_from plan count (text_of end line) ≡ Ok r
    → end ≡ TooLong → ⊥
too_long plan count line TooLong r then_it now read is e =
    let refused = long_refused plan count line read.reads.0 read.reads.2 read.start in
    let bad = sym is ∙ refused.1 in cc
too_long plan count line _ r then_it now read is e = cc

-- the input fails within a line
pub line_failed : (w : Written) (plan : Planned) (lines count : ℕ) (before then_it now base old : Option (List ℕ))
    → FailsWithinText then_it now → PickedFrom w plan lines count before then_it base old
    → TellsBy {T = Unit {0}} w (text_picks plan) (Err Input) before now base old
line_failed w plan lines count before then_it now base old fails h =
    failed_at w (text_picks plan) before now base h.given fails.0 h.boards no_more old
    (Consumes-trans before then_it now h.given fails.0 h.consumed fails.2) (h.are_ended fails.0 fails.1) h.bytes
    (ap (text_picks plan) (sym (append-nil h.given)) ∙ h.goes_on []) refl tt

-- ---- the beginning and the end

pub nothing_read : (w : Written) (plan : Planned) (before base now : Option (List ℕ))
    → AppendsAll base now (header_with_tricks w.format w.heading) → PickedFrom w plan 0 0 before before base now
unfolding text_picks
nothing_read w plan before base now put = record {
  given = [];
  boards = [];
  consumed = Consumes-nil before;
  goes_on = λ more. refl;
  are_ended = λ more clean. ended-none more clean;
  bytes = put ∙ ap (append_known base) (sym (append-nil (header_with_tricks w.format w.heading)));
}

pub picked_ends : {T : Type 0} (w : Written) (plan : Planned) (before now base old new : Option (List ℕ))
    (result : Result T PickFault) → PickedLast w plan before now base old → EndsAfter w result old new
    → TellsBy w (text_picks plan) result before now base new
picked_ends {T} w plan before now base old new result h ends =
    foot w (text_picks plan) before now base old new h.given h.boards T result h.consumed h.at_end
    (h.told ∙ ap (λ (l : List Solved). let r : Told = record { boards = l; refused = None } in r)
    (append-nil h.boards)) h.bytes ends

-- behind a line without LF
pub stepped_last : (w : Written) (plan : Planned) (lines count : ℕ) (end : LineEnd)
    (before now base new : Option (List ℕ)) → (end ≡ Feed → ⊥) → Stepped w plan lines end count before now base new
    → PickedLast w plan before now base new
stepped_last w plan lines count Feed before now base new other h = absurd (other refl)
stepped_last w plan lines count _ before now base new other h = h

-- ---- odds and ends

pub on_err : {A E : Type 0} (r : Result A E) (P : Type 0) → P → OnErr r P
on_err (Ok value) P p = tt
on_err (Err e) P p = p

pub text_clean : (end : LineEnd) (line : List ℕ) → has_lf line ≡ false → has_lf (text_of end line) ≡ false
text_clean Feed line clean = no_lf_cr line clean
text_clean _ line clean = clean
