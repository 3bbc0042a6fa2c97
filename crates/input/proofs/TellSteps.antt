-- One line more.
use Rattle.std.proofs.Common.{◌≡◌, ◌∙◌, ◌≤◌, ◌<◌, ℕ, ◌+◌, ◌-◌, ◌==◌, ◌||◌, Bool, true, false, List, [], ◌∷◌, ◌++◌}
use Rattle.std.proofs.Common.{length, Option, None, Some, refl, sym, ap, subst, arith, append_assoc, length-append}
use Rattle.std.specs.Prelude.{if◌then◌else◌, Err, Ok, Result, bytes_eq}
use Rattle.std.specs.List.{flat_map}
use Rattle.std.proofs.lemmas.Grind.{flat_map-append}
use Rattle.std.proofs.lemmas.List.{append-nil, length-take}
use Rattle.std.proofs.KnownBytes.{Consumes-nil, Consumes-trans}
use Rattle.std.specs.Io.KnownBytes.{Consumes, IsAtEnd}
use Rattle.boards.specs.TricksLines.{TricksView, told}
use Rattle.boards.proofs.TricksShort.{told_short}
use Rattle.cards.specs.declared.seat.Seat.{Seat}
use Rattle.notations.specs.Formats.{footer_of, header_with_tricks}
use Rattle.pbn_text.specs.Games.{deal_text}
use Rattle.input.specs.NumberTexts.{ended, has_lf}
use Rattle.input.specs.TextLines.{text_lines, unless_empty}
use Rattle.input.specs.internal.LineEnds.{without_cr}
use Rattle.input.specs.declared.numbers.fault.PickFault.{PickFault}
use Rattle.input.specs.declared.numbers.fault.PickFault.TheVariants.{Refused, Input, Output}
use Rattle.input.proofs.LineEnds.{line_alone, line_ends, long_line}
use Rattle.boards.specs.Plans.{Planned, candidate_of}
use Rattle.boards.specs.Text.{board_of}
use Rattle.input.specs.declared.refused_line.LineFault.{LineFault}
use Rattle.input.specs.declared.refused_line.LineFault.TheVariants.{Missing, MoreThanBoards, NotTricks}
use Rattle.sinks.specs.Appended.{AppendsAll, AppendsPart, append_known}
use Rattle.sinks.proofs.SinkLemmas.{append_known-append, append_known-nil, whole_then_part}
use Rattle.input.specs.Lines.{before_deal, deal_value, has_deal, if_same, told_of}
use Rattle.input.specs.Told.{NotRefused, Solved, Tells, TellsBy, Told, Written, after, boards_text, by_line}
use Rattle.input.specs.Told.{footer_for, left_over, lines_tell, refused_after, solved_text, text_tells, told_text}
use Rattle.input.specs.declared.tricks.line.LineEnd.{LineEnd}
use Rattle.input.specs.declared.tricks.line.LineEnd.TheVariants.{Feed, Last, TooLong, Nothing}
use Rattle.input.specs.internal.Telling.{EndsAfter, FailsWithin, HasTold, ReadsLine, Takes, TellsBoard, ToldFrom, ToldLast, judged}

-- ---- ended lines

pub ended-none : (xs : List ℕ) → has_lf xs ≡ false → ended xs ≡ []
ended-none [] h = refl
ended-none (x ∷ xs) h = rw h refl

or-true : (a : Bool) → (a || true) ≡ true
or-true true = refl
or-true false = refl

has_lf-within : (xs more : List ℕ) → has_lf (xs ++ 10 ∷ more) ≡ true
has_lf-within [] more = refl
has_lf-within (x ∷ xs) more = ap (λ t. x == 10 || t) (has_lf-within xs more) ∙ or-true (x == 10)

pub ended-behind : (xs more : List ℕ) → has_lf more ≡ false → ended (xs ++ 10 ∷ more) ≡ xs ++ 10 ∷ []
ended-behind [] more h = ap (λ l. 10 ∷ l) (ended-none more h)
ended-behind (x ∷ xs) more h =
    ap (λ t. if t then x ∷ ended (xs ++ 10 ∷ more) else []) (has_lf-within (x ∷ xs) more)
    ∙ ap (λ l. x ∷ l) (ended-behind xs more h)

-- ---- lines that are too long

not_told : (o : Option TricksView) (same : Bool) → o ≡ None → if_same o same ≡ Err NotTricks
not_told o same e = rw e refl

long_is_none : (l : List ℕ) → 54 ≤ length l → told l ≡ None
long_is_none l long = by_told (told l) refl
  where
    by_told : (o : Option TricksView) → told l ≡ o → o ≡ None
    by_told None e = refl
    by_told (Some t) e = let short = told_short l t e in absurd (omega arith)

pub long_is_refused : (deal : List Seat) (l : List ℕ) → 124 ≤ length l → told_of deal l ≡ Err NotTricks
unfolding told_of
long_is_refused deal l long = by_deal (has_deal l) refl
  where
    front : length (before_deal l) ≡ length l - 70
    front = length-take (length l - 70) l ∙ omega arith

    by_deal : (b : Bool) → has_deal l ≡ b → told_of deal l ≡ Err NotTricks
    by_deal true e = rw e (not_told (told (before_deal l)) (bytes_eq (deal_value l) (deal_text deal))
        (long_is_none (before_deal l) (omega (arith, front))))
    by_deal false e = rw e (not_told (told l) true (long_is_none l (omega arith)))

-- ---- what is told

pub after-after : (xs ys : List Solved) (t : Told) → after xs (after ys t) ≡ after (xs ++ ys) t
after-after xs ys t = ap (λ (l : List Solved). let r : Told = record { boards = l; refused = t.refused } in r) (sym (append_assoc xs ys t.boards))

after-refused : (xs : List Solved) (lines : ℕ) (fault : LineFault)
    → after xs (refused_after lines fault) ≡ record {
      boards = xs;
      refused =
          Some (record { line = lines + 1; fault = fault });
    }
after-refused xs lines fault = ap (λ (l : List Solved). let r : Told =
    record { boards = l; refused = Some (record { line = lines + 1; fault = fault }) } in r) (append-nil xs)

-- nothing is told behind the lines
none_left : (plan : Planned) (lines : ℕ) (rest : List ℕ) → (lines_tell plan lines rest []).boards ≡ []
none_left plan lines [] = refl
none_left plan lines (k ∷ ks) = refl

-- the board of a candidate, with these tricks
abbrev solved : Planned → ℕ → ℕ → TricksView → Solved
solved plan lines k t = record { board = board_of plan lines k (candidate_of plan k); tricks = t }

module _ (plan : Planned) (numbers given : List ℕ) (boards : List Solved) (lines k : ℕ) (rest line : List ℕ) where
  abbrev pub deal_of : List Seat
  deal_of = (board_of plan lines k (candidate_of plan k)).deal

  -- the lines that come next
  with_feed : (more : List ℕ) → has_lf line ≡ false → HasTold plan numbers given boards lines (k ∷ rest)
      → text_tells plan numbers ((given ++ (line ++ 10 ∷ [])) ++ more) ≡ after boards
      (lines_tell plan lines (k ∷ rest) (without_cr line ∷ text_lines more))
  with_feed more clean h =
      ap (text_tells plan numbers) (append_assoc given (line ++ 10 ∷ []) more ∙ ap (λ l. given ++ l) (append_assoc line (10 ∷ []) more))
      ∙ h.goes_on (line ++ 10 ∷ more) ∙ ap (λ ls. after boards (lines_tell plan lines (k ∷ rest) ls)) (line_ends line more clean)

  some_line : (l : List ℕ) → 0 < length l → unless_empty l ≡ l ∷ []
  some_line [] h = absurd (omega arith)
  some_line (b ∷ bs) h = refl

  with_last : has_lf line ≡ false → 0 < length line → HasTold plan numbers given boards lines (k ∷ rest)
      → text_tells plan numbers (given ++ line) ≡ after boards (lines_tell plan lines (k ∷ rest) (line ∷ []))
  with_last clean some h =
      h.goes_on line ∙ ap (λ ls. after boards (lines_tell plan lines (k ∷ rest) ls)) (line_alone line clean ∙ some_line line some)

  with_none : HasTold plan numbers given boards lines (k ∷ rest) → text_tells plan numbers (given ++ []) ≡ after boards (refused_after lines Missing)
  with_none h = h.goes_on []

  with_long : (b : ℕ) → has_lf (line ++ b ∷ []) ≡ false → length line ≡ 256 → HasTold plan numbers given boards lines (k ∷ rest)
      → text_tells plan numbers (given ++ (line ++ b ∷ [])) ≡ after boards (refused_after lines NotTricks)
  with_long b clean full h =
      let count : length (line ++ b ∷ []) ≡ 257 = length-append line (b ∷ []) ∙ ap (λ n. n + 1) full in
      let cut = long_line (line ++ b ∷ []) [] clean (omega arith) in
      let is : text_lines (line ++ b ∷ []) ≡ cut.0 ∷ cut.1 = ap text_lines (sym (append-nil (line ++ b ∷ []))) ∙ cut.2 in
      let long = cut.3 in
      h.goes_on (line ++ b ∷ []) ∙ ap (λ ls. after boards (lines_tell plan lines (k ∷ rest) ls)) is
      ∙ ap (λ r. after boards (by_line lines (board_of plan lines k (candidate_of plan k)) r
      (lines_tell plan (lines + 1) rest cut.1))) (long_is_refused deal_of cut.0 (omega arith))

  pub feed_told : (t : TricksView) → has_lf line ≡ false → told_of deal_of (without_cr line) ≡ Ok t
      → HasTold plan numbers given boards lines (k ∷ rest)
      → HasTold plan numbers (given ++ (line ++ 10 ∷ [])) (boards ++ solved plan lines k t ∷ []) (lines + 1) rest
  feed_told t clean tells h = record {
    goes_on = λ more. with_feed more clean h
        ∙ ap (λ r. after boards (by_line lines (board_of plan lines k (candidate_of plan k)) r
        (lines_tell plan (lines + 1) rest (text_lines more)))) tells
        ∙ after-after boards (solved plan lines k t ∷ []) (lines_tell plan (lines + 1) rest (text_lines more));
    are_ended = λ more none. ap ended (append_assoc given (line ++ 10 ∷ []) more
        ∙ ap (λ l. given ++ l) (append_assoc line (10 ∷ []) more) ∙ sym (append_assoc given line (10 ∷ more)))
        ∙ ended-behind (given ++ line) more none ∙ append_assoc given line (10 ∷ []);
  }

-- ---- how it ends

module _ (w : Written) (tells : List ℕ → Told) (before now base : Option (List ℕ)) where
  -- a line is refused
  pub refused_at : (given : List ℕ) (boards : List Solved) (lines : ℕ) (fault : LineFault) (out : Option (List ℕ))
      → Consumes before now given → AppendsAll base out (boards_text w boards)
      → tells given ≡ after boards (refused_after lines fault)
      → TellsBy {T = Unit {0}} w tells (Err (Refused (record { line = lines + 1; fault = fault }))) before now base
      out
  refused_at given boards lines fault out consumed bytes is =
      let e = is ∙ after-refused boards lines fault in record {
        given = given;
        consumed = consumed;
        all = tt;
        written = rw e (refl, bytes ∙ ap (append_known base) (sym (append-nil (boards_text w boards))));
      }

  pub more_text : (boards : List Solved) (s : Solved) → boards_text w (boards ++ s ∷ []) ≡ boards_text w boards ++ solved_text w s
  more_text boards s =
      ap (λ l. header ++ l) (flat_map-append (solved_text w) boards (s ∷ [])
      ∙ ap (λ l. flat_map (solved_text w) boards ++ l) (append-nil (solved_text w s)))
      ∙ sym (append_assoc header (flat_map (solved_text w) boards) (solved_text w s))
    where
      header : List ℕ
      header = header_with_tricks w.format w.heading

  -- the output fails within a board
  pub broken_at : (given : List ℕ) (boards : List Solved) (s : Solved) (later : Told) (out new : Option (List ℕ))
      → Consumes before now given → AppendsAll base out (boards_text w boards)
      → AppendsPart out new (solved_text w s) → tells given ≡ after boards (after (s ∷ []) later)
      → TellsBy {T = Unit {0}} w tells (Err Output) before now base new
  broken_at given boards s later out new consumed bytes part is =
      let foot : List ℕ = footer_for w later.refused in
      let tail : List ℕ = flat_map (solved_text w) later.boards ++ foot in
      let texts : flat_map (solved_text w) ((boards ++ s ∷ []) ++ later.boards) ≡ flat_map (solved_text w)
      (boards ++ s ∷ []) ++ flat_map (solved_text w) later.boards =
      flat_map-append (solved_text w) (boards ++ s ∷ []) later.boards in
      let header : List ℕ = header_with_tricks w.format w.heading in
      let whole : told_text w (after (boards ++ s ∷ []) later) ≡ boards_text w boards ++ solved_text w s ++ tail =
      ap (λ l. (header ++ l) ++ foot) texts
      ∙ ap (λ l. l ++ foot) (sym (append_assoc header (flat_map (solved_text w) (boards ++ s ∷ [])) (flat_map (solved_text w) later.boards)))
      ∙ ap (λ l. (l ++ flat_map (solved_text w) later.boards) ++ foot) (more_text boards s)
      ∙ append_assoc (boards_text w boards ++ solved_text w s) (flat_map (solved_text w) later.boards) foot in
      let e = is ∙ after-after boards (s ∷ []) later in record {
        given = given;
        consumed = consumed;
        all = tt;
        written = rw (e, whole) (whole_then_part (boards_text w boards) (solved_text w s) tail bytes part);
      }

  -- the input fails
  pub failed_at : (given kept : List ℕ) (boards : List Solved) (left : Told) (out : Option (List ℕ))
      → Consumes before now (given ++ kept) → ended (given ++ kept) ≡ given
      → AppendsAll base out (boards_text w boards) → tells given ≡ after boards left → left.boards ≡ [] → NotRefused left.refused
      → TellsBy {T = Unit {0}} w tells (Err Input) before now base out
  failed_at given kept boards left out consumed is_ended bytes is none not_refused =
      let refused : left.refused ≡ (tells (ended (given ++ kept))).refused =
      sym (ap (λ l. (tells l).refused) is_ended ∙ ap (λ (t : Told). t.refused) is) in
      let told : (tells (ended (given ++ kept))).boards ≡ boards =
      ap (λ l. (tells l).boards) is_ended ∙ ap (λ (t : Told). t.boards) is ∙ ap (λ l. boards ++ l) none ∙ append-nil boards in record {
        given = given ++ kept;
        consumed = consumed;
        all = tt;
        written = (subst NotRefused refused not_refused, bytes ∙ ap (λ l. append_known base (boards_text w l)) (sym told));
      }

-- ---- a board

module _ (w : Written) (plan : Planned) (lines k : ℕ) (line : List ℕ) (then_it now old : Option (List ℕ)) where
  abbrev pub deal : List Seat
  deal = (board_of plan lines k (candidate_of plan k)).deal

  on : (before : Option (List ℕ)) (given more : List ℕ) → Consumes before then_it given → Consumes then_it now more
      → Consumes before now (given ++ more)
  on before given more h g = Consumes-trans before then_it now given more h g

  -- its line is refused
  pub line_refused : (end : LineEnd) (fault : LineFault) → ReadsLine end line then_it now → judged end deal line ≡ Err fault
      → Takes w plan lines k (Err (Refused (record { line = lines + 1; fault = fault }))) then_it now old old
  line_refused Feed fault read is numbers rest before base h =
      refused_at w (text_tells plan numbers) before now base (h.given ++ (line ++ 10 ∷ [])) h.boards lines fault old
      (on before h.given (line ++ 10 ∷ []) h.consumed read.1) h.bytes
      (ap (text_tells plan numbers) (sym (append-nil (h.given ++ (line ++ 10 ∷ []))))
      ∙ with_feed plan numbers h.given h.boards lines k rest line [] read.0 h.told
      ∙ ap (λ r. after h.boards (by_line lines (board_of plan lines k (candidate_of plan k)) r
      (lines_tell plan (lines + 1) rest (text_lines [])))) is)
  line_refused Last fault read is numbers rest before base h =
      refused_at w (text_tells plan numbers) before now base (h.given ++ line) h.boards lines fault old
      (on before h.given line h.consumed read.2) h.bytes
      (with_last plan numbers h.given h.boards lines k rest line read.0 read.1 h.told
      ∙ ap (λ r. after h.boards (by_line lines (board_of plan lines k (candidate_of plan k)) r (lines_tell plan (lines + 1) rest []))) is)
  line_refused TooLong fault read is numbers rest before base h =
      refused_at w (text_tells plan numbers) before now base (h.given ++ (line ++ read.0 ∷ [])) h.boards lines fault
      old (on before h.given (line ++ read.0 ∷ []) h.consumed read.3) h.bytes
      (with_long plan numbers h.given h.boards lines k rest line read.0 read.1 read.2 h.told
      ∙ ap (λ r. after h.boards (by_line lines (board_of plan lines k (candidate_of plan k)) r
      (lines_tell plan (lines + 1) rest (text_lines [])))) is)
  line_refused Nothing fault read is numbers rest before base h =
      refused_at w (text_tells plan numbers) before now base (h.given ++ []) h.boards lines fault old (on before h.given [] h.consumed read.0) h.bytes
      (with_none plan numbers h.given h.boards lines k rest line h.told
      ∙ ap (λ r. after h.boards (by_line lines (board_of plan lines k (candidate_of plan k)) r
      (lines_tell plan (lines + 1) rest (text_lines [])))) is)

  -- it is told, and written
  pub board_told : (end : LineEnd) (t : TricksView) (new : Option (List ℕ)) → ReadsLine end line then_it now → judged end deal line ≡ Ok t
      → AppendsAll old new (solved_text w (solved plan lines k t)) → Takes w plan lines k (Ok end) then_it now old new
  board_told Feed t new read is put numbers rest before base h = record {
    given = h.given ++ (line ++ 10 ∷ []);
    boards = h.boards ++ solved plan lines k t ∷ [];
    consumed = on before h.given (line ++ 10 ∷ []) h.consumed read.1;
    told = feed_told plan numbers h.given h.boards lines k rest line t read.0 is h.told;
    bytes = put ∙ ap (λ o. append_known o (solved_text w (solved plan lines k t))) h.bytes
        ∙ append_known-append base (boards_text w h.boards) (solved_text w (solved plan lines k t))
        ∙ ap (append_known base) (sym (more_text w (text_tells plan numbers) before now base h.boards (solved plan lines k t)));
  }
  board_told Last t new read is put numbers rest before base h = record {
    given = h.given ++ line;
    boards = h.boards ++ solved plan lines k t ∷ [];
    consumed = on before h.given line h.consumed read.2;
    at_end = read.3;
    told = with_last plan numbers h.given h.boards lines k rest line read.0 read.1 h.told
        ∙ ap (λ r. after h.boards (by_line lines (board_of plan lines k (candidate_of plan k)) r (lines_tell plan (lines + 1) rest []))) is
        ∙ after-after h.boards (solved plan lines k t ∷ []) (lines_tell plan (lines + 1) rest []);
    bytes = put ∙ ap (λ o. append_known o (solved_text w (solved plan lines k t))) h.bytes
        ∙ append_known-append base (boards_text w h.boards) (solved_text w (solved plan lines k t))
        ∙ ap (append_known base) (sym (more_text w (text_tells plan numbers) before now base h.boards (solved plan lines k t)));
  }
  board_told TooLong t new read is put numbers rest before base h = absurd cc
  board_told Nothing t new read is put numbers rest before base h = absurd cc

  -- the output fails
  pub board_broken : (end : LineEnd) (t : TricksView) (new : Option (List ℕ)) → ReadsLine end line then_it now → judged end deal line ≡ Ok t
      → AppendsPart old new (solved_text w (solved plan lines k t)) → Takes w plan lines k (Err Output) then_it now old new
  board_broken Feed t new read is part numbers rest before base h =
      broken_at w (text_tells plan numbers) before now base (h.given ++ (line ++ 10 ∷ [])) h.boards
      (solved plan lines k t) (lines_tell plan (lines + 1) rest (text_lines [])) old new
      (on before h.given (line ++ 10 ∷ []) h.consumed read.1) h.bytes part
      (ap (text_tells plan numbers) (sym (append-nil (h.given ++ (line ++ 10 ∷ []))))
      ∙ with_feed plan numbers h.given h.boards lines k rest line [] read.0 h.told
      ∙ ap (λ r. after h.boards (by_line lines (board_of plan lines k (candidate_of plan k)) r
      (lines_tell plan (lines + 1) rest (text_lines [])))) is)
  board_broken Last t new read is part numbers rest before base h =
      broken_at w (text_tells plan numbers) before now base (h.given ++ line) h.boards (solved plan lines k t)
      (lines_tell plan (lines + 1) rest []) old new
      (on before h.given line h.consumed read.2) h.bytes part
      (with_last plan numbers h.given h.boards lines k rest line read.0 read.1 h.told
      ∙ ap (λ r. after h.boards (by_line lines (board_of plan lines k (candidate_of plan k)) r (lines_tell plan (lines + 1) rest []))) is)
  board_broken TooLong t new read is part numbers rest before base h = absurd cc
  board_broken Nothing t new read is part numbers rest before base h = absurd cc

  -- the input fails within its line
  pub board_failed : FailsWithin line then_it now → Takes w plan lines k (Err Input) then_it now old old
  board_failed fails numbers rest before base h =
      failed_at w (text_tells plan numbers) before now base h.given line h.boards
      (lines_tell plan lines (k ∷ rest) []) old (on before h.given line h.consumed fails.1)
      (h.told.are_ended line fails.0) h.bytes
      (ap (text_tells plan numbers) (sym (append-nil h.given)) ∙ h.told.goes_on []) (none_left plan lines (k ∷ rest)) refl

-- ---- the end

pub nothing_told : (w : Written) (plan : Planned) (numbers : List ℕ) (before base now : Option (List ℕ))
    → AppendsAll base now (header_with_tricks w.format w.heading)
    → ToldFrom w plan numbers 0 numbers before before base now
unfolding text_tells
nothing_told w plan numbers before base now put = record {
  given = [];
  boards = [];
  consumed = Consumes-nil before;
  told = record { goes_on = λ more. refl; are_ended = λ more clean. ended-none more clean };
  bytes = put ∙ ap (append_known base) (sym (append-nil (header_with_tricks w.format w.heading)));
}

pub header_broken : (w : Written) (tells : List ℕ → Told) (before base now : Option (List ℕ))
    → AppendsPart base now (header_with_tricks w.format w.heading)
    → TellsBy {T = Unit {0}} w tells (Err Output) before before base now
header_broken w tells before base now part =
    let t = tells [] in
    let header : List ℕ = header_with_tricks w.format w.heading in
    let more : List ℕ = flat_map (solved_text w) t.boards ++ footer_for w t.refused in
    let whole : told_text w t ≡ [] ++ header ++ more = append_assoc header (flat_map (solved_text w) t.boards) (footer_for w t.refused) in record {
      given = [];
      consumed = Consumes-nil before;
      all = tt;
      written = rw whole (whole_then_part [] header more (sym (append_known-nil base)) part);
    }

module _ (w : Written) (tells : List ℕ → Told) (before now base old new : Option (List ℕ)) where
  all_told : (given : List ℕ) (boards : List Solved) (T : Type 0) (value : T) → Consumes before now given
      → IsAtEnd now → tells given ≡ record { boards = boards; refused = None }
      → AppendsAll base old (boards_text w boards) → AppendsAll old new (footer_of w.format) → TellsBy w tells (Ok value) before now base new
  all_told given boards T value consumed at_end is bytes put = record {
    given = given;
    consumed = consumed;
    all = at_end;
    written = rw is (
      refl,
      put ∙ ap (λ o. append_known o (footer_of w.format)) bytes
          ∙ append_known-append base (boards_text w boards) (footer_of w.format),
    );
  }

  end_broken : (given : List ℕ) (boards : List Solved) (T : Type 0) → Consumes before now given
      → tells given ≡ record { boards = boards; refused = None }
      → AppendsAll base old (boards_text w boards) → AppendsPart old new (footer_of w.format)
      → TellsBy {T = T} w tells (Err Output) before now base new
  end_broken given boards T consumed is bytes part =
      let whole : AppendsPart base new (boards_text w boards ++ footer_of w.format ++ []) =
      whole_then_part (boards_text w boards) (footer_of w.format) [] bytes part in record {
        given = given;
        consumed = consumed;
        all = tt;
        written = rw is (rw append-nil at whole);
      }

  pub foot : (given : List ℕ) (boards : List Solved) (T : Type 0) (result : Result T PickFault)
      → Consumes before now given → IsAtEnd now → tells given ≡ record { boards = boards; refused = None }
      → AppendsAll base old (boards_text w boards) → EndsAfter w result old new → TellsBy w tells result before now base new
  foot given boards T (Ok value) consumed at_end is bytes ends = all_told given boards T value consumed at_end is bytes ends
  foot given boards T (Err fault) consumed at_end is bytes ends =
      subst (λ f. TellsBy {T = T} w tells (Err f) before now base new) (sym ends.0) (end_broken given boards T consumed is bytes ends.1)

module _ (w : Written) (plan : Planned) (numbers : List ℕ) (before now base old new : Option (List ℕ)) where
  -- behind the last line, which had clean end
  pub last_ends : (T : Type 0) (lines : ℕ) (result : Result T PickFault)
      → ToldLast w plan numbers lines [] before now base old → EndsAfter w result old new
      → Tells w plan numbers result before now base new
  last_ends T lines result h ends =
      foot w (text_tells plan numbers) before now base old new h.given h.boards T result h.consumed h.at_end
      (h.told ∙ ap (λ (l : List Solved). let r : Told = record { boards = l; refused = None } in r)
      (append-nil h.boards)) h.bytes ends

no_more : (rest : List ℕ) → length rest ≡ 0 → rest ≡ []
no_more [] e = refl
no_more (x ∷ xs) e = absurd (omega arith)

pub last_ends_at : {T : Type 0} (w : Written) (plan : Planned) (numbers rest : List ℕ)
    (before now base old new : Option (List ℕ)) (lines : ℕ) (result : Result T PickFault) → length rest ≡ 0
    → ToldLast w plan numbers lines rest before now base old → EndsAfter w result old new → Tells w plan numbers result before now base new
last_ends_at {T} w plan numbers rest before now base old new lines result none h ends =
    last_ends w plan numbers before now base old new T lines result
    (subst (λ r. ToldLast w plan numbers lines r before now base old) (no_more rest none) h) ends

-- boards without a line
pub last_missing : (w : Written) (plan : Planned) (numbers rest : List ℕ) (lines : ℕ)
    (before now base old : Option (List ℕ)) → 0 < length rest → ToldLast w plan numbers lines rest before now base old
    → Tells {T = Unit {0}} w plan numbers (Err (Refused (record { line = lines + 1; fault = Missing }))) before now base old
last_missing w plan numbers [] lines before now base old some h = absurd (omega arith)
last_missing w plan numbers (k ∷ ks) lines before now base old some h =
    refused_at w (text_tells plan numbers) before now base h.given h.boards lines Missing old h.consumed h.bytes
    h.told

-- ---- lines that are left over

left_more : (lines : ℕ) (l : List ℕ) (ls : List (List ℕ)) → 0 < length l → left_over lines (l ∷ ls) ≡ refused_after lines MoreThanBoards
left_more lines [] ls some = absurd (omega arith)
left_more lines (b ∷ bs) ls some = refl

module _ (w : Written) (plan : Planned) (numbers line : List ℕ) (lines : ℕ) (before then_it now base old : Option (List ℕ)) where
  pub empty_line : has_lf line ≡ false → Consumes then_it now (line ++ 10 ∷ []) → without_cr line ≡ []
      → ToldFrom w plan numbers lines [] before then_it base old
      → ToldFrom w plan numbers (lines + 1) [] before now base old
  empty_line clean more empty h = record {
    given = h.given ++ (line ++ 10 ∷ []);
    boards = h.boards;
    consumed = Consumes-trans before then_it now h.given (line ++ 10 ∷ []) h.consumed more;
    told = record {
      goes_on = λ more. ap (text_tells plan numbers) (append_assoc h.given (line ++ 10 ∷ []) more
          ∙ ap (λ l. h.given ++ l) (append_assoc line (10 ∷ []) more))
          ∙ h.told.goes_on (line ++ 10 ∷ more) ∙ ap (λ ls. after h.boards (left_over lines ls))
          (line_ends line more clean ∙ ap (λ l. l ∷ text_lines more) empty);
      are_ended = λ more none. ap ended (append_assoc h.given (line ++ 10 ∷ []) more
          ∙ ap (λ l. h.given ++ l) (append_assoc line (10 ∷ []) more) ∙ sym (append_assoc h.given line (10 ∷ more)))
          ∙ ended-behind (h.given ++ line) more none ∙ append_assoc h.given line (10 ∷ []);
    };
    bytes = h.bytes;
  }

  abbrev pub IsMore : Type 0
  IsMore = Tells {T = Unit {0}} w plan numbers (Err (Refused (record { line = lines + 1; fault = MoreThanBoards }))) before now base old

  over_at : (more l : List ℕ) (ls : List (List ℕ)) → Consumes then_it now more → text_lines more ≡ l ∷ ls
      → 0 < length l → ToldFrom w plan numbers lines [] before then_it base old → IsMore
  over_at more l ls read is some h =
      refused_at w (text_tells plan numbers) before now base (h.given ++ more) h.boards lines MoreThanBoards old
      (Consumes-trans before then_it now h.given more h.consumed read) h.bytes
      (h.told.goes_on more ∙ ap (λ ls. after h.boards (left_over lines ls)) is ∙ ap (after h.boards) (left_more lines l ls some))

  pub more_line : (end : LineEnd) → ReadsLine end line then_it now → (end ≡ Nothing → ⊥)
      → (end ≡ Feed → 0 < length (without_cr line)) → ToldFrom w plan numbers lines [] before then_it base old
      → IsMore
  more_line Feed read other some h = over_at (line ++ 10 ∷ []) (without_cr line) (text_lines []) read.1 (line_ends line [] read.0) (some refl) h
  more_line Last read other some h = over_at line line [] read.2 (line_alone line read.0 ∙ one line read.1) read.1 h
    where
      one : (l : List ℕ) → 0 < length l → unless_empty l ≡ l ∷ []
      one [] h = absurd (omega arith)
      one (b ∷ bs) h = refl
  more_line TooLong read other some h =
      let count : length (line ++ read.0 ∷ []) ≡ 257 = length-append line (read.0 ∷ []) ∙ ap (λ n. n + 1) read.2 in
      let cut = long_line (line ++ read.0 ∷ []) [] read.1 (omega arith) in
      let long = cut.3 in
      over_at (line ++ read.0 ∷ []) cut.0 cut.1 read.3 (ap text_lines (sym (append-nil (line ++ read.0 ∷ []))) ∙ cut.2) (omega arith) h
  more_line Nothing read other some h = absurd (other refl)

  pub nothing_left : ReadsLine Nothing line then_it now → ToldFrom w plan numbers lines [] before then_it base old
      → ToldLast w plan numbers lines [] before now base old
  nothing_left read h = record {
    given = h.given ++ [];
    boards = h.boards;
    consumed = Consumes-trans before then_it now h.given [] h.consumed read.0;
    at_end = read.1;
    told = h.told.goes_on [];
    bytes = h.bytes;
  }

  pub over_failed : FailsWithin line then_it now → ToldFrom w plan numbers lines [] before then_it base old
      → Tells {T = Unit {0}} w plan numbers (Err Input) before now base old
  over_failed fails h =
      failed_at w (text_tells plan numbers) before now base h.given line h.boards (left_over lines []) old
      (Consumes-trans before then_it now h.given line h.consumed fails.1) (h.told.are_ended line fails.0) h.bytes
      (ap (text_tells plan numbers) (sym (append-nil h.given)) ∙ h.told.goes_on []) refl tt

-- ---- boards one after the other

pub goes_on_told : (w : Written) (plan : Planned) (numbers rest : List ℕ) (lines : ℕ) (end : LineEnd)
    (before now base new : Option (List ℕ)) → (end ≡ Last → ⊥)
    → TellsBoard w plan numbers lines rest (Ok end) before now base new
    → ToldFrom w plan numbers (lines + 1) rest before now base new
goes_on_told w plan numbers rest lines Feed before now base new other h = h
goes_on_told w plan numbers rest lines Last before now base new other h = absurd (other refl)
goes_on_told w plan numbers rest lines TooLong before now base new other h = absurd h
goes_on_told w plan numbers rest lines Nothing before now base new other h = absurd h

pub none_if : (xs : List ℕ) → (0 < length xs → false ≡ true) → xs ≡ []
none_if [] h = refl
none_if (x ∷ xs) h = absurd (let bad = h (omega arith) in cc)

-- where all boards were told, it doesn't matter how many lines there were
pub any_lines : (w : Written) (plan : Planned) (numbers : List ℕ) (m n : ℕ) (before now base old : Option (List ℕ))
    → ToldLast w plan numbers m [] before now base old → ToldLast w plan numbers n [] before now base old
any_lines w plan numbers m n before now base old h = record
    { given = h.given; boards = h.boards; consumed = h.consumed; at_end = h.at_end; told = h.told; bytes = h.bytes }
