-- One board more, and the ends of showing.
use Rattle.std.proofs.Common.{◌≡◌, ◌∙◌, ℕ, ◌+◌, List, [], ◌∷◌, ◌++◌, length, Option, None, Some, Result, Ok, Err, ap}
use Rattle.std.proofs.Common.{append_assoc, length-append, refl, subst, sym}
use Rattle.std.specs.Prelude.{IfErr, OnOk, flat_map}
use Rattle.std.proofs.lemmas.List.{append-nil}
use Rattle.std.proofs.lemmas.List.Concat.{flat_map-append}
use Rattle.std.proofs.KnownBytes.{Consumes-nil, Consumes-trans}
use Rattle.boards.specs.Layouts.{SolvedLayout}
use Rattle.input.specs.Readers.{IsFresh, ReadsNext, unread_spells}
use Rattle.input.specs.Shown.{InputFaultsOf, Puts, Shows, ShowsOf, footer_for, shown_text, text_of_told, told_text}
use Rattle.input.specs.Texts.{Spelled, after, spelled}
use Rattle.input.specs.declared.records.game.Told.{Told}
use Rattle.input.specs.internal.Showing.{ShownFrom}
use Rattle.input.specs.declared.records.fault.RefusedRecord.{RefusedRecord}
use Rattle.input.specs.declared.records.reader.BoardReader.{BoardReader}
use Rattle.input.specs.declared.records.reader.Next.{Next}
use Rattle.input.specs.declared.records.reader.ReadFault.{ReadFault}
use Rattle.input.specs.declared.records.reader.Next.TheVariants.{Board, Last, End}
use Rattle.input.specs.declared.records.reader.ReadFault.TheVariants.{Refused as ReadRefused, Input as ReadInput}
use Rattle.input.specs.declared.records.shown.ShowFault.{ShowFault}
use Rattle.input.specs.declared.records.shown.ShowFault.TheVariants.{Refused, Input, Output}
use Rattle.sinks.specs.Appended.{AppendsAll, AppendsPart, append_known}
use Rattle.sinks.proofs.SinkLemmas.{append_known-append, append_known-nil, whole_then_part}

after-after : (xs ys : List Told) (s : Spelled) → after xs (after ys s) ≡ after (xs ++ ys) s
after-after xs ys s = let as_spelled : List Told → Spelled = λ l. record { boards = l; refused = s.refused } in
    ap as_spelled (sym (append_assoc xs ys s.boards))

-- what all the bytes spell
spells_all : (layout : SolvedLayout) (r : BoardReader) (count : ℕ) (before now base out : Option (List ℕ))
    (p : ShownFrom layout r count before now base out)
    (given : List ℕ) (s : Spelled) → unread_spells r given ≡ s → spelled (p.given ++ given) ≡ after p.boards s
spells_all layout r count before now base out p given s e = p.spells given ∙ ap (after p.boards) e

text_append : (layout : SolvedLayout) (xs ys : List Told) → text_of_told layout (xs ++ ys) ≡ text_of_told layout xs ++ flat_map (told_text layout) ys
text_append layout xs ys =
    ap (λ l. layout.header ++ l) (flat_map-append (told_text layout) xs ys)
    ∙ sym (append_assoc layout.header (flat_map (told_text layout) xs) (flat_map (told_text layout) ys))

more_text : (layout same_layout : SolvedLayout) (told : List Told) (b : Told) → same_layout ≡ layout
    → text_of_told layout (told ++ b ∷ []) ≡ text_of_told layout told ++ told_text same_layout b
more_text layout same_layout told b same =
    text_append layout told (b ∷ []) ∙ ap (λ l. text_of_told layout told ++ l) (append-nil (told_text layout b))
    ∙ ap (λ (l : SolvedLayout). text_of_told layout told ++ told_text l b) (sym same)

-- ---- one board more

pub shows_board : (layout same_layout : SolvedLayout) (r s : BoardReader) (count : ℕ)
    (before now after_read base out new : Option (List ℕ)) (b : Told) → same_layout ≡ layout
    → ReadsNext r s (Ok (Board b)) now after_read → AppendsAll out new (told_text same_layout b)
    → ShownFrom layout r count before now base out → ShownFrom layout s (count + 1) before after_read base new
shows_board layout same_layout r s count before now after_read base out new b same q put p = record {
  boards = p.boards ++ b ∷ [];
  given = p.given ++ q.given;
  consumed = Consumes-trans before now after_read p.given q.given p.consumed q.consumed;
  spells = λ rest. ap spelled (append_assoc p.given q.given rest) ∙ p.spells (q.given ++ rest)
      ∙ ap (after p.boards) (q.tells rest) ∙ after-after p.boards (b ∷ []) (unread_spells s rest);
  count_is = ap (λ n. n + 1) p.count_is ∙ sym (length-append p.boards (b ∷ []));
  bytes = put ∙ ap (λ o. append_known o (told_text same_layout b)) p.bytes
      ∙ append_known-append base (text_of_told layout p.boards) (told_text same_layout b)
      ∙ ap (append_known base) (sym (more_text layout same_layout p.boards b same));
}

pub breaks_board : (layout same_layout : SolvedLayout) (r s : BoardReader) (count : ℕ)
    (before now after_read base out new : Option (List ℕ)) (b : Told) → same_layout ≡ layout
    → ReadsNext r s (Ok (Board b)) now after_read → AppendsPart out new (told_text same_layout b)
    → ShownFrom layout r count before now base out → Shows layout (Err Output) before after_read base new
breaks_board layout same_layout r s count before now after_read base out new b same q part p =
    let later : Spelled = unread_spells s [] in
    let boards : List Told = p.boards ++ b ∷ [] in
    let foot : List ℕ = footer_for layout later.refused in
    let tail : List ℕ = flat_map (told_text layout) later.boards ++ foot in
    let front : List ℕ = text_of_told layout p.boards in
    let read : unread_spells r q.given ≡ after (b ∷ []) later = ap (unread_spells r) (sym (append-nil q.given)) ∙ q.tells [] in
    let is : spelled (p.given ++ q.given) ≡ after boards later =
    spells_all layout r count before now base out p q.given (after (b ∷ []) later) read
    ∙ after-after p.boards (b ∷ []) later in
    let text : shown_text layout (after boards later) ≡ front ++ told_text same_layout b ++ tail =
    ap (λ l. l ++ foot) (text_append layout boards later.boards
    ∙ ap (λ l. l ++ flat_map (told_text layout) later.boards) (more_text layout same_layout p.boards b same))
    ∙ append_assoc (front ++ told_text same_layout b) (flat_map (told_text layout) later.boards) foot in
    record {
      given = p.given ++ q.given;
      consumed = Consumes-trans before now after_read p.given q.given p.consumed q.consumed;
      all = tt;
      written = rw (is, text) (whole_then_part front (told_text same_layout b) tail p.bytes part);
    }

-- ---- the end

finished : (layout : SolvedLayout) (given : List ℕ) (xs : List Told) (result : Result ℕ ShowFault) (n : ℕ)
    (base out new : Option (List ℕ)) (front tail : List ℕ)
    → spelled given ≡ record { boards = xs; refused = None } → n ≡ length xs → AppendsAll base out front
    → front ++ tail ≡ shown_text layout (record { boards = xs; refused = None })
    → Puts result n out new tail → ShowsOf layout given result base new
finished layout given xs (Ok m) n base out new front tail e count written whole puts =
    rw e (refl, puts.0 ∙ count, puts.1 ∙ ap (λ o. append_known o tail) written ∙ append_known-append base front tail ∙ ap (append_known base) whole)
finished layout given xs (Err fault) n base out new front tail e count written whole puts =
    let part : AppendsPart base new (front ++ tail ++ []) = whole_then_part front tail [] written puts.1 in
    let all : AppendsPart base new (front ++ tail) = rw append-nil at part in
    let shown : AppendsPart base new (shown_text layout (spelled given)) = rw (e, ← whole) all in
    subst (λ f. ShowsOf layout given (Err f) base new) (sym puts.0) shown

-- two texts, one after the other
pub puts_both : (result : Result ℕ ShowFault) (n : ℕ) (first second : List ℕ) (old middle new : Option (List ℕ))
    → AppendsAll old middle first → Puts result n middle new second
    → Puts result n old new (first ++ second)
puts_both (Ok m) n first second old middle new whole puts =
    (puts.0, puts.1 ∙ ap (λ o. append_known o second) whole ∙ append_known-append old first second)
puts_both (Err fault) n first second old middle new whole puts =
    let part : AppendsPart old new (first ++ second ++ []) = whole_then_part first second [] whole puts.1 in
    (puts.0, rw append-nil at part)

on_all : {P : Type 0} (r : Result ℕ ShowFault) → P → OnOk r P
on_all (Ok n) p = p
on_all (Err e) p = tt

pub shows_last : (layout same_layout : SolvedLayout) (r s : BoardReader) (count : ℕ)
    (before now after_read base out new : Option (List ℕ)) (b : Told) (result : Result ℕ ShowFault)
    → same_layout ≡ layout
    → ReadsNext r s (Ok (Last b)) now after_read
    → Puts result (count + 1) out new (told_text same_layout b ++ same_layout.footer)
    → ShownFrom layout r count before now base out → Shows layout result before after_read base new
shows_last layout same_layout r s count before now after_read base out new b result same q puts p =
    let boards : List Told = p.boards ++ b ∷ [] in
    let front : List ℕ = text_of_told layout p.boards in
    let counted : count + 1 ≡ length boards = ap (λ n. n + 1) p.count_is ∙ sym (length-append p.boards (b ∷ [])) in
    let is : spelled (p.given ++ q.given) ≡ record { boards = boards; refused = None } =
    spells_all layout r count before now base out p q.given _ q.tells in
    let whole : front ++ (told_text same_layout b ++ same_layout.footer) ≡ shown_text layout (record { boards = boards; refused = None }) =
    sym (append_assoc front (told_text same_layout b) same_layout.footer)
    ∙ ap (λ l. l ++ same_layout.footer) (sym (more_text layout same_layout p.boards b same))
    ∙ ap (λ (l : SolvedLayout). text_of_told layout boards ++ l.footer) same in
    record {
      given = p.given ++ q.given;
      consumed = Consumes-trans before now after_read p.given q.given p.consumed q.consumed;
      all = on_all result q.at_end;
      written = finished layout (p.given ++ q.given) boards result (count + 1) base out new front _ is counted p.bytes whole puts;
    }

pub shows_end : (layout same_layout : SolvedLayout) (r s : BoardReader) (count : ℕ)
    (before now after_read base out new : Option (List ℕ)) (result : Result ℕ ShowFault) → same_layout ≡ layout
    → ReadsNext r s (Ok End) now after_read → Puts result count out new same_layout.footer
    → ShownFrom layout r count before now base out → Shows layout result before after_read base new
shows_end layout same_layout r s count before now after_read base out new result same q puts p =
    let front : List ℕ = text_of_told layout p.boards in
    let as_spelled : List Told → Spelled = λ l. record { boards = l; refused = None } in
    let is : spelled (p.given ++ q.given) ≡ record { boards = p.boards; refused = None } =
    spells_all layout r count before now base out p q.given _ q.tells ∙ ap as_spelled (append-nil p.boards) in
    let whole : front ++ same_layout.footer ≡ shown_text layout (record { boards = p.boards; refused = None }) =
    ap (λ (l : SolvedLayout). front ++ l.footer) same in
    record {
      given = p.given ++ q.given;
      consumed = Consumes-trans before now after_read p.given q.given p.consumed q.consumed;
      all = on_all result q.at_end;
      written = finished layout (p.given ++ q.given) p.boards result count base out new front _ is p.count_is p.bytes whole puts;
    }

pub shows_refused : (layout : SolvedLayout) (r s : BoardReader) (count : ℕ) (before now after_read base out : Option (List ℕ)) (line : RefusedRecord)
    → ReadsNext r s (Err (ReadRefused line)) now after_read → ShownFrom layout r count before now base out
    → Shows layout (Err (Refused line)) before after_read base out
shows_refused layout r s count before now after_read base out line q p =
    let as_spelled : List Told → Spelled = λ l. record { boards = l; refused = Some line } in
    let is : spelled (p.given ++ q.given) ≡ record { boards = p.boards; refused = Some line } =
    spells_all layout r count before now base out p q.given _ q.tells ∙ ap as_spelled (append-nil p.boards) in
    record {
      given = p.given ++ q.given;
      consumed = Consumes-trans before now after_read p.given q.given p.consumed q.consumed;
      all = tt;
      written = rw is (refl, p.bytes ∙ ap (append_known base) (sym (append-nil (text_of_told layout p.boards))));
    }

pub shows_failed : (layout : SolvedLayout) (r s : BoardReader) (count : ℕ) (before now after_read base out : Option (List ℕ))
    → ReadsNext r s (Err ReadInput) now after_read → ShownFrom layout r count before now base out
    → Shows layout (Err Input) before after_read base out
shows_failed layout r s count before now after_read base out q p = record {
  given = p.given ++ q.given;
  consumed = Consumes-trans before now after_read p.given q.given p.consumed q.consumed;
  all = tt;
  written = (
    p.boards,
    (
      record {
        later = λ rest. unread_spells r (q.given ++ rest);
        spells = λ rest. ap spelled (append_assoc p.given q.given rest) ∙ p.spells (q.given ++ rest);
        no_more = q.tells;
      },
      p.bytes,
    ),
  );
}

-- ---- the beginning

pub shown_none : (layout : SolvedLayout) (r : BoardReader) (before base out : Option (List ℕ))
    → ((text : List ℕ) → unread_spells r text ≡ spelled text)
    → AppendsAll base out layout.header → ShownFrom layout r 0 before before base out
shown_none layout r before base out fresh header = record {
  boards = [];
  given = [];
  consumed = Consumes-nil before;
  spells = λ rest. sym (fresh rest);
  count_is = refl;
  bytes = header ∙ ap (append_known base) (sym (append-nil layout.header));
}

pub input_kept : (r : Result ℕ ShowFault) (old new : ℕ) → IfErr r (λ fault. fault ≡ Output) → new ≡ old → InputFaultsOf r old new
input_kept (Ok n) old new e same = same
input_kept (Err fault) old new e same = let kept : InputFaultsOf {T = ℕ} (Err Output) old new = same in
    subst (λ f. InputFaultsOf {T = ℕ} (Err f) old new) (sym e) kept

pub breaks_header : (layout : SolvedLayout) (r s : BoardReader) (next : Result Next ReadFault)
    (before after_read base new : Option (List ℕ)) → IsFresh r → ReadsNext r s next before after_read
    → AppendsPart base new layout.header → Shows layout (Err Output) before after_read base new
breaks_header layout r s next before after_read base new fresh q part = record {
  given = q.given;
  consumed = q.consumed;
  all = tt;
  written = rw text (whole_then_part [] layout.header tail (sym (append_known-nil base)) part);
}
  where
    all : Spelled
    all = spelled q.given

    tail : List ℕ
    tail = flat_map (told_text layout) all.boards ++ footer_for layout all.refused

    text : shown_text layout all ≡ [] ++ layout.header ++ tail
    text = append_assoc layout.header (flat_map (told_text layout) all.boards) (footer_for layout all.refused)
