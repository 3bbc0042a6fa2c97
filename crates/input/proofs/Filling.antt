-- What an input gave, piece by piece.
use Rattle.std.proofs.Common.{◌≡◌, ◌∙◌, List, [], ◌∷◌, ◌++◌, ℕ, Option, Ok, Err, Result, ap, append_assoc, refl, sym}
use Rattle.std.proofs.lemmas.List.{append-nil}
use Rattle.std.proofs.KnownBytes.{Consumes-kept, Consumes-nil, Consumes-trans}
use Rattle.std.specs.Io.KnownBytes.{IsAtEnd, Keeps}
use Rattle.input.specs.Readers.{Fills, OnBoard, ReadsNext, TellsEnd, unread_spells}
use Rattle.input.specs.declared.records.fault.RefusedRecord.{RefusedRecord}
use Rattle.input.specs.declared.records.reader.BoardReader.{BoardReader}
use Rattle.input.specs.declared.records.reader.Next.{Next}
use Rattle.input.specs.declared.records.reader.Next.TheVariants.{Board, Last, End}
use Rattle.input.specs.declared.records.reader.ReadFault.{ReadFault}
use Rattle.input.specs.declared.records.reader.ReadFault.TheVariants.{Refused, Input}
use Rattle.input.specs.declared.records.game.Told.{Told}
use Rattle.input.specs.RecordScans.{spells_from}
use Rattle.input.specs.Texts.{MayEnd, Spelled, after, refused_with}
use Rattle.input.proofs.Overlong.{may_end}
use Rattle.input.proofs.Unread.{none_unread}

pub fills_none : (r : BoardReader) (before : Option (List ℕ)) → Fills r r before before
fills_none r before = record { given = []; consumed = Consumes-nil before; goes_on = λ rest. refl }

pub fills_on : (r l t f : BoardReader) (before middle after : Option (List ℕ)) → Fills r l before middle
    → ((rest : List ℕ) → unread_spells l rest ≡ unread_spells t rest)
    → Fills t f middle after → Fills r f before after
fills_on r l t f before middle after p same q = record {
  given = p.given ++ q.given;
  consumed = Consumes-trans before middle after p.given q.given p.consumed q.consumed;
  goes_on = λ rest. ap (unread_spells r) (append_assoc p.given q.given rest) ∙ p.goes_on (q.given ++ rest) ∙ same (q.given ++ rest) ∙ q.goes_on rest;
}

whole : (r f : BoardReader) (before after : Option (List ℕ)) (p : Fills r f before after) (v : Spelled)
    → unread_spells f [] ≡ v → unread_spells r p.given ≡ v
whole r f before after p v e = ap (unread_spells r) (sym (append-nil p.given)) ∙ p.goes_on [] ∙ e

pub reads_board : (r l t : BoardReader) (before after_read : Option (List ℕ)) (board : Told) → Fills r l before after_read
    → ((rest : List ℕ) → unread_spells l rest ≡ after (board ∷ []) (unread_spells t rest)) → ReadsNext r t (Ok (Board board)) before after_read
reads_board r l t before after_read board p reads = record {
  given = p.given;
  consumed = p.consumed;
  at_end = tt;
  tells = λ rest. p.goes_on rest ∙ reads rest;
}

pub reads_refused : (r l s : BoardReader) (before after_read : Option (List ℕ)) (line : RefusedRecord) → Fills r l before after_read
    → ((rest : List ℕ) → unread_spells l rest ≡ refused_with line) → ReadsNext r s (Err (Refused line)) before after_read
reads_refused r l s before after_read line p reads = record {
  given = p.given;
  consumed = p.consumed;
  at_end = tt;
  tells = whole r l before after_read p (refused_with line) (reads []);
}

pub reads_end : (r f s : BoardReader) (result : Result Next ReadFault) (before after : Option (List ℕ))
    → Fills r f before after → IsAtEnd after → TellsEnd f result
    → ReadsNext r s result before after
reads_end r f s (Ok (Board board)) before after p end tells = absurd tells
reads_end r f s (Ok (Last board)) before after p end tells =
    record { given = p.given; consumed = p.consumed; at_end = end; tells = whole r f before after p _ tells }
reads_end r f s (Ok End) before after p end tells = record
    { given = p.given; consumed = p.consumed; at_end = end; tells = whole r f before after p _ tells }
reads_end r f s (Err (Refused line)) before after p end tells =
    record { given = p.given; consumed = p.consumed; at_end = tt; tells = whole r f before after p _ tells }
reads_end r f s (Err Input) before after p end tells = absurd tells

-- nothing is left of the piece
pub none_left : (l t : BoardReader) → ((rest : List ℕ) → unread_spells l rest ≡ unread_spells t rest) → t.from ≡ t.to
    → MayEnd (unread_spells l)
none_left l t same empty =
    let end : MayEnd (spells_from t.scanner) = may_end t.scanner in
    record {
      rest = end.rest;
      none = ap (λ (s : Spelled). s.boards) (same end.rest ∙ none_unread t empty end.rest) ∙ end.none;
    }

pub reads_failed : (r l s : BoardReader) (before middle after : Option (List ℕ)) → Fills r l before middle
    → Keeps middle after → MayEnd (unread_spells l) → ReadsNext r s (Err Input) before after
reads_failed r l s before middle after p kept end = record {
  given = p.given;
  consumed = Consumes-kept before middle after p.given p.consumed kept;
  at_end = tt;
  tells = record { rest = end.rest; none = ap (λ (s : Spelled). s.boards) (p.goes_on end.rest) ∙ end.none };
}

pub no_board : (f : BoardReader) (result : Result Next ReadFault) (P : Type 0) → TellsEnd f result → OnBoard result P
no_board f (Ok (Board board)) P tells = absurd tells
no_board f (Ok (Last board)) P tells = tt
no_board f (Ok End) P tells = tt
no_board f (Err fault) P tells = tt
