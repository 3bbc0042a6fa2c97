-- Where a game ends.
use Rattle.std.proofs.Common.{◌≡◌, ◌∙◌, ◌+◌, ◌==◌, ℕ, Bool, List, Option, Result, Ok, Err, IfOk, IfErr, ap, arith, length, refl, true, false, Some}
use Rattle.std.proofs.lemmas.Bool.{ne_eqb}
use Rattle.std.specs.Prelude.{None}
use Rattle.std.proofs.lemmas.List.{append-nil}
use Rattle.input.specs.declared.records.game.Told.{Told}
use Rattle.input.specs.Games.{game_says, has, with_tag}
use Rattle.input.specs.Kinds.{kind_of}
use Rattle.input.specs.internal.Endings.{told_if}
use Rattle.input.specs.internal.TagTexts.{after_tag, with_place}
use Rattle.input.specs.Places.{is_empty, is_in_tag}
use Rattle.input.specs.Texts.{Spelled, after, after_line, ends_game, ends_line, list_of, nothing_more, refused_with}
use Rattle.input.specs.Texts.{says_and, takes_tag, with_last_tag}
use Rattle.input.specs.declared.records.fault.RefusedRecord.{RefusedRecord}
use Rattle.input.specs.declared.records.kind.TagKind.{TagKind}
use Rattle.input.specs.declared.records.reading.Reading.{Reading}

pub at_empty_line : (s : Reading) (next : Reading → Spelled) (v : Spelled) → is_in_tag s.line.part ≡ false → is_empty s.line ≡ true
    → ends_game s (λ t. next (after_line t)) ≡ v → ends_line s next ≡ v
at_empty_line s next v off empty e = rw (off, empty) e

pub at_such_tag : (kind : TagKind) (s : Reading) (next : Reading → Spelled) (v : Spelled) → kind_of s.line.name ≡ Some kind → has kind s.game ≡ true
    → ends_game s (λ t. next (with_last_tag kind t)) ≡ v → takes_tag (kind_of s.line.name) s next ≡ v
at_such_tag kind s next v is such e = rw (is, such) e

-- ---- a line that is a tag

not_none : (a b : ℕ) → (a + b + 5 == 0) ≡ false
not_none a b = ne_eqb (a + b + 5) 0 (λ e. omega (arith, e))

past_tag : (t : Reading) (name value : List ℕ) (next : Reading → Spelled) → t.line ≡ after_tag name value → ends_line t next ≡ next (after_line t)
past_tag t name value next is = rw (is, not_none (length name) (length value)) refl

pub other_line : (s t : Reading) (kind : Option TagKind) (name value : List ℕ) (next : Reading → Spelled) → kind ≡ None
    → t ≡ after_line (with_place (after_tag name value) s)
    → takes_tag kind (with_place (after_tag name value) s) (λ u. ends_line u next) ≡ next t
other_line s t kind name value next is left = rw (is, left) (past_tag (with_place (after_tag name value) s) name value next refl)

pub line_with : (kind : TagKind) (s u t : Reading) (told : Option TagKind) (name value : List ℕ) (next : Reading → Spelled)
    → told ≡ Some kind → has kind s.game ≡ false
    → u ≡ record s { game = with_tag kind value (s.lines + 1) s.game } → t ≡ after_line (with_place (after_tag name value) u)
    → takes_tag told (with_place (after_tag name value) s) (λ v. ends_line v next) ≡ next t
line_with kind s u t told name value next is free more left =
    rw (is, free, left, more) (past_tag (with_last_tag kind (with_place (after_tag name value) s)) name value next refl)

-- ---- the end of a text

-- after a game that ended nothing is left
empty_last : (s : Reading) (r : Result (Option Told) RefusedRecord)
    → says_and s r (λ t. ends_game (after_line t) nothing_more) ≡ says_and s r nothing_more
unfolding game_says
empty_last s (Err line) = refl
empty_last s (Ok None) = refl
empty_last s (Ok (Some board)) = refl

same_last : (s : Reading) (r : Result (Option Told) RefusedRecord) → says_and (after_line s) r nothing_more ≡ says_and s r nothing_more
same_last s (Err line) = refl
same_last s (Ok None) = refl
same_last s (Ok (Some board)) = refl

last_line : (s : Reading) → is_in_tag s.line.part ≡ false → ends_line s (λ t. ends_game t nothing_more) ≡ ends_game s nothing_more
last_line s off = by_empty (is_empty s.line) refl
  where
    by_empty : (b : Bool) → is_empty s.line ≡ b → ends_line s (λ t. ends_game t nothing_more) ≡ ends_game s nothing_more
    by_empty true e = rw (off, e) (empty_last s (game_says s.last s.game))
    by_empty false e = rw (off, e) (same_last s (game_says s.last s.game))

pub after_all : (s t : Reading) (told : Told) (r : Result Bool RefusedRecord) → is_in_tag s.line.part ≡ false
    → IfOk r (λ ended. (next : Reading → Spelled) → ends_game s next ≡ after (list_of (told_if ended told)) (next t))
    → IfOk r (λ ended. ends_line s (λ t. ends_game t nothing_more) ≡ record { boards = list_of (told_if ended told); refused = None })
after_all s t told (Err e) off ends = tt
after_all s t told (Ok ended) off ends =
    let as_spelled : List Told → Spelled = λ l. record { boards = l; refused = None } in
    last_line s off ∙ ends nothing_more ∙ ap as_spelled (append-nil (list_of (told_if ended told)))

pub at_end : (s : Reading) (r : Result Bool RefusedRecord) → is_in_tag s.line.part ≡ false
    → IfErr r (λ e. (next : Reading → Spelled) → ends_game s next ≡ refused_with e)
    → IfErr r (λ e. ends_line s (λ t. ends_game t nothing_more) ≡ refused_with e)
at_end s (Ok ended) off ends = tt
at_end s (Err e) off ends = last_line s off ∙ ends nothing_more
