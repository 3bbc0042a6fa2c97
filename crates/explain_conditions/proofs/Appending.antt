-- What a call appends.
use Rattle.std.proofs.Common.{◌≡◌, ◌≢◌, ℕ, ◌-◌, ◌<◌, ◌≤◌, List, ◌++◌, Result, Ok, Err, OnOk, ◌∙◌, ap, ap₂}
use Rattle.std.proofs.Common.{append_assoc, arith, drop, refl, slice_index, slice_range}
use Rattle.std.specs.Bool.{if◌then◌else◌}
use Rattle.std.specs.Result.{is_ok}
use Rattle.explain_conditions.specs.Excerpt.{IsExcerpt, IsLineAt, IsPlace, excerpt, token_len, without_return}
use Rattle.explain_conditions.specs.Explanation.{MayHint, Shows}
use Rattle.explain_conditions.specs.internal.Appends.{Appends}

-- no line feed before the place and none from there on
pub no_end_between : (text : List ℕ) (start place end : ℕ)
    → ((k : ℕ) → start ≤ k → k < place → slice_index text k ≢ 10)
    → ((k : ℕ) → place ≤ k → k < end → slice_index text k ≢ 10)
    → (k : ℕ) → start ≤ k → k < end → slice_index text k ≢ 10
no_end_between text start place end before after k from to is =
    grind (arith, before k from, after k)

-- an excerpt, what is said of what could stand there, and a hint
pub shows : {T E : Type 0} (r : Result T E) (Expects : List ℕ → Type 0) (text : List ℕ) (at : ℕ) (old mid told new e : List ℕ)
    → Appends (IsExcerpt text at) old mid → told ≡ mid ++ e → Expects e
    → OnOk r (Appends MayHint told new) → OnOk r (Appends (Shows Expects text at) old new)
shows (Ok v) Expects text at old mid told new e x is expects h =
    record {
      more = x.more ++ e ++ h.more;
      is = h.is ∙ ap (λ l. l ++ h.more) (is ∙ ap (λ l. l ++ e) x.is) ∙ simp append_assoc;
      holds = record {
        excerpt = x.more;
        expected = e;
        hint = h.more;
        is = refl;
        shows = x.holds;
        expects = expects;
        hints = h.holds;
      };
    }
shows (Err f) Expects text at old mid told new e x is expects h = tt

-- the excerpt of a text at a fault, by the line that is shown and how wide the fault is
pub puts_excerpt : {T E : Type 0} (r : Result T E) (text : List ℕ) (at place start end : ℕ) (line : List ℕ) (width : ℕ) (old new : List ℕ)
    → IsPlace text at place → IsLineAt text place start end
    → line ≡ without_return (slice_range text start end) → width ≡ token_len (drop at text)
    → OnOk r (new ≡ old ++ excerpt line (place - start) width) → OnOk r (Appends (IsExcerpt text at) old new)
puts_excerpt (Ok v) text at place start end line width old new is_place is_line shown wide is =
    record {
      more = excerpt line (place - start) width;
      is = is;
      holds = record {
        place = place;
        is_place = is_place;
        start = start;
        end = end;
        is_line = is_line;
        is = ap₂ (λ l w. excerpt l (place - start) w) shown wide;
      };
    }
puts_excerpt (Err e) text at place start end line width old new is_place is_line shown wide is = tt

-- three pieces, one after the other
pub three : (old x y z first second new : List ℕ) → first ≡ old ++ x → second ≡ first ++ y → new ≡ second ++ z
    → new ≡ old ++ (x ++ y ++ z)
three old x y z first second new a b c =
    c ∙ ap (λ l. l ++ z) (b ∙ ap (λ l. l ++ y) a) ∙ simp append_assoc

-- three pieces, of which the last may fail
pub then_three : {T E : Type 0} (r : Result T E) (old x y z first second new : List ℕ)
    → first ≡ old ++ x → second ≡ first ++ y → OnOk r (new ≡ second ++ z) → OnOk r (new ≡ old ++ (x ++ y ++ z))
then_three (Ok v) old x y z first second new a b c = three old x y z first second new a b c
then_three (Err e) old x y z first second new a b c = tt

-- five pieces, of which the last may fail
pub then_five : {T E : Type 0} (r : Result T E) (old v w x y z first second third fourth new : List ℕ)
    → first ≡ old ++ v → second ≡ first ++ w → third ≡ second ++ x → fourth ≡ third ++ y
    → OnOk r (new ≡ fourth ++ z) → OnOk r (new ≡ old ++ (v ++ w ++ x ++ y ++ z))
then_five r old v w x y z first second third fourth new a b c d e =
    then_three r old (v ++ w ++ x) y z third fourth new (three old v w x first second third a b c) d e

-- a piece that may fail, by what is there in either case
pub if_put : {T E : Type 0} (r : Result T E) (new with without : List ℕ)
    → new ≡ (if is_ok r then with else without) → OnOk r (new ≡ with)
if_put (Ok v) new with without e = e
if_put (Err f) new with without e = tt
