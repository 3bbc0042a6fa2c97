-- Texts that are said in parts.
use Rattle.std.proofs.Common.{◌≡◌, ◌<◌, ◌≤◌, ◌+◌, ◌-◌, ◌^◌, ◌||◌, ◌++◌, ◌∙◌, ℕ, Bool, true, false, List, [], Option}
use Rattle.std.proofs.Common.{Some, Result, Ok, Err, OnOk, refl, sym, subst, ap, ap₂, append_assoc, codes, decimal}
use Rattle.std.proofs.Common.{if◌then◌else◌}
use Rattle.std.proofs.lemmas.Bool.{le-ltb, lt-ltb, ne_eqb}
use Rattle.std.proofs.lemmas.List.{append-nil}
use Rattle.sinks.specs.Appended.{append_known, AppendsAll, AppendsPart}
use Rattle.sinks.specs.Sinks.{AppendsOrBreaksOff}
use Rattle.sinks.proofs.SinkLemmas.{append_known-append, append_known-nil, whole_then_part}
use Rattle.boards.specs.Reports.{candidates_text, goes_on_at, goes_on_from, next_line, shortfall}
use Rattle.boards.specs.Formats.{numbers_boards}
use Rattle.boards.specs.declared.format.Format.{Format}
use Rattle.boards.specs.Plans.{Planned}

-- a part, and what comes after it
pub part : (old mid new : Option (List ℕ)) (x y z : List ℕ) → x ++ y ≡ z → AppendsAll old mid x → AppendsAll mid new y → AppendsAll old new z
part old mid new x y z e a b = b ∙ ap (λ o. append_known o y) a ∙ append_known-append old x y ∙ ap (append_known old) e

-- the same text
pub as_text : (old new : Option (List ℕ)) (x y : List ℕ) → x ≡ y → AppendsAll old new x → AppendsAll old new y
as_text old new x y e h = h ∙ ap (append_known old) e

-- three parts, by the texts that they are
pub three_parts : (b0 b1 b2 b3 : Option (List ℕ)) (x y z u v w : List ℕ) → x ≡ u → y ≡ v → z ≡ w
    → AppendsAll b0 b1 x → AppendsAll b1 b2 y → AppendsAll b2 b3 z → AppendsAll b0 b3 (u ++ (v ++ (w ++ [])))
three_parts b0 b1 b2 b3 x y z u v w xu yv zw one more last =
    let two = part b0 b1 b2 u v (u ++ v) refl (as_text b0 b1 x u xu one) (as_text b1 b2 y v yv more) in
    part b0 b2 b3 (u ++ v) w (u ++ (v ++ (w ++ []))) (append_assoc u v w
    ∙ ap (λ t. u ++ (v ++ t)) (sym (append-nil w))) two (as_text b2 b3 z w zw last)

pub last_part : {T E : Type 0} (r : Result T E) (old mid new : Option (List ℕ)) (x y z : List ℕ) → x ++ y ≡ z → AppendsAll old mid x
    → OnOk r (AppendsAll mid new y) → OnOk r (AppendsAll old new z)
last_part (Ok v) old mid new x y z e a h = part old mid new x y z e a h
last_part (Err f) old mid new x y z e a h = tt

pub ok_as_text : {T E : Type 0} (r : Result T E) (old new : Option (List ℕ)) (x y : List ℕ) → x ≡ y
    → OnOk r (AppendsAll old new x) → OnOk r (AppendsAll old new y)
ok_as_text (Ok v) old new x y e h = as_text old new x y e h
ok_as_text (Err f) old new x y e h = tt

-- what `put_all` appends at Ok
pub written : {T E : Type 0} (r : Result T E) (old new : Option (List ℕ)) (x : List ℕ)
    → AppendsOrBreaksOff old new r x → OnOk r (AppendsAll old new x)
written (Ok v) old new x h = h
written (Err f) old new x h = tt

pub several : (first candidates : ℕ) → (candidates ≡ 0 → ⊥) → (candidates ≡ 1 → ⊥)
    → decimal candidates ++ codes " candidates, numbers " ++ decimal first ++ codes " to "
    ++ decimal (first + candidates - 1) ++ codes "," ≡ candidates_text first candidates
several first candidates some more =
    sym (ap₂ (λ (x y : Bool). if x then codes "no candidates" else (if y then codes "1 candidate, number " ++ decimal first ++ codes ","
    else decimal candidates ++ codes " candidates, numbers " ++ decimal first ++ codes " to " ++ decimal (first + candidates - 1) ++ codes ","))
    (ne_eqb candidates 0 some) (ne_eqb candidates 1 more))

pub fewer : (asked : Option ℕ) (most boards : ℕ) → asked ≡ Some most → boards < most
    → codes ", fewer than the " ++ decimal most ++ codes " asked for" ≡ shortfall asked boards
fewer asked most boards is less =
    sym (ap (λ (o : Option ℕ). shortfall o boards) is
    ∙ ap (λ (b : Bool). if b then codes ", fewer than the " ++ decimal most ++ codes " asked for" else []) (lt-ltb boards most less))

-- the line of a format whose boards have numbers, and of one whose boards have none
pub next_board_line : (format : Format) (plan : Planned) (candidates boards : ℕ) → true ≡ numbers_boards format
    → goes_on_at (plan.first + candidates) (plan.first_board + boards) ≡ next_line format plan candidates boards
next_board_line format plan candidates boards is =
    ap (λ (b : Bool). if b then goes_on_at (plan.first + candidates) (plan.first_board + boards) else goes_on_from (plan.first + candidates)) is

pub next_candidate_line : (format : Format) (plan : Planned) (candidates boards : ℕ) → false ≡ numbers_boards format
    → goes_on_from (plan.first + candidates) ≡ next_line format plan candidates boards
next_candidate_line format plan candidates boards is =
    ap (λ (b : Bool). if b then goes_on_at (plan.first + candidates) (plan.first_board + boards) else goes_on_from (plan.first + candidates)) is

pub goes_on : (first board : ℕ) → (first ≡ 2 ^ 40 → ⊥) → board ≤ 2 ^ 40
    → codes "next: --first " ++ decimal first ++ codes " --first-board " ++ decimal board ++ codes "\n" ≡ goes_on_at first board
goes_on first board other within =
    sym (ap₂ (λ (x y : Bool). if x || y then []
    else codes "next: --first " ++ decimal first ++ codes " --first-board " ++ decimal board ++ codes "\n")
    (ne_eqb first (2 ^ 40) other) (le-ltb (2 ^ 40) board within))

-- of several parts the first was broken off, or the second; or the third of three
pub first_broken : (b0 b1 : Option (List ℕ)) (x u more : List ℕ) → x ≡ u → AppendsPart b0 b1 x → AppendsPart b0 b1 (u ++ more)
first_broken b0 b1 x u more xu broken =
    whole_then_part [] u more (sym (append_known-nil b0)) (subst (AppendsPart b0 b1) xu broken)

pub second_broken : (b0 b1 b2 : Option (List ℕ)) (x y u v more : List ℕ) → x ≡ u → y ≡ v
    → AppendsAll b0 b1 x → AppendsPart b1 b2 y → AppendsPart b0 b2 (u ++ (v ++ more))
second_broken b0 b1 b2 x y u v more xu yv one broken =
    subst (AppendsPart b0 b2) (append_assoc u v more) (whole_then_part u v more (as_text b0 b1 x u xu one) (subst (AppendsPart b1 b2) yv broken))

pub third_broken : (b0 b1 b2 b3 : Option (List ℕ)) (x y z u v w : List ℕ) → x ≡ u → y ≡ v → z ≡ w
    → AppendsAll b0 b1 x → AppendsAll b1 b2 y → AppendsPart b2 b3 z → AppendsPart b0 b3 (u ++ (v ++ (w ++ [])))
third_broken b0 b1 b2 b3 x y z u v w xu yv zw one more broken =
    let two = part b0 b1 b2 u v (u ++ v) refl (as_text b0 b1 x u xu one) (as_text b1 b2 y v yv more) in
    subst (AppendsPart b0 b3) (append_assoc (u ++ v) w [] ∙ append_assoc u v (w ++ []))
    (whole_then_part (u ++ v) w [] two (subst (AppendsPart b2 b3) zw broken))
