-- The lines of a seed, by how many.
use Rattle.std.proofs.Common.{◌≡◌, ◌<◌, ◌+◌, ◌-◌, ◌++◌, ◌∙◌, ℕ, List, [], Option, refl, sym, ap, arith, add-one, subst}
use Rattle.std.specs.List.{flat_map, range_with_len}
use Rattle.lcg48.specs.Sequence.{seeded_state, state_after, state_at, step, value_of}
use Rattle.sinks.specs.Appended.{append_known, AppendsAll, AppendsPart}
use Rattle.dealrun.specs.Values.{line, lines}
use Rattle.boards.proofs.Ranges.{flat_map-range_add, flat_map-range_more}
use Rattle.sinks.proofs.SinkLemmas.{append_known-append, whole_then_part}

pub lines-none : (seed : ℕ) → lines seed 0 ≡ []
unfolding lines
lines-none seed = refl

pub state-none : (seed x : ℕ) → x ≡ seeded_state seed → x ≡ state_at seed 0
unfolding state_after
state-none seed x e = e

pub state-more : (seed i : ℕ) → state_at seed (i + 1) ≡ step (state_at seed i)
unfolding state_after
state-more seed i = rw add-one refl

-- the next line, by the state before it
abbrev pub next_line : ℕ → ℕ → List ℕ
next_line seed i = line (value_of (step (state_at seed i)))

lines-next : (seed i : ℕ) → lines seed (i + 1) ≡ lines seed i ++ next_line seed i
unfolding lines
lines-next seed i =
    let e : 1 + i ≡ i + 1 = omega arith in
    flat_map-range_more (λ k. line (value_of (state_at seed k))) 1 i
    ∙ ap (λ x. flat_map (λ k. line (value_of (state_at seed k))) (range_with_len 1 i) ++ line (value_of x)) (ap (state_at seed) e ∙ state-more seed i)

-- the lines after the first i
abbrev later_lines : ℕ → ℕ → ℕ → List ℕ
later_lines seed i n = flat_map (λ k. line (value_of (state_at seed k))) (range_with_len (1 + i) (n - i))

lines-parts : (seed i n : ℕ) → i < n + 1 → lines seed n ≡ lines seed i ++ later_lines seed i n
unfolding lines
lines-parts seed i n h =
    let e : n ≡ i + (n - i) = omega arith in
    ap (λ k. flat_map (λ k. line (value_of (state_at seed k))) (range_with_len 1 k)) e
    ∙ flat_map-range_add (λ k. line (value_of (state_at seed k))) 1 i (n - i)

pub lines_appended : (old now new : Option (List ℕ)) (seed i : ℕ) (text : List ℕ) → text ≡ next_line seed i
    → AppendsAll old now (lines seed i) → AppendsAll now new text → AppendsAll old new (lines seed (i + 1))
lines_appended old now new seed i text is before e =
    e ∙ (ap (λ o. append_known o text) before ∙ (append_known-append old (lines seed i) text
    ∙ ap (append_known old) (ap (λ w. lines seed i ++ w) is ∙ sym (lines-next seed i))))

pub part_of_lines : {old now new : Option (List ℕ)} (seed i n : ℕ) (text : List ℕ) → i < n → text ≡ next_line seed i
    → AppendsAll old now (lines seed i) → AppendsPart now new text → AppendsPart old new (lines seed n)
part_of_lines {old} {now} {new} seed i n text lt is before part =
    let more = later_lines seed (i + 1) n in
    let e : lines seed i ++ text ++ more ≡ lines seed n =
    ap (λ w. w ++ more) (ap (λ w. lines seed i ++ w) is ∙ sym (lines-next seed i)) ∙ sym (lines-parts seed (i + 1) n (omega arith)) in
    subst (AppendsPart old new) e (whole_then_part (lines seed i) text more before part)
