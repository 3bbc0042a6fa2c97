-- What a scanner says of a word.
use Rattle.std.proofs.Common.{◌≡◌, ◌∙◌, ℕ, ◌==◌, false, List, [], ◌∷◌, ◌++◌, Option, None, Some, refl, sym, ap}
use Rattle.std.specs.Prelude.{Err, Ok, Result}
use Rattle.std.proofs.lemmas.Bool.{and_right, or_parts}
use Rattle.input.specs.NumberTexts.{Said, ended, first_line, has_lf, later_lines, line_says, lines_say, said, starts_with_lf, with_lf, with_line}
use Rattle.input.specs.Scans.{HasScanned, ScannerView, list_of}
use Rattle.input.specs.declared.refused_line.LineFault.{LineFault}
use Rattle.input.specs.declared.refused_line.RefusedLine.{RefusedLine}
use Rattle.input.proofs.TellSteps.{ended-none}

no_start : (xs : List ℕ) → has_lf xs ≡ false → starts_with_lf xs ≡ false
no_start [] h = refl
no_start (x ∷ xs) h = (or_parts (x == 10) (has_lf xs) h).0

stays : (xs : List ℕ) → has_lf xs ≡ false → with_lf xs ≡ xs
stays [] h = refl
stays (x ∷ xs) h =
    let later = (or_parts (x == 10) (has_lf xs) h).1 in
    rw (and_right (x == 13) (starts_with_lf xs) (no_start xs later)) (ap (λ l. x ∷ l) (stays xs later))

alone : (xs : List ℕ) → has_lf xs ≡ false → first_line xs ≡ xs
alone [] h = refl
alone (x ∷ xs) h = let parts = or_parts (x == 10) (has_lf xs) h in rw parts.0 (ap (λ l. x ∷ l) (alone xs parts.1))

none_later : (xs : List ℕ) → has_lf xs ≡ false → later_lines xs ≡ []
none_later [] h = refl
none_later (x ∷ xs) h = let parts = or_parts (x == 10) (has_lf xs) h in rw parts.0 (none_later xs parts.1)

abbrev nothing : Said
nothing = record { numbers = []; refused = None }

-- a text of one line
one_line : (w : List ℕ) → has_lf w ≡ false → said w ≡ with_line 0 0 (line_says w) (λ n. nothing)
unfolding said
one_line w h =
    ap (λ t. lines_say 0 0 (first_line t ∷ later_lines t)) (stays w h)
    ∙ ap (λ l. lines_say 0 0 (l ∷ later_lines w)) (alone w h)
    ∙ ap (λ ls. lines_say 0 0 (w ∷ ls)) (none_later w h)

none_said : (w ns : List ℕ) → has_lf w ≡ false → said (ended w) ≡ record { numbers = ns; refused = None } → [] ≡ ns
unfolding said
none_said w ns h is = ap (λ (s : Said). s.numbers) (sym (ap said (ended-none w h)) ∙ is)

pub says_none : (w ns : List ℕ) (e : RefusedLine) → has_lf w ≡ false → said w ≡ record { numbers = ns; refused = Some e } → Err e.fault ≡ line_says w
says_none w ns e h is = by_says (line_says w) refl (ap (λ (s : Said). s.refused) (sym (one_line w h) ∙ is))
  where
    by_says : (r : Result (Option ℕ) LineFault) → line_says w ≡ r → (with_line 0 0 r (λ n. nothing)).refused ≡ Some e → Err e.fault ≡ line_says w
    by_says (Err fault) f same = let is : fault ≡ e.fault = ap (λ (o : Option RefusedLine). fault_or fault o) same in
        ap (λ (x : LineFault). let r : Result (Option ℕ) LineFault = Err x in r) (sym is) ∙ sym f
      where
        fault_or : LineFault → Option RefusedLine → LineFault
        fault_or f None = f
        fault_or f (Some r) = r.fault
    by_says (Ok None) f same = absurd cc
    by_says (Ok (Some n)) f same = absurd cc

pub says_number : (w ns : List ℕ) (s : ScannerView) (n : Option ℕ) → has_lf w ≡ false → HasScanned s w ns
    → said w ≡ record { numbers = ns ++ list_of n; refused = None } → Ok n ≡ line_says w
says_number w ns s n h scanned is = by_says n (line_says w) refl
    (sym (one_line w h) ∙ is ∙ ap as_said (ap (λ l. l ++ list_of n) (sym (none_said w ns h scanned.are_ended))))
  where
    as_said : List ℕ → Said
    as_said l = record { numbers = l; refused = None }

    by_says : (n : Option ℕ) (r : Result (Option ℕ) LineFault) → line_says w ≡ r
        → with_line 0 0 r (λ n. nothing) ≡ as_said (list_of n) → Ok n ≡ line_says w
    by_says n (Err fault) f same = absurd (let bad : Some _ ≡ None = ap (λ (s : Said). s.refused) same in cc)
    by_says None (Ok None) f same = sym f
    by_says (Some k) (Ok None) f same = absurd (let bad : [] ≡ k ∷ [] = ap (λ (s : Said). s.numbers) same in cc)
    by_says None (Ok (Some m)) f same = absurd (let bad : m ∷ [] ≡ [] = ap (λ (s : Said). s.numbers) same in cc)
    by_says (Some k) (Ok (Some m)) f same = let is : m ∷ [] ≡ k ∷ [] = ap (λ (s : Said). s.numbers) same in
        let same_number : m ≡ k = cc in rw f (rw same_number refl)
