use Rattle.std.proofs.Common.{◌≡◌, ℕ, ◌≤◌, ◌∙◌, List, length, get_or, take, sym, subst, arith, rules}
use Rattle.std.proofs.lemmas.Bool.{false≢true}
use Rattle.std.proofs.lemmas.List.{ext_get_or, get_or-take}
use Rattle.boards.specs.Labels.{IsDate}
use Rattle.boards.proofs.Dates.{date_from_places, places_from_date}
use Rattle.boards.proofs.heading.Date.new.Goals as goal

copied : (bytes text : List ℕ) (i : ℕ) → length bytes ≡ 10 → length text ≡ 10 → 10 ≤ i
    → ((k : ℕ) → get_or bytes k 0 ≡ get_or (take i text) k 0) → bytes ≡ text
copied bytes text i p q all same = ext_get_or 0 bytes text (p ∙ sym q) (λ k h. same k ∙ get_or-take i text k 0 (omega arith))

pub invariant_of-result : goal.invariant_of-result
invariant_of-result c =
    subst IsDate (sym (copied c.loop-i.bytes c.args.text.now c.loop-i.i c.loop-i.invariant.count (omega arith)
    (omega arith) c.loop-i.invariant.copied))
    (date_from_places c.args.text.now (omega arith) (λ i h. c.loop-i.invariant.fits i (omega arith)))

pub returns-clause-sound : goal.returns-clause-sound
returns-clause-sound c = (λ h. date_from_places c.args.text.now (omega arith) (λ i k. c.loop-i.invariant.fits i (omega arith)), λ h. search rules)

pub returns-clause-kept : goal.returns-clause-kept
returns-clause-kept c = copied c.loop-i.bytes c.args.text.now c.loop-i.i c.loop-i.invariant.count (omega arith)
    (omega arith) c.loop-i.invariant.copied

pub returns-then-not-fits_date-clause-sound : goal.returns-then-not-fits_date-clause-sound
returns-then-not-fits_date-clause-sound c = (
  λ h. absurd (false≢true h),
  λ ok. sym c.if-not-fits_date.true ∙ c.fits_date.ensures.1 ((places_from_date c.args.text.now ok).1 c.loop-i.i (omega arith)),
)
