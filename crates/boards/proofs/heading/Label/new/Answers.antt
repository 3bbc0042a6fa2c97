use Rattle.std.proofs.Common.{◌≡◌, ℕ, ◌-◌, ◌∙◌, ◌++◌, List, length, take, refl, sym, ap, arith, below_more, subst}
use Rattle.std.specs.Prelude.{replicate}
use Rattle.std.proofs.lemmas.List.{length-set}
use Rattle.std.proofs.lemmas.List.Elements.{All-from_get_or}
use Rattle.boards.specs.Labels.{IsLabel, IsLabelByte}
use Rattle.boards.specs.internal.LabelBytes.{IsPadded}
use Rattle.boards.proofs.Copies.{zeros, copy_more, copied_all, front}
use Rattle.boards.proofs.heading.Label.new.Goals as goal

pub loop-i-init : goal.loop-i-init
loop-i-init c = record {
  printable = λ k h. absurd (omega arith);
  copied = λ k. zeros 100 k;
  count = refl;
}

pub loop-i-preserved : goal.loop-i-preserved
loop-i-preserved c = record {
  printable = below_more _ _ c.loop-i.invariant.printable (c.is_label_byte.ensures.0 c.if-not-is_label_byte.false);
  copied = copy_more c.loop-i.bytes c.args.text.now c.loop-i.i (omega arith) c.loop-i.invariant.copied;
  count = simp length-set c.loop-i.invariant.count;
}

padded : (bytes text : List ℕ) → bytes ≡ text ++ replicate (100 - length text) 0 → IsLabel text → IsPadded bytes (length text)
padded bytes text e ok =
    let view : take (length text) bytes ≡ text = rw e (front text (replicate (100 - length text) 0)) in
    record {
      label = subst IsLabel (sym view) ok;
      count = ap length view;
      rest = e ∙ ap (λ t. t ++ replicate (100 - length t) 0) (sym view);
    }

pub invariant_of-result : goal.invariant_of-result
invariant_of-result c =
    padded c.loop-i.bytes c.args.text.now (copied_all c.loop-i.bytes c.args.text.now 100 c.loop-i.i
    c.loop-i.invariant.count (omega arith) (omega arith) c.loop-i.invariant.copied)
    record { short = omega arith; printable = All-from_get_or IsLabelByte c.args.text.now 0 (λ i h. c.loop-i.invariant.printable i (omega arith)) }

pub returns-clause-kept : goal.returns-clause-kept
returns-clause-kept c =
    rw (copied_all c.loop-i.bytes c.args.text.now 100 c.loop-i.i c.loop-i.invariant.count (omega arith) (omega arith)
    c.loop-i.invariant.copied) (front c.args.text.now (replicate (100 - length c.args.text.now) 0))
