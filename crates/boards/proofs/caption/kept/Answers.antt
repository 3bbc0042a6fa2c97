use Rattle.std.proofs.Common.{◌≡◌, ℕ, ◌-◌, ◌∙◌, ◌++◌, List, length, take, refl, sym, ap, arith, subst, true}
use Rattle.std.specs.Prelude.{replicate}
use Rattle.std.proofs.lemmas.List.{length-set}
use Rattle.boards.proofs.Copies.{zeros, copy_more, copied_all, front}
use Rattle.boards.specs.Captions.{is_caption}
use Rattle.boards.specs.internal.Kept.{IsPadded}
use Rattle.boards.proofs.Rooms.{length_of_caption}
use Rattle.boards.proofs.caption.kept.Goals as goal

pub loop-i-init : goal.loop-i-init
loop-i-init c = record { copied = λ k. zeros 400 k; count = refl }

pub loop-i-preserved : goal.loop-i-preserved
loop-i-preserved c = record {
  copied = copy_more c.loop-i.bytes c.args.text.now c.loop-i.i
      (omega (arith, length_of_caption c.args.text.now c.requires)) c.loop-i.invariant.copied;
  count = simp length-set c.loop-i.invariant.count;
}

is_padded : (bytes text : List ℕ) → bytes ≡ text ++ replicate (400 - length text) 0 → is_caption text ≡ true → IsPadded bytes (length text)
is_padded bytes text e ok =
    let view : take (length text) bytes ≡ text = rw e (front text (replicate (400 - length text) 0)) in
    record {
      caption = subst (λ t. is_caption t ≡ true) (sym view) ok;
      fits = length_of_caption text ok;
      count = ap length view;
      rest = e ∙ ap (λ t. t ++ replicate (400 - length t) 0) (sym view);
    }

pub invariant_of-result : goal.invariant_of-result
invariant_of-result c =
    is_padded c.loop-i.bytes c.args.text.now
    (copied_all c.loop-i.bytes c.args.text.now 400 c.loop-i.i c.loop-i.invariant.count
    (length_of_caption c.args.text.now c.requires) (omega arith) c.loop-i.invariant.copied)
    c.requires

pub returns : goal.returns
returns c =
    rw (copied_all c.loop-i.bytes c.args.text.now 400 c.loop-i.i c.loop-i.invariant.count
    (length_of_caption c.args.text.now c.requires) (omega arith) c.loop-i.invariant.copied)
    (front c.args.text.now (replicate (400 - length c.args.text.now) 0))
