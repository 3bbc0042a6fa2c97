use Rattle.std.proofs.Common.{◌≡◌, ℕ, ◌+◌, ◌≤◌, List, ◌++◌, ◌∙◌, length, take, sym, ap, arith}
use Rattle.std.proofs.Math.Seq.{take-append-add}
use Rattle.std.proofs.lemmas.List.{length-take-le, take-append-le}
use borrow.Rule.Slice.PartMut.{put_mid, post_of}
use Rattle.boards.proofs.buffer.TextBuffer.put_first.Goals as goal

-- a copy from a on, and m bytes of it
take_copied : (bytes piece : List ℕ) (a k m : ℕ) → a ≤ length bytes → m ≤ length piece
    → take (a + m) (put_mid a k bytes piece) ≡ take a bytes ++ take m piece
take_copied bytes piece a k m within enough =
    ap (λ n. take (n + m) (put_mid a k bytes piece)) (sym (length-take-le a bytes within))
    ∙ take-append-add (take a bytes) (piece ++ post_of a k bytes) m
    ∙ ap (λ xs. take a bytes ++ xs) (take-append-le m piece (post_of a k bytes) enough)

pub returns-clause-text : goal.returns-clause-text
returns-clause-text g c =
    take_copied c.self.inside.bytes c.copy_from_slice.new.self c.self.inside.len _ c.args.count (omega arith) (omega arith)
    ∙ ap (λ xs. take c.self.inside.len c.self.inside.bytes ++ take c.args.count xs) c.copy_from_slice.ensures.after
    ∙ ap (λ xs. xs ++ take c.args.count c.args.bytes.now) c.self.view_is
