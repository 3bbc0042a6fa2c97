use Rattle.std.proofs.Common.{◌≡◌, ℕ, ◌+◌, ◌<◌, List, [], ◌∷◌, ◌++◌, get_or, length, vec_len, arith, below_more, rules}
use Rattle.std.proofs.Math.ListN.{get_or-append}
use Rattle.std.proofs.Math.Seq.{get_or-append_seam}
use Rattle.boards.specs.internal.Sets.{IsEntry}
use Rattle.boards.proofs.buffer.SuitLetters.new.Goals as goal

-- an entry more
one_more : (entries now : List (List ℕ)) (entry : List ℕ) (set : ℕ) → now ≡ entries ++ entry ∷ [] → length entries ≡ set → IsEntry set entry
    → ((k : ℕ) → k < set → IsEntry k (get_or entries k [])) → (k : ℕ) → k < set + 1 → IsEntry k (get_or now k [])
one_more entries now entry set pushed long here done =
    below_more _ _
    (λ (k : ℕ) (h : k < set). rw (pushed, get_or-append entries (entry ∷ []) [] k (omega (arith, long))) (done k h))
    (rw (pushed, ← long, get_or-append_seam entries entry [] []) (rw long here))

pub loop-set-preserved : goal.loop-set-preserved
loop-set-preserved c =
    let long : vec_len c.loop-set.entries ≡ length c.loop-set.entries.items = search rules in
    record {
      done = one_more c.loop-set.entries.items c.push_reserved.new.self.items c.entry_of.result c.loop-set.set
          c.push_reserved.ensures.items (omega (arith, long, c.loop-set.invariant.count)) c.entry_of.ensures
          c.loop-set.invariant.done;
      count = omega (arith, c.push_reserved.ensures.len, c.loop-set.invariant.count);
      room = omega (arith, c.push_reserved.ensures.capacity, c.loop-set.invariant.room);
    }
