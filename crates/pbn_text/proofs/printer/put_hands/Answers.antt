use Rattle.std.proofs.Common.{◌≡◌, ℕ, ◌+◌, ◌-◌, ◌<◌, List, ◌++◌, ◌∷◌, [], ◌∙◌, length, take, set, refl, ap, arith}
use Rattle.std.proofs.lemmas.List.{append_assoc, take_all}
use borrow.Rule.Slice.PartMut.{put_mid}
use Rattle.cards.specs.declared.seat.Seat.{Seat}
use Rattle.cards.specs.declared.seat.Seat.TheVariants.{North, East, South, West}
use Rattle.cards.specs.Hands.{hand_of}
use Rattle.pbn_text.specs.Games.{hand_text}
use Rattle.pbn_text.proofs.Buffers.{take_copied, one_more}
use Rattle.pbn_text.proofs.printer.put_hands.Goals as goal

grouped : (f n e s w blank end : List ℕ) → f ++ n ++ blank ++ e ++ blank ++ s ++ blank ++ w ++ end ≡ f
    ++ (n ++ blank ++ e ++ blank ++ s ++ blank ++ w ++ end)
grouped f n e s w blank end = simp append_assoc

-- a buffer with one more hand, and a blank after it
hand_more : (buffer was front hand : List ℕ) (m n k : ℕ) → n < length buffer → take n buffer ≡ take m was ++ hand
    → take m was ≡ front → k ≡ n + 1 → take k (set buffer n 0x20) ≡ front ++ hand ++ 0x20 ∷ []
hand_more buffer was front hand m n k within written before is =
    one_more buffer (front ++ hand) 0x20 n k within (written ∙ ap (λ xs. xs ++ hand) before) is

-- the four hands
all_hands : (old north east south west end n e s w : List ℕ) (from : ℕ) → from + 71 < length north
    → from + 71 < length east → from + 71 < length south → from + 71 < length west → length end ≡ 4
    → take (from + 16) north ≡ take from old ++ n
    → take (from + 17 + 16) east ≡ take (from + 17) (set north (from + 16) 0x20) ++ e
    → take (from + 34 + 16) south ≡ take (from + 34) (set east (from + 33) 0x20) ++ s
    → take (from + 51 + 16) west ≡ take (from + 51) (set south (from + 50) 0x20) ++ w
    → take (from + 71) (put_mid (from + 67) 4 west end) ≡ take from old ++ (n ++ 0x20 ∷ [] ++ e ++ 0x20 ∷ [] ++ s ++ 0x20 ∷ [] ++ w ++ end)
all_hands old north east south west end n e s w from rn re rs rw' len pn pe ps pw =
    let f : List ℕ = take from old in
    let blank : List ℕ = 0x20 ∷ [] in
    let a = hand_more north old f n from (from + 16) (from + 17) (omega arith) pn refl (omega arith) in
    let b = hand_more east (set north (from + 16) 0x20) (f ++ n ++ blank) e (from + 17) (from + 33) (from + 34)
    (omega arith) (ap (λ k. take k east) (omega arith) ∙ pe) a (omega arith) in
    let c = hand_more south (set east (from + 33) 0x20) (f ++ n ++ blank ++ e ++ blank) s (from + 34) (from + 50)
    (from + 51) (omega arith) (ap (λ k. take k south) (omega arith) ∙ ps) b (omega arith) in
    let at : from + 67 ≡ from + 51 + 16 = omega arith in
    let d : take (from + 67) west ≡ f ++ n ++ blank ++ e ++ blank ++ s ++ blank ++ w = ap (λ k. take k west) at ∙ pw ∙ ap (λ xs. xs ++ w) c in
    take_copied west end (from + 67) 4 4 (from + 71) (omega arith) (omega arith) (omega arith)
    ∙ ap (λ xs. take (from + 67) west ++ xs) (take_all 4 end (omega arith))
    ∙ ap (λ xs. xs ++ end) d
    ∙ grouped f n e s w blank end

pub returns-clause-written : goal.returns-clause-written
returns-clause-written c =
    let four : c.args.start + 71 - (c.args.start + 67) ≡ 4 = omega arith in
    let hands = λ (seat : Seat). hand_text (hand_of c.args.deal.now seat) in
    ap (λ k. take (c.args.start + 71) (put_mid (c.args.start + 67) k c.put_hand-4.new.buffer c.copy_from_slice.new.self)) four
    ∙ all_hands c.args.buffer.now c.put_hand.new.buffer c.put_hand-2.new.buffer c.put_hand-3.new.buffer
    c.put_hand-4.new.buffer c.copy_from_slice.new.self (hands North) (hands East) (hands South) (hands West)
    c.args.start
    (omega arith) (omega arith) (omega arith) (omega arith) (ap length c.copy_from_slice.ensures.after)
    c.put_hand.ensures c.put_hand-2.ensures c.put_hand-3.ensures c.put_hand-4.ensures
    ∙ ap (λ end. take c.args.start c.args.buffer.now ++ (hands North ++ 0x20 ∷ [] ++ hands East ++ 0x20 ∷ []
    ++ hands South ++ 0x20 ∷ [] ++ hands West ++ end)) c.copy_from_slice.ensures.after
