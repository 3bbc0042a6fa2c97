-- A text is written in parts.
use Rattle.std.proofs.Common.{◌≡◌, ◌+◌, ◌-◌, ◌<◌, ◌≤◌, ◌++◌, ◌∷◌, ◌∙◌, ℕ, suc, zero, List, [], Option, Result, Ok}
use Rattle.std.proofs.Common.{Err, refl, sym, ap, subst, append_assoc, arith, add-zero, zero-add}
use Rattle.std.specs.List.{flat_map, range_with_len}
use Rattle.std.proofs.lemmas.List.{append-nil}
use Rattle.sinks.specs.Appended.{append_known, AppendsAll, AppendsPart}
use Rattle.sinks.specs.Sinks.{AppendsOrBreaksOff}
use Rattle.sinks.proofs.SinkLemmas.{append_known-append, append_known-nil, whole_then_part}

pub no_part : (old : Option (List ℕ)) → AppendsAll old old []
no_part old = sym (append_known-nil old)

pub then_all : (old mid new : Option (List ℕ)) (x y : List ℕ) → AppendsAll old mid x → AppendsAll mid new y → AppendsAll old new (x ++ y)
then_all old mid new x y a b = b ∙ ap (λ (o : Option (List ℕ)). append_known o y) a ∙ append_known-append old x y

pub then_part : (old mid new : Option (List ℕ)) (x y : List ℕ) → AppendsAll old mid x → AppendsPart mid new y → AppendsPart old new (x ++ y)
then_part old mid new x y a p = subst (AppendsPart old new) (append-nil (x ++ y)) (whole_then_part x y [] a p)

pub part_more : (old new : Option (List ℕ)) (x y : List ℕ) → AppendsPart old new x → AppendsPart old new (x ++ y)
part_more old new x y p = whole_then_part [] x y (no_part old) p

pub then_either : {T E : Type 0} (r : Result T E) (old mid new : Option (List ℕ)) (x y : List ℕ)
    → AppendsAll old mid x → AppendsOrBreaksOff mid new r y
    → AppendsOrBreaksOff old new r (x ++ y)
then_either (Ok v) old mid new x y a h = then_all old mid new x y a h
then_either (Err e) old mid new x y a h = then_part old mid new x y a h

range_split : (a m n : ℕ) → range_with_len a (m + n) ≡ range_with_len a m ++ range_with_len (a + m) n
range_split a zero n = rw (zero-add n, add-zero a) refl
range_split a (suc m) n =
    let e : suc m + n ≡ suc (m + n) = omega arith in
    let k : (a + 1) + m ≡ a + suc m = omega arith in
    ap (λ (c : ℕ). range_with_len a c) e ∙ ap (λ (ns : List ℕ). a ∷ ns)
    (range_split (a + 1) m n ∙ ap (λ (b : ℕ). range_with_len (a + 1) m ++ range_with_len b n) k)

flat_map-append : {X : Type 0} (f : X → List ℕ) (xs ys : List X) → flat_map f (xs ++ ys) ≡ flat_map f xs ++ flat_map f ys
flat_map-append f [] ys = refl
flat_map-append f (x ∷ xs) ys = ap (λ (zs : List ℕ). f x ++ zs) (flat_map-append f xs ys) ∙ sym (append_assoc (f x) (flat_map f xs) (flat_map f ys))

-- the pieces of the numbers from one on
pub pieces_split : (f : ℕ → List ℕ) (first m n : ℕ) → flat_map f (range_with_len first (m + n)) ≡ flat_map f
    (range_with_len first m) ++ flat_map f (range_with_len (first + m) n)
pieces_split f first m n = ap (flat_map f) (range_split first m n) ∙ flat_map-append f (range_with_len first m) (range_with_len (first + m) n)

-- one more of the pieces
pub pieces_more : (f : ℕ → List ℕ) (first number : ℕ) → first ≤ number
    → flat_map f (range_with_len first (number + 1 - first)) ≡ flat_map f (range_with_len first (number - first))
    ++ f number
pieces_more f first number le =
    let e : number + 1 - first ≡ (number - first) + 1 = omega arith in
    let k : first + (number - first) ≡ number = omega arith in
    ap (λ (c : ℕ). flat_map f (range_with_len first c)) e ∙ pieces_split f first (number - first) 1
    ∙ ap (λ (xs : List ℕ). flat_map f (range_with_len first (number - first)) ++ xs) (append-nil (f (first + (number - first))) ∙ ap f k)

pub all_more : (old mid new : Option (List ℕ)) (f : ℕ → List ℕ) (first number : ℕ) → first ≤ number
    → AppendsAll old mid (flat_map f (range_with_len first (number - first)))
    → AppendsAll mid new (f number) → AppendsAll old new (flat_map f (range_with_len first (number + 1 - first)))
all_more old mid new f first number le a b =
    subst (AppendsAll old new) (sym (pieces_more f first number le))
    (then_all old mid new (flat_map f (range_with_len first (number - first))) (f number) a b)

pub all_broken : (old mid new : Option (List ℕ)) (f : ℕ → List ℕ) (first number end : ℕ) → first ≤ number → number < end
    → AppendsAll old mid (flat_map f (range_with_len first (number - first))) → AppendsPart mid new (f number)
    → AppendsPart old new (flat_map f (range_with_len first (end - first)))
all_broken old mid new f first number end le lt a b =
    let e : (number + 1 - first) + (end - (number + 1)) ≡ end - first = omega arith in
    subst (λ (c : ℕ). AppendsPart old new (flat_map f (range_with_len first c))) e
    (subst (AppendsPart old new) (sym (pieces_split f first (number + 1 - first) (end - (number + 1))))
    (part_more old new (flat_map f (range_with_len first (number + 1 - first)))
    (flat_map f (range_with_len (first + (number + 1 - first)) (end - (number + 1))))
    (subst (AppendsPart old new) (sym (pieces_more f first number le))
    (then_part old mid new (flat_map f (range_with_len first (number - first))) (f number) a b))))

-- the loop went through all numbers
pub all_pieces : (old new : Option (List ℕ)) (f : ℕ → List ℕ) (first number end : ℕ) → end ≤ number → number - first ≤ end - first
    → AppendsAll old new (flat_map f (range_with_len first (number - first))) → AppendsAll old new (flat_map f (range_with_len first (end - first)))
all_pieces old new f first number end ge within a =
    let e : number - first ≡ end - first = omega arith in
    subst (λ (c : ℕ). AppendsAll old new (flat_map f (range_with_len first c))) e a

-- three parts: the first was broken off, the second, or neither; `u` and `w` are the first and the last as they were written
pub three_at_first : (old new : Option (List ℕ)) (u x y z : List ℕ) → u ≡ x → AppendsPart old new u → AppendsPart old new (x ++ y ++ z)
three_at_first old new u x y z e p = part_more old new (x ++ y) z (part_more old new x y (subst (AppendsPart old new) e p))

pub three_at_second : (old mid new : Option (List ℕ)) (u x y z : List ℕ) → u ≡ x → AppendsAll old mid u
    → AppendsPart mid new y → AppendsPart old new (x ++ y ++ z)
three_at_second old mid new u x y z e a p = part_more old new (x ++ y) z (then_part old mid new x y (subst (AppendsAll old mid) e a) p)

pub three_parts : {T E : Type 0} (r : Result T E) (b0 b1 b2 b3 : Option (List ℕ)) (u w x y z : List ℕ) → u ≡ x → w ≡ z
    → AppendsAll b0 b1 u → AppendsAll b1 b2 y
    → AppendsOrBreaksOff b2 b3 r w → AppendsOrBreaksOff b0 b3 r (x ++ y ++ z)
three_parts r b0 b1 b2 b3 u w x y z e f a b h =
    then_either r b0 b2 b3 (x ++ y) z (then_all b0 b1 b2 x y (subst (AppendsAll b0 b1) e a) b) (subst (AppendsOrBreaksOff b2 b3 r) f h)
