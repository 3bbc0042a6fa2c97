-- A source that ends before it gave four bytes.
use Rattle.std.proofs.Common.{ℕ, ◌≡◌, ◌<◌, ◌∷◌, [], ◌++◌, List, length, Option, Some, None, ap, arith, sym, ◌∙◌, append_assoc}
use Rattle.std.specs.Io.KnownBytes.{Consumes}
use Rattle.input.specs.FourBytes.{EndsBefore}

consumes_then : (a b c : Option (List ℕ)) (xs ys : List ℕ) → Consumes a b xs → Consumes b c ys → Consumes a c (xs ++ ys)
consumes_then None b c xs ys h k = tt
consumes_then (Some _) None c xs ys h k = absurd h
consumes_then (Some _) (Some _) None xs ys h k = absurd k
consumes_then (Some _) (Some _) (Some zs) xs ys h k = h ∙ ap (λ l. xs ++ l) k ∙ sym (append_assoc xs ys zs)

ends_after : (n m : ℕ) (a b c : Option (List ℕ)) (x : ℕ) → n < m → Consumes a b (x ∷ []) → EndsBefore n b c → EndsBefore m a c
ends_after n m a b c x less h e =
    record { given = x ∷ e.given; few = omega (arith, less, e.few); consumed = consumes_then a b c (x ∷ []) e.given h e.consumed; at_end = e.at_end }

pub ends_second : (a b c : Option (List ℕ)) (x : ℕ) → Consumes a b (x ∷ []) → EndsBefore 1 b c → EndsBefore 4 a c
ends_second a b c x h e = ends_after 1 4 a b c x (omega arith) h e

pub ends_third : (a b c d : Option (List ℕ)) (x y : ℕ) → Consumes a b (x ∷ []) → Consumes b c (y ∷ []) → EndsBefore 1 c d → EndsBefore 4 a d
ends_third a b c d x y h k e = ends_after 2 4 a b d x (omega arith) h (ends_after 1 2 b c d y (omega arith) k e)

pub ends_fourth : (a b c d e : Option (List ℕ)) (x y z : ℕ) → Consumes a b (x ∷ []) → Consumes b c (y ∷ [])
    → Consumes c d (z ∷ []) → EndsBefore 1 d e → EndsBefore 4 a e
ends_fourth a b c d e x y z h k l ends = ends_after 3 4 a b e x (omega arith) h
    (ends_after 2 3 b c e y (omega arith) k (ends_after 1 2 c d e z (omega arith) l ends))

pub four_read : (a b c d e : Option (List ℕ)) (w x y z : ℕ) → Consumes a b (w ∷ []) → Consumes b c (x ∷ [])
    → Consumes c d (y ∷ []) → Consumes d e (z ∷ []) → Consumes a e (w ∷ x ∷ y ∷ z ∷ [])
four_read a b c d e w x y z h k l m =
    consumes_then a b e (w ∷ []) (x ∷ y ∷ z ∷ []) h (consumes_then b c e (x ∷ []) (y ∷ z ∷ []) k (consumes_then c d e (y ∷ []) (z ∷ []) l m))
