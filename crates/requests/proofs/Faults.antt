-- Faults of the text that is given.
use Rattle.std.proofs.Common.{◌≡◌, List, ℕ, subst}
use Rattle.std.specs.Prelude.{IfSome, Option, None, Some}
use Rattle.std.specs.Option.{option_or}
use Rattle.requests.specs.declared.hand_fault.HandFault.{HandFault}
use Rattle.requests.specs.HandFaults.{IsFaultOf}
use Rattle.requests.specs.PredealtHands.{GivenHands}

pub either_fault : (earlier : GivenHands) (text : List ℕ) (one other : Option HandFault)
    → IfSome one (IsFaultOf earlier text) → IfSome other (IsFaultOf earlier text)
    → IfSome (option_or one other) (IsFaultOf earlier text)
either_fault earlier text None other h k = k
either_fault earlier text (Some fault) other h k = h

pub fault_of_given : (earlier : GivenHands) (given : Option (List ℕ)) (text : List ℕ) (found : Option HandFault)
    → given ≡ Some text → IfSome found (IsFaultOf earlier text)
    → IfSome found (λ fault. (t : List ℕ) → given ≡ Some t → IsFaultOf earlier t fault)
fault_of_given earlier given text None e h = tt
fault_of_given earlier given text (Some fault) e h =
    λ t is. let same : text ≡ t = cc in let P : List ℕ → Type 0 = λ u. IsFaultOf earlier u fault in subst P same h
