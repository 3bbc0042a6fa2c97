use Rattle.std.proofs.Common.{◌≡◌, ap, arith, sym, true}
use Rattle.std.specs.Prelude.{not}
use Rattle.std.proofs.lemmas.List.Elements.{All-from_get_or}
use Rattle.std.proofs.lemmas.List.Sums.{list_all-from_AllPass}
use Rattle.requests.specs.PredealtHands.{is_hand_byte}
use Rattle.requests.proofs.hand_fault.unread_place.Goals as goal

pub returns-clause-found : goal.returns-clause-found
returns-clause-found c =
    sym
    (ap not
    (list_all-from_AllPass is_hand_byte c.args.text.now
    (All-from_get_or (λ b. is_hand_byte b ≡ true) c.args.text.now 0 (λ k h. c.loop-place.invariant k (omega arith)))))
