use Rattle.std.proofs.Common.{◌∙◌, sym, subst}
use Rattle.cards.specs.Fixed.{IsFixed}
use Rattle.requests.specs.PredealtHands.{IsFixedBy, given_by}
use Rattle.requests.proofs.Apart.{are_hands, is_fixed_by}
use Rattle.requests.proofs.Room.{fixed_by_texts}
use Rattle.requests.proofs.hands.PredealtHands.read.Goals as goal

pub unwrap-requires : goal.unwrap-requires
unwrap-requires c =
    c.new.ensures.room.1
    (subst IsFixed (sym c.seats.ensures) (fixed_by_texts (given_by c.args.self.now) (sym c.first_refused.ensures ∙ c.in_default.is)))

pub returns-clause-hands : goal.returns-clause-hands
returns-clause-hands c = are_hands (given_by c.args.self.now) (sym c.first_refused.ensures ∙ c.in_default.is)

pub returns-clause-held : goal.returns-clause-held
returns-clause-held c =
    let kept = rw c.unwrap.ensures at c.new.ensures.kept in
    let held = is_fixed_by (given_by c.args.self.now) (sym c.first_refused.ensures ∙ c.in_default.is) in
    subst (IsFixedBy (given_by c.args.self.now)) (sym (kept ∙ c.seats.ensures)) held
