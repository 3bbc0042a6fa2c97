-- Boards of a setting: their parts, and what a turned deal keeps.
use Rattle.std.proofs.Common.{◌≡◌, ◌∙◌, ℕ, Bool, true, false, List, refl, sym, ap, if◌then◌else◌}
use Rattle.boards.specs.Settings.{board_in, deal_in, dealer_in, vulnerable_in}
use Rattle.boards.specs.declared.board.Board.{Board}
use Rattle.boards.specs.declared.setting.Vul.{Vul}
use Rattle.boards.specs.declared.setting.Setting.{Setting}
use Rattle.cards.proofs.Turning.{hand_kept, partition_kept}
use Rattle.cards.specs.Deals.{IsPartition}
use Rattle.cards.specs.Hands.{hand_of}
use Rattle.cards.specs.Turning.{goes_to, turned}
use Rattle.cards.specs.declared.seat.Seat.{Seat}
use Rattle.cards.specs.declared.seat.Seat.TheVariants.{North}

-- a board with these parts
abbrev pub board_with : ℕ → ℕ → Seat → Vul → List Seat → Board
board_with number candidate dealer vulnerable deal =
    record { number = number; candidate = candidate; dealer = dealer; vulnerable = vulnerable; deal = deal }

pub made : (setting : Setting) (number candidate : ℕ) (deal dealt : List Seat) (dealer : Seat) (vulnerable : Vul)
    → dealer ≡ dealer_in setting number → vulnerable ≡ vulnerable_in setting number → dealt ≡ deal_in setting dealer deal
    → board_with number candidate dealer vulnerable dealt ≡ board_in setting number candidate deal
unfolding board_in
made setting number candidate deal dealt dealer vulnerable d v t =
    ap (board_with number candidate dealer vulnerable) t
    ∙ ap (λ w. board_with number candidate dealer w (deal_in setting dealer deal)) v
    ∙ ap (λ s. board_with number candidate s (vulnerable_in setting number) (deal_in setting s deal)) d

turns : (setting : Setting) (dealer : Seat) (deal : List Seat) → setting.rotate ≡ true → deal_in setting dealer deal ≡ turned dealer deal
turns setting dealer deal rotates = ap (λ (b : Bool). if b then turned dealer deal else deal) rotates

pub hands : (setting : Setting) (number candidate : ℕ) (deal : List Seat) (seat : Seat) → setting.rotate ≡ true
    → hand_of (board_in setting number candidate deal).deal (goes_to (dealer_in setting number) seat) ≡ hand_of deal seat
unfolding board_in
hands setting number candidate deal seat rotates =
    let to = dealer_in setting number in
    ap (λ d. hand_of d (goes_to to seat)) (turns setting to deal rotates) ∙ hand_kept to seat deal

-- North's hand goes to the first one
north_goes : (to : Seat) → goes_to to North ≡ to
north_goes North = refl
north_goes _ = refl

pub dealers_hand : (setting : Setting) (number candidate : ℕ) (deal : List Seat) → setting.rotate ≡ true
    → hand_of (board_in setting number candidate deal).deal (dealer_in setting number) ≡ hand_of deal North
dealers_hand setting number candidate deal rotates =
    ap (hand_of (board_in setting number candidate deal).deal) (sym (north_goes (dealer_in setting number)))
    ∙ hands setting number candidate deal North rotates

pub partition : (setting : Setting) (number candidate : ℕ) (deal : List Seat) → IsPartition deal
    → IsPartition (board_in setting number candidate deal).deal
unfolding board_in
partition setting number candidate deal ok = go setting.rotate
  where
    go : (b : Bool) → IsPartition (if b then turned (dealer_in setting number) deal else deal)
    go true = partition_kept (dealer_in setting number) deal ok
    go false = ok
