-- Other workers write the same.
use Rattle.std.proofs.Common.{◌≡◌, ◌∙◌, ℕ, List, length, Option, refl, ap, subst}
use Rattle.boards.specs.Layouts.{Layout}
use Rattle.cond_lang.specs.Form.{Form}
use Rattle.boards.specs.Plans.{Planned, candidate_of}
use Rattle.boards.specs.Text.{accepted, boards_of, end_of, needed_by, text_in}
use Rattle.std.proofs.Common.{All, map}
use Rattle.cards.specs.Deals.{IsPartition}
use Rattle.dealrun.specs.Headline.{WritesTextIn}
use Rattle.sinks.specs.Appended.{AppendsAll, append_known}

pub text_worked : (layout : Layout) (plan : Planned) (form : Form) (n : ℕ)
    → text_in layout (record plan { workers = n }) form ≡ text_in layout plan form
unfolding boards_of needed_by
text_worked layout plan form n = refl

pub end_worked : (plan : Planned) (form : Form) (n : ℕ) → end_of (record plan { workers = n }) form ≡ end_of plan form
unfolding needed_by
end_worked plan form n = refl

-- the text of a run with other workers is that of the plan
pub worked_text : (layout : Layout) (plan run : Planned) (form : Form) (n : ℕ) (old new : Option (List ℕ))
    → run ≡ record plan { workers = n } → AppendsAll old new (text_in layout run form)
    → AppendsAll old new (text_in layout plan form)
worked_text layout plan run form n old new is text =
    text ∙ ap (λ (p : Planned). append_known old (text_in layout p form)) is ∙ ap (append_known old) (text_worked layout plan form n)

pub worked_end : (plan run : Planned) (form : Form) (n : ℕ) → run ≡ record plan { workers = n } → end_of run form ≡ end_of plan form
worked_end plan run form n is = ap (λ (p : Planned). end_of p form) is ∙ end_worked plan form n

pub worked_accepted : (plan run : Planned) (form : Form) (n : ℕ) → run ≡ record plan { workers = n } → accepted run form ≡ accepted plan form
worked_accepted plan run form n is = ap (λ (p : Planned). accepted p form) is

pub worked_writes : (layout : Layout) (plan run : Planned) (form : Form) (n boards : ℕ) (old new : Option (List ℕ))
    → run ≡ record plan { workers = n } → WritesTextIn layout run form boards old new
    → WritesTextIn layout plan form boards old new
worked_writes layout plan run form n boards old new is h = record {
  bytes = worked_text layout plan run form n old new is h.bytes;
  boards_are = h.boards_are ∙ ap length (worked_accepted plan run form n is);
  partitions = subst (λ (p : Planned). All IsPartition (map (candidate_of p) (accepted p form))) is h.partitions;
}
