-- Which labels a format writes.
use Rattle.std.proofs.Common.{◌≡◌, ℕ, List, Option, None, Some, refl}
use Rattle.std.specs.Prelude.{IfSome}
use Rattle.boards.specs.Headings.{HeadingView}
use Rattle.boards.specs.Labels.{IsLabel}
use Rattle.boards.specs.declared.format.Format.{Format}
use Rattle.boards.specs.declared.format.Format.TheVariants.{Pbn}
use Rattle.boards.specs.Captions.{captions_in}
use Rattle.boards.proofs.Tested.{labels_stay}
use Rattle.jobs.specs.Makings.{CanLabel, HasLabels, heading_of, title_of}
use Rattle.requests.specs.Requests.{Look}

if_given : (given : Option (List ℕ)) → CanLabel Pbn given → IfSome given IsLabel
if_given None can = tt
if_given (Some text) can = can text refl

stays : (format : Format) (given : HeadingView) → CanLabel format given.event → CanLabel format given.site → captions_in format given ≡ given
stays Pbn given event site = labels_stay Pbn given record { event = if_given given.event event; site = if_given given.site site }
stays _ given event site = refl

pub written : (l : Look) → HasLabels l → title_of l ≡ heading_of l
written l labels = stays l.format (heading_of l) labels.event labels.site
