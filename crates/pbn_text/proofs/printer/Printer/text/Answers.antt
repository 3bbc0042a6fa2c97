use Rattle.std.proofs.Common.{◌∙◌, ap}
use Rattle.std.proofs.lemmas.Slice.{between_is}
use Rattle.pbn_text.proofs.printer.Printer.text.Goals as goal

pub returns : goal.returns
returns c = between_is c.self.inside.buffer c.self.inside.prefix.start c.self.inside.end ∙ ap (λ p. p.text) c.self.view_is
