use Rattle.std.proofs.Common.{◌≡◌, [], get_or, sym, subst, ◌∙◌, ap, length, arith, vec_len, rules}
use Rattle.std.proofs.lemmas.List.{get_or_read_under}
use Rattle.boards.specs.internal.Sets.{IsEntry}
use Rattle.boards.proofs.buffer.SuitLetters.entry.Goals as goal

pub returns : goal.returns
returns c =
    let entries = c.args.self.now.entries.items in
    let long : vec_len c.args.self.now.entries ≡ length entries = search rules in
    let at : c.index.result.now ≡ get_or entries c.args.set c.index.result.now = c.index.ensures
    ∙ ap (λ i. get_or entries i c.index.result.now) c.from.ensures in
    subst (IsEntry c.args.set) (sym (get_or_read_under entries c.args.set (vec_len c.args.self.now.entries)
    c.index.result.now [] at (omega arith) long)) (c.args.self.now.table c.args.set c.requires)
