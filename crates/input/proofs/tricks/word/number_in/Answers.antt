use Rattle.std.proofs.Common.{◌≡◌, ◌∙◌, ◌+◌, ◌++◌, ◌∷◌, [], take, drop, get_or, sym, ap, arith, subst}
use Rattle.std.proofs.lemmas.List.{append-nil, take_all, take_more}
use Rattle.input.specs.NumberTexts.{said}
use Rattle.input.specs.Scans.{HasScanned, list_of}
use Rattle.input.proofs.Pieces.{cut_at}
use Rattle.input.proofs.NumberWords.{says_none, says_number}
use Rattle.input.proofs.tricks.word.number_in.Goals as goal

pub returns-in-Err-clause-says : goal.returns-in-Err-clause-says
returns-in-Err-clause-says c =
    let i = c.loop-byte.byte-index in
    let word = c.args.word.now in
    let so_far = c.loop-byte.invariant.scanned in
    let whole : take i word ++ (get_or word i 0 ∷ (drop (i + 1) word ++ [])) ≡ word = cut_at [] word [] i c.loop-byte-test.true ∙ append-nil word in
    let is = c.in-Err.ensures.refused (take i word) so_far.0 so_far.1 (drop (i + 1) word ++ []) in
    says_none word so_far.0 c.in-Err.refused c.requires (ap said (sym whole) ∙ is)

pub loop-byte-preserved : goal.loop-byte-preserved
loop-byte-preserved c =
    let i = c.loop-byte.byte-index in
    let word = c.args.word.now in
    let so_far = c.loop-byte.invariant.scanned in
    let more : take (i + 1) word ≡ take i word ++ get_or word i 0 ∷ [] = take_more word i 0 c.loop-byte-test.true in
    let scanned = c.in-Ok.ensures.scanned (take i word) so_far.0 so_far.1 in
    let lines = c.in-Ok.ensures.lines in
    let before = c.loop-byte.invariant.lines in
    record {
      scanned = (so_far.0 ++ list_of c.in-Ok.field-0, rw more scanned);
      lines = omega (arith, lines, before);
    }

pub returns-in-Ok-finish-clause-says : goal.returns-in-Ok-finish-clause-says
returns-in-Ok-finish-clause-says c =
    let word = c.args.word.now in
    let so_far = c.loop-byte.invariant.scanned in
    let scanned = subst (λ t. HasScanned c.loop-byte.scanner t so_far.0) (take_all c.loop-byte.byte-index word c.loop-byte-test.false) so_far.1 in
    says_number word so_far.0 c.loop-byte.scanner c.in-Ok-finish.number c.requires scanned (c.in-Ok-finish.ensures.said word so_far.0 scanned)

pub returns-in-Err-finish-clause-says : goal.returns-in-Err-finish-clause-says
returns-in-Err-finish-clause-says c =
    let word = c.args.word.now in
    let so_far = c.loop-byte.invariant.scanned in
    let scanned = subst (λ t. HasScanned c.loop-byte.scanner t so_far.0) (take_all c.loop-byte.byte-index word c.loop-byte-test.false) so_far.1 in
    says_none word so_far.0 c.in-Err-finish.refused c.requires (c.in-Err-finish.ensures.refused word so_far.0 scanned)
