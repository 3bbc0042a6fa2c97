use Rattle.std.proofs.Common.{map}
use Rattle.requests.proofs.Places.{eight_places}
use Rattle.requests.proofs.questions.Texts.of.Goals as goal

pub returns : goal.returns
returns c =
    rw (
      c.text_at.ensures,
      c.text_at-2.ensures,
      c.text_at-3.ensures,
      c.text_at-4.ensures,
      c.text_at-5.ensures,
      c.text_at-6.ensures,
      c.text_at-7.ensures,
      c.text_at-8.ensures,
    )
    (eight_places (map (λ t. t.now) c.args.given.now))
