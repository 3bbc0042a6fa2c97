-- What a wish asks for.
use Rattle.std.specs.Prelude.{◌≡◌, ℕ, List, [], ◌∷◌, ◌++◌, IsSomeAnd, None, Ok, Option, Some}
use Rattle.std.specs.Prelude.{decimal, false, length, true}
use Rattle.std.specs.Int.{from_le_bytes}
use Rattle.std.specs.Int.{w32}
use Rattle.std.specs.Io.KnownBytes.{Consumes}
use Rattle.std.specs.List.{flat_map}
use Rattle.cond_lang.specs.Form.{Form}
use Rattle.cond_lang.specs.declared.language.TheConstants.{LANGUAGE}
use Rattle.sinks.specs.Appended.{AppendsAll}
use Rattle.dealrun.specs.Values.{lines}
use Rattle.jobs.specs.Counting.{IsAsked, table_by}
use Rattle.deals_cli.specs.Formats.{text_showing}
use Rattle.deals_cli.specs.Picked.{PicksAs}
use Rattle.deals_cli.specs.Shown.{ShowsUnder}
use Rattle.jobs.specs.Makings.{Means, heading_of, plan_of, title_of}
use Rattle.requests.specs.Requests.{Wish, conditions, count, draw, make}
use Rattle.requests.specs.Lessons.{lessons_text}
use Rattle.requests.specs.Requests.{lessons, no_search, numbers_look, pick, show, stream}
use Rattle.deals_cli.specs.WithTricks.{WritesTold}
use Rattle.statistics.specs.Counting.{Subject}

-- the page of the language, of its parts
abbrev pub language_page : List ℕ
language_page = flat_map (λ part. part.now) LANGUAGE

-- these are the next four bytes of the input
pub record IsDrawn (bytes : List ℕ) (before after : Option (List ℕ)) : Type 0 where
  pub four : length bytes ≡ 4
  pub consumed : Consumes before after bytes

-- the number that they are, the lowest first, and LF
abbrev pub seed_text : List ℕ → List ℕ
seed_text bytes = decimal (from_le_bytes w32 bytes) ++ (10 ∷ [])

-- the text of a wish for which nothing else is done
abbrev pub text_of : Wish → Option (List ℕ)
text_of (stream seed n) = Some (lines seed n)
text_of conditions = Some language_page
text_of (lessons l) = Some (lessons_text l)
text_of _ = None

-- what a wish asks for was appended; `before` and `after` are what the input had to give before
-- and after it
abbrev pub AppendsFrom : Wish → (before after old new : Option (List ℕ)) → Type 0
AppendsFrom (make s l false notices) before after old new =
    (form : Form) × Means s form
    × AppendsAll old new (text_showing l.format l.show (title_of l) (plan_of s l) form)
AppendsFrom (make s l true notices) before after old new =
    (form : Form) × Means s form × WritesTold s l form before after old new
AppendsFrom draw before after old new =
    (bytes : List ℕ) × IsDrawn bytes before after × AppendsAll old new (seed_text bytes)
AppendsFrom (count s questions style notices) before after old new =
    (form : Form) × Means s form
    × ((subject : Subject) × IsAsked s.let_text questions subject
    × AppendsAll old new (table_by style subject (plan_of s numbers_look) form))
AppendsFrom (pick seed hands l tricks hints) before after old new =
    PicksAs {T = Unit {0}} tricks l.format l.show (title_of l) (plan_of (no_search seed hands) l)
    (Ok tt) before after old new
AppendsFrom (show l hints) before after old new =
    (boards : ℕ) × ShowsUnder l.format l.show (heading_of l) (Ok boards) before after old new
AppendsFrom w before after old new = IsSomeAnd (text_of w) (AppendsAll old new)

-- the same without an input
abbrev pub Appends : Wish → (old new : Option (List ℕ)) → Type 0
Appends w old new = AppendsFrom w (Some []) (Some []) old new
