-- The options of each subcommand as built, and what a parse without a fault says of their values.
use Rattle.std.proofs.Common.{◌≡◌, ◌⊎◌, ◌≤◌, ℕ, Bool, true, false, List, [], ◌∷◌, Option, Some, None, refl, sym, subst, inl, inr, codes, lit≤}
use Rattle.std.specs.Str.{bytes_eq}
use Rattle.std.proofs.lemmas.Slice.Eq.{bytes_eq-Decides}
use Rattle.clap.specs.Simple.{Shape, built, filled, label_of, new_shape}
use Rattle.clap.specs.Faults.{level_fault}
use Rattle.clap.specs.Walk.{Row, Rule, Text, answers_to, arg_by_id, nothing_held, one_of, rows_after}
use Rattle.clap.specs.declared.builder.value_parser.ValueParser.{ValueParser}
use Rattle.clap.specs.declared.builder.value_parser.ValueParser.TheVariants.{Unsigned}
use Rattle.clap.proofs.ValueTestLemmas.{accepts-Accepts}
use Rattle.command_line.specs.Rules.{count_parser, option_rule, required, u32_parser}
use Rattle.command_line.specs.Commands.{deals}
use Rattle.command_line.specs.CommandLine.{subcommand_named}
use Rattle.command_line.specs.declared.subcommands.Dealing.{Dealing}
use Rattle.command_line.specs.declared.subcommands.Dealing.TheVariants.{Count, Find, Make, Pick}
use Rattle.command_line.specs.declared.subcommands.Subcommand.{Subcommand}
use Rattle.command_line.specs.declared.subcommands.Subcommand.TheVariants.{Conditions, Deals, Lessons, Seed, Show, Stream}
use Rattle.command_line.specs.internal.Asking.{HasValues}
use Rattle.command_line.specs.internal.Readings.{Gives32, GivesUpTo, HasValue, DealingValues, MayGive32, MayGive64, StreamValues}
use Rattle.command_line.proofs.Entered.{IsSub}
use Rattle.command_line.proofs.Plain.{plain_of}
use Rattle.command_line.proofs.Walks.{IsIn, Passing, PlainRules, level_checked}
use Rattle.command_line.proofs.WalkValues.{absent_value, given_value}
use Rattle.command_line.proofs.Walks.{level_passing, required_given}
use Rattle.command_line.proofs.WalkValues.{passed_value}

abbrev first_shape : List Shape → Shape
first_shape [] = new_shape []
first_shape (s ∷ shapes) = s

abbrev rest_of : List Shape → List Shape
rest_of [] = []
rest_of (s ∷ shapes) = shapes

-- the subcommands and clap's `help` as built
abbrev make_built : Shape
make_built = first_shape (built deals).subs

abbrev find_built : Shape
find_built = first_shape (rest_of (built deals).subs)

abbrev count_built : Shape
count_built = first_shape (rest_of (rest_of (built deals).subs))

abbrev pick_built : Shape
pick_built = first_shape (rest_of (rest_of (rest_of (built deals).subs)))

-- those after it
abbrev later_built : List Shape
later_built = rest_of (rest_of (rest_of (rest_of (built deals).subs)))

abbrev show_built : Shape
show_built = first_shape later_built

abbrev conditions_built : Shape
conditions_built = first_shape (rest_of later_built)

abbrev lessons_built : Shape
lessons_built = first_shape (rest_of (rest_of later_built))

abbrev draw_built : Shape
draw_built = first_shape (rest_of (rest_of (rest_of later_built)))

abbrev stream_built : Shape
stream_built = first_shape (rest_of (rest_of (rest_of (rest_of later_built))))

abbrev help_built : Shape
help_built = first_shape (rest_of (rest_of (rest_of (rest_of (rest_of later_built)))))

-- ---- numbers

-- the option as built, by its letter and its name
abbrev rule32 : Option ℕ → Text → Rule
rule32 letter id = record (filled (option_rule id u32_parser)) { short = letter }

abbrev rule64 : ℕ → Text → Rule
rule64 most id = filled (option_rule id (Unsigned 0 most))

abbrev any64 : Text → Rule
any64 = rule64 18446744073709551615

gives32 : (letter : Option ℕ) (id : Text) (rows : List Row) → HasValue (rule32 letter id) rows → Gives32 id rows
gives32 letter id rows v = record {
  text = v.text;
  read = v.read;
  passed = accepts-Accepts false u32_parser v.text v.passed;
}

gives_up_to : (most : ℕ) → most ≤ 18446744073709551615 → (id : Text) (rows : List Row) → HasValue (rule64 most id) rows → GivesUpTo most id rows
gives_up_to most fits id rows v = record {
  text = v.text;
  read = v.read;
  passed = accepts-Accepts false (Unsigned 0 most) v.text v.passed;
  fits = fits;
}

-- the command has this option, or none of its name
abbrev MayHave : List Rule → Rule → Type 0
MayHave c a = (arg_by_id c a.id ≡ Some a) ⊎ (arg_by_id c a.id ≡ None)

may_have_value : (c : List Rule) (rows : List Row) (a : Rule) → MayHave c a → Passing c rows → (one_of a.id rows ≡ None) ⊎ HasValue a rows
may_have_value c rows a (inl own) pass = passed_value c rows a own pass
may_have_value c rows a (inr none) pass = inl (absent_value c rows a.id none pass)

may32 : (c : List Rule) (rows : List Row) (letter : Option ℕ) (id : Text) → MayHave c (rule32 letter id) → Passing c rows → MayGive32 id rows
may32 c rows letter id has pass = elim (may_have_value c rows (rule32 letter id) has pass)
    [ inl none ↦ inl none | inr v ↦ inr (gives32 letter id rows v) ]

may64 : (c : List Rule) (rows : List Row) (id : Text) → MayHave c (any64 id) → Passing c rows → MayGive64 id rows
may64 c rows id has pass = elim (may_have_value c rows (any64 id) has pass)
    [ inl none ↦ inl none | inr v ↦ inr (gives_up_to 18446744073709551615 (lit≤ tt) id rows v) ]

-- a required option as built
abbrev built_with : Option ℕ → ValueParser → Text → Rule
built_with letter parser id = record (filled (required (option_rule id parser))) { short = letter }

-- has a value
required_value : (s : Shape) → PlainRules s.rules → s.subcommand_negates_reqs ≡ false
    → (letter : Option ℕ) (parser : ValueParser) (id : Text) → IsIn (built_with letter parser id) s.rules
    → (words : List Text) → level_fault s [] nothing_held words false [] ≡ []
    → HasValue (filled (option_rule id parser)) (rows_after s.rules [] words)
required_value s plain negates letter parser id is words f =
    let rule = built_with letter parser id in
    let rows = rows_after s.rules [] words in
    let given = required_given s rows false rule is negates refl (level_checked s [] words false [] f) in
    let v = given_value s.rules rows rule (plain.own rule is) (level_passing s [] words false [] plain f) given in
    record { text = v.text; read = v.read; passed = v.passed }

-- `-s`, `--seed`
abbrev seed_built : Rule
seed_built = built_with (Some 115) u32_parser (codes "seed")

-- ---- the subcommands with options

stream_values : (words : List Text) → level_fault stream_built [] nothing_held words false [] ≡ []
    → StreamValues (rows_after stream_built.rules [] words)
stream_values words f =
    let value = required_value stream_built (plain_of stream_built.rules refl) refl in
    record {
      seed = gives32 None (codes "seed") _ (value (Some 115) u32_parser (codes "seed") (inl refl) words f);
      count = gives_up_to 1099511627776 (lit≤ tt) (codes "count") _ (value None count_parser (codes "count") (inr (inl refl)) words f);
    }

-- which options of numbers a command has
abbrev Numbers : List Rule → Type 0
Numbers c =
    MayHave c (any64 (codes "candidates")) × MayHave c (any64 (codes "first"))
    × MayHave c (rule32 None (codes "lane")) × MayHave c (rule32 (Some 110) (codes "boards")) × MayHave c (any64 (codes "first-board"))

-- a command that requires a seed, and may have the other numbers
deal_values : (s : Shape) → PlainRules s.rules → s.subcommand_negates_reqs ≡ false → IsIn seed_built s.rules → Numbers s.rules
    → (words : List Text) → level_fault s [] nothing_held words false [] ≡ [] → DealingValues (rows_after s.rules [] words)
deal_values s plain negates seed (candidates, first, lane, boards, first_board) words f =
    let rows = rows_after s.rules [] words in
    let pass = level_passing s [] words false [] plain f in
    record {
      search = record {
        seed = gives32 None (codes "seed") rows (required_value s plain negates (Some 115) u32_parser (codes "seed") seed words f);
        candidates = may64 s.rules rows (codes "candidates") candidates pass;
        first = may64 s.rules rows (codes "first") first pass;
        lane = may32 s.rules rows None (codes "lane") lane pass;
        boards = may32 s.rules rows (Some 110) (codes "boards") boards pass;
      };
      first_board = may64 s.rules rows (codes "first-board") first_board pass;
    }

-- ---- what each subcommand reads

-- the subcommand is one of the table, and its options have the values that are read of them
pub record Reads (name : Text) (rows : List Row) : Type 0 where
  pub subcommand : Subcommand
  pub named : subcommand_named name ≡ Some subcommand
  pub values : HasValues subcommand rows

-- so it is with this one where its words have no fault
abbrev ReadsBy : Shape → Type 0
ReadsBy s = (word : Text) (rest : List Text) → answers_to word (label_of s) ≡ true → bytes_eq word (codes "help") ≡ false
    → level_fault s [] nothing_held rest false [] ≡ [] → Reads s.name (rows_after s.rules [] rest)

deals_by : (s : Shape) (dealing : Dealing) → subcommand_named s.name ≡ Some (Deals dealing) → PlainRules s.rules
    → s.subcommand_negates_reqs ≡ false → IsIn seed_built s.rules
    → Numbers s.rules → ReadsBy s
deals_by s dealing is plain negates seed numbers word rest answers other f =
    record { subcommand = Deals dealing; named = is; values = deal_values s plain negates seed numbers rest f }

-- one whose options have no numbers
reads_no_number : (s : Shape) (subcommand : Subcommand) → subcommand_named s.name ≡ Some subcommand
    → ((rows : List Row) → HasValues subcommand rows) → ReadsBy s
reads_no_number s subcommand is none word rest answers other f = record { subcommand = subcommand; named = is; values = none _ }

-- clap's `help` is no subcommand of words without a fault
no_help : (word : Text) → answers_to word (codes "help", []) ≡ true → bytes_eq word (codes "help") ≡ false → ⊥
no_help word answers other = go (bytes_eq (codes "help") word) refl
  where
    go : (b : Bool) → bytes_eq (codes "help") word ≡ b → ⊥
    go true e =
        let is : codes "help" ≡ word = (bytes_eq-Decides (codes "help") word).0 e in
        let bad : true ≡ false = subst (λ (w : Text). bytes_eq w (codes "help") ≡ false) (sym is) other in
        cc
    go false e = let bad : false ≡ true = rw e at answers in cc

abbrev EachReads : List Shape → Type 0
EachReads [] = Unit {0}
EachReads (s ∷ shapes) = ReadsBy s × EachReads shapes

pub read_by : (shapes : List Shape) → EachReads shapes → (s : Shape) → IsSub s shapes → ReadsBy s
read_by [] each s bad = absurd bad
read_by (x ∷ shapes) (first, rest) s (inl same) = subst ReadsBy (sym same) first
read_by (x ∷ shapes) (first, rest) s (inr later) = read_by shapes rest s later

-- the subcommands, and clap's `help`. `find` and `count` have no option of the first board, and `pick` none of which candidates are
-- tried, nor of how
make_reads : ReadsBy make_built
make_reads = deals_by make_built Make refl (plain_of make_built.rules refl) refl (inl refl) (inl refl, inl refl, inl refl, inl refl, inl refl)

find_reads : ReadsBy find_built
find_reads = deals_by find_built Find refl (plain_of find_built.rules refl) refl (inl refl) (inl refl, inl refl, inl refl, inl refl, inr refl)

count_reads : ReadsBy count_built
count_reads = deals_by count_built Count refl (plain_of count_built.rules refl) refl (inl refl) (inl refl, inl refl, inl refl, inl refl, inr refl)

pick_reads : ReadsBy pick_built
pick_reads = deals_by pick_built Pick refl (plain_of pick_built.rules refl) refl (inl refl) (inr refl, inr refl, inr refl, inr refl, inl refl)

show_reads : ReadsBy show_built
show_reads = reads_no_number show_built Show refl (λ rows. tt)

conditions_reads : ReadsBy conditions_built
conditions_reads = reads_no_number conditions_built Conditions refl (λ rows. tt)

lessons_reads : ReadsBy lessons_built
lessons_reads = reads_no_number lessons_built Lessons refl (λ rows. tt)

draw_reads : ReadsBy draw_built
draw_reads = reads_no_number draw_built Seed refl (λ rows. tt)

stream_reads : ReadsBy stream_built
stream_reads word rest answers other f = record { subcommand = Stream; named = refl; values = stream_values rest f }

help_reads : ReadsBy help_built
help_reads word rest answers other f = absurd (no_help word answers other)

-- in the order in which they stand
pub each_reads : EachReads (built deals).subs
each_reads = (
  make_reads,
  (
    find_reads,
    (
      count_reads,
      (
        pick_reads,
        (show_reads, (conditions_reads, (lessons_reads, (draw_reads, (stream_reads, (help_reads, tt)))))),
      ),
    ),
  ),
)
