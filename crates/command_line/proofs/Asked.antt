-- What words without a fault ask for.
use Rattle.std.proofs.Common.{◌≡◌, ◌∙◌, Bool, true, false, List, [], ◌∷◌, Option, Some, None, refl, sym, ap, subst}
use Rattle.std.proofs.Common.{inl, inr, codes, option_map, if◌then◌else◌}
use Rattle.std.specs.Prelude.{Box, Err, IsSome}
use Rattle.std.specs.Borrow.{Bor}
use Rattle.std.specs.Box.{box_value}
use Rattle.std.specs.Option.{option_and_then, option_map_or}
use Rattle.clap.specs.Faults.{fault_of, is_simple_and_free}
use Rattle.clap.specs.Kinds.{HasKind, Kinds, or_else}
use Rattle.clap.specs.Simple.{App, HasMatchesOf, argument_words, built, subcommand_of, subcommand_rows, subcommand_rows_of}
use Rattle.clap.specs.Walk.{Row, Text, rows_after}
use Rattle.clap.specs.Words.{found_of, kind_of, rows_of, subcommand_name_of}
use Rattle.clap.specs.declared.error.Error.{Error}
use Rattle.clap.specs.declared.error.kind.ErrorKind.{ErrorKind}
use Rattle.clap.specs.declared.error.kind.ErrorKind.TheVariants.{ArgumentConflict, InvalidValue}
use Rattle.clap.specs.declared.error.kind.ErrorKind.TheVariants.{MissingRequiredArgument, OutOfMemory}
use Rattle.clap.specs.declared.error.kind.ErrorKind.TheVariants.{ValueValidation}
use Rattle.clap.specs.declared.parser.matches.ArgMatches.{ArgMatches}
use Rattle.clap.specs.declared.parser.matches.ArgMatches.TheViews.{out-ArgMatches, out-SubCommand}
use Rattle.clap.specs.declared.parser.matches.SubCommand.{SubCommand}
use Rattle.command_line.specs.Commands.{deals}
use Rattle.command_line.specs.CommandLine.{asked, asks_page, called, called_in, further_kinds}
use Rattle.command_line.specs.options.Search.{has_bad_workers, is_no_lesson}
use Rattle.command_line.specs.options.Questions.{has_extra}
use Rattle.command_line.specs.CommandLine.{has_unknown, kinds_by, kinds_for}
use Rattle.command_line.specs.CommandLine.{lacks_option}
use Rattle.command_line.specs.CommandLine.{read_kinds}
use Rattle.command_line.specs.options.Search.{search_in}
use Rattle.command_line.specs.CommandLine.{subcommand_named, unless_fault, wish_by, wish_in}
use Rattle.requests.specs.Requests.{Wish, conditions}
use Rattle.command_line.specs.declared.subcommands.Dealing.{Dealing}
use Rattle.command_line.specs.declared.subcommands.Subcommand.{Subcommand}
use Rattle.command_line.specs.declared.subcommands.Subcommand.TheVariants.{Deals}
use Rattle.command_line.specs.internal.Asking.{Asks, HasValues}
use Rattle.command_line.specs.Reading.{AreRead}
use Rattle.command_line.proofs.OptionValues.{Reads, each_reads, read_by}
use Rattle.command_line.proofs.Entered.{enters}

-- the words name this subcommand, and its options have their values
pub record Named (words : List Text) : Type 0 where
  pub name : Text
  pub rows : List Row
  pub named : subcommand_of deals words ≡ Some (name, rows)
  pub reads : Reads name rows

pub named : (words : List Text) → fault_of deals words ≡ [] → Named words
named words f =
    let e = enters (built deals) (argument_words deals words) refl refl f in
    record {
      name = e.sub.name;
      rows = rows_after e.sub.rules [] e.rest;
      named = e.entered_it;
      reads = read_by (built deals).subs each_reads e.sub e.is_sub e.word e.rest e.answers e.no_help e.fault;
    }

-- ---- a parse

is_simple : is_simple_and_free deals ≡ true
is_simple = refl

pub no_fault : (app : App) (words : List Text) → app ≡ deals → (is_simple_and_free app ≡ true → fault_of app words ≡ []) → fault_of deals words ≡ []
no_fault app words is h = subst (λ (a : App). (is_simple_and_free a ≡ true → fault_of a words ≡ [])
    → fault_of deals words ≡ []) (sym is) (λ k. k is_simple) h

pub err_kind : (app : App) (words : List Text) (e : Error) → app ≡ deals
    → (is_simple_and_free app ≡ true → HasKind (fault_of app words) e) → asks_page words ≡ false
    → IsSome (asked words)
    → kind_of e ≡ OutOfMemory
unfolding asked
err_kind app words e is h page some =
    go (fault_of deals words) (subst (λ (a : App). (is_simple_and_free a ≡ true → HasKind (fault_of a words) e)
    → HasKind (fault_of deals words) e) (sym is) (λ k. k is_simple) h)
    (subst (λ (b : Bool). IsSome (if b then Some conditions else unless_fault (read_kinds words) (wish_in words))) page some)
  where
    go : (ks : Kinds) → HasKind ks e → IsSome (unless_fault (or_else ks (further_kinds words)) (wish_in words)) → kind_of e ≡ OutOfMemory
    go [] has s = elim has [ inl m ↦ m | inr bad ↦ absurd bad ]
    go (k ∷ ks) has s = let bad : false ≡ true = s in absurd cc

-- the subcommand that a parse met, with its name and what its options were given
pub record Met (sub : Option (Bor Text × Bor ArgMatches)) (name : Text) (rows : List Row) : Type 0 where
  pub pair : Bor Text × Bor ArgMatches
  pub is : sub ≡ Some pair
  pub name_is : pair.0.now ≡ name
  pub rows_are : rows_of (found_of pair.1.now) ≡ rows

name-rows : {Z : Type 0} (o : Option (Box SubCommand Z))
    → option_map (λ b. (out-SubCommand (box_value b)).name.now) o ≡ option_map (λ p. p.0) (subcommand_rows o)
name-rows None = refl
name-rows (Some b) = refl

met_by : (m : ArgMatches) (sub : Option (Bor Text × Bor ArgMatches)) (name : Text) (rows : List Row)
    → option_map (λ q. q.0.now) sub ≡ subcommand_name_of m
    → option_map (λ q. rows_of (found_of q.1.now)) sub ≡ option_map (λ q. q.1) (subcommand_rows_of m)
    → subcommand_rows_of m ≡ Some (name, rows) → Met sub name rows
met_by m sub name rows names all is = go sub refl
  where
    names_are : subcommand_name_of m ≡ Some name
    names_are = name-rows (out-ArgMatches m).subcommand ∙ ap (option_map (λ p. p.0)) is

    go : (o : Option (Bor Text × Bor ArgMatches)) → sub ≡ o → Met sub name rows
    go None e = let bad = rw e at names in absurd cc
    go (Some pair) e =
        let a : Some pair.0.now ≡ Some name = ap (option_map (λ q. q.0.now)) (sym e) ∙ names ∙ names_are in
        let b : Some (rows_of (found_of pair.1.now)) ≡ Some rows =
        ap (option_map (λ q. rows_of (found_of q.1.now))) (sym e) ∙ all ∙ ap (option_map (λ p. p.1)) is in
        record { pair = pair; is = e; name_is = cc; rows_are = cc }

pub met : (app : App) (words : List Text) (m : ArgMatches) (sub : Option (Bor Text × Bor ArgMatches)) (name : Text)
    (rows : List Row) → app ≡ deals → HasMatchesOf app words m
    → option_map (λ q. q.0.now) sub ≡ subcommand_name_of m
    → option_map (λ q. rows_of (found_of q.1.now)) sub ≡ option_map (λ q. q.1) (subcommand_rows_of m)
    → subcommand_of deals words ≡ Some (name, rows) → Met sub name rows
met app words m sub name rows is has names all named =
    let at = subst (λ (a : App). HasMatchesOf a words m) is has in
    met_by m sub name rows names all ((at is_simple).1 ∙ named)

-- ---- the wish

-- the words aren't `deals help conditions`
pub record IsRead (words : List Text) : Type 0 where
  pub no_page : asks_page words ≡ false
  pub no_fault_is : fault_of deals words ≡ []

-- the words name this subcommand, whose options were given this
abbrev Calls : List Text → Subcommand → List Row → Type 0
Calls words c rows = called_in words ≡ Some (c, rows)

by_wish : (words : List Text) (c : Subcommand) (rows : List Row) → IsRead words → Calls words c rows
    → asked words ≡ unless_fault (kinds_by c rows) (Some (wish_by c rows))
unfolding asked
by_wish words c rows read is =
    let f = read.no_fault_is in
    ap (λ (b : Bool). if b then Some conditions else unless_fault (read_kinds words) (wish_in words)) read.no_page
    ∙ ap (λ (k : Kinds). unless_fault (or_else k (further_kinds words)) (wish_in words)) f
    ∙ ap (λ (o : Option (Subcommand × List Row)). unless_fault (option_map_or (λ p. kinds_by p.0 p.1) o []) (option_map (λ p. wish_by p.0 p.1) o)) is

by_kinds : (words : List Text) (c : Subcommand) (rows : List Row) → IsRead words → Calls words c rows → kinds_for words ≡ kinds_by c rows
unfolding kinds_for
by_kinds words c rows read is =
    let f = read.no_fault_is in
    ap (λ (b : Bool). if b then [] else read_kinds words) read.no_page
    ∙ ap (λ (k : Kinds). or_else k (further_kinds words)) f
    ∙ ap (λ (o : Option (Subcommand × List Row)). option_map_or (λ p. kinds_by p.0 p.1) o []) is

asks_by : (words : List Text) (c : Subcommand) (rows : List Row) → IsRead words → Calls words c rows → Asks words c rows
asks_by words c rows read is = record { asked_is = by_wish words c rows read is; kinds_are = by_kinds words c rows read is }

-- the subcommand of this name, what its options were given, and what the words ask for
pub record Chosen (words : List Text) (name : Text) (rows : List Row) : Type 0 where
  pub subcommand : Subcommand
  pub named : subcommand_named name ≡ Some subcommand
  pub values : HasValues subcommand rows
  pub asks : Asks words subcommand rows

abbrev of_pair : List Text → Bor Text × Bor ArgMatches → Type 0
of_pair words p = Chosen words p.0.now (rows_of (found_of p.1.now))

chosen_by : (words : List Text) (name : Text) (rows : List Row) → IsRead words
    → subcommand_of deals words ≡ Some (name, rows) → Reads name rows → Chosen words name rows
chosen_by words name rows f is reads = record {
  subcommand = reads.subcommand;
  named = reads.named;
  values = reads.values;
  asks = asks_by words reads.subcommand rows f calls;
}
  where
    calls : Calls words reads.subcommand rows
    calls =
        ap (λ (o : Option (Text × List Row)). option_and_then called o) is
        ∙ ap (λ (o : Option Subcommand). option_map (λ named. (named, rows)) o) reads.named

from_met : (words : List Text) (sub : Option (Bor Text × Bor ArgMatches)) (p : Bor Text × Bor ArgMatches)
    (name : Text) (rows : List Row) → sub ≡ Some p → Met sub name rows
    → Chosen words name rows → of_pair words p
from_met words sub p name rows is found h =
    let both : Some found.pair ≡ Some p = sym found.is ∙ is in
    let same : found.pair ≡ p = cc in
    let at : Chosen words found.pair.0.now (rows_of (found_of found.pair.1.now)) =
    subst (λ (r : List Row). Chosen words found.pair.0.now r) (sym found.rows_are)
    (subst (λ (n : Text). Chosen words n rows) (sym found.name_is) h) in
    subst (of_pair words) same at

pub chosen : (app : App) (words : List Text) (m : ArgMatches) (sub : Option (Bor Text × Bor ArgMatches))
    (p : Bor Text × Bor ArgMatches) → app ≡ deals → HasMatchesOf app words m
    → (is_simple_and_free app ≡ true → fault_of app words ≡ [])
    → option_map (λ q. q.0.now) sub ≡ subcommand_name_of m
    → option_map (λ q. rows_of (found_of q.1.now)) sub ≡ option_map (λ q. q.1) (subcommand_rows_of m)
    → sub ≡ Some p → asks_page words ≡ false → Chosen words p.0.now (rows_of (found_of p.1.now))
chosen app words m sub p is has none names rows sub_is page =
    let f = no_fault app words is none in
    let n = named words f in
    from_met words sub p n.name n.rows sub_is (met app words m sub n.name n.rows is has names rows n.named)
    (chosen_by words n.name n.rows (record { no_page = page; no_fault_is = f }) n.named n.reads)

-- the kind of an error is one of those that clap may give for the words
has_first : (a b : Kinds) (e : Error) → HasKind a e → HasKind (or_else a b) e
has_first [] b e h = elim h [ inl memory ↦ inl memory | inr bad ↦ absurd bad ]
has_first (k ∷ ks) b e h = h

pub error_kind : (app : App) (words : List Text) (e : Error) → app ≡ deals
    → (is_simple_and_free app ≡ true → HasKind (fault_of app words) e) → asks_page words ≡ false
    → HasKind (kinds_for words) e
unfolding kinds_for
error_kind app words e is h page =
    subst (λ (b : Bool). HasKind (if b then [] else read_kinds words) e) (sym page)
    (has_first (fault_of deals words) (further_kinds words) e
    (subst (λ (a : App). (is_simple_and_free a ≡ true → HasKind (fault_of a words) e)
    → HasKind (fault_of deals words) e) (sym is) (λ k. k is_simple) h))

-- ---- words that clap takes

-- the kinds of fault in words that deal candidates, by what is looked at in turn
abbrev kinds_if : (unknown no_lesson bad_workers lacks extra : Bool) → Kinds
kinds_if unknown no_lesson bad_workers lacks extra =
    if unknown then InvalidValue ∷ []
    else (if no_lesson then InvalidValue ∷ []
    else (if bad_workers then ValueValidation ∷ []
    else (if lacks then MissingRequiredArgument ∷ []
    else (if extra then ArgumentConflict ∷ [] else []))))

pub dealing_kinds_are : {u n w l x : Bool} (d : Dealing) (rows : List Row) → has_unknown (Deals d) rows ≡ u
    → is_no_lesson (codes "lesson") rows ≡ n → has_bad_workers rows ≡ w
    → lacks_option d (search_in rows) rows ≡ l → has_extra rows ≡ x
    → kinds_by (Deals d) rows ≡ kinds_if u n w l x
dealing_kinds_are {u} {n} {w} {l} {x} d rows unknown no_lesson bad_workers lacks extra =
    ap (λ (b : Bool). kinds_if b (is_no_lesson (codes "lesson") rows) (has_bad_workers rows) missing (has_extra rows)) unknown
    ∙ ap (λ (b : Bool). kinds_if u b (has_bad_workers rows) missing (has_extra rows)) no_lesson
    ∙ ap (λ (b : Bool). kinds_if u n b missing (has_extra rows)) bad_workers
    ∙ ap (λ (b : Bool). kinds_if u n w b (has_extra rows)) lacks
    ∙ ap (λ (b : Bool). kinds_if u n w l b) extra
  where
    missing : Bool
    missing = lacks_option d (search_in rows) rows

pub are_read : (words : List Text) (c : Subcommand) (rows : List Row) → Asks words c rows → kinds_by c rows ≡ []
    → asked words ≡ Some (wish_by c rows)
are_read words c rows asks none = asks.asked_is ∙ ap (λ (k : Kinds). unless_fault k (Some (wish_by c rows))) none

pub are_refused : (words : List Text) (c : Subcommand) (rows : List Row) (kind : ErrorKind) (e : Error) → Asks words c rows
    → kinds_by c rows ≡ kind ∷ [] → HasKind (kind ∷ []) e → AreRead words (Err e)
are_refused words c rows kind e asks one has = (not_asked, subst (λ (k : Kinds). HasKind k e) (sym (asks.kinds_are ∙ one)) has)
  where
    nothing : asked words ≡ None
    nothing = asks.asked_is ∙ ap (λ (k : Kinds). unless_fault k (Some (wish_by c rows))) one

    not_asked : IsSome (asked words) → kind_of e ≡ OutOfMemory
    not_asked some = let bad : false ≡ true = subst (λ (o : Option Wish). IsSome o) nothing some in absurd cc

-- ---- the subcommand that was found by its name

pub same_subcommand : {found : Option Subcommand} {named : Option Subcommand} {a b : Subcommand} → named ≡ Some a
    → found ≡ named → found ≡ Some b → a ≡ b
same_subcommand {found} {named} {a} {b} is same got = let both : Some a ≡ Some b = sym is ∙ sym same ∙ got in cc
