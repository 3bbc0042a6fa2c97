-- What is said of the kinds that may come at a fault.
use Rattle.std.specs.Prelude.{ℕ, zero, suc, Bool, true, false, not, ◌&&◌, ◌||◌, List, [], ◌∷◌, ◌++◌}
use Rattle.std.specs.Prelude.{codes, length, map, slice_index_or, if◌then◌else◌}
use Rattle.std.specs.List.{filter, list_all}
use Rattle.cond_lang.specs.Cut.{measure_word, order_word}
use Rattle.cond_lang.specs.Kinds.{all_kinds}
use Rattle.cond_lang.specs.declared.classes.Class.TheVariants.{Suit, Major, Minor, Other, Seat, NorthSouth, EastWest}
use Rattle.cond_lang.specs.declared.classes.Neighbour.TheVariants.{Partner, Left, Right}
use Rattle.cond_lang.specs.declared.classes.Quantifier.TheVariants.{Any, Every}
use Rattle.cond_lang.specs.declared.words.Kind.{Kind}
use Rattle.cond_lang.specs.declared.words.Kind.TheVariants as kind
use Rattle.sinks.specs.Shown.{shown}
use Rattle.explain_conditions.specs.declared.expected.KindGroup.{KindGroup}
use Rattle.explain_conditions.specs.declared.expected.KindGroup.TheVariants as part
use Rattle.explain_conditions.specs.declared.expected.Term.{Term}
use Rattle.explain_conditions.specs.declared.expected.Term.TheVariants as term

-- ---- which terms

-- the kinds that begin a condition and no value
abbrev pub begins_test : Kind → Bool
begins_test kind.Not = true
begins_test kind.Open = true
begins_test kind.Balanced = true
begins_test kind.Shape = true
begins_test kind.Pattern = true
begins_test (kind.Quantifier k) = true
begins_test kind.Stops = true
begins_test _ = false

-- the kinds that begin a value
abbrev pub begins_value : Kind → Bool
begins_value kind.Number = true
begins_value (kind.Measure m) = true
begins_value kind.Cards = true
begins_value kind.Len = true
begins_value (kind.Ordered o) = true
begins_value _ = false

-- the kinds in three parts
abbrev pub is_in : KindGroup → Kind → Bool
is_in part.Test k = begins_test k
is_in part.Value k = begins_value k
is_in part.Other k = not (begins_test k) && not (begins_value k)

-- all kinds of the list that are in the part may come there
abbrev pub has_all : (Kind → Bool) → KindGroup → List Kind → Bool
has_all can part kinds = list_all (λ k. not (is_in part k) || can k) kinds

-- the kinds of the list that are in the part and may come there, each by itself
abbrev pub each : (Kind → Bool) → KindGroup → List Kind → List Term
each can part kinds = map term.One (filter (λ k. is_in part k && can k) kinds)

-- the kinds that begin a value, as one term if all of them may come there
abbrev pub value_terms : (Kind → Bool) → List Term
value_terms can =
    if has_all can part.Value all_kinds then term.Value ∷ [] else each can part.Value all_kinds

-- the kinds that begin a condition, as one term if all of them may come there
abbrev pub first_terms : (Kind → Bool) → List Term
first_terms can =
    if has_all can part.Test all_kinds && has_all can part.Value all_kinds then term.Condition ∷ []
    else each can part.Test all_kinds ++ value_terms can

-- the names that may come there, of those from the number n on
abbrev pub names_from : (Kind → Bool) → ℕ → List (List ℕ) → List Term
names_from can n [] = []
names_from can n (name ∷ more) =
    (if can (kind.Name n) then term.One (kind.Name n) ∷ [] else []) ++ names_from can (suc n) more

-- those of the kinds that stand for values, or those that don't
abbrev pub wanted : Bool → (Kind → Bool) → (Kind → Bool) → Kind → Bool
wanted of_values is_value can k =
    can k && (if of_values then is_value k else not (is_value k))

-- the names of values that may come there, or those of conditions
abbrev pub names_that : Bool → (Kind → Bool) → (Kind → Bool) → List (List ℕ) → List Term
names_that of_values is_value can names = names_from (wanted of_values is_value can) 0 names

-- the terms for the kinds that may come there, and for the text's names, those of conditions first;
-- after `let` only a new name may
unfoldable pub terms : Bool → List (List ℕ) → (Kind → Bool) → (Kind → Bool) → List Term
terms is_new names is_value can =
    if is_new then term.NewName ∷ []
    else first_terms can ++ names_that false is_value can names
    ++ names_that true is_value can names ++ each can part.Other all_kinds

-- ---- how they are written

-- the text of a kind, or what describes it
abbrev pub kind_name : Kind → List ℕ
kind_name kind.Let = codes "let"
kind_name kind.Not = codes "not"
kind_name kind.Open = codes "("
kind_name kind.Balanced = codes "balanced"
kind_name kind.Shape = codes "shape"
kind_name kind.Pattern = codes "pattern"
kind_name (kind.Quantifier Any) = codes "any"
kind_name (kind.Quantifier Every) = codes "every"
kind_name kind.Stops = codes "stops"
kind_name kind.Number = codes "a number"
kind_name (kind.Measure m) = measure_word m
kind_name kind.Cards = codes "cards"
kind_name kind.Len = codes "len"
kind_name (kind.Ordered o) = order_word o
kind_name kind.Plus = codes "+"
kind_name kind.Star = codes "*"
kind_name kind.Relation = codes "a comparison such as >="
kind_name kind.In = codes "in"
kind_name kind.Dash = codes "-"
kind_name kind.X = codes "x"
kind_name kind.Comma = codes ","
kind_name kind.Seat = codes "a seat"
kind_name (kind.Class Seat) = codes "seat"
kind_name (kind.Class NorthSouth) = codes "ns"
kind_name (kind.Class EastWest) = codes "ew"
kind_name (kind.Neighbour Partner) = codes "partner"
kind_name (kind.Neighbour Left) = codes "left"
kind_name (kind.Neighbour Right) = codes "right"
kind_name kind.Suit = codes "a suit"
kind_name (kind.Class Suit) = codes "suit"
kind_name (kind.Class Major) = codes "major"
kind_name (kind.Class Minor) = codes "minor"
kind_name (kind.Class Other) = codes "other"
kind_name kind.Ranks = codes "ranks such as akq"
kind_name (kind.Name n) = []
kind_name kind.Is = codes "is"
kind_name kind.Close = codes ")"
kind_name kind.And = codes "and"
kind_name kind.Or = codes "or"
kind_name kind.End = codes "the end"

-- a kind is described if several texts are of it, or none
abbrev pub is_described : Kind → Bool
is_described kind.Number = true
is_described kind.Relation = true
is_described kind.Seat = true
is_described kind.Suit = true
is_described kind.Ranks = true
is_described kind.End = true
is_described _ = false

abbrev pub quoted : List ℕ → List ℕ
quoted text = codes "\"" ++ text ++ codes "\""

-- a text is named in quotes, and one of the text's names by its letters
abbrev pub kind_text : List (List ℕ) → Kind → List ℕ
kind_text names (kind.Name n) = quoted (map shown (slice_index_or names n []))
kind_text names k = if is_described k then kind_name k else quoted (kind_name k)

abbrev pub term_text : List (List ℕ) → Term → List ℕ
term_text names term.Condition = codes "a condition such as balanced(north)"
term_text names term.Value = codes "a value such as hcp(north)"
term_text names term.NewName = codes "a new name"
term_text names (term.One k) = kind_text names k

-- what comes after a term with this many more to come
abbrev pub separator : ℕ → List ℕ
separator zero = []
separator (suc zero) = codes " or "
separator (suc (suc more)) = codes ", "

-- the terms, with commas and `or` between them
abbrev pub joined : List (List ℕ) → List Term → List ℕ
joined names [] = []
joined names (t ∷ more) = term_text names t ++ separator (length more) ++ joined names more

-- the line that says what may come there, for the set of the kinds that can, in a text with these
-- names, some of which stand for values
abbrev pub expected_line : Bool → List (List ℕ) → (Kind → Bool) → (Kind → Bool) → List ℕ
expected_line is_new names is_value can =
    codes "  expected " ++ joined names (terms is_new names is_value can) ++ codes "\n"
