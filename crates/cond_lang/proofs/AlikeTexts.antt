-- A text stays one if a token gives way to another of its kind.
use Rattle.std.proofs.Common.{◌≡◌, List, [], ◌∷◌, ◌++◌, length, refl, ap, ◌∙◌}
use Rattle.cond_lang.specs.declared.classes.Choice.{Choice}
use Rattle.cond_lang.specs.declared.classes.Class.TheVariants.{Suit as AnySuit, Seat as AnySeat}
use Rattle.cond_lang.specs.declared.classes.Params.{Params}
use Rattle.cond_lang.specs.declared.classes.Params.TheVariants.{OfSeat, OfSuit, OfBoth}
use Rattle.cond_lang.specs.declared.scanner.Token.{Token}
use Rattle.cond_lang.specs.declared.scanner.Token.TheVariants.{Open, Close, Comma, Let, Is, Name}
use Rattle.conditions.specs.Form.{Form}
use Rattle.cond_lang.specs.Classes.{unbound, given}
use Rattle.cond_lang.specs.Continuations.{kind_of}
use Rattle.cond_lang.specs.Definitions.{HasParams, no_params, a_seat, a_suit, seat_and_suit, IsBody, a_condition}
use Rattle.cond_lang.specs.Definitions.{a_value, IsDefinition, defines, AreDefinitions, none as no_more, one_more}
use Rattle.cond_lang.specs.Definitions.{defined, Spells}
use Rattle.cond_lang.specs.Faults.{IsViable}
use Rattle.cond_lang.specs.Grammar.{Meaning, Meanings, condition, value}
use Rattle.cond_lang.proofs.AlikeTokens.{Alike, none, more, alike_refl, alike_append, join, moved, same, same_class}
use Rattle.cond_lang.proofs.Alike.{SomeCond, SomeValue, keep_cond, keep_value}
use Rattle.cond_lang.proofs.AlikeTokens.{between, parts, ends_with}
use Rattle.cond_lang.proofs.LikeNames.{LikeMeaning, conditions, values, LikeNames, none as no_names, like_one_more, like_length}
use Rattle.cond_lang.proofs.Scopes.{same_scope}

keep_params : {T U : List Token} {p : Params} → HasParams T p → Alike T U → HasParams U p
keep_params no_params none = no_params
keep_params a_seat (more e0 (more e1 (more e2 none))) =
    moved (λ L. HasParams L OfSeat) (join (same Open refl e0) (join (same_class AnySeat e1) (join (same Close refl e2) refl))) a_seat
keep_params a_suit (more e0 (more e1 (more e2 none))) =
    moved (λ L. HasParams L OfSuit) (join (same Open refl e0) (join (same_class AnySuit e1) (join (same Close refl e2) refl))) a_suit
keep_params seat_and_suit (more e0 (more e1 (more e2 (more e3 (more e4 none))))) =
    moved (λ L. HasParams L OfBoth)
    (join (same Open refl e0) (join (same_class AnySeat e1)
    (join (same Comma refl e2) (join (same_class AnySuit e3) (join (same Close refl e4) refl)))))
    seat_and_suit

abbrev SomeBody : Meanings → Params → List Token → Meaning → Type 0
SomeBody M p U m = (k : Meaning) × IsBody M p U k × LikeMeaning m k

keep_body : {N M : Meanings} {p : Params} {T U : List Token} {m : Meaning} → LikeNames N M → IsBody N p T m → Alike T U → SomeBody M p U m
keep_body {N} {M} {p} {U} l (a_condition {f} h) a =
    let each : (x : Choice) → SomeCond M (given p x) U = λ x. keep_cond (l, same_scope (given p x)) (h x) a in
    (condition p (λ x. (each x).0), a_condition (λ x. (each x).1), conditions)
keep_body {N} {M} {p} {U} l (a_value {f} h) a =
    let each : (x : Choice) → SomeValue M (given p x) U = λ x. keep_value (l, same_scope (given p x)) (h x) a in
    (value p (λ x. (each x).0), a_value (λ x. (each x).1), values)

abbrev SomeDefinition : Meanings → List Token → Meaning → Type 0
SomeDefinition M U m = (k : Meaning) × IsDefinition M U k × LikeMeaning m k

keep_definition : {N M : Meanings} {T U : List Token} {m : Meaning} → LikeNames N M → IsDefinition N T m → Alike T U → SomeDefinition M U m
keep_definition {N} {M} l (defines {P} {T} {p} {m} h b) (more e0 a) =
    let q = parts P (Is ∷ Open ∷ T ++ Close ∷ []) _ a in
    let params = keep_params h q.like_first in
    behind l (same (Name (length N)) refl e0) params b q.is q.like_second
  where
    behind : {y : Token} {U Q R : List Token} → LikeNames N M → y ≡ Name (length N) → HasParams Q p → IsBody N p T m
        → U ≡ Q ++ R → Alike (Is ∷ Open ∷ T ++ Close ∷ []) R → SomeDefinition M (y ∷ U) m
    behind {y} {U} {Q} {R} l is params b cut (more e1 (more {U = S} e2 a)) =
        let r = between T Close [] S a in
        let k = keep_body l b r.like_left in
        let name : y ≡ Name (length M) = is ∙ ap (λ n. Name n) (like_length l) in
        let rest = join (same Is refl e1) (join (same Open refl e2) (ends_with r refl)) in
        (k.0, moved (λ L. IsDefinition M L k.0) (join name (cut ∙ ap (λ R. Q ++ R) rest)) (defines params k.1), k.2)

abbrev SomeDefinitions : Meanings → Meanings → List Token → Type 0
SomeDefinitions M N U = (K : Meanings) × AreDefinitions M U K × LikeNames N K

keep_definitions : {N M K : Meanings} {T U : List Token} → LikeNames N M → AreDefinitions N T K → Alike T U → SomeDefinitions M K U
keep_definitions {M} l no_more none = (M, no_more, l)
keep_definitions {M} {K} l (one_more {D} {T} d ds) (more {U} e a) =
    let q = parts D T U a in
    let k = keep_definition l d q.like_first in
    let ks = keep_definitions (like_one_more l k.2) ds q.like_second in
    (ks.0, moved (λ L. AreDefinitions M L ks.0) (join (same Let refl e) q.is) (one_more k.1 ks.1), ks.2)

keep_text : {T U : List Token} {t : Form} → Spells T t → Alike T U → (u : Form) × Spells U u
keep_text {T} {U} (defined {D} {T = R} d h) a =
    let q = parts D R U a in
    let ds = keep_definitions no_names d q.like_first in
    let k = keep_cond (ds.2, same_scope unbound) h q.like_second in
    (k.0, moved (λ L. Spells L k.0) q.is (defined ds.1 k.1))

-- What goes on to a condition still does with another token of the same kind.
pub viable_like : (T : List Token) (c d : Token) → kind_of c ≡ kind_of d → IsViable (T ++ c ∷ []) → IsViable (T ++ d ∷ [])
viable_like T c d e v =
    let a : Alike ((T ++ c ∷ []) ++ v.0) ((T ++ d ∷ []) ++ v.0) =
    alike_append (alike_append (alike_refl T) (more e none)) (alike_refl v.0) in
    let k = keep_text v.2 a in
    (v.0, k.0, k.1)
