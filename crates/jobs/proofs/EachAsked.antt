-- Several texts, each of which asks its question.
use Rattle.std.proofs.Common.{◌≡◌, ◌+◌, ◌<◌, ◌++◌, ◌∷◌, ◌∙◌, ℕ, List, [], Option, None, Some, get_or, inl, inr}
use Rattle.std.proofs.Common.{length, take, drop, refl, sym, ap, ap₂, append_assoc}
use Rattle.std.specs.Prelude.{option_to_list}
use Rattle.std.specs.List.{flat_map}
use Rattle.std.proofs.lemmas.List.{append-nil, take-append-drop, take_more}
use Rattle.std.proofs.lemmas.Grind.{flat_map-append}
use Rattle.conditions.specs.declared.error.CondError.{CondError}
use Rattle.statistics.specs.Counting.{TitledQuestion}
use Rattle.jobs.specs.Counting.{AskEach, IsQuestion}
use Rattle.jobs.specs.FirstRefusal.{IsFirstDue, IsQuestionDue}

-- one text more
pub ask_push : (D : Option (List ℕ)) (texts : List (List ℕ)) (asked : List TitledQuestion) (text : List ℕ) (a : TitledQuestion)
    → AskEach D texts asked → IsQuestion D text a → AskEach D (texts ++ text ∷ []) (asked ++ a ∷ [])
ask_push D [] [] text a each q = (q, tt)
ask_push D [] (b ∷ asked) text a each q = absurd each
ask_push D (t ∷ texts) [] text a each q = absurd each
ask_push D (t ∷ texts) (b ∷ asked) text a each q = (each.0, ask_push D texts asked text a each.1 q)

pub only_push : (D : Option (List ℕ)) (texts : List (List ℕ)) (asked : List TitledQuestion) (text : List ℕ) (a : TitledQuestion)
    → ((b : List TitledQuestion) → AskEach D texts b → b ≡ asked) → ((b : TitledQuestion) → IsQuestion D text b → b ≡ a)
    → (b : List TitledQuestion) → AskEach D (texts ++ text ∷ []) b → b ≡ asked ++ a ∷ []
only_push D texts asked text a only one b each =
    let parts = split D texts text b each in
    parts.2 ∙ ap₂ (λ (x : List TitledQuestion) (y : TitledQuestion). x ++ y ∷ []) (only parts.0 parts.3) (one parts.1 parts.4)
  where
    split : (D : Option (List ℕ)) (texts : List (List ℕ)) (text : List ℕ) (b : List TitledQuestion) → AskEach D (texts ++ text ∷ []) b
        → (x : List TitledQuestion) × (y : TitledQuestion) × (b ≡ x ++ y ∷ []) × AskEach D texts x × IsQuestion D text y
    split D [] text [] each = absurd each
    split D [] text (c ∷ []) each = ([], c, refl, tt, each.0)
    split D [] text (c ∷ d ∷ b) each = absurd each.1
    split D (t ∷ texts) text [] each = absurd each
    split D (t ∷ texts) text (c ∷ b) each =
        let rest = split D texts text b each.1 in
        (c ∷ rest.0, rest.1, ap (λ (x : List TitledQuestion). c ∷ x) rest.2, (each.0, rest.3), rest.4)

-- a text among others
pub due_after : (D : Option (List ℕ)) (texts : List (List ℕ)) (asked : List TitledQuestion) (text : List ℕ)
    (rest : List (List ℕ)) (error : CondError) → AskEach D texts asked → IsQuestionDue D text error
    → IsFirstDue D (texts ++ text ∷ rest) error
due_after D [] asked text rest error each due = inl due
due_after D (t ∷ texts) [] text rest error each due = absurd each
due_after D (t ∷ texts) (a ∷ asked) text rest error each due = inr ((a, each.0), due_after D texts asked text rest error each.1 due)

pub question_in : (D : Option (List ℕ)) (texts : List (List ℕ)) (text : List ℕ) (rest : List (List ℕ))
    (b : List TitledQuestion) → AskEach D (texts ++ text ∷ rest) b → (a : TitledQuestion) × IsQuestion D text a
question_in D [] text rest [] each = absurd each
question_in D [] text rest (a ∷ b) each = (a, each.0)
question_in D (t ∷ texts) text rest [] each = absurd each
question_in D (t ∷ texts) text rest (a ∷ b) each = question_in D texts text rest b each.1

-- the texts in the places before one
abbrev pub texts_before : ℕ → List (Option (List ℕ)) → List (List ℕ)
texts_before n places = flat_map option_to_list (take n places)

pub next_place : (n : ℕ) (places : List (Option (List ℕ))) → n < length places
    → texts_before (n + 1) places ≡ texts_before n places ++ option_to_list (get_or places n None)
next_place n places lt =
    ap (flat_map option_to_list) (take_more places n None lt) ∙ flat_map-append option_to_list (take n places) (get_or places n None ∷ [])
    ∙ ap (λ (l : List (List ℕ)). texts_before n places ++ l) (append-nil (option_to_list (get_or places n None)))

abbrev pub texts_after : ℕ → List (Option (List ℕ)) → List (List ℕ)
texts_after n places = flat_map option_to_list (drop (n + 1) places)

pub around : (n : ℕ) (places : List (Option (List ℕ))) (text : List ℕ) → n < length places → get_or places n None ≡ Some text
    → flat_map option_to_list places ≡ texts_before n places ++ text ∷ texts_after n places
around n places text lt is =
    ap (flat_map option_to_list) (sym (take-append-drop (n + 1) places)) ∙ flat_map-append option_to_list (take (n + 1) places) (drop (n + 1) places)
    ∙ ap (λ (l : List (List ℕ)). l ++ texts_after n places)
    (next_place n places lt ∙ ap (λ (o : Option (List ℕ)). texts_before n places ++ option_to_list o) is)
    ∙ append_assoc (texts_before n places) (text ∷ []) (texts_after n places)
