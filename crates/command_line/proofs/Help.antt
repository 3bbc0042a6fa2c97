-- A parse without a fault never enters clap's own subcommand `help`.
use Rattle.std.proofs.Common.{◌≡◌, ◌∙◌, Bool, true, false, List, [], ◌∷◌, Option, Some, None, refl, sym, ap, subst, fold, codes, ℕ}
use Rattle.std.specs.Str.{bytes_eq}
use Rattle.clap.specs.Lexer.{long_of, short_of}
use Rattle.clap.specs.Kinds.{or_else}
use Rattle.clap.specs.Walk.{Held, Names, Outcome, Rule, Step, Text, Waiting, Walk, after_flag, after_step}
use Rattle.clap.specs.Walk.{arg_by_index, arg_by_long, bundle, done, idle, long_met, long_or_other, next, plain}
use Rattle.clap.specs.Walk.{plain_word, refused, short_or_plain, subcommand, subcommand_met, subcommand_or_other}
use Rattle.clap.specs.Walk.{to_positional, trailing, value, waits, walked, walked_from, word_met}
use Rattle.clap.specs.Simple.{Shape}
use Rattle.clap.specs.Faults.{other_fault, step_fault, turn_fault, walk_fault, word_fault}
use Rattle.command_line.proofs.Walks.{or_none_first, or_none_second}

-- a walk that stopped, stopped at another name
abbrev pub IsOther : Option (Text × List Text) → Type 0
IsOther None = Unit {0}
IsOther (Some p) = bytes_eq p.0 (codes "help") ≡ false

-- a step that stops at no subcommand
abbrev goes_on : Step → Bool
goes_on (next waiting) = true
goes_on (trailing position) = true
goes_on (subcommand name) = false
goes_on value = true

plain_goes_on : (c : List Rule) (waiting : Waiting) (word : Text) (h : Held) → goes_on (plain_word c waiting word h).1 ≡ true
plain_goes_on c idle word h = refl
plain_goes_on c _ word h = refl

flag_goes_on : (c : List Rule) (waiting : Waiting) (word : Text) (h : Held) (o : Outcome) → goes_on (after_flag c waiting word h o).1 ≡ true
flag_goes_on c waiting word h done = refl
flag_goes_on c waiting word h (waits id) = refl
flag_goes_on c waiting word h plain = plain_goes_on c waiting word h
flag_goes_on c waiting word h refused = plain_goes_on c waiting word h

short_goes_on : (c : List Rule) (waiting : Waiting) (word : Text) (o : Option Text) (h : Held) → goes_on (short_or_plain c waiting word o h).1 ≡ true
short_goes_on c waiting word (Some flags) h = flag_goes_on c waiting word (bundle c flags h).0 (bundle c flags h).1
short_goes_on c waiting word None h = plain_goes_on c waiting word h

long_goes_on : (c : List Rule) (waiting : Waiting) (word : Text) (o : Option (Text × Option Text)) (h : Held)
    → goes_on (long_or_other c waiting word o h).1 ≡ true
long_goes_on c waiting word (Some p) h = flag_goes_on c waiting word (long_met c (arg_by_long c p.0) p.1 h).0 (long_met c (arg_by_long c p.0) p.1 h).1
long_goes_on c waiting word None h = short_goes_on c waiting word (short_of word) h

other_goes_on : (c : List Rule) (waiting : Waiting) (position : ℕ) (word : Text) (h : Held)
    → goes_on (subcommand_or_other c None waiting position word h).1 ≡ true
other_goes_on c waiting position word h = go (bytes_eq word (45 ∷ 45 ∷ [])) refl
  where
    go : (b : Bool) → bytes_eq word (45 ∷ 45 ∷ []) ≡ b → goes_on (subcommand_or_other c None waiting position word h).1 ≡ true
    go true e = rw e refl
    go false e = rw e (long_goes_on c waiting word (long_of word) h)

positional_other : (c : List Rule) (o : Option Rule) (word : Text) (w : Walk) (h : Held) → w.stopped ≡ None
    → IsOther (to_positional c o word w h).stopped
positional_other c None word w h e = rw e tt
positional_other c (Some a) word w h e = tt

step_other : (c : List Rule) (word : Text) (w : Walk) (h : Held) (step : Step) → w.stopped ≡ None
    → goes_on step ≡ true → IsOther (after_step c word w h step).stopped
step_other c word w h (next waiting) e g = rw e tt
step_other c word w h (trailing position) e g = rw e tt
step_other c word w h (subcommand name) e g = absurd cc
step_other c word w h value e g = positional_other c (arg_by_index c w.position) word w h e

named_other : (s : Shape) (name word : Text) (h : Held) → s.disable_help_subcommand ≡ false
    → other_fault s (Some name) word h ≡ [] → bytes_eq name (codes "help") ≡ false
named_other s name word h off f = go (bytes_eq name (codes "help")) refl
  where
    go : (b : Bool) → bytes_eq name (codes "help") ≡ b → b ≡ false
    go false e = refl
    go true e = let bad = rw (e, off) at f in absurd cc

turn_other : (s : Shape) (names : Names) → s.disable_help_subcommand ≡ false → (w : Walk) (word : Text)
    → IsOther w.stopped → turn_fault s names w word ≡ []
    → IsOther (walked s.rules names w word).stopped
unfolding walked
turn_other s names off w word other f = go w.stopped refl
  where
    met : Held × Step
    met = word_met s.rules names w.is_trailing w.waiting w.position word w.held

    -- the step of the word, by what it is
    by_step : (m : Held × Step) → met ≡ m → IsOther (after_step s.rules word w m.0 m.1).stopped
        → IsOther (after_step s.rules word w met.0 met.1).stopped
    by_step m e h = subst (λ (x : Held × Step). IsOther (after_step s.rules word w x.0 x.1).stopped) (sym e) h

    named : (o : Option Text) → subcommand_met names w.waiting word ≡ o → w.is_trailing ≡ false → w.stopped ≡ None
        → other_fault s (subcommand_met names w.waiting word) word w.held ≡ [] → IsOther (after_step s.rules word w met.0 met.1).stopped
    named None e t stopped g =
        by_step (subcommand_or_other s.rules None w.waiting w.position word w.held)
        (ap (λ (b : Bool). word_met s.rules names b w.waiting w.position word w.held) t
        ∙ ap (λ (o : Option Text). subcommand_or_other s.rules o w.waiting w.position word w.held) e)
        (step_other s.rules word w _ _ stopped (other_goes_on s.rules w.waiting w.position word w.held))
    named (Some name) e t stopped g =
        by_step (w.held, subcommand name)
        (ap (λ (b : Bool). word_met s.rules names b w.waiting w.position word w.held) t
        ∙ ap (λ (o : Option Text). subcommand_or_other s.rules o w.waiting w.position word w.held) e)
        (named_other s name word w.held off (subst (λ (o : Option Text). other_fault s o word w.held ≡ []) e g))

    after : (b : Bool) → w.is_trailing ≡ b → w.stopped ≡ None → word_fault s names w.is_trailing w.waiting word w.held ≡ []
        → IsOther (after_step s.rules word w met.0 met.1).stopped
    after true t stopped g =
        by_step (w.held, value) (ap (λ (b : Bool). word_met s.rules names b w.waiting w.position word w.held) t)
        (step_other s.rules word w w.held value stopped refl)
    after false t stopped g =
        named (subcommand_met names w.waiting word) refl t stopped (subst (λ (b : Bool). word_fault s names b w.waiting word w.held ≡ []) t g)

    go : (o : Option (Text × List Text)) → w.stopped ≡ o → IsOther (walked_from s.rules names w.stopped w word).stopped
    go (Some q) e =
        let is : bytes_eq q.0 (codes "help") ≡ false = rw e at other in
        rw e is
    go None e =
        let g : or_else (word_fault s names w.is_trailing w.waiting word w.held) (step_fault s w.position met.0 met.1) ≡ [] = rw e at f in
        subst (λ (x : Option (Text × List Text)). IsOther (walked_from s.rules names x w word).stopped) (sym e)
        (after w.is_trailing refl e (or_none_first _ (step_fault s w.position met.0 met.1) g))

-- where a walk without a fault stopped, it stopped at another name than `help`
pub walk_other : (s : Shape) (names : Names) → s.disable_help_subcommand ≡ false → (w : Walk) (words : List Text)
    → IsOther w.stopped → walk_fault s names w words ≡ []
    → IsOther (fold (walked s.rules names) w words).stopped
unfolding walk_fault
walk_other s names off w [] other f = other
walk_other s names off w (word ∷ words) other f =
    walk_other s names off (walked s.rules names w word) words
    (turn_other s names off w word other (or_none_first (turn_fault s names w word) _ f))
    (or_none_second (turn_fault s names w word) _ f)
