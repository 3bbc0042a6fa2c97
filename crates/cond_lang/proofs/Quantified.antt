-- A condition that is read once for each suit or seat of a class: it passes the same tokens each
-- time, and so each of them gives its tree.
use Rattle.std.proofs.Common.{◌≡◌, List, [], ◌∷◌, ◌++◌, None, refl, sym, ap, ◌∙◌, subst}
use Rattle.std.specs.Prelude.{fold}
use Rattle.std.proofs.lemmas.List.{append_cancel_right}
use Rattle.cond_lang.specs.declared.classes.Bound.{Bound}
use Rattle.cond_lang.specs.declared.classes.Choice.{Choice}
use Rattle.cond_lang.specs.declared.classes.Class.{Class as AClass}
use Rattle.cond_lang.specs.declared.classes.Quantifier.{Quantifier as AQuantifier}
use Rattle.cond_lang.specs.declared.scanner.Token.{Token}
use Rattle.conditions.specs.Form.{Form}
use Rattle.cond_lang.specs.Classes.{bind, all_choices, members}
use Rattle.cond_lang.specs.Grammar.{Meanings, joined, SpellsCond, SpellsEach, none, one_more}
use Rattle.cond_lang.specs.internal.Reading.{Outcome, got, stuck, Reader, front, Readers, a_cond, each_by}
use Rattle.cond_lang.proofs.Sequences.{Reads}
use Rattle.cond_lang.proofs.Scopes.{SameScope, first, bind_same, same_scope, members_some}
use Rattle.cond_lang.proofs.Members.{ReadsEach, each_got, each_stuck}
use Rattle.cond_lang.proofs.Shapes.{shape, shape_got, shape_stuck}
use Rattle.cond_lang.proofs.Alike.{some_each, spelled_with}

-- the tokens spell a tree with each member of the class, and t joins these
abbrev pub AreEach : Meanings → Bound → AQuantifier → AClass → List Token → Form → Type 0
AreEach N E k c P t = (u : Form) × (more : List Form) × SpellsEach N E c (members E c) P (u ∷ more) × (t ≡ fold (joined k) u more)

-- what is spelled with one member of the class is spelled with each
pub each_spelled : (N : Meanings) (E : Bound) (k : AQuantifier) (c : AClass) (s : Choice) (T : List Token) (t : Form)
    → SpellsCond N (bind E c s) T t → (u : Form) × AreEach N E k c T u
each_spelled N E k c s T t h =
    let each = some_each N E c T (λ u. spelled_with (bind_same (same_scope E) c s u) h) in
    (fold (joined k) each.0 each.1, (each.0, each.1, each.2, refl))

-- the reader of the condition with each member
abbrev pub each_reader : Readers → Bound → AQuantifier → AClass → Reader Form
each_reader r E k c S = each_by r E k c S all_choices None S

module _ (N : Meanings) (r : Readers) (reads : (E : Bound) (S : List Token) → Reads (SpellsCond N E) (r E a_cond) S (r E a_cond S))
    (alike : (E F : Bound) → SameScope E F → (S : List Token) → shape (r E a_cond S) ≡ shape (r F a_cond S))
    (E : Bound) (k : AQuantifier) (c : AClass) where
  -- as with the first
  as_first : (s : Choice) (S : List Token) → shape (r (bind E c s) a_cond S) ≡ shape (r (bind E c first) a_cond S)
  as_first s S = alike (bind E c s) (bind E c first) (bind_same (same_scope E) c s first) S

  stuck_with_each : (S R : List Token) → r (bind E c first) a_cond S ≡ stuck R → each_reader r E k c S ≡ stuck R
  stuck_with_each S R e = each_stuck r E k c S R (λ s. shape_stuck (r (bind E c s) a_cond S) R (as_first s S ∙ ap shape e))

  reads_stuck : (S R : List Token) → Reads (SpellsCond N (bind E c first)) (r (bind E c first) a_cond) S (stuck R)
      → r (bind E c first) a_cond S ≡ stuck R
      → Reads (AreEach N E k c) (each_reader r E k c) S (each_reader r E k c S)
  reads_stuck S R h e =
      let m = h.right in
      let u = each_spelled N E k c first (h.done ++ m.0) m.1 m.2 in
      subst (λ o. Reads (AreEach N E k c) (each_reader r E k c) S o) (sym (stuck_with_each S R e))
      (record {
        done = h.done;
        cut = h.cut;
        same = λ X i. stuck_with_each (h.done ++ X) X (h.same X i);
        right = (m.0, u.0, u.1);
      })

  -- the tree with one choice, which is read from the tokens D, whatever follows with R's front
  record TreeOf (D R : List Token) (s : Choice) : Type 0 where
    tree : Form
    spelled : SpellsCond N (bind E c s) D tree
    read : (X : List Token) → front X ≡ front R → r (bind E c s) a_cond (D ++ X) ≡ got tree X

  tree_of : (D R : List Token) → shape (r (bind E c first) a_cond (D ++ R)) ≡ got tt R → (s : Choice) → TreeOf D R s
  tree_of D R e s =
      let t = shape_got (r (bind E c s) a_cond (D ++ R)) R (as_first s (D ++ R) ∙ e) in
      let h : Reads (SpellsCond N (bind E c s)) (r (bind E c s) a_cond) (D ++ R) (got t.0 R) =
      subst (λ o. Reads (SpellsCond N (bind E c s)) (r (bind E c s) a_cond) (D ++ R) o) t.1 (reads (bind E c s) (D ++ R)) in
      let same : D ≡ h.done = append_cancel_right D h.done R h.cut in
      record {
        tree = t.0;
        spelled = subst (λ L. SpellsCond N (bind E c s) L t.0) (sym same) h.right;
        read = λ X i. ap (λ L. r (bind E c s) a_cond (L ++ X)) same ∙ h.same X i;
      }

  trees_of :
      (D R : List Token) → ((s : Choice) → TreeOf D R s) → (ss : List Choice)
      → (ts : List Form) × SpellsEach N E c ss D ts × ((X : List Token) → front X ≡ front R → ReadsEach r E c (D ++ X) X ss ts)
  trees_of D R f [] = ([], none, λ X i. tt)
  trees_of D R f (s ∷ ss) =
      let t = f s in
      let ts = trees_of D R f ss in
      (t.tree ∷ ts.0, one_more t.spelled ts.1, λ X i. (t.read X i, ts.2 X i))

  reads_got : (D R : List Token) → shape (r (bind E c first) a_cond (D ++ R)) ≡ got tt R
      → Reads (AreEach N E k c) (each_reader r E k c) (D ++ R) (each_reader r E k c (D ++ R))
  reads_got D R e =
      let m = members_some E c in
      let f = tree_of D R e in
      let t = f m.0 in
      let ts = trees_of D R f m.1 in
      let all : (X : List Token) → front X ≡ front R → ReadsEach r E c (D ++ X) X (members E c) (t.tree ∷ ts.0) =
      λ X i. subst (λ ss. ReadsEach r E c (D ++ X) X ss (t.tree ∷ ts.0)) (sym m.2) (t.read X i, ts.2 X i) in
      let is : (X : List Token) → front X ≡ front R → each_reader r E k c (D ++ X) ≡ got (fold (joined k) t.tree ts.0) X =
      λ X i. each_got r E k c (D ++ X) X t.tree ts.0 (all X i) in
      let each : SpellsEach N E c (members E c) D (t.tree ∷ ts.0) =
      subst (λ ss. SpellsEach N E c ss D (t.tree ∷ ts.0)) (sym m.2) (one_more t.spelled ts.1) in
      subst (λ o. Reads (AreEach N E k c) (each_reader r E k c) (D ++ R) o) (sym (is R refl))
      (record { done = D; cut = refl; same = is; right = (t.tree, ts.0, each, refl) })

  by_outcome :
      (S : List Token) (o : Outcome Form) → r (bind E c first) a_cond S ≡ o
      → Reads (SpellsCond N (bind E c first)) (r (bind E c first) a_cond) S o
      → Reads (AreEach N E k c) (each_reader r E k c) S (each_reader r E k c S)
  by_outcome S (stuck R) e h = reads_stuck S R h e
  by_outcome S (got a R) e h =
      subst (λ S. Reads (AreEach N E k c) (each_reader r E k c) S (each_reader r E k c S)) (sym h.cut)
      (reads_got h.done R (ap (λ S. shape (r (bind E c first) a_cond S)) (sym h.cut) ∙ ap shape e))

  pub reads_each : (S : List Token) → Reads (AreEach N E k c) (each_reader r E k c) S (each_reader r E k c S)
  reads_each S = by_outcome S (r (bind E c first) a_cond S) refl (reads (bind E c first) S)
