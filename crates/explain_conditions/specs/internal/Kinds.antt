-- Sets of kinds, as the code holds them.
use Rattle.std.specs.Prelude.{Bool, false, slice_index_or}
use Rattle.cond_lang.specs.declared.words.Kind.{Kind}
use Rattle.cond_lang.specs.declared.words.Kind.TheVariants as kind
use Rattle.cond_lang.specs.Kinds.{place_of}
use Rattle.explain_conditions.specs.declared.kinds.KindSet.{KindSet}

-- whether the set has the kind
abbrev pub in_set : KindSet → Kind → Bool
in_set set (kind.Name n) = slice_index_or set.names.items n false
in_set set k = slice_index_or set.holds (place_of k) false

-- whether it is kept that the kind is the name of a value
abbrev pub of_value : KindSet → Kind → Bool
of_value set (kind.Name n) = slice_index_or set.values.items n false
of_value set k = false
