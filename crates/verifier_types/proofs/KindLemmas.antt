-- Which kinds may stand for which, by their dimensions; and what is beyond the classes.
use Rattle.std.proofs.Common.{◌≡◌, ℕ, zero, suc, ◌<◌, ◌≤◌, false, ◌||◌, ◌==◌, List, [], ◌∷◌, ◌++◌, length, None, refl, sym, ap, ◌∙◌, arith}
use Rattle.std.specs.Prelude.{slice_get}
use Rattle.std.specs.Option.{option_map_or, option_to_list}
use Rattle.std.specs.List.{filter_map, flat_map, list_any}
use Rattle.std.proofs.lemmas.Option.{slice_get_past}
use Rattle.program_tables.proofs.ComponentLemmas.{or_false}
use Rattle.lists.specs.Lists.{onto}
use Rattle.lists.specs.Numbers.{reached}
use Rattle.class_pool.specs.declared.class.ClassFile.{ClassFile}
use Rattle.class_lookup.specs.Parts.{superclass_name, superinterface_names}
use Rattle.class_lookup.specs.Hierarchy.{find_class, direct_supertypes, supertypes, extends}
use Rattle.bytecode_model.specs.Types.{Kind, OfClass, OfNumbers}
use Rattle.bytecode_model.specs.Program.{Program, object_class, serializable_class, cloneable_class}
use Rattle.program_tables.specs.Kinds.{arrays_of}
use Rattle.program_tables.specs.Tables.{base_kind}
use Rattle.program_tables.specs.declared.kinds.Base.{Base}
use Rattle.program_tables.specs.declared.kinds.Base.TheVariants.{Class, Numbers}
use Rattle.bytecode_typing.specs.Assignable.{is_assignable_kind}

-- ---- by dimensions

-- of as many dimensions
pub same : (P : Program) (k l : Kind) (n : ℕ) → is_assignable_kind P (arrays_of n k) (arrays_of n l) ≡ is_assignable_kind P k l
same P k l zero = refl
same P k l (suc n) = same P k l n

pub of_same : (P : Program) (k l : Kind) (n m : ℕ) → n ≡ m → is_assignable_kind P (arrays_of n k) (arrays_of m l) ≡ is_assignable_kind P k l
of_same P k l n m e = ap (λ j. is_assignable_kind P (arrays_of n k) (arrays_of j l)) (sym e) ∙ same P k l n

-- of fewer
pub of_fewer : (P : Program) (a b : Base) (n m : ℕ) → n < m → is_assignable_kind P (arrays_of n (base_kind a)) (arrays_of m (base_kind b)) ≡ false
of_fewer P a b n zero h = absurd (omega (arith, h))
of_fewer P (Class c) b zero (suc m) h = refl
of_fewer P (Numbers c) b zero (suc m) h = refl
of_fewer P a b (suc n) (suc m) h = of_fewer P a b n m (omega (arith, h))

-- of more
pub of_more_numbers : (P : Program) (k : Kind) (a n m : ℕ) → m < n → is_assignable_kind P (arrays_of n k) (arrays_of m (OfNumbers a)) ≡ false
of_more_numbers P k a zero m h = absurd (omega (arith, h))
of_more_numbers P k a (suc n) zero h = refl
of_more_numbers P k a (suc n) (suc m) h = of_more_numbers P k a n m (omega (arith, h))

pub of_more_class : (P : Program) (k : Kind) (d n m : ℕ) → m < n
    → is_assignable_kind P (arrays_of n k) (arrays_of m (OfClass d)) ≡ (d == object_class || d == serializable_class || d == cloneable_class)
of_more_class P k d zero m h = absurd (omega (arith, h))
of_more_class P k d (suc n) zero h = refl
of_more_class P k d (suc n) (suc m) h = of_more_class P k d n m (omega (arith, h))

-- ---- beyond the classes

none_above : (cs : List ClassFile) (c : ℕ) → slice_get cs c ≡ None → direct_supertypes cs c ≡ []
none_above cs c h =
    ap (λ o. option_map_or (λ k. filter_map (find_class cs) (superinterface_names k)) o [] ++ option_to_list (onto o (λ k. find_class cs (superclass_name k)))) h

extends_beyond : (cs : List ClassFile) (c d : ℕ) → 0 < length cs → slice_get cs c ≡ None → extends cs c d ≡ (c == d)
unfolding supertypes
extends_beyond [] c d h e = absurd (omega (arith, h))
extends_beyond (x ∷ xs) c d h e =
    ap (λ above. list_any (λ k. k == d) (c ∷ flat_map (reached (direct_supertypes (x ∷ xs)) (length xs)) above)) (none_above (x ∷ xs) c e) ∙ or_false (c == d)

pub beyond : (cs : List ClassFile) (c d : ℕ) → 0 < length cs → length cs ≤ c → extends cs c d ≡ (c == d)
beyond cs c d r h = extends_beyond cs c d r (slice_get_past cs c h)

-- of no classes
pub among_none : (cs : List ClassFile) (c d : ℕ) → length cs ≡ 0 → extends cs c d ≡ false
unfolding supertypes
among_none [] c d h = refl
among_none (x ∷ xs) c d h = absurd (omega (arith, h))
