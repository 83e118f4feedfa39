-- What is put into a table, and superclasses.
use Rattle.std.proofs.Common.{◌≡◌, ◌≢◌, ℕ, ◌<◌, List, Option, Some, None, length, set, length-set, sym, ap, ◌∙◌, arith}
use Rattle.std.specs.Prelude.{slice_get, IfSome}
use Rattle.std.proofs.lemmas.List.{get_or-set_same, get_or-set_other}
use Rattle.std.proofs.lemmas.Option.{slice_get-get_or, get_or_from_slice_get, slice_get_within}
use Rattle.class_pool.specs.declared.class.ClassFile.{ClassFile}
use Rattle.lists.proofs.Lemmas.{onto_some, index_found}
use Rattle.class_lookup.specs.Parts.{same_text, name_of, superclass_name}
use Rattle.class_lookup.specs.Hierarchy.{find_class, superclass}

pub set_here : {A : Type 0} (xs : List A) (i : ℕ) (y : A) → i < length xs → slice_get (set xs i y) i ≡ Some y
set_here xs i y lt =
    let same = length-set xs i y in
    slice_get-get_or (set xs i y) i y (omega (arith, same, lt)) ∙ ap Some (get_or-set_same xs i y y lt)

pub set_other : {A : Type 0} (xs : List A) (i j : ℕ) (y x : A) → j ≢ i → slice_get xs j ≡ Some x → slice_get (set xs i y) j ≡ Some x
set_other xs i j y x n h =
    let same = length-set xs i y in
    let lt = slice_get_within xs j x h in
    slice_get-get_or (set xs i y) j x (omega (arith, same, lt)) ∙ ap Some (get_or-set_other xs i j y x n ∙ get_or_from_slice_get xs j x x h)

pub superclass_within : (cs : List ClassFile) (c s : ℕ) → superclass cs c ≡ Some s → s < length cs
superclass_within cs c s h =
    let k = onto_some (slice_get cs c) (λ k. find_class cs (superclass_name k)) s h in
    let f = index_found (λ x. same_text (name_of x) (superclass_name k.0)) cs s k.2 in
    slice_get_within cs s f.0 f.1

pub supers_within : (cs : List ClassFile) (c : ℕ) (o : Option ℕ) → o ≡ superclass cs c → IfSome o (λ s. s < length cs)
supers_within cs c None h = tt
supers_within cs c (Some s) h = superclass_within cs c s (sym h)
