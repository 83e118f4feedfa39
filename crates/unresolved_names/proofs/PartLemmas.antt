-- Classes that are found are there.
use Rattle.std.proofs.Common.{◌≡◌, ℕ, zero, suc, ◌<◌, List, [], ◌∷◌, length, Option, Some, None, refl, arith}
use Rattle.std.specs.Prelude.{slice_get, IfSome}
use Rattle.lists.proofs.Lemmas.{index_found}
use Rattle.class_pool.specs.declared.class.ClassFile.{ClassFile}
use Rattle.class_lookup.specs.Parts.{same_text, name_of}
use Rattle.class_lookup.specs.Hierarchy.{find_class}

pub got_below : {A : Type 0} (xs : List A) (i : ℕ) (x : A) → slice_get xs i ≡ Some x → i < length xs
got_below [] i x e = absurd (let f : None ≡ Some x = e in cc)
got_below (y ∷ xs) zero x e = omega arith
got_below (y ∷ xs) (suc i) x e = let r = got_below xs i x e in omega arith

below_case : (cs : List ClassFile) (q : List ℕ) (o : Option ℕ) → find_class cs q ≡ o → IfSome o (λ n. n < length cs)
below_case cs q None e = tt
below_case cs q (Some n) e = let r = index_found (λ c. same_text (name_of c) q) cs n e in got_below cs n r.0 r.1

pub found_below : (cs : List ClassFile) (q : List ℕ) → IfSome (find_class cs q) (λ n. n < length cs)
found_below cs q = below_case cs q (find_class cs q) refl
