-- Resolved classes of one name are one.
use Rattle.std.proofs.Common.{◌≡◌, ℕ, zero, suc, ◌+◌, ◌-◌, ◌≤◌, Bool, true, false, not, ◌&&◌, List, [], ◌∷◌, length, Option, Some, None, refl, sym, ap, ◌∙◌, arith}
use Rattle.std.specs.Prelude.{◌==◌, nat_lt, slice_get, if◌then◌else◌}
use Rattle.std.proofs.lemmas.Bool.{ltb-false}
use Rattle.lists.specs.Lists.{onto, index_of}
use Rattle.lists.proofs.Lemmas.{none≢some, some_same, onto_some, index_there}
use Rattle.class_pool.specs.declared.class.ClassFile.{ClassFile}
use Rattle.class_lookup.specs.Parts.{same_text, name_of}
use Rattle.class_lookup.specs.Hierarchy.{find_class}
use Rattle.class_lookup.proofs.Overriding.{comparisons}
use Rattle.program_tables.specs.Core.{is_boot}
use Rattle.program_tables.specs.Placed.{duplicate_by, duplicate_of}
use Rattle.program_tables.specs.Resolving.{IsResolved}

-- ---- the first item that passes a test

first_case : {X : Type 0} (test : X → Bool) (xs : List X) (i j : ℕ) (b : Bool) → (if b then Some 0 else onto (index_of test xs) (λ k. Some (suc k))) ≡ Some i
    → ((k : ℕ) → index_of test xs ≡ Some k → k ≤ j) → i ≤ suc j
first_case test xs i j true h later = let zero_is : 0 ≡ i = some_same 0 i h in omega (arith, zero_is)
first_case test xs i j false h later =
    let r = onto_some (index_of test xs) (λ k. Some (suc k)) i h in
    let le = later r.0 r.1 in
    let is : suc r.0 ≡ i = some_same (suc r.0) i r.2 in
    omega (arith, le, is)

first_index : {X : Type 0} (test : X → Bool) (xs : List X) (i j : ℕ) (x : X) → index_of test xs ≡ Some i → slice_get xs j ≡ Some x → test x ≡ true → i ≤ j
first_index test [] i j x h at t = absurd (none≢some x at)
first_index test (y ∷ xs) i zero x h at t =
    let passes : test y ≡ true = ap test (some_same y x at) ∙ t in
    let head : Option ℕ = onto (index_of test xs) (λ k. Some (suc k)) in
    let zero_is : 0 ≡ i = some_same 0 i (sym (ap (λ (b : Bool). if b then Some 0 else head) passes) ∙ h) in
    omega (arith, zero_is)
first_index test (y ∷ xs) i (suc j) x h at t = first_case test xs i j (test y) h (λ k e. first_index test xs k j x e at t)

-- ---- classes

not_taken : (c i : ℕ) (last : Option ℕ) (b : Bool) → nat_lt i c ≡ b → (if b then Some i else last) ≡ None → c ≤ i
not_taken c i last true e h = absurd (none≢some i (sym h))
not_taken c i last false e h = ltb-false i c e

-- no class before one that is free has its name
not_before : (cs : List ClassFile) (c d : ℕ) (k l : ClassFile) → slice_get cs c ≡ Some k → slice_get cs d ≡ Some l → duplicate_of cs c ≡ None
    → name_of l ≡ name_of k → c ≤ d
not_before cs c d k l at bt free same =
    let test : ClassFile → Bool = λ x. same_text (name_of x) (name_of k) in
    let passes : test l ≡ true = (comparisons.texts (name_of l) (name_of k)).1 same in
    let found = index_there test cs d l bt passes in
    let le = first_index test cs found.0 d l found.1 bt passes in
    let by : duplicate_by cs c k (Some found.0) ≡ None =
    sym (ap (λ (o : Option ClassFile). onto o (λ x. duplicate_by cs c x (find_class cs (name_of x)))) at ∙ ap (duplicate_by cs c k) found.1) ∙ free in
    let ge = not_taken c found.0 (if is_boot k && not (c + 1 == length cs) then Some (length cs - 1) else None) (nat_lt found.0 c) refl by in
    omega (arith, le, ge)

pub one_class : (cs : List ClassFile) → IsResolved cs → (c d : ℕ) (k l : ClassFile) → slice_get cs c ≡ Some k → slice_get cs d ≡ Some l → name_of k ≡ name_of l
    → c ≡ d
one_class cs r c d k l at bt same =
    let le = not_before cs c d k l at bt (r.linkable c k at).name (sym same) in
    let ge = not_before cs d c l k bt at (r.linkable d l bt).name same in
    omega (arith, le, ge)
