-- The types of classes are those of the classes that are there.
use Rattle.std.proofs.Common.{◌≡◌, ℕ, zero, suc, ◌+◌, ◌<◌, ◌≤◌, Bool, true, false, not, List, [], ◌∷◌, ◌++◌, Option, Some, None, map, length, arith}
use Rattle.std.specs.Prelude.{slice_get, if◌then◌else◌}
use Rattle.std.specs.List.{filter, flat_map, range_with_len, AllByRecursion}
use Rattle.std.proofs.Common.{eqb}
use Rattle.class_pool.specs.declared.class.ClassFile.{ClassFile}
use Rattle.bytecode_model.specs.Types.{Kind, OfClass, OfNumbers, OfReferences, same_kind}
use Rattle.program_tables.specs.Lists.{distinct}
use Rattle.program_tables.specs.Instructions.{instructions_of, named_in}
use Rattle.program_tables.specs.Numbers.{reference_arrays, used_by, class_kind, arrays_mentioned_by, arrays_mentioned_in, types_of}
use Rattle.program_laws.proofs.Facts.{all_at}

abbrev IsBelow : ℕ → Kind → Type 0
IsBelow n (OfClass c) = c < n
IsBelow n (OfNumbers code) = Unit {0}
IsBelow n (OfReferences k) = Unit {0}

abbrev IsNoClass : Kind → Type 0
IsNoClass (OfClass c) = ⊥
IsNoClass (OfNumbers code) = Unit {0}
IsNoClass (OfReferences k) = Unit {0}

-- ---- what holds of all arrays holds of all types behind those of numbers and of classes

all_append : (Q : Kind → Type 0) (xs ys : List Kind) → AllByRecursion Q xs → AllByRecursion Q ys → AllByRecursion Q (xs ++ ys)
all_append Q [] ys h k = k
all_append Q (x ∷ xs) ys h k = (h.0, all_append Q xs ys h.1 k)

all_flat : {A : Type 0} (Q : Kind → Type 0) (f : A → List Kind) (xs : List A) → ((x : A) → AllByRecursion Q (f x)) → AllByRecursion Q (flat_map f xs)
all_flat Q f [] h = tt
all_flat Q f (x ∷ xs) h = all_append Q (f x) (flat_map f xs) (h x) (all_flat Q f xs h)

filter_case : (Q : Kind → Type 0) (test : Kind → Bool) (x : Kind) (xs : List Kind) (b : Bool) → Q x → AllByRecursion Q (filter test xs) → AllByRecursion Q (if b then x ∷ filter test xs else filter test xs)
filter_case Q test x xs true h k = (h, k)
filter_case Q test x xs false h k = k

all_filter : (Q : Kind → Type 0) (test : Kind → Bool) (xs : List Kind) → AllByRecursion Q xs → AllByRecursion Q (filter test xs)
all_filter Q test [] h = tt
all_filter Q test (x ∷ xs) h = filter_case Q test x xs (test x) h.0 (all_filter Q test xs h.1)

all_distinct : (Q : Kind → Type 0) (xs : List Kind) → AllByRecursion Q xs → AllByRecursion Q (distinct same_kind xs)
all_distinct Q [] h = tt
all_distinct Q (x ∷ xs) h = (h.0, all_filter Q (λ y. not (same_kind x y)) (distinct same_kind xs) (all_distinct Q xs h.1))

either_all : (Q : Kind → Type 0) (b : Bool) (xs ys : List Kind) → AllByRecursion Q xs → AllByRecursion Q ys → AllByRecursion Q (if b then xs else ys)
either_all Q true xs ys h k = h
either_all Q false xs ys h k = k

arrays_all : (Q : Kind → Type 0) → ((k : Kind) → Q (OfReferences k)) → (k : Kind) → AllByRecursion Q (reference_arrays k)
arrays_all Q q (OfClass c) = tt
arrays_all Q q (OfNumbers code) = tt
arrays_all Q q (OfReferences k) = all_append Q (reference_arrays k) (OfReferences k ∷ []) (arrays_all Q q k) (q k, tt)

used_all : (Q : Kind → Type 0) → ((k : Kind) → Q (OfReferences k)) → (op : ℕ) (k : Option Kind) → AllByRecursion Q (used_by op k)
used_all Q q op None = tt
used_all Q q op (Some k) =
    either_all Q (eqb op 189) (reference_arrays (OfReferences k)) (if eqb op 192 then reference_arrays k else if eqb op 193 then reference_arrays k else []) (arrays_all Q q (OfReferences k))
    (either_all Q (eqb op 192) (reference_arrays k) (if eqb op 193 then reference_arrays k else []) (arrays_all Q q k)
    (either_all Q (eqb op 193) (reference_arrays k) [] (arrays_all Q q k) tt))

mentioned_all : (Q : Kind → Type 0) → ((k : Kind) → Q (OfReferences k)) → (cs : List ClassFile) (c : ClassFile) → AllByRecursion Q (arrays_mentioned_in cs c)
mentioned_all Q q cs c =
    all_flat Q (λ m. flat_map (arrays_mentioned_by cs c) (instructions_of m)) c.methods (λ m.
    all_flat Q (arrays_mentioned_by cs c) (instructions_of m) (λ p. used_all Q q p.instr.op (class_kind cs c (named_in c p.instr))))

behind_all : (Q : Kind → Type 0) → ((k : Kind) → Q (OfReferences k)) → (cs : List ClassFile) → AllByRecursion Q (distinct same_kind (flat_map (arrays_mentioned_in cs) cs))
behind_all Q q cs = let arrays = flat_map (arrays_mentioned_in cs) cs in all_distinct Q arrays (all_flat Q (arrays_mentioned_in cs) cs (mentioned_all Q q cs))

-- ---- the classes of types are there

numbers_all : (n : ℕ) (xs : List ℕ) → AllByRecursion (IsBelow n) (map OfNumbers xs)
numbers_all n [] = tt
numbers_all n (x ∷ xs) = (tt, numbers_all n xs)

classes_all : (n a m : ℕ) → a + m ≤ n → AllByRecursion (IsBelow n) (map OfClass (range_with_len a m))
classes_all n a zero le = tt
classes_all n a (suc m) le = (omega (arith, le), classes_all n (a + 1) m (omega (arith, le)))

types_all : (cs : List ClassFile) → AllByRecursion (IsBelow (length cs)) (types_of cs)
unfolding types_of
types_all cs =
    let n = length cs in
    let Q = IsBelow n in
    let arrays = distinct same_kind (flat_map (arrays_mentioned_in cs) cs) in
    all_append Q (map OfNumbers (range_with_len 4 8)) (map OfClass (range_with_len 0 n) ++ arrays) (numbers_all n (range_with_len 4 8))
    (all_append Q (map OfClass (range_with_len 0 n)) arrays (classes_all n 0 n (omega arith)) (behind_all Q (λ k. tt) cs))

pub class_within : (cs : List ClassFile) (t c : ℕ) → slice_get (types_of cs) t ≡ Some (OfClass c) → c < length cs
class_within cs t c h = all_at (IsBelow (length cs)) (types_of cs) t (OfClass c) (types_all cs) h

-- ---- their numbers

not_class : {n c : ℕ} → Some (OfNumbers n) ≡ Some (OfClass c) → ⊥
not_class e = cc

same_class : {a c : ℕ} → Some (OfClass a) ≡ Some (OfClass c) → a ≡ c
same_class e = cc

behind_numbers : (ks : List ℕ) (rest : List Kind) (t c : ℕ) → slice_get (map OfNumbers ks ++ rest) t ≡ Some (OfClass c) → (s : ℕ) × (t ≡ length ks + s) × (slice_get rest s ≡ Some (OfClass c))
behind_numbers [] rest t c e = (t, omega arith, e)
behind_numbers (k ∷ ks) rest zero c e = absurd (not_class e)
behind_numbers (k ∷ ks) rest (suc t) c e =
    let r = behind_numbers ks rest t c e in
    let more = r.1 in (r.0, omega (arith, more), r.2)

among_classes : (a m s c : ℕ) (rest : List Kind) → AllByRecursion IsNoClass rest → slice_get (map OfClass (range_with_len a m) ++ rest) s ≡ Some (OfClass c) → a + s ≡ c
among_classes a zero s c rest h e = absurd (all_at IsNoClass rest s (OfClass c) h e)
among_classes a (suc m) zero c rest h e = let k = same_class e in omega (arith, k)
among_classes a (suc m) (suc s) c rest h e = let k = among_classes (a + 1) m s c rest h e in omega (arith, k)

pub class_numbered : (cs : List ClassFile) (t c : ℕ) → slice_get (types_of cs) t ≡ Some (OfClass c) → t ≡ 8 + c
unfolding types_of
class_numbered cs t c e =
    let n = length cs in
    let arrays = distinct same_kind (flat_map (arrays_mentioned_in cs) cs) in
    let b = behind_numbers (range_with_len 4 8) (map OfClass (range_with_len 0 n) ++ arrays) t c e in
    let f = among_classes 0 n b.0 c arrays (behind_all IsNoClass (λ k. tt) cs) b.2 in
    let place : t ≡ 8 + b.0 = b.1 in
    omega (arith, place, f)
