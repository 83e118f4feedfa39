-- An instance of a class has few words.
use Rattle.std.proofs.Common.{◌≡◌, ℕ, zero, suc, ◌+◌, ◌*◌, ◌^◌, ◌<◌, ◌≤◌, Bool, true, false, List, [], ◌∷◌, ◌++◌, Option, Some, None, map, length, length-append, refl, arith}
use Rattle.std.specs.Prelude.{slice_get, sum_by, reverse, if◌then◌else◌}
use Rattle.std.specs.Option.{option_map_or, option_to_list}
use Rattle.std.specs.List.{filter, filter_map, cons_option, flat_map, range_with_len}
use Rattle.std.proofs.lemmas.List.{length-reverse}
use Rattle.std.proofs.lemmas.List.FromFn.{length-map-range_with_len}
use Rattle.std.proofs.lemmas.List.Sums.{sum_by-cons}
use Rattle.class_pool.specs.declared.class.ClassFile.{ClassFile}
use Rattle.class_rules.specs.Grammar.{IsClass}
use Rattle.bytecode_model.specs.Types.{IntType, LongType, OfClass, OfNumbers, OfReferences, Declared, Numeric, Reference, same_kind}
use Rattle.image_facts.specs.Words.{declared_words}
use Rattle.lists.specs.Numbers.{reached}
use Rattle.class_lookup.specs.Hierarchy.{superclass, superclasses, is_interface}
use Rattle.class_lookup.specs.Lookup.{Place}
use Rattle.program_tables.specs.Lists.{distinct}
use Rattle.program_tables.specs.Numbers.{is_instance_field, own_instance_fields, instance_fields, arrays_mentioned_in, types_of}
use Rattle.program_tables.specs.Resolved.{declared_at, declared_fields, resolved}
use Rattle.program_tables.specs.Resolving.{IsResolved}
use Rattle.program_laws.proofs.Facts.{all_at}
use Rattle.image_laws.specs.Laws.{InstancesAreSmall}

-- ---- lists that lose items

filter_case : {A : Type 0} (test : A → Bool) (x : A) (xs : List A) (b : Bool) → length (filter test xs) ≤ length xs → length (if b then x ∷ filter test xs else filter test xs) ≤ suc (length xs)
filter_case test x xs true h = omega (arith, h)
filter_case test x xs false h = omega (arith, h)

filter_short : {A : Type 0} (test : A → Bool) (xs : List A) → length (filter test xs) ≤ length xs
filter_short test [] = omega arith
filter_short test (x ∷ xs) = filter_case test x xs (test x) (filter_short test xs)

option_case : {B : Type 0} (o : Option B) (ys : List B) (n : ℕ) → length ys ≤ n → length (cons_option o ys) ≤ suc n
option_case None ys n h = omega (arith, h)
option_case (Some y) ys n h = omega (arith, h)

mapped_short : {A B : Type 0} (f : A → Option B) (xs : List A) → length (filter_map f xs) ≤ length xs
mapped_short f [] = omega arith
mapped_short f (x ∷ xs) = option_case (f x) (filter_map f xs) (length xs) (mapped_short f xs)

flat_short : (f : ℕ → List Place) (most : ℕ) → ((x : ℕ) → length (f x) ≤ most) → (xs : List ℕ) → length (flat_map f xs) ≤ length xs * most
flat_short f most h [] = omega arith
flat_short f most h (x ∷ xs) =
    let all = length-append (f x) (flat_map f xs) in
    let rest = flat_short f most h xs in
    let first = h x in
    let step : suc (length xs) * most ≡ most + length xs * most = suc_times (length xs) most in
    more (length (flat_map f (x ∷ xs))) (length (f x)) (length (flat_map f xs)) most (length xs * most) (suc (length xs) * most) all first rest step
  where
    suc_times : (a b : ℕ) → suc a * b ≡ b + a * b
    suc_times a b = omega arith

    more : (all a b m n k : ℕ) → all ≡ a + b → a ≤ m → b ≤ n → k ≡ m + n → all ≤ k
    more all a b m n k h x y e = omega (arith, h, x, y, e)

-- ---- superclasses

one_above : (cs : List ClassFile) (n : ℕ) → ((d : ℕ) → length (reached (λ k. option_to_list (superclass cs k)) n d) ≤ n) → (o : Option ℕ) → length (flat_map (reached (λ k. option_to_list (superclass cs k)) n) (option_to_list o)) ≤ n
one_above cs n h None = omega arith
one_above cs n h (Some d) =
    let R = reached (λ k. option_to_list (superclass cs k)) n d in
    let all = length-append R [] in
    let few = h d in
    let none : length {A = ℕ} [] ≡ 0 = refl in
    omega (arith, all, few, none)

reached_short : (cs : List ClassFile) (n d : ℕ) → length (reached (λ k. option_to_list (superclass cs k)) n d) ≤ n
reached_short cs zero d = omega arith
reached_short cs (suc n) d = let rest = one_above cs n (reached_short cs n) (superclass cs d) in omega (arith, rest)

superclasses_short : (cs : List ClassFile) (c : ℕ) → length (superclasses cs c) ≤ length cs
unfolding superclasses
superclasses_short cs c = reached_short cs (length cs) c

-- ---- fields

own_case : (cs : List ClassFile) (c : ℕ) (o : Option ClassFile) → ((k : ClassFile) → o ≡ Some k → length k.fields < 2 ^ 16)
    → length (filter (is_instance_field cs) (option_map_or (λ (k : ClassFile). map (λ (i : ℕ). (c, i)) (range_with_len 0 (length k.fields))) o [])) ≤ 65535
own_case cs c None h = omega arith
own_case cs c (Some k) h =
    let all = length-map-range_with_len {X = Place} (λ (i : ℕ). (c, i)) 0 (length k.fields) in
    let short = filter_short (is_instance_field cs) (map (λ (i : ℕ). (c, i)) (range_with_len 0 (length k.fields))) in
    let few = h k refl in
    omega (arith, all, short, few)

own_short : (cs : List ClassFile) → IsResolved cs → (c : ℕ) → length (own_instance_fields cs c) ≤ 65535
own_short cs r c = own_case cs c (slice_get cs c) (λ k h. (all_at IsClass cs c k r.grammar h).inside.fields.0)

words_few : (ds : List Declared) → sum_by declared_words ds ≤ 2 * length ds
words_few [] = omega arith
words_few (d ∷ ds) =
    let all = sum_by-cons declared_words d ds in
    let rest = words_few ds in
    let one = at_most_two d in
    omega (arith, all, rest, one)
  where
    at_most_two : (d : Declared) → declared_words d ≤ 2
    at_most_two (Numeric IntType) = omega arith
    at_most_two (Numeric LongType) = omega arith
    at_most_two (Reference k) = omega arith

-- the classes have types
classes_typed : (cs : List ClassFile) → length cs ≤ length (types_of cs)
unfolding types_of
classes_typed cs =
    let numbers = map OfNumbers (range_with_len 4 8) in
    let classes = map OfClass (range_with_len 0 (length cs)) in
    let arrays = distinct same_kind (flat_map (arrays_mentioned_in cs) cs) in
    let a = length-append numbers (classes ++ arrays) in
    let b = length-append classes arrays in
    let c = length-map-range_with_len OfClass 0 (length cs) in
    omega (arith, a, b, c)

product : (a b : ℕ) → a ≤ b → b ≤ 2048 → a * 65535 ≤ 2048 * 65535
product a b h k = omega (arith, h, k)

class_small : (cs : List ClassFile) → IsResolved cs → length (types_of cs) ≤ 2048 → (c : ℕ) → sum_by declared_words ((resolved cs).fields c) ≤ 268431360
class_small cs r limit c =
    let upward = superclasses cs c in
    let fields = instance_fields cs c in
    let a = words_few (declared_fields cs fields) in
    let b = mapped_short (declared_at cs) fields in
    let d = flat_short (own_instance_fields cs) 65535 (own_short cs r) (reverse upward) in
    let e = length-reverse upward in
    let f = superclasses_short cs c in
    let g = classes_typed cs in
    let h = product (length upward) (length (types_of cs)) (omega (arith, f, g)) limit in
    omega (arith, a, b, d, e, h)

kind_small : (cs : List ClassFile) → IsResolved cs → length (types_of cs) ≤ 2048 → (c : ℕ) (b : Bool) → (if b then 0 else 1 + sum_by declared_words ((resolved cs).fields c)) < 2 ^ 31
kind_small cs r limit c true = omega arith
kind_small cs r limit c false = let h = class_small cs r limit c in omega (arith, h)

pub small : InstancesAreSmall
small cs r limit (OfClass c) = kind_small cs r limit c (is_interface cs c)
small cs r limit (OfNumbers a) = omega arith
small cs r limit (OfReferences k) = omega arith
