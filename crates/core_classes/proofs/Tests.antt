-- The rules that refuse a class, as one test.
use Rattle.std.proofs.Common.{◌≡◌, ℕ, Bool, true, false, not, ◌&&◌, ◌||◌, List, [], ◌∷◌, ◌++◌, map, Option, Some, None, refl}
use Rattle.std.specs.Prelude.{IsTrue, is_none}
use Rattle.std.specs.List.{list_all, flat_map, AllByRecursion}
use Rattle.lists.specs.Tests.{and_left, and_right}
use Rattle.class_pool.specs.declared.class.ClassFile.{ClassFile}
use Rattle.program_tables.specs.Resolving.{IsLinkable}
use Rattle.program_tables.specs.Placed.{duplicate_of, supertype_entries, is_badly_placed, lacks_superclass, has_bad_superclass, has_bad_superinterface, is_bad_interface}
use Rattle.program_tables.specs.Unresolved.{why_class, mentions_in, why, FieldDescriptor, mentions_in_method}

abbrev pub has_good_supertypes : List ClassFile → (class : ℕ) → ClassFile → Bool
has_good_supertypes cs c k = list_all (λ index. is_none (why_class cs c k index)) (supertype_entries k)

abbrev pub has_good_mentions : List ClassFile → (class : ℕ) → ClassFile → Bool
has_good_mentions cs c k = list_all (λ m. is_none (why cs c k m)) (mentions_in k)

-- what it names besides itself and its supertypes
abbrev pub has_good_members : List ClassFile → (class : ℕ) → ClassFile → Bool
has_good_members cs c k = list_all (λ m. is_none (why cs c k m)) (map FieldDescriptor k.fields ++ flat_map (mentions_in_method k) k.methods)

abbrev pub stands_badly : List ClassFile → (class : ℕ) → Bool
stands_badly cs c = lacks_superclass cs c || has_bad_superclass cs c || has_bad_superinterface cs c || is_bad_interface cs c

abbrev pub is_linkable : List ClassFile → (class : ℕ) → ClassFile → Bool
is_linkable cs c k = is_none (duplicate_of cs c) && (has_good_supertypes cs c k && (not (is_badly_placed cs c) && has_good_mentions cs c k))

pub none_of : {A : Type 0} (o : Option A) → is_none o ≡ true → o ≡ None
none_of None h = refl
none_of (Some x) h = absurd (let f : false ≡ true = h in cc)

pub all_none : {X Y : Type 0} (f : X → Option Y) (xs : List X) → list_all (λ x. is_none (f x)) xs ≡ true → AllByRecursion (λ x. f x ≡ None) xs
all_none f [] h = tt
all_none f (x ∷ xs) h =
    (none_of (f x) (and_left (is_none (f x)) (list_all (λ y. is_none (f y)) xs) h), all_none f xs (and_right (is_none (f x)) (list_all (λ y. is_none (f y)) xs) h))

is_true : (b : Bool) → b ≡ true → IsTrue b
is_true true h = true_is
  where
    true_is : IsTrue true
    true_is = refl
is_true false h = absurd (let f : false ≡ true = h in cc)

pub linkable : (cs : List ClassFile) (c : ℕ) (k : ClassFile) → is_linkable cs c k ≡ true → IsLinkable cs c k
linkable cs c k h =
    let a = is_none (duplicate_of cs c) in
    let b = has_good_supertypes cs c k in
    let d = not (is_badly_placed cs c) in
    let e = has_good_mentions cs c k in
    let rest = and_right a (b && (d && e)) h in
    let last = and_right b (d && e) rest in
    record {
      name = none_of (duplicate_of cs c) (and_left a (b && (d && e)) h);
      supertypes = all_none (why_class cs c k) (supertype_entries k) (and_left b (d && e) rest);
      placed = is_true d (and_left d e last);
      mentions = all_none (why cs c k) (mentions_in k) (and_right d e last);
    }
