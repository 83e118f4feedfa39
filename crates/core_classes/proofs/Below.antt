-- The core classes before others.
use Rattle.std.proofs.Common.{◌≡◌, ℕ, zero, suc, ◌<◌, Bool, true, false, not, ◌&&◌, ◌||◌, ◌==◌, List, [], ◌∷◌, ◌++◌, map, length, Option, Some, None, refl, sym, ap, ap₂, ◌∙◌, subst, arith}
use Rattle.std.specs.Prelude.{IsTrue, if◌then◌else◌, is_none, slice_get, nat_lt, nat_eq, option_map}
use Rattle.std.specs.Option.{option_map_or, option_to_list}
use Rattle.std.specs.List.{list_all, list_any, filter, filter_map, cons_option, flat_map, range_with_len, AllByRecursion}
use Rattle.std.proofs.Math.Dec.{eqb-suc-zero}
use Rattle.std.proofs.lemmas.Bool.{eqb-true}
use Rattle.std.proofs.lemmas.Option.{slice_get_within}
use Rattle.lists.specs.Tests.{and_left, and_right}
use Rattle.lists.specs.Lists.{onto}
use Rattle.bytecode_model.specs.Program.{object_class}
use Rattle.program_tables.specs.declared.refusal.Why.TheVariants.{NotImplemented}
use Rattle.class_pool.specs.declared.class.Member.{Member}
use Rattle.class_pool.specs.declared.class.ClassFile.{ClassFile}
use Rattle.core_classes.specs.Core.{core}
use Rattle.class_lookup.specs.Parts.{Signature, same_text, name_of, is_final, is_abstract}
use Rattle.class_lookup.specs.Hierarchy.{find_class, superclass, superinterfaces, is_interface, is_concrete, superclasses, supertypes, direct_supertypes, extends, is_on_a_cycle}
use Rattle.class_lookup.specs.Lookup.{Place, declared_method, declared_in}
use Rattle.class_lookup.specs.Selection.{is_method_with, upwards, overrides, signature_at}
use Rattle.program_tables.specs.Placed.{duplicate_of, lacks_superclass, has_bad_superclass, has_bad_superinterface, is_bad_interface, overrides_final, has_overridden_final, is_badly_placed, supertype_entries, may_have_subclasses}
use Rattle.program_tables.specs.Unresolved.{unless, why, why_class, FieldDescriptor, mentions_in_method, abstract_methods_in, is_implemented, implements_all}
use Rattle.program_tables.specs.Unsupported.{unsupported_in}
use Rattle.core_classes.specs.Linkage.{CoreIsLinkable, CoreIsSupported}
use Rattle.core_classes.proofs.Lists.{or_right, no_left, no_right, not_not, true_at, numbered_at, there, in_front, not_found, all_front, all_along, below_all, none_passes, nothing_of_all, not_among, reached_below}
use Rattle.core_classes.proofs.Tests.{none_of, all_none, has_good_supertypes, has_good_members, stands_badly}
use Rattle.core_classes.proofs.Core.{names_are_free, stand_well, members_are_good, supertypes_stand_before, core_long, nameless_core, object_bears_no_name, object_has_no_interface, object_is_no_interface, members_are_plain, all_are_supported}

-- ---- the hierarchy

pub object_is_uppermost : (others : List ClassFile) → find_class others [] ≡ None → superclass (core ++ others) 0 ≡ None
object_is_uppermost others none = object_bears_no_name others ∙ not_found (λ c. same_text (name_of c) []) core others nameless_core none

nothing_above_object : (others : List ClassFile) → find_class others [] ≡ None → direct_supertypes (core ++ others) 0 ≡ []
nothing_above_object others none = ap₂ (λ (xs : List ℕ) (o : Option ℕ). xs ++ option_to_list o) (object_has_no_interface others) (object_is_uppermost others none)

pub core_there : (k : ℕ) → k < 23 → (x : ClassFile) × (slice_get core k ≡ Some x)
core_there k lt = let long = core_long in there core k (omega arith)

pub above_is_before : (others : List ClassFile) → find_class others [] ≡ None → (k : ℕ) → k < 23 → AllByRecursion (λ d. d < k) (direct_supertypes (core ++ others) k)
above_is_before others none zero lt = subst (AllByRecursion (λ d. d < 0)) (sym (nothing_above_object others none)) tt
above_is_before others none (suc k) lt =
    let x = core_there (suc k) lt in
    below_all (suc k) (direct_supertypes (core ++ others) (suc k))
    (or_right (suc k == 0) (list_all (λ d. nat_lt d (suc k)) (direct_supertypes (core ++ others) (suc k)))
    (numbered_at (λ (e : ℕ × ClassFile). e.0 == 0 || list_all (λ d. nat_lt d e.0) (direct_supertypes (core ++ others) e.0)) core (suc k) x.0 (supertypes_stand_before others) x.1) (eqb-suc-zero k))

pub supertypes_below : (others : List ClassFile) → find_class others [] ≡ None → (k : ℕ) → k < 23 → AllByRecursion (λ d. d < suc k) (supertypes (core ++ others) k)
unfolding supertypes
supertypes_below others none k lt = reached_below (direct_supertypes (core ++ others)) 23 (above_is_before others none) (length (core ++ others)) k lt

pub superclasses_below : (others : List ClassFile) → find_class others [] ≡ None → (k : ℕ) → k < 23 → AllByRecursion (λ d. d < suc k) (superclasses (core ++ others) k)
unfolding superclasses
superclasses_below others none k lt =
    reached_below (λ c. option_to_list (superclass (core ++ others) c)) 23
    (λ c less. all_front (λ d. d < c) (superinterfaces (core ++ others) c) (option_to_list (superclass (core ++ others) c)) (above_is_before others none c less))
    (length (core ++ others)) k lt

pub on_no_cycle : (others : List ClassFile) → find_class others [] ≡ None → (c : ℕ) → c < 23 → is_on_a_cycle (core ++ others) c ≡ false
on_no_cycle others none c lt =
    none_passes (λ d. d < c) (λ d. extends (core ++ others) d c)
    (λ d less. not_among c (supertypes (core ++ others) d) (all_along (λ x. x < suc d) (λ x. x < c) (λ x l. omega arith) (supertypes (core ++ others) d) (supertypes_below others none d (omega arith))))
    (direct_supertypes (core ++ others) c) (above_is_before others none c lt)

-- ---- members

plain_case : (q : Member → Bool) (ms : List Member) (i : ℕ) (o : Option Member) → slice_get ms i ≡ o → list_all (λ m. not (q m)) ms ≡ true → option_map_or q o false ≡ false
plain_case q ms i None at all = refl
plain_case q ms i (Some m) at all = not_not (q m) (true_at (λ x. not (q x)) ms i m all at)

pub plain_at : (q : Member → Bool) (others : List ClassFile) (d i : ℕ) → list_all (λ (k : ClassFile). list_all (λ m. not (q m)) k.methods) core ≡ true → d < 23 → is_method_with q (core ++ others) (d, i) ≡ false
plain_at q others d i all lt =
    let x = core_there d lt in
    ap (λ (o : Option ClassFile). option_map_or q (onto o (λ k. slice_get k.methods i)) false) (in_front core others d x.0 x.1)
    ∙ plain_case q x.0.methods i (slice_get x.0.methods i) refl (true_at (λ (k : ClassFile). list_all (λ m. not (q m)) k.methods) core d x.0 all x.1)

split_all : (p q : Member → Bool) (ms : List Member) → list_all (λ m. not (p m) && not (q m)) ms ≡ true → (list_all (λ m. not (p m)) ms ≡ true) × (list_all (λ m. not (q m)) ms ≡ true)
split_all p q [] h = (refl, refl)
split_all p q (m ∷ ms) h =
    let a = not (p m) in let b = not (q m) in
    let one = and_left (a && b) (list_all (λ x. not (p x) && not (q x)) ms) h in
    let r = split_all p q ms (and_right (a && b) (list_all (λ x. not (p x) && not (q x)) ms) h) in
    (ap₂ (λ (x y : Bool). x && y) (and_left a b one) r.0, ap₂ (λ (x y : Bool). x && y) (and_right a b one) r.1)

pub split_core : (ks : List ClassFile) → list_all (λ (k : ClassFile). list_all (λ m. not (is_final m) && not (is_abstract m)) k.methods) ks ≡ true
    → (list_all (λ (k : ClassFile). list_all (λ m. not (is_final m)) k.methods) ks ≡ true) × (list_all (λ (k : ClassFile). list_all (λ m. not (is_abstract m)) k.methods) ks ≡ true)
split_core [] h = (refl, refl)
split_core (k ∷ ks) h =
    let a = list_all (λ m. not (is_final m) && not (is_abstract m)) k.methods in
    let later = list_all (λ (x : ClassFile). list_all (λ m. not (is_final m) && not (is_abstract m)) x.methods) ks in
    let one = split_all is_final is_abstract k.methods (and_left a later h) in
    let r = split_core ks (and_right a later h) in
    (ap₂ (λ (x y : Bool). x && y) one.0 r.0, ap₂ (λ (x y : Bool). x && y) one.1 r.1)

-- no method of them is final

pub declared_case : (d : ℕ) (f : Place → Bool) (o : Option ℕ) (rest : List Place) → ((i : ℕ) → f (d, i) ≡ false) → list_any f rest ≡ false
    → list_any f (cons_option (option_map (λ (i : ℕ). (d, i)) o) rest) ≡ false
declared_case d f None rest h r = r
declared_case d f (Some i) rest h r = ap (λ (b : Bool). b || list_any f rest) (h i) ∙ r

-- of methods declared in the core classes none passes a test that none of these passes
declared_fail : (others : List ClassFile) (s : Signature) (f : Place → Bool) → ((d i : ℕ) → d < 23 → f (d, i) ≡ false) → (ds : List ℕ) → AllByRecursion (λ d. d < 23) ds
    → list_any f (filter_map (declared_method (core ++ others) s) ds) ≡ false
declared_fail others s f h [] all = refl
declared_fail others s f h (d ∷ ds) all =
    let x = core_there d all.0 in
    let rest = filter_map (declared_method (core ++ others) s) ds in
    ap (λ (o : Option ClassFile). list_any f (cons_option (onto o (λ k. option_map (λ (i : ℕ). (d, i)) (declared_in (λ c. c.methods) s k))) rest)) (in_front core others d x.0 x.1)
    ∙ declared_case d f (declared_in (λ c. c.methods) s x.0) rest (λ i. h d i all.0) (declared_fail others s f h ds all.1)

final_case : (others : List ClassFile) → find_class others [] ≡ None → (c i : ℕ) → c < 23 → (o : Option Signature)
    → option_map_or (λ s. list_any (λ a. is_method_with is_final (core ++ others) a && overrides (core ++ others) (c, i) a) (upwards (core ++ others) s c)) o false ≡ false
final_case others none c i lt None = refl
final_case others none c i lt (Some s) =
    declared_fail others s (λ a. is_method_with is_final (core ++ others) a && overrides (core ++ others) (c, i) a)
    (λ d j less. ap (λ (b : Bool). b && overrides (core ++ others) (c, i) (d, j)) (plain_at is_final others d j (split_core core members_are_plain).0 less))
    (superclasses (core ++ others) c) (all_along (λ d. d < suc c) (λ d. d < 23) (λ d l. omega arith) (superclasses (core ++ others) c) (superclasses_below others none c lt))

pub none_of_any : {X : Type 0} (t : X → Bool) → ((x : X) → t x ≡ false) → (xs : List X) → list_any t xs ≡ false
none_of_any t f [] = refl
none_of_any t f (x ∷ xs) = ap (λ (b : Bool). b || list_any t xs) (f x) ∙ none_of_any t f xs

overrides_nothing : (others : List ClassFile) → find_class others [] ≡ None → (c : ℕ) → c < 23 → has_overridden_final (core ++ others) c ≡ false
overrides_nothing others none c lt =
    let x = core_there c lt in
    ap (λ (o : Option ClassFile). option_map_or (λ k. list_any (λ i. overrides_final (core ++ others) (c, i)) (range_with_len 0 (length k.methods))) o false) (in_front core others c x.0 x.1)
    ∙ none_of_any (λ i. overrides_final (core ++ others) (c, i)) (λ i. final_case others none c i lt (signature_at (core ++ others) (c, i))) (range_with_len 0 (length x.0.methods))

-- none is abstract

pub none_left_open : (others : List ClassFile) (d : ℕ) → d < 23 → abstract_methods_in (core ++ others) d ≡ []
none_left_open others d lt =
    left_of d (option_map_or (λ (k : ClassFile). range_with_len 0 (length k.methods)) (slice_get (core ++ others) d) []) (slice_get (core ++ others) d) refl
  where
    none_at : (xs : List ℕ) → filter (is_method_with is_abstract (core ++ others)) (map (λ (i : ℕ). (d, i)) xs) ≡ []
    none_at [] = refl
    none_at (i ∷ xs) =
        ap (λ (b : Bool). if b then (d, i) ∷ filter (is_method_with is_abstract (core ++ others)) (map (λ (j : ℕ). (d, j)) xs) else filter (is_method_with is_abstract (core ++ others)) (map (λ (j : ℕ). (d, j)) xs))
        (plain_at is_abstract others d i (split_core core members_are_plain).1 lt)
        ∙ none_at xs

    left_of : (n : ℕ) (xs : List ℕ) (o : Option ClassFile) → slice_get (core ++ others) d ≡ o
        → filter (is_method_with is_abstract (core ++ others)) (option_map_or (λ (k : ClassFile). map (λ (i : ℕ). (d, i)) (range_with_len 0 (length k.methods))) o []) ≡ []
    left_of n xs None at = refl
    left_of n xs (Some k) at = none_at (range_with_len 0 (length k.methods))

pub or_true : (b : Bool) → (b || true) ≡ true
or_true true = refl
or_true false = refl

implements_each : (others : List ClassFile) → find_class others [] ≡ None → (c : ℕ) → c < 23 → implements_all (core ++ others) c ≡ true
implements_each others none c lt =
    ap (λ (ms : List Place). not (is_concrete (core ++ others) c) || list_all (is_implemented (core ++ others) c) ms)
    (nothing_of_all (λ d. d < 23) (abstract_methods_in (core ++ others)) (λ d less. none_left_open others d less) (supertypes (core ++ others) c)
    (all_along (λ d. d < suc c) (λ d. d < 23) (λ d l. omega arith) (supertypes (core ++ others) c) (supertypes_below others none c lt)))
    ∙ or_true (not (is_concrete (core ++ others) c))

-- ---- their places

pub well_placed : (a b c d e f : Bool) → a ≡ false → b ≡ false → c ≡ false → d ≡ false → e ≡ false → f ≡ false → IsTrue (not (a || b || c || d || e || f))
well_placed a b c d e f h i j k l m = rw (h, i, j, k, l, m) refl

object_stands : (others : List ClassFile) → find_class others [] ≡ None → IsTrue (not (is_badly_placed (core ++ others) 0))
object_stands others none =
    let cs = core ++ others in
    let top = object_is_uppermost others none in
    well_placed (lacks_superclass cs 0) (is_on_a_cycle cs 0) (has_bad_superclass cs 0) (has_bad_superinterface cs 0) (is_bad_interface cs 0) (has_overridden_final cs 0)
    (ap (λ (o : Option ℕ). is_none o && not (0 == 0)) top)
    (on_no_cycle others none 0 (omega arith))
    (ap (λ (o : Option ℕ). option_map_or (λ d. option_map_or (λ k. not (may_have_subclasses k)) (slice_get cs d) false) o false) top)
    (ap (list_any (λ d. not (is_interface cs d))) (object_has_no_interface others))
    (ap (λ (b : Bool). b && option_map_or (λ d. not (d == object_class)) (superclass cs 0) false) (object_is_no_interface others))
    (overrides_nothing others none 0 (omega arith))

stands : (others : List ClassFile) → find_class others [] ≡ None → (c : ℕ) (k : ClassFile) → c < 23 → slice_get core c ≡ Some k → IsTrue (not (is_badly_placed (core ++ others) c))
stands others none zero k lt at = object_stands others none
stands others none (suc c) k lt at =
    let cs = core ++ others in
    let n = suc c in
    let a = lacks_superclass cs n in let b = has_bad_superclass cs n in let d = has_bad_superinterface cs n in let e = is_bad_interface cs n in
    let well = not_not (stands_badly cs n) (or_right (n == 0) (not (stands_badly cs n)) (numbered_at (λ (x : ℕ × ClassFile). x.0 == 0 || not (stands_badly cs x.0)) core n k (stand_well others) at) (eqb-suc-zero c)) in
    let abd = no_left (a || b || d) e well in
    let ab = no_left (a || b) d abd in
    well_placed a (is_on_a_cycle cs n) b d e (has_overridden_final cs n) (no_left a b ab) (on_no_cycle others none n lt) (no_right a b ab) (no_right (a || b) d abd) (no_right (a || b || d) e well) (overrides_nothing others none n lt)

-- ---- all of it

pub core_links : CoreIsLinkable
core_links others none c k at =
    let cs = core ++ others in
    let long = core_long in
    let within = slice_get_within core c k at in
    let lt : c < 23 = omega arith in
    let free = numbered_at (λ (e : ℕ × ClassFile). is_none (duplicate_of cs e.0) && has_good_supertypes cs e.0 e.1) core c k (names_are_free others) at in
    record {
      name = none_of (duplicate_of cs c) (and_left (is_none (duplicate_of cs c)) (has_good_supertypes cs c k) free);
      supertypes = all_none (why_class cs c k) (supertype_entries k) (and_right (is_none (duplicate_of cs c)) (has_good_supertypes cs c k) free);
      placed = stands others none c k lt at;
      mentions = (
        ap (λ (b : Bool). unless b NotImplemented) (implements_each others none c lt),
        all_none (why cs c k) (map FieldDescriptor k.fields ++ flat_map (mentions_in_method k) k.methods) (numbered_at (λ (e : ℕ × ClassFile). has_good_members cs e.0 e.1) core c k (members_are_good others) at),
      );
    }

pub empty_of : {X : Type 0} (xs : List X) → nat_eq (length xs) 0 ≡ true → xs ≡ []
empty_of [] h = refl
empty_of (x ∷ xs) h = absurd (let e : suc (length xs) ≡ 0 = eqb-true (suc (length xs)) 0 h in omega arith)

all_empty : {X Y : Type 0} (f : X → List Y) (xs : List X) → list_all (λ x. nat_eq (length (f x)) 0) xs ≡ true → AllByRecursion (λ x. f x ≡ []) xs
all_empty f [] h = tt
all_empty f (x ∷ xs) h =
    let later = list_all (λ y. nat_eq (length (f y)) 0) xs in
    (empty_of (f x) (and_left (nat_eq (length (f x)) 0) later h), all_empty f xs (and_right (nat_eq (length (f x)) 0) later h))

pub core_is_supported : CoreIsSupported
core_is_supported = all_empty unsupported_in core all_are_supported
