-- The objects that are there at the start, the fields that are null at first, and those that are references.
use Rattle.std.proofs.Common.{◌≡◌, ◌↔◌, ℕ, zero, suc, inl, inr, ◌+◌, ◌<◌, ◌≤◌, Bool, true, false, ◌||◌, ◌&&◌, List, [], ◌∷◌, ◌++◌, length, map, take, reverse, Option, Some, None, refl, sym, ap, ap₂, ◌∙◌, arith}
use Rattle.std.specs.Prelude.{All, slice_get, nat_lt}
use Rattle.std.specs.List.{list_any, filter, filter_map, cons_option, flat_map, enumerate_from, range_with_len, AllByRecursion}
use Rattle.std.specs.Option.{option_map_or, option_to_list, IsSomeAnd}
use Rattle.std.proofs.lemmas.Bool.{false≢true, or_cases, or_left, or_right}
use Rattle.std.proofs.lemmas.Option.{slice_get_past, slice_get_within, get_or_from_slice_get}
use Rattle.std.proofs.lemmas.List.{map-append, length-map, take_more}
use Rattle.std.proofs.lemmas.List.Elements.{filter_map-append, All-from_recursion}
use Rattle.lists.specs.Lists.{onto}
use Rattle.lists.specs.Numbers.{reached}
use Rattle.lists.proofs.Lemmas.{none≢some, some_same, some_in, some_is}
use Rattle.class_pool.specs.declared.class.ClassFile.{ClassFile}
use Rattle.class_lookup.specs.Hierarchy.{find_class, superclass, superclasses}
use Rattle.class_lookup.specs.Lookup.{Place}
use Rattle.bytecode_model.specs.declared.Value.{Value}
use Rattle.bytecode_model.specs.declared.Value.TheVariants as values
use Rattle.bytecode_model.specs.declared.Value.TheVariants.{Null}
use Rattle.bytecode_model.specs.Types.{Kind, OfNumbers, Declared, Numeric, Reference}
use Rattle.bytecode_model.specs.State.{Object}
use Rattle.bytecode_model.specs.Program.{kind_of, object_class, string_class}
use Rattle.bytecode_model.specs.Effects.{has_class}
use Rattle.program_tables.specs.Core.{raised_classes}
use Rattle.program_tables.specs.Numbers.{strings_of, types_of, is_instance_field, own_instance_fields}
use Rattle.program_tables.specs.Resolved.{resolved, raised_object, string_objects, objects_at_start, declared_at}
use Rattle.program_tables.specs.Resolving.{IsResolved}
use Rattle.class_lookup.specs.Parts.{name_of, superclass_name}
use Rattle.program_laws.proofs.Objects.{class_type}
use Rattle.loop_rules.specs.Further.Fields.{IsReferenceType}
use Rattle.array_fields.specs.Contents.{flag_at}
use Rattle.array_fields.specs.First.{has_first_object, is_null, is_reference}
use Rattle.array_fields.specs.Lengths.{HasNoFirstObject}

-- ---- lists

any_append : {A : Type 0} (test : A → Bool) (xs ys : List A) → list_any test (xs ++ ys) ≡ (list_any test xs || list_any test ys)
any_append test [] ys = refl
any_append test (x ∷ xs) ys = ap (λ (b : Bool). test x || b) (any_append test xs ys) ∙ or_assoc (test x) (list_any test xs) (list_any test ys)
  where
    or_assoc : (a b c : Bool) → (a || (b || c)) ≡ ((a || b) || c)
    or_assoc true b c = refl
    or_assoc false b c = refl

any_at : {A : Type 0} (test : A → Bool) (xs : List A) (p : ℕ) (x : A) → slice_get xs p ≡ Some x → test x ≡ true → list_any test xs ≡ true
any_at test [] p x h t = absurd (none≢some x h)
any_at test (y ∷ xs) zero x h t = or_left (test y) (list_any test xs) (ap test (some_same y x h) ∙ t)
any_at test (y ∷ xs) (suc p) x h t = or_right (test y) (list_any test xs) (any_at test xs p x h t)

pub any_there : {A : Type 0} (test : A → Bool) (xs : List A) → list_any test xs ≡ true → (p : ℕ) × (x : A) × (slice_get xs p ≡ Some x) × (test x ≡ true)
any_there test [] h = absurd (false≢true h)
any_there test (y ∷ xs) h =
    elim (or_cases (test y) (list_any test xs) h) [
      | inl here ↦ (0, y, refl, here)
      | inr later ↦ let r = any_there test xs later in (suc r.0, r.1, r.2, r.3)
    ]

-- ---- the objects at the start

-- there are the core classes
pub core_count : (cs : List ClassFile) → IsResolved cs → 23 ≤ length cs
core_count cs r =
    let long = ap length r.core.names in
    let names = length-map cs name_of in
    let most = take_most 23 (map name_of cs) in
    omega (arith, long, names, most)
  where
    take_most : {A : Type 0} (n : ℕ) (xs : List A) → length (take n xs) ≤ length xs
    take_most zero xs = omega arith
    take_most (suc n) [] = omega arith
    take_most (suc n) (x ∷ xs) = let more = take_most n xs in omega (arith, more)

abbrev shows : List ClassFile → (class : ℕ) → Object → Bool
shows cs d o = has_class (resolved cs) (kind_of (resolved cs) o) d

shows_raised : (cs : List ClassFile) (d c : ℕ) → c < length cs → shows cs d (raised_object cs c) ≡ (resolved cs).extends c d
shows_raised cs d c lt = ap (λ (k : Option Kind). has_class (resolved cs) k d) (class_type cs c lt)

any_raised : (cs : List ClassFile) (d : ℕ) (xs : List ℕ) → AllByRecursion (λ c. c < length cs) xs → list_any (shows cs d) (map (raised_object cs) xs) ≡ list_any (λ c. (resolved cs).extends c d) xs
any_raised cs d [] all = refl
any_raised cs d (c ∷ xs) all = ap₂ (λ (a : Bool) (b : Bool). a || b) (shows_raised cs d c all.0) (any_raised cs d xs all.1)

char_type : (cs : List ClassFile) → slice_get (types_of cs) 1 ≡ Some (OfNumbers 5)
unfolding types_of
char_type cs = refl

any_strings : (cs : List ClassFile) (d : ℕ) → 23 ≤ length cs → (a : ℕ) (ss : List (List ℕ)) → list_any (shows cs d) (flat_map string_objects (enumerate_from a ss)) ≡ (nat_lt 0 (length ss) && (resolved cs).extends string_class d)
any_strings cs d many a [] = refl
any_strings cs d many a (s ∷ ss) =
    let lt : 3 < length cs = omega arith in
    ap₂ (λ (x : Option Kind) (y : Option Kind). has_class (resolved cs) x d || (has_class (resolved cs) y d || list_any (shows cs d) (flat_map string_objects (enumerate_from (a + 1) ss)))) (char_type cs) (class_type cs 3 lt)
    ∙ ap (λ (b : Bool). (resolved cs).extends 3 d || b) (any_strings cs d many (a + 1) ss)
    ∙ either ((resolved cs).extends 3 d) (nat_lt 0 (length ss))
    ∙ sym (ap (λ (b : Bool). b && (resolved cs).extends 3 d) (some_length (length ss)))
  where
    either : (e b : Bool) → (e || (b && e)) ≡ e
    either true b = refl
    either false true = refl
    either false false = refl

    some_length : (n : ℕ) → nat_lt 0 (suc n) ≡ true
    some_length n = grind arith

raised_below : (cs : List ClassFile) → IsResolved cs → AllByRecursion (λ c. c < length cs) raised_classes
raised_below cs r =
    let many = core_count cs r in
    (omega arith, (omega arith, (omega arith, (omega arith, (omega arith, (omega arith, (omega arith, (omega arith, (omega arith, tt)))))))))

pub raised_within : (cs : List ClassFile) → IsResolved cs → All (λ c. c < length cs) raised_classes
raised_within cs r = All-from_recursion (λ c. c < length cs) raised_classes (raised_below cs r)

first_objects : (cs : List ClassFile) (d : ℕ) → IsResolved cs → list_any (shows cs d) (objects_at_start cs) ≡ has_first_object cs d
first_objects cs d r =
    let many = core_count cs r in
    let within = raised_below cs r in
    any_append (shows cs d) (map (raised_object cs) raised_classes) (flat_map string_objects (enumerate_from 0 (strings_of cs)))
    ∙ ap₂ (λ (a : Bool) (b : Bool). a || b) (any_raised cs d raised_classes within) (any_strings cs d many 0 (strings_of cs))

pub no_first_object : (cs : List ClassFile) (d : ℕ) → IsResolved cs → has_first_object cs d ≡ false → HasNoFirstObject (resolved cs) d
no_first_object cs d r none p o at is = false≢true (sym none ∙ sym (first_objects cs d r) ∙ any_at (shows cs d) (objects_at_start cs) p o at is)

pub some_first_object : (cs : List ClassFile) (d : ℕ) → IsResolved cs → has_first_object cs d ≡ true → ¬ HasNoFirstObject (resolved cs) d
some_first_object cs d r has none = let o = any_there (shows cs d) (objects_at_start cs) (first_objects cs d r ∙ has) in none o.0 o.1 o.2 o.3

-- each object is an Object
pub not_object : (cs : List ClassFile) (d : ℕ) → has_first_object cs d ≡ false → ¬ (d ≡ object_class)
not_object cs d none is = false≢true (sym none ∙ ap (has_first_object cs) is)

-- ---- lists without what isn't there

-- with the next item
take_next : {A : Type 0} (xs : List A) (i : ℕ) (x : A) → slice_get xs i ≡ Some x → take (i + 1) xs ≡ take i xs ++ x ∷ []
take_next xs i x at = take_more xs i x (slice_get_within xs i x at) ∙ ap (λ y. take i xs ++ y ∷ []) (get_or_from_slice_get xs i x x at)

one_kept : {A B : Type 0} (h : A → B) (o : Option A) → map h (cons_option o []) ≡ map h (option_to_list o)
one_kept h None = refl
one_kept h (Some x) = refl

pub kept_more : {A B C : Type 0} (h : B → C) (g : A → Option B) (xs : List A) (i : ℕ) (x : A) (old new : List C) → slice_get xs i ≡ Some x → old ≡ map h (filter_map g (take i xs)) → new ≡ old ++ map h (option_to_list (g x))
    → new ≡ map h (filter_map g (take (i + 1) xs))
kept_more h g xs i x old new at so more =
    let next = take_next xs i x at in
    more
    ∙ ap₂ (λ ys zs. ys ++ zs) so (sym (one_kept h (g x)))
    ∙ sym (ap (λ ys. map h (filter_map g ys)) next ∙ ap (map h) (filter_map-append g (take i xs) (x ∷ [])) ∙ map-append h (filter_map g (take i xs)) (cons_option (g x) []))

-- ---- what is flagged

pub flagged : {A : Type 0} (test : A → Bool) (xs : List A) (i : ℕ) → (flag_at (map test xs) i ≡ true) ↔ ((x : A) × (slice_get xs i ≡ Some x) × (test x ≡ true))
flagged test [] i = (λ h. absurd (false≢true h), λ h. absurd (none≢some h.0 h.1))
flagged test (x ∷ xs) zero = (λ h. (x, refl, h), λ h. ap test (some_same x h.0 h.1) ∙ h.2)
flagged test (x ∷ xs) (suc i) = flagged test xs i

null_is : (v : Value) → is_null v ≡ true → v ≡ Null
null_is Null h = refl
null_is (values.Int n) h = absurd (false≢true h)
null_is (values.Long n) h = absurd (false≢true h)
null_is (values.Ref p) h = absurd (false≢true h)
null_is values.Unset h = absurd (false≢true h)

pub null_flagged : (vs : List Value) (i : ℕ) → (flag_at (map is_null vs) i ≡ true) ↔ (slice_get vs i ≡ Some Null)
null_flagged vs i = (
  λ h. let x = (flagged is_null vs i).0 h in x.1 ∙ ap (λ (v : Value). Some v) (null_is x.0 x.2),
  λ h. (flagged is_null vs i).1 (Null, h, refl),
)

reference_is : (d : Declared) → (is_reference d ≡ true) ↔ IsReferenceType d
reference_is (Numeric t) = (λ h. absurd (false≢true h), λ h. absurd h)
reference_is (Reference k) = (λ h. tt, λ h. refl)

pub reference_flagged : (ds : List Declared) (i : ℕ) → (flag_at (map is_reference ds) i ≡ true) ↔ IsSomeAnd (slice_get ds i) IsReferenceType
reference_flagged ds i = (
  λ h. let x = (flagged is_reference ds i).0 h in some_in (slice_get ds i) x.0 IsReferenceType x.1 ((reference_is x.0).0 x.2),
  λ h. let x = some_is (slice_get ds i) IsReferenceType h in (flagged is_reference ds i).1 (x.0, x.1, (reference_is x.0).1 x.2),
)

-- ---- what is no class has no fields

module _ (cs : List ClassFile) (c : ℕ) (past : length cs ≤ c) where
  none_above : superclass cs c ≡ None
  none_above = ap (λ (o : Option ClassFile). onto o (λ k. find_class cs (superclass_name k))) (slice_get_past cs c past)

  own_none : own_instance_fields cs c ≡ []
  own_none = ap (λ (o : Option ClassFile). filter (is_instance_field cs) (option_map_or (λ (k : ClassFile). map (λ i. (c, i)) (range_with_len 0 (length k.fields))) o [])) (slice_get_past cs c past)

  alone : (n : ℕ) → flat_map (own_instance_fields cs) (reverse (reached (λ k. option_to_list (superclass cs k)) n c)) ≡ []
  alone zero = refl
  alone (suc n) =
      ap (λ (o : Option ℕ). flat_map (own_instance_fields cs) (reverse (c ∷ flat_map (reached (λ k. option_to_list (superclass cs k)) n) (option_to_list o)))) none_above
      ∙ ap (λ (ps : List Place). ps ++ []) own_none

  pub no_fields : (resolved cs).fields c ≡ []
  unfolding superclasses
  no_fields = ap (filter_map (declared_at cs)) (alone (length cs))
