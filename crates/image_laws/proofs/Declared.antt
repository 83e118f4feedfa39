-- The declared types of fields of resolved classes are there.
use Rattle.std.proofs.Common.{◌≡◌, inl, inr, ℕ, zero, suc, ◌+◌, Bool, true, false, ◌||◌, eqb, List, [], ◌∷◌, Option, Some, None, map, refl, sym, ap, ◌∙◌, arith}
use Rattle.std.specs.Prelude.{slice_get, is_some, unwrap_or, if◌then◌else◌}
use Rattle.std.specs.Option.{option_map, option_map_or}
use Rattle.std.specs.List.{filter, filter_map, cons_option, flat_map, list_any, enumerate_from, AllByRecursion}
use Rattle.std.proofs.lemmas.Bool.{false≢true, and_parts, eqb-true, cond-true, cond-false, cases_Bool}
use Rattle.program_laws.proofs.Rows.{left_all}
use Rattle.class_pool.specs.declared.class.Member.{Member}
use Rattle.class_pool.specs.declared.class.ClassFile.{ClassFile}
use Rattle.descriptors.specs.declared.descriptor.Element.{Element}
use Rattle.descriptors.specs.declared.descriptor.Element.TheVariants as elements
use Rattle.descriptors.specs.declared.descriptor.FieldType.{FieldType}
use Rattle.descriptors.specs.Parsing.{field_in}
use Rattle.class_rules.specs.Rules.{IsRightField}
use Rattle.class_rules.specs.Grammar.{IsClass}
use Rattle.bytecode_model.specs.Types.{IntType, LongType, OfClass, OfNumbers, Declared, Numeric, Reference}
use Rattle.lists.specs.Lists.{onto}
use Rattle.lists.proofs.Lemmas.{none≢some, some_same, onto_some}
use Rattle.class_pool.specs.Grammar.{text_at}
use Rattle.class_lookup.specs.Hierarchy.{find_class}
use Rattle.class_lookup.specs.Lookup.{Place, field_at}
use Rattle.program_tables.specs.declared.refusal.Item.{Item}
use Rattle.program_tables.specs.declared.refusal.Item.TheVariants.{DescriptorFloat, DescriptorDouble}
use Rattle.program_tables.specs.declared.refusal.Site.{Site}
use Rattle.program_tables.specs.declared.refusal.Site.TheVariants as sites
use Rattle.program_tables.specs.declared.refusal.Why.TheVariants.{NoClass}
use Rattle.program_tables.specs.Kinds.{class_in_type, classes_in_field_descriptor, array_code, arrays_of, number_declared, reference_declared, declared_of}
use Rattle.program_tables.specs.Resolved.{declared_at}
use Rattle.program_tables.specs.Unresolved.{Mention, FieldDescriptor, is_there, are_there, mentions_in_method, why}
use Rattle.program_tables.specs.Unsupported.{is_float, is_double, items_where, items_of_types, items_at_field, items_in_method, sited, unsupported_in}
use Rattle.program_tables.specs.Resolving.{IsResolved}
use Rattle.program_laws.proofs.Facts.{all_at}
use Rattle.program_laws.proofs.Selections.{unless_none, left_nil, right_nil}
use Rattle.program_laws.proofs.Statics.{ReadFields}
use Rattle.image_laws.proofs.Instructions.{map_all}

-- ---- nothing unsupported

is_nil : {A : Type 0} → List A → Bool
is_nil [] = true
is_nil (x ∷ xs) = false

nil_not : {A : Type 0} (x : A) (xs : List A) → x ∷ xs ≡ [] → ⊥
unfolding is_nil
nil_not x xs h = false≢true (ap is_nil h)

map_nil : {A B : Type 0} (f : A → B) (xs : List A) → map f xs ≡ [] → xs ≡ []
map_nil f [] h = refl
map_nil f (x ∷ xs) h = absurd (nil_not (f x) (map f xs) h)

flat_nil : {B : Type 0} (f : ℕ × Member → List B) (n : ℕ) (ms : List Member) (i : ℕ) (m : Member) → flat_map f (enumerate_from n ms) ≡ [] → slice_get ms i ≡ Some m → (j : ℕ) × (f (j, m) ≡ [])
flat_nil f n [] i m h e = absurd (none≢some m e)
flat_nil f n (x ∷ ms) zero m h e = (n, ap (λ (y : Member). f (n, y)) (sym (some_same x m e)) ∙ left_nil (f (n, x)) (flat_map f (enumerate_from (n + 1) ms)) h)
flat_nil f n (x ∷ ms) (suc i) m h e = flat_nil f (n + 1) ms i m (right_nil (f (n, x)) (flat_map f (enumerate_from (n + 1) ms)) h) e

no_items : (k : ClassFile) (i : ℕ) (f : Member) → unsupported_in k ≡ [] → slice_get k.fields i ≡ Some f → items_at_field k f ≡ []
unfolding unsupported_in
no_items k i f h e =
    let g : ℕ × Member → List (Site × Item) = λ e. sited (sites.Field e.0) (items_at_field k e.1) in
    let r = flat_nil g 0 k.fields i f (left_nil (flat_map g (enumerate_from 0 k.fields)) (flat_map (items_in_method k) (enumerate_from 0 k.methods)) h) e in
    map_nil (λ (item : Item). (sites.Field r.0, item)) (items_at_field k f) r.1

pub where_not : (b : Bool) (item : Item) → items_where b item ≡ [] → b ≡ false
where_not true item h = absurd (nil_not item [] h)
where_not false item h = refl

or_not : (b : Bool) → (b || false) ≡ false → b ≡ false
or_not true h = absurd (false≢true (sym h))
or_not false h = refl

-- neither a float nor a double
no_floats : (t : FieldType) → items_of_types (t ∷ []) ≡ [] → (is_float t.element ≡ false) × (is_double t.element ≡ false)
no_floats t h =
    let f = items_where (list_any (λ (t : FieldType). is_float t.element) (t ∷ [])) DescriptorFloat in
    let d = items_where (list_any (λ (t : FieldType). is_double t.element) (t ∷ [])) DescriptorDouble in (
      or_not (is_float t.element) (where_not (is_float t.element || false) DescriptorFloat (left_nil f d h)),
      or_not (is_double t.element) (where_not (is_double t.element || false) DescriptorDouble (right_nil f d h)),
    )

-- ---- declared types

abbrev IsDeclared : Option Declared → Type 0
IsDeclared o = (d : Declared) × (o ≡ Some d)

zero_dimensions : eqb 0 0 ≡ true
zero_dimensions = refl

more_dimensions : (n : ℕ) → eqb (suc n) 0 ≡ false
more_dimensions n = elim (cases_Bool (eqb (suc n) 0)) [ inl e ↦ absurd (omega (arith, eqb-true (suc n) 0 e)) | inr e ↦ e ]

by_dimensions : (n : ℕ) (number : Option Declared) (reference : ℕ → Option Declared) → IsDeclared number → ((m : ℕ) → IsDeclared (reference (suc m))) → IsDeclared (if eqb n 0 then number else reference n)
by_dimensions zero number reference a b = (a.0, cond-true (eqb 0 0) number (reference 0) refl ∙ a.1)
by_dimensions (suc m) number reference a b = ((b m).0, cond-false (eqb (suc m) 0) number (reference (suc m)) (more_dimensions m) ∙ (b m).1)

abbrev type_with : ℕ → Element → FieldType
type_with n e = record { dimensions = n; element = e }

class_there : (cs : List ClassFile) (n : ℕ) (name : List ℕ) (o : Option ℕ) → find_class cs name ≡ o → is_some o ≡ true → IsDeclared (declared_of cs (type_with n (elements.Class name)))
class_there cs n name None h s = absurd (false≢true s)
class_there cs n name (Some c) h s = (Reference (arrays_of n (OfClass c)), ap (λ o. option_map Reference (option_map (λ c. arrays_of n (OfClass c)) o)) h)

number_there : (cs : List ClassFile) (n : ℕ) (e : Element) → IsDeclared (number_declared e) → ((m : ℕ) → reference_declared cs (type_with (suc m) e) ≡ Some (Reference (arrays_of m (OfNumbers (array_code e)))))
    → IsDeclared (if eqb n 0 then number_declared e else reference_declared cs (type_with n e))
number_there cs n e a b = by_dimensions n (number_declared e) (λ m. reference_declared cs (type_with m e)) a (λ m. (Reference (arrays_of m (OfNumbers (array_code e))), b m))

declared_there : (cs : List ClassFile) (n : ℕ) (e : Element) → is_float e ≡ false → is_double e ≡ false → are_there cs (class_in_type (type_with n e)) ≡ true → IsDeclared (declared_of cs (type_with n e))
declared_there cs n (elements.Class name) f d t = class_there cs n name (find_class cs name) refl (and_parts (is_there cs name) true t).0
declared_there cs n elements.Float f d t = absurd (false≢true (sym f))
declared_there cs n elements.Double f d t = absurd (false≢true (sym d))
declared_there cs n elements.Byte f d t = number_there cs n elements.Byte (Numeric IntType, refl) (λ m. refl)
declared_there cs n elements.Char f d t = number_there cs n elements.Char (Numeric IntType, refl) (λ m. refl)
declared_there cs n elements.Int f d t = number_there cs n elements.Int (Numeric IntType, refl) (λ m. refl)
declared_there cs n elements.Long f d t = number_there cs n elements.Long (Numeric LongType, refl) (λ m. refl)
declared_there cs n elements.Short f d t = number_there cs n elements.Short (Numeric IntType, refl) (λ m. refl)
declared_there cs n elements.Boolean f d t = number_there cs n elements.Boolean (Numeric IntType, refl) (λ m. refl)

-- ---- fields

field_mentioned : (cs : List ClassFile) → IsResolved cs → (c : ℕ) (k : ClassFile) (i : ℕ) (f : Member) → slice_get cs c ≡ Some k → slice_get k.fields i ≡ Some f → are_there cs (classes_in_field_descriptor (text_at k.pool f.descriptor)) ≡ true
field_mentioned cs r c k i f h e =
    let P : Mention → Type 0 = λ x. why cs c k x ≡ None in
    let all = left_all P (map FieldDescriptor k.fields) (flat_map (mentions_in_method k) k.methods) (r.linkable c k h).mentions.1 in
    let one = all_at (λ m. P (FieldDescriptor m)) k.fields i f (map_all P FieldDescriptor k.fields all) e in
    unless_none (are_there cs (classes_in_field_descriptor (text_at k.pool f.descriptor))) NoClass one

pub field_has_type : ReadFields → (cs : List ClassFile) → IsResolved cs → (f : Place) (m : Member) → field_at cs f ≡ Some m → (d : Declared) × (declared_at cs f ≡ Some d)
field_has_type read cs r f m h =
    let c = onto_some (slice_get cs f.0) (λ c. slice_get c.fields f.1) m h in
    let class = all_at IsClass cs f.0 c.0 r.grammar c.1 in
    let right = all_at (IsRightField c.0) c.0.fields f.1 m class.rules.fields c.2 in
    let text = right.descriptor in
    let units = text.0 in
    let t = text.2.0 in
    let typed : field_in (text_at c.0.pool m.descriptor) ≡ Some t = ap (λ o. field_in (unwrap_or o [])) text.1 ∙ (read units t).1 text.2.1 in
    let none = no_items c.0 f.1 m (all_at (λ k. unsupported_in k ≡ []) cs f.0 c.0 r.supported c.1) c.2 in
    let floats = no_floats t (ap (λ o. items_of_types (option_map_or (λ t. t ∷ []) o [])) (sym typed) ∙ none) in
    let there : are_there cs (class_in_type t) ≡ true = ap (λ o. are_there cs (option_map_or class_in_type o [])) (sym typed) ∙ field_mentioned cs r f.0 c.0 f.1 m c.1 c.2 in
    let d = declared_there cs t.dimensions t.element floats.0 floats.1 there in
    let at : declared_at cs f ≡ onto (field_in (text_at c.0.pool m.descriptor)) (declared_of cs) =
    ap (λ o. onto o (λ c. onto (field_at cs f) (λ k. onto (field_in (text_at c.pool k.descriptor)) (declared_of cs)))) c.1
    ∙ ap (λ o. onto o (λ k. onto (field_in (text_at c.0.pool k.descriptor)) (declared_of cs))) h in
    (d.0, at ∙ (ap (λ o. onto o (declared_of cs)) typed ∙ d.1))

-- ---- lists of fields

abbrev pub IsField : List ClassFile → Place → Type 0
IsField cs f = (m : Member) × (field_at cs f ≡ Some m)

kept_case : (f : Place → Option Declared) (x : Place) (xs : List Place) (n : ℕ) (o : Option Declared) → f x ≡ o → ((d : Declared) × (f x ≡ Some d)) → ((j : ℕ) → slice_get (filter_map f xs) j ≡ onto (slice_get xs j) f)
    → slice_get (cons_option o (filter_map f xs)) n ≡ onto (slice_get (x ∷ xs) n) f
kept_case f x xs n None e some later = absurd (none≢some some.0 (sym e ∙ some.1))
kept_case f x xs zero (Some k) e some later = sym e
kept_case f x xs (suc n) (Some k) e some later = later n

kept_at : (f : Place → Option Declared) (xs : List Place) → AllByRecursion (λ x. (d : Declared) × (f x ≡ Some d)) xs → (n : ℕ) → slice_get (filter_map f xs) n ≡ onto (slice_get xs n) f
kept_at f [] a n = refl
kept_at f (x ∷ xs) a n = kept_case f x xs n (f x) refl a.0 (kept_at f xs a.1)

test_case : (cs : List ClassFile) (test : Place → Bool) (x : Place) (xs : List Place) (b : Bool) → test x ≡ b → ((y : Place) → test y ≡ true → IsField cs y) → AllByRecursion (IsField cs) (filter test xs) → AllByRecursion (IsField cs) (if b then x ∷ filter test xs else filter test xs)
test_case cs test x xs true e w later = (w x e, later)
test_case cs test x xs false e w later = later

pub filter_fields : (cs : List ClassFile) (test : Place → Bool) → ((y : Place) → test y ≡ true → IsField cs y) → (xs : List Place) → AllByRecursion (IsField cs) (filter test xs)
filter_fields cs test w [] = tt
filter_fields cs test w (x ∷ xs) = test_case cs test x xs (test x) refl w (filter_fields cs test w xs)

all_typed : ReadFields → (cs : List ClassFile) → IsResolved cs → (xs : List Place) → AllByRecursion (IsField cs) xs → AllByRecursion (λ x. (d : Declared) × (declared_at cs x ≡ Some d)) xs
all_typed read cs r [] a = tt
all_typed read cs r (x ∷ xs) a = (field_has_type read cs r x a.0.0 a.0.1, all_typed read cs r xs a.1)

-- the declared type of the field at an index
pub declared_index : ReadFields → (cs : List ClassFile) → IsResolved cs → (xs : List Place) → AllByRecursion (IsField cs) xs → (n : ℕ) → slice_get (filter_map (declared_at cs) xs) n ≡ onto (slice_get xs n) (declared_at cs)
declared_index read cs r xs a n = kept_at (declared_at cs) xs (all_typed read cs r xs a) n
