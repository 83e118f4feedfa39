-- Static final ints begin with their constants.
use Rattle.std.proofs.Common.{◌≡◌, ℕ, zero, suc, ◌+◌, ◌==◌, ◌&&◌, ℤ, Bool, true, false, List, [], ◌∷◌, ◌++◌, map, Option, Some, None, refl, sym, ap, ◌∙◌, subst, arith}
use Rattle.std.specs.Prelude.{slice_get, unwrap_or, is_some, if◌then◌else◌}
use Rattle.std.specs.Int.{w32, cast_signed}
use Rattle.std.specs.Option.{option_map, option_map_or}
use Rattle.std.specs.List.{filter, filter_map, cons_option, flat_map, enumerate_from}
use Rattle.std.proofs.lemmas.Bool.{false≢true, ne_eqb}
use Rattle.lists.specs.Lists.{onto}
use Rattle.lists.proofs.Lemmas.{none≢some, some_same, onto_some}
use Rattle.class_pool.specs.declared.entry.Entry.{Entry}
use Rattle.class_pool.specs.declared.entry.Entry.TheVariants as entries
use Rattle.class_pool.specs.declared.class.Member.{Member}
use Rattle.class_pool.specs.declared.class.ClassFile.{ClassFile}
use Rattle.descriptors.specs.declared.descriptor.Element.{Element}
use Rattle.descriptors.specs.declared.descriptor.Element.TheVariants as elements
use Rattle.descriptors.specs.declared.descriptor.FieldType.{FieldType}
use Rattle.descriptors.specs.Parsing.{field_in}
use Rattle.class_rules.specs.Rules.{IsRightField}
use Rattle.class_rules.specs.Grammar.{IsClass}
use Rattle.class_lookup.specs.Parts.{is_static}
use Rattle.class_pool.specs.Grammar.{text_at}
use Rattle.class_lookup.specs.Hierarchy.{find_class}
use Rattle.class_lookup.specs.Lookup.{Place, field_at}
use Rattle.bytecode_model.specs.declared.Value.{Value}
use Rattle.bytecode_model.specs.declared.Value.TheVariants.{Int}
use Rattle.bytecode_model.specs.Types.{Declared, Numeric, IntType, LongType, Reference, OfNumbers, OfClass, default}
use Rattle.program_tables.specs.declared.refusal.Item.{Item}
use Rattle.program_tables.specs.declared.refusal.Site.{Site}
use Rattle.program_tables.specs.declared.refusal.Site.TheVariants as sites
use Rattle.program_tables.specs.declared.refusal.Why.{Why}
use Rattle.program_tables.specs.declared.refusal.Why.TheVariants.{NoClass}
use Rattle.program_tables.specs.Kinds.{array_code, arrays_of, class_in_element, class_in_type, classes_in_field_descriptor, declared_of, field_declared}
use Rattle.program_tables.specs.Numbers.{constant_entry, is_static_field, fields_by_number, static_fields}
use Rattle.program_tables.specs.Resolved.{constant_of, constant_at, declared_at, first_value}
use Rattle.program_tables.specs.Resolving.{IsResolved}
use Rattle.program_tables.specs.Unresolved.{Mention, FieldDescriptor, mentions_in_method, is_there, are_there, unless, why}
use Rattle.program_tables.specs.Unsupported.{items_of_types, items_at_field, items_in_method, sited, unsupported_in}
use Rattle.program_laws.proofs.Facts.{all_at, map_or_some}
use Rattle.program_laws.proofs.Selections.{left_nil, part_nil, enumerated}
use Rattle.program_laws.proofs.Statics.{ReadFields}
use Rattle.program_sites.specs.Ints.Constants.{int_of_entry, int_constant, is_final_int, constant_in, constant_int, constant_of_static}

-- ---- the constant

int_entry : (cs : List ClassFile) (pool : List Entry) (e : Entry) (c : ℤ) → int_of_entry e ≡ Some c → constant_of cs pool e ≡ Some (Int c)
int_entry cs pool (entries.Integer n) c h = ap (λ (z : ℤ). Some (Int z)) (some_same (cast_signed w32 n) c h)
int_entry cs pool e c h = absurd (none≢some c h)

where_true : (b : Bool) (o : Option ℤ) (c : ℤ) → (if b then o else None) ≡ Some c → o ≡ Some c
where_true true o c h = h
where_true false o c h = absurd (none≢some c h)

constant_is : (cs : List ClassFile) (p : Place) (c : ℤ) → constant_int cs p ≡ Some c → constant_at cs p ≡ Some (Int c)
constant_is cs p c h =
    let k = onto_some (slice_get cs p.0) (λ k. onto (field_at cs p) (constant_in k)) c h in
    let m = onto_some (field_at cs p) (constant_in k.0) c k.2 in
    let int = where_true (is_final_int k.0 m.0) (int_constant k.0 m.0) c m.2 in
    let e = onto_some (constant_entry k.0 m.0) int_of_entry c int in
    ap (λ (o : Option ClassFile). onto o (λ c. onto (field_at cs p) (λ k. onto (constant_entry c k) (constant_of cs c.pool)))) k.1
    ∙ ap (λ (o : Option Member). onto o (λ x. onto (constant_entry k.0 x) (constant_of cs k.0.pool))) m.1
    ∙ ap (λ (o : Option Entry). onto o (constant_of cs k.0.pool)) e.1
    ∙ int_entry cs k.0.pool e.0 c e.2

-- ---- each static field of a resolved program has a type

sited_nil : (site : Site) (items : List Item) → sited site items ≡ [] → items ≡ []
sited_nil site [] h = refl
sited_nil site (x ∷ items) h = absurd (none≢some (site, x) (sym (ap (λ zs. slice_get zs 0) h)))

field_supported : (c : ClassFile) (i : ℕ) (m : Member) → unsupported_in c ≡ [] → slice_get c.fields i ≡ Some m → items_at_field c m ≡ []
unfolding unsupported_in
field_supported c i m h e =
    let all = left_nil (flat_map (λ e. sited (sites.Field e.0) (items_at_field c e.1)) (enumerate_from 0 c.fields)) (flat_map (items_in_method c) (enumerate_from 0 c.methods)) h in
    sited_nil (sites.Field (0 + i)) (items_at_field c m) (part_nil (λ e. sited (sites.Field e.0) (items_at_field c e.1)) (enumerate_from 0 c.fields) i (0 + i, m) all (enumerated c.fields 0 i m e))

in_front : (ms : List Member) (ys : List Mention) (i : ℕ) (m : Member) → slice_get ms i ≡ Some m → slice_get (map FieldDescriptor ms ++ ys) i ≡ Some (FieldDescriptor m)
in_front [] ys i m h = absurd (none≢some m h)
in_front (x ∷ ms) ys zero m h = ap (λ (z : Member). Some (FieldDescriptor z)) (some_same x m h)
in_front (x ∷ ms) ys (suc i) m h = in_front ms ys i m h

holds_unless : (b : Bool) (w : Why) → unless b w ≡ None → b ≡ true
holds_unless true w h = refl
holds_unless false w h = absurd (none≢some w (sym h))

descriptor_there : (cs : List ClassFile) (r : IsResolved cs) (n i : ℕ) (k : ClassFile) (m : Member) → slice_get cs n ≡ Some k → slice_get k.fields i ≡ Some m → are_there cs (classes_in_field_descriptor (text_at k.pool m.descriptor)) ≡ true
descriptor_there cs r n i k m at there =
    let mentions = (r.linkable n k at).mentions in
    let rest = flat_map (mentions_in_method k) k.methods in
    holds_unless _ NoClass (all_at (λ (x : Mention). why cs n k x ≡ None) (map FieldDescriptor k.fields ++ rest) i (FieldDescriptor m) mentions.1 (in_front k.fields rest i m there))

there_is : (o : Option ℕ) → is_some o ≡ true → (c : ℕ) × (o ≡ Some c)
there_is None h = absurd (false≢true h)
there_is (Some c) h = (c, refl)

no_item : (x : Item) (xs : List Item) → x ∷ xs ≡ [] → ⊥
no_item x xs h = none≢some x (sym (ap (λ zs. slice_get zs 0) h))

abbrev type_with : (dimensions : ℕ) → Element → FieldType
type_with n e = record { dimensions = n; element = e }

class_there : (cs : List ClassFile) (name : List ℕ) → are_there cs (name ∷ []) ≡ true → is_there cs name ≡ true
class_there cs name h = by (is_there cs name) h
  where
    by : (b : Bool) → (b && true) ≡ true → b ≡ true
    by true h = refl
    by false h = h

-- an array's dimensions aren't 0
of_array : (n : ℕ) (x y : Option Declared) → (if suc n == 0 then x else y) ≡ y
of_array n x y = ap (λ (b : Bool). if b then x else y) (ne_eqb (suc n) 0 (λ e. omega arith))

abbrev HasType : List ClassFile → FieldType → Type 0
HasType cs t = (d : Declared) × (declared_of cs t ≡ Some d)

declared_is : (cs : List ClassFile) (n : ℕ) (e : Element) → items_of_types (type_with n e ∷ []) ≡ [] → are_there cs (class_in_element e) ≡ true → HasType cs (type_with n e)
declared_is cs n (elements.Class name) none there =
    let c = there_is (find_class cs name) (class_there cs name there) in
    (Reference (arrays_of n (OfClass c.0)), ap (λ (o : Option ℕ). option_map Reference (option_map (λ c. arrays_of n (OfClass c)) o)) c.1)
declared_is cs zero elements.Byte none there = (Numeric IntType, refl)
declared_is cs zero elements.Char none there = (Numeric IntType, refl)
declared_is cs zero elements.Int none there = (Numeric IntType, refl)
declared_is cs zero elements.Short none there = (Numeric IntType, refl)
declared_is cs zero elements.Boolean none there = (Numeric IntType, refl)
declared_is cs zero elements.Long none there = (Numeric LongType, refl)
declared_is cs zero elements.Float none there = absurd (no_item _ _ none)
declared_is cs zero elements.Double none there = absurd (no_item _ _ none)
declared_is cs (suc n) elements.Byte none there = (Reference (arrays_of n (OfNumbers (array_code elements.Byte))), of_array n (Some (Numeric IntType)) (Some (Reference (arrays_of n (OfNumbers (array_code elements.Byte))))))
declared_is cs (suc n) elements.Char none there = (Reference (arrays_of n (OfNumbers (array_code elements.Char))), of_array n (Some (Numeric IntType)) (Some (Reference (arrays_of n (OfNumbers (array_code elements.Char))))))
declared_is cs (suc n) elements.Int none there = (Reference (arrays_of n (OfNumbers (array_code elements.Int))), of_array n (Some (Numeric IntType)) (Some (Reference (arrays_of n (OfNumbers (array_code elements.Int))))))
declared_is cs (suc n) elements.Short none there = (Reference (arrays_of n (OfNumbers (array_code elements.Short))), of_array n (Some (Numeric IntType)) (Some (Reference (arrays_of n (OfNumbers (array_code elements.Short))))))
declared_is cs (suc n) elements.Boolean none there = (Reference (arrays_of n (OfNumbers (array_code elements.Boolean))), of_array n (Some (Numeric IntType)) (Some (Reference (arrays_of n (OfNumbers (array_code elements.Boolean))))))
declared_is cs (suc n) elements.Long none there = (Reference (arrays_of n (OfNumbers (array_code elements.Long))), of_array n (Some (Numeric LongType)) (Some (Reference (arrays_of n (OfNumbers (array_code elements.Long))))))
declared_is cs (suc n) elements.Float none there = absurd (no_item _ _ none)
declared_is cs (suc n) elements.Double none there = absurd (no_item _ _ none)

declared_there : ReadFields → (cs : List ClassFile) → IsResolved cs → (p : Place) → is_static_field cs p ≡ true → (d : Declared) × (declared_at cs p ≡ Some d)
declared_there read cs r p h =
    let m = map_or_some is_static (field_at cs p) h in
    let k = onto_some (slice_get cs p.0) (λ c. slice_get c.fields p.1) m.0 m.1 in
    let class = all_at IsClass cs p.0 k.0 r.grammar k.1 in
    let right = all_at (IsRightField k.0) k.0.fields p.1 m.0 class.rules.fields k.2 in
    let units = right.descriptor.0 in
    let t = right.descriptor.2.0 in
    let typed : field_in (text_at k.0.pool m.0.descriptor) ≡ Some t = ap (λ o. field_in (unwrap_or o [])) right.descriptor.1 ∙ (read units t).1 right.descriptor.2.1 in
    let items = field_supported k.0 p.1 m.0 (all_at (λ c. unsupported_in c ≡ []) cs p.0 k.0 r.supported k.1) k.2 in
    let none : items_of_types (t ∷ []) ≡ [] = ap (λ (o : Option FieldType). items_of_types (option_map_or (λ (t : FieldType). t ∷ []) o [])) (sym typed) ∙ items in
    let named = descriptor_there cs r p.0 p.1 k.0 m.0 k.1 k.2 in
    let there : are_there cs (class_in_element t.element) ≡ true = ap (λ (o : Option FieldType). are_there cs (option_map_or class_in_type o [])) (sym typed) ∙ named in
    let d = declared_is cs t.dimensions t.element none there in (
      d.0,
      ap (λ (o : Option ClassFile). onto o (λ c. onto (field_at cs p) (λ k. field_declared cs (text_at c.pool k.descriptor)))) k.1
          ∙ ap (λ (o : Option Member). onto o (λ x. field_declared cs (text_at k.0.pool x.descriptor))) m.1
          ∙ ap (λ (o : Option FieldType). onto o (declared_of cs)) typed
          ∙ d.1,
    )

-- ---- by number

kept_case : (g : Place → Option Value) (x : Place) (xs : List Place) (n : ℕ) (v : Value) → g x ≡ Some v → ((j : ℕ) → slice_get (filter_map g xs) j ≡ onto (slice_get xs j) g) → (o : Option Value) → g x ≡ o
    → slice_get (cons_option o (filter_map g xs)) n ≡ onto (slice_get (x ∷ xs) n) g
kept_case g x xs n v some later None e = absurd (none≢some v (sym e ∙ some))
kept_case g x xs zero v some later (Some w) e = sym e
kept_case g x xs (suc n) v some later (Some w) e = later n

kept : (g : Place → Option Value) (test : Place → Bool) → ((p : Place) → test p ≡ true → (v : Value) × (g p ≡ Some v)) → (xs : List Place) (n : ℕ) → slice_get (filter_map g (filter test xs)) n ≡ onto (slice_get (filter test xs) n) g
kept g test some [] n = refl
kept g test some (x ∷ xs) n = by (test x) refl n (kept g test some xs)
  where
    by : (b : Bool) → test x ≡ b → (n : ℕ) → ((j : ℕ) → slice_get (filter_map g (filter test xs)) j ≡ onto (slice_get (filter test xs) j) g)
        → slice_get (filter_map g (if b then x ∷ filter test xs else filter test xs)) n ≡ onto (slice_get (if b then x ∷ filter test xs else filter test xs) n) g
    by true e n later = let v = some x e in kept_case g x (filter test xs) n v.0 v.1 later (g x) refl
    by false e n later = later n

passes : (test : Place → Bool) (xs : List Place) (i : ℕ) (p : Place) → slice_get (filter test xs) i ≡ Some p → test p ≡ true
passes test [] i p h = absurd (none≢some p h)
passes test (x ∷ xs) i p h = by (test x) refl i h (λ j. passes test xs j p)
  where
    by : (b : Bool) → test x ≡ b → (i : ℕ) → slice_get (if b then x ∷ filter test xs else filter test xs) i ≡ Some p → ((j : ℕ) → slice_get (filter test xs) j ≡ Some p → test p ≡ true) → test p ≡ true
    by true e zero h later = subst (λ (z : Place). test z ≡ true) (some_same x p h) e
    by true e (suc i) h later = later i h
    by false e i h later = later i h

value_at : ReadFields → (cs : List ClassFile) → IsResolved cs → (p : Place) → is_static_field cs p ≡ true → (v : Value) × (first_value cs p ≡ Some v)
value_at read cs r p h =
    let d = declared_there read cs r p h in
    (unwrap_or (constant_at cs p) (default d.0), ap (λ (o : Option Declared). option_map (λ d. unwrap_or (constant_at cs p) (default d)) o) d.1)

pub first_is : ReadFields → (cs : List ClassFile) → IsResolved cs → (f : ℕ) (c : ℤ) → constant_of_static cs f ≡ Some c → slice_get (filter_map (first_value cs) (static_fields cs)) f ≡ Some (Int c)
first_is read cs r f c h =
    let p = onto_some (slice_get (static_fields cs) f) (constant_int cs) c h in
    let d = declared_there read cs r p.0 (passes (is_static_field cs) (fields_by_number cs) f p.0 p.1) in
    kept (first_value cs) (is_static_field cs) (value_at read cs r) (fields_by_number cs) f
    ∙ ap (λ (o : Option Place). onto o (first_value cs)) p.1
    ∙ ap (λ (o : Option Declared). option_map (λ d. unwrap_or (constant_at cs p.0) (default d)) o) d.1
    ∙ ap (λ (o : Option Value). Some (unwrap_or o (default d.0))) (constant_is cs p.0 c p.2)
