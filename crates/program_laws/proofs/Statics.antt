-- The values with which the static fields begin.
use Rattle.std.proofs.Common.{◌≡◌, ◌↔◌, ℕ, zero, suc, ◌+◌, ◌*◌, ◌^◌, ◌<◌, Bool, true, false, ◌||◌, List, [], ◌∷◌, ◌++◌, drop, Option, Some, None, map, length, refl, sym, ap, ◌∙◌, subst, take-append-drop, arith}
use Rattle.std.specs.Prelude.{slice_get, IfSome, FitsSigned, unwrap_or, codes, if◌then◌else◌}
use Rattle.std.specs.Int.{w32, w64, cast_signed}
use Rattle.std.specs.Option.{option_map}
use Rattle.std.specs.List.{filter, filter_map, cons_option, flat_map, enumerate_from, AllByRecursion}
use Rattle.std.proofs.Math.Facts.{sfits_to_z}
use Rattle.std.proofs.lemmas.Bool.{or_right}
use Rattle.class_pool.specs.declared.entry.Entry.{Entry}
use Rattle.class_pool.specs.declared.entry.Entry.TheVariants as entries
use Rattle.class_pool.specs.Grammar.{entry_at, text_at}
use Rattle.class_pool.specs.Spelling.{IsEntryInRange}
use Rattle.class_pool.specs.Found.{constant_value_of}
use Rattle.class_pool.specs.declared.class.Member.{Member}
use Rattle.class_pool.specs.declared.class.ClassFile.{ClassFile}
use Rattle.descriptors.specs.declared.descriptor.Element.{Element}
use Rattle.descriptors.specs.declared.descriptor.Element.TheVariants as elements
use Rattle.descriptors.specs.declared.descriptor.FieldType.{FieldType}
use Rattle.descriptors.specs.Descriptors.{IsFieldDescriptor}
use Rattle.descriptors.specs.Parsing.{field_in}
use Rattle.class_rules.specs.Rules.{IsConstantOfElement, IsRightField}
use Rattle.class_rules.specs.Found.{FieldsHaveConstants}
use Rattle.class_rules.specs.Grammar.{IsClass}
use Rattle.bytecode_model.specs.declared.Value.{Value}
use Rattle.bytecode_model.specs.declared.Value.TheVariants.{Int, Long, Ref}
use Rattle.bytecode_model.specs.Lists.{onto, index_of}
use Rattle.bytecode_model.specs.Types.{OfClass, Declared, Numeric, IntType, LongType, Reference, default}
use Rattle.bytecode_model.specs.Program.{string_class}
use Rattle.bytecode_typing.specs.Tests.{Holds, AllTwo}
use Rattle.bytecode_typing.specs.Fits.{kind_in, may_be, HasDeclared, numbers_of}
use Rattle.lists.proofs.Lemmas.{none≢some, some_same, onto_some, map_some, index_found}
use Rattle.class_lookup.specs.Parts.{same_text, name_of, is_static}
use Rattle.class_lookup.specs.Hierarchy.{find_class, is_interface, extends}
use Rattle.class_lookup.specs.Lookup.{Place, field_at}
use Rattle.program_tables.specs.Core.{core_names}
use Rattle.program_tables.specs.Kinds.{declared_of, reference_declared, field_declared}
use Rattle.program_tables.specs.Numbers.{is_static_field, static_fields, fields_by_number, class_type_number, constant_entry, strings_of, string_number, types_of}
use Rattle.program_tables.specs.Operands.{string_object}
use Rattle.program_tables.specs.Resolved.{declared_at, declared_fields, constant_of, constant_at, first_value, string_objects, resolved}
use Rattle.program_tables.specs.Resolving.{IsResolved}
use Rattle.program_laws.proofs.ClassLaws.{OrderLaws}
use Rattle.program_laws.proofs.Facts.{all_at, map_or_some, set_of}
use Rattle.program_laws.proofs.Programs.{holds, some_and}
use Rattle.program_laws.proofs.Objects.{class_type, concrete_within, default_fits, in_range, ks_of}

-- ---- the class of strings is found by its name

index_map : {A B : Type 0} (test : B → Bool) (f : A → B) (xs : List A) → index_of (λ x. test (f x)) xs ≡ index_of test (map f xs)
index_map test f [] = refl
index_map test f (x ∷ xs) = ap (λ o. if test (f x) then Some 0 else onto o (λ k. Some (suc k))) (index_map test f xs)

pub string_found : (cs : List ClassFile) → IsResolved cs → find_class cs (codes "java/lang/String") ≡ Some string_class
string_found cs r =
    let test : List ℕ → Bool = λ x. same_text x (codes "java/lang/String") in
    let names = map name_of cs in
    let split : names ≡ core_names ++ drop (length core_names) names = sym (take-append-drop (length core_names) names) ∙ ap (λ xs. xs ++ drop (length core_names) names) r.core.names in
    index_map test name_of cs ∙ ap (index_of test) split

-- ---- a string's object

string_at : (ss : List (List ℕ)) (a n : ℕ) (units : List ℕ) → slice_get ss n ≡ Some units → slice_get (numbers_of (flat_map string_objects (enumerate_from a ss))) (2 * n + 1) ≡ Some (class_type_number string_class)
string_at [] a n units h = absurd (none≢some units h)
string_at (s ∷ ss) a zero units h = refl
string_at (s ∷ ss) a (suc n) units h =
    let same : 2 * suc n + 1 ≡ suc (suc (2 * n + 1)) = omega arith in
    ap (slice_get (numbers_of (flat_map string_objects (enumerate_from a (s ∷ ss))))) same ∙ string_at ss (a + 1) n units h

pub string_kind : (cs : List ClassFile) → IsResolved cs → (n : ℕ) (units : List ℕ) → slice_get (strings_of cs) n ≡ Some units → kind_in (resolved cs) (ks_of cs) (string_object n) ≡ Some (OfClass string_class)
string_kind cs r n units h =
    let same : string_object n ≡ suc (suc (suc (suc (suc (suc (suc (suc (suc (2 * n + 1))))))))) = omega arith in
    let at : slice_get (ks_of cs) (string_object n) ≡ Some (class_type_number string_class) = ap (slice_get (ks_of cs)) same ∙ string_at (strings_of cs) 0 n units h in
    ap (λ o. onto o (λ t. slice_get (types_of cs) t)) at ∙ class_type cs string_class (concrete_within cs string_class r.core.string)

-- ---- constants

pub int_fits : (n : ℕ) → n < 2 ^ 32 → FitsSigned w32 (cast_signed w32 n)
int_fits n lt = sfits_to_z {w = w32} {n = n} (record { fits = lt })

pub long_fits : (n : ℕ) → n < 2 ^ 64 → FitsSigned w64 (cast_signed w64 n)
long_fits n lt = sfits_to_z {w = w64} {n = n} (record { fits = lt })

abbrev IsConstantFor : List ClassFile → List Entry → Declared → Entry → Type 0
IsConstantFor cs pool d e = (v : Value) → IsEntryInRange e → constant_of cs pool e ≡ Some v → HasDeclared (resolved cs) (ks_of cs) d v

int_for : (cs : List ClassFile) (pool : List Entry) (d : Declared) (e : Entry) (n : ℕ) → Some (Numeric IntType) ≡ Some d → Some e ≡ Some (entries.Integer n) → IsConstantFor cs pool d e
int_for cs pool d e n h i v lt k =
    let same = some_same e (entries.Integer n) i in
    let low : n < 2 ^ 32 = subst IsEntryInRange same lt in
    let value = some_same (Int (cast_signed w32 n)) v (ap (constant_of cs pool) (sym same) ∙ k) in
    subst (λ x. HasDeclared (resolved cs) (ks_of cs) x v) (some_same (Numeric IntType) d h) (subst (HasDeclared (resolved cs) (ks_of cs) (Numeric IntType)) value (int_fits n low))

long_for : (cs : List ClassFile) (pool : List Entry) (d : Declared) (e : Entry) (n : ℕ) → Some (Numeric LongType) ≡ Some d → Some e ≡ Some (entries.Long n) → IsConstantFor cs pool d e
long_for cs pool d e n h i v lt k =
    let same = some_same e (entries.Long n) i in
    let low : n < 2 ^ 64 = subst IsEntryInRange same lt in
    let value = some_same (Long (cast_signed w64 n)) v (ap (constant_of cs pool) (sym same) ∙ k) in
    subst (λ x. HasDeclared (resolved cs) (ks_of cs) x v) (some_same (Numeric LongType) d h) (subst (HasDeclared (resolved cs) (ks_of cs) (Numeric LongType)) value (long_fits n low))

string_for : OrderLaws → (cs : List ClassFile) → IsResolved cs → (pool : List Entry) (d : Declared) (e : Entry) (name : List ℕ) (units : ℕ) → name ≡ codes "java/lang/String" → reference_declared cs (record { dimensions = 0; element = elements.Class name }) ≡ Some d
    → Some e ≡ Some (entries.Text units) → IsConstantFor cs pool d e
string_for order cs r pool d e name units h rd i v lt k =
    let same = some_same e (entries.Text units) i in
    let n = map_some (λ n. Ref (string_object n)) (string_number cs (text_at pool units)) v (ap (constant_of cs pool) (sym same) ∙ k) in
    let f = index_found (same_text (text_at pool units)) (strings_of cs) n.0 n.1 in
    let kind = string_kind cs r n.0 f.0 f.1 in
    let declared : reference_declared cs (record { dimensions = 0; element = elements.Class name }) ≡ Some (Reference (OfClass string_class)) =
    ap (λ o. option_map Reference (option_map (λ c. OfClass c) o)) (ap (find_class cs) h ∙ string_found cs r) in
    let meets : Holds (may_be (resolved cs) (OfClass string_class) (OfClass string_class)) =
    holds (is_interface cs string_class || extends cs string_class string_class) (or_right (is_interface cs string_class) (extends cs string_class string_class) ((order.hierarchy cs r.acyclic).self string_class)) in
    let good : HasDeclared (resolved cs) (ks_of cs) (Reference (OfClass string_class)) (Ref (string_object n.0)) =
    some_and (kind_in (resolved cs) (ks_of cs) (string_object n.0)) (λ k. Holds (may_be (resolved cs) k (OfClass string_class))) (OfClass string_class) kind meets in
    subst (λ x. HasDeclared (resolved cs) (ks_of cs) x v) (some_same (Reference (OfClass string_class)) d (sym declared ∙ rd)) (subst (HasDeclared (resolved cs) (ks_of cs) (Reference (OfClass string_class))) n.2 good)

-- a constant of a type that is no array fits the type
constant_fits : OrderLaws → (cs : List ClassFile) → IsResolved cs → (pool : List Entry) (d : Declared) (e : Entry) (element : Element) → declared_of cs (record { dimensions = 0; element = element }) ≡ Some d → IsConstantOfElement element (Some e) → IsConstantFor cs pool d e
constant_fits order cs r pool d e elements.Int h i = int_for cs pool d e i.0 h i.1
constant_fits order cs r pool d e elements.Short h i = int_for cs pool d e i.0 h i.1
constant_fits order cs r pool d e elements.Char h i = int_for cs pool d e i.0 h i.1
constant_fits order cs r pool d e elements.Byte h i = int_for cs pool d e i.0 h i.1
constant_fits order cs r pool d e elements.Boolean h i = int_for cs pool d e i.0 h i.1
constant_fits order cs r pool d e elements.Long h i = long_for cs pool d e i.0 h i.1
constant_fits order cs r pool d e elements.Float h i = absurd (none≢some d h)
constant_fits order cs r pool d e elements.Double h i = absurd (none≢some d h)
constant_fits order cs r pool d e (elements.Class name) h i = string_for order cs r pool d e name i.1.0 i.0 h i.1.1

-- ---- static fields

abbrev pub ReadFields : Type 0
ReadFields = (units : List ℕ) (t : FieldType) → (field_in units ≡ Some t) ↔ IsFieldDescriptor units t

pub range_of : (o : Option Entry) (e : Entry) → IfSome o IsEntryInRange → o ≡ Some e → IsEntryInRange e
range_of o e h s = subst (λ x. IfSome x IsEntryInRange) s h

constant_value_fits : OrderLaws → FieldsHaveConstants → ReadFields → (cs : List ClassFile) → IsResolved cs → (f : Place) (d : Declared) (v : Value) → is_static_field cs f ≡ true → declared_at cs f ≡ Some d → constant_at cs f ≡ Some v → HasDeclared (resolved cs) (ks_of cs) d v
constant_value_fits order law read cs r f d v static h k =
    let c = onto_some (slice_get cs f.0) (λ c. onto (field_at cs f) (λ k. onto (constant_entry c k) (constant_of cs c.pool))) v k in
    let m = onto_some (field_at cs f) (λ k. onto (constant_entry c.0 k) (constant_of cs c.0.pool)) v c.2 in
    let e = onto_some (constant_entry c.0 m.0) (constant_of cs c.0.pool) v m.2 in
    let index = onto_some (constant_value_of m.0) (entry_at c.0.pool) e.0 e.1 in
    let there = onto_some (slice_get cs f.0) (λ c. slice_get c.fields f.1) m.0 m.1 in
    let owner = some_same there.0 c.0 (sym there.1 ∙ c.1) in
    let class = all_at IsClass cs f.0 c.0 r.grammar c.1 in
    let right = all_at (IsRightField c.0) c.0.fields f.1 m.0 class.rules.fields (subst (λ (x : ClassFile). slice_get x.fields f.1 ≡ Some m.0) owner there.2) in
    let flag = map_or_some is_static (field_at cs f) static in
    let set = set_of m.0.flags 0x0008 (ap is_static (sym (some_same flag.0 m.0 (sym flag.1 ∙ m.1))) ∙ flag.2) in
    let constant = (law c.0 m.0 right index.0 index.1).0 set in
    let units = constant.0 in
    let t = constant.2.0 in
    let flat : t.dimensions ≡ 0 = constant.2.2.0 in
    let simple : record { dimensions = 0; element = t.element } ≡ t = ap (λ (n : ℕ). record { dimensions = n; element = t.element }) (sym flat) in
    let typed : field_in (text_at c.0.pool m.0.descriptor) ≡ Some t = ap (λ o. field_in (unwrap_or o [])) constant.1 ∙ (read units t).1 constant.2.1 in
    let dc = onto_some (slice_get cs f.0) (λ c. onto (field_at cs f) (λ k. field_declared cs (text_at c.pool k.descriptor))) d h in
    let dm = onto_some (field_at cs f) (λ k. field_declared cs (text_at dc.0.pool k.descriptor)) d dc.2 in
    let same_c = some_same dc.0 c.0 (sym dc.1 ∙ c.1) in
    let same_m = some_same dm.0 m.0 (sym dm.1 ∙ m.1) in
    let declared : field_declared cs (text_at c.0.pool m.0.descriptor) ≡ Some d = ap (λ (x : ClassFile). field_declared cs (text_at x.pool m.0.descriptor)) (sym same_c) ∙ (ap (λ (x : Member). field_declared cs (text_at dc.0.pool x.descriptor)) (sym same_m) ∙ dm.2) in
    let of_type : declared_of cs (record { dimensions = 0; element = t.element }) ≡ Some d = ap (declared_of cs) simple ∙ (ap (λ o. onto o (declared_of cs)) (sym typed) ∙ declared) in
    constant_fits order cs r c.0.pool d e.0 t.element of_type (subst (IsConstantOfElement t.element) index.2 constant.2.2.1) v
    (range_of (entry_at c.0.pool index.0) e.0 (in_range c.0.pool index.0 class.pool.in_range) index.2) e.2

value_case : OrderLaws → FieldsHaveConstants → ReadFields → (cs : List ClassFile) → IsResolved cs → (f : Place) (d : Declared) (o : Option Value) → is_static_field cs f ≡ true → declared_at cs f ≡ Some d → constant_at cs f ≡ o
    → HasDeclared (resolved cs) (ks_of cs) d (unwrap_or o (default d))
value_case order law read cs r f d None static h k = default_fits (resolved cs) (ks_of cs) d
value_case order law read cs r f d (Some v) static h k = constant_value_fits order law read cs r f d v static h k

two_case : OrderLaws → FieldsHaveConstants → ReadFields → (cs : List ClassFile) → IsResolved cs → (f : Place) (fs : List Place) (o : Option Declared) → declared_at cs f ≡ o → is_static_field cs f ≡ true
    → AllTwo (HasDeclared (resolved cs) (ks_of cs)) (filter_map (declared_at cs) fs) (filter_map (first_value cs) fs)
    → AllTwo (HasDeclared (resolved cs) (ks_of cs)) (cons_option o (filter_map (declared_at cs) fs)) (cons_option (option_map (λ d. unwrap_or (constant_at cs f) (default d)) o) (filter_map (first_value cs) fs))
two_case order law read cs r f fs None h static later = later
two_case order law read cs r f fs (Some d) h static later = (value_case order law read cs r f d (constant_at cs f) static h refl, later)

all_two : OrderLaws → FieldsHaveConstants → ReadFields → (cs : List ClassFile) → IsResolved cs → (fs : List Place) → AllByRecursion (λ f. is_static_field cs f ≡ true) fs → AllTwo (HasDeclared (resolved cs) (ks_of cs)) (filter_map (declared_at cs) fs) (filter_map (first_value cs) fs)
all_two order law read cs r [] s = tt
all_two order law read cs r (f ∷ fs) s = two_case order law read cs r f fs (declared_at cs f) refl s.0 (all_two order law read cs r fs s.1)

filter_case : {A : Type 0} (test : A → Bool) (x : A) (xs : List A) (b : Bool) → test x ≡ b → AllByRecursion (λ y. test y ≡ true) (filter test xs) → AllByRecursion (λ y. test y ≡ true) (if b then x ∷ filter test xs else filter test xs)
filter_case test x xs true e later = (e, later)
filter_case test x xs false e later = later

filter_passes : {A : Type 0} (test : A → Bool) (xs : List A) → AllByRecursion (λ y. test y ≡ true) (filter test xs)
filter_passes test [] = tt
filter_passes test (x ∷ xs) = filter_case test x xs (test x) refl (filter_passes test xs)

pub first_statics : OrderLaws → FieldsHaveConstants → ReadFields → (cs : List ClassFile) → IsResolved cs → AllTwo (HasDeclared (resolved cs) (ks_of cs)) (declared_fields cs (static_fields cs)) (filter_map (first_value cs) (static_fields cs))
first_statics order law read cs r = all_two order law read cs r (static_fields cs) (filter_passes (is_static_field cs) (fields_by_number cs))
