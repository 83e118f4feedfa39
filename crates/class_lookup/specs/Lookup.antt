-- Fields and methods looked up: JVM Specification SE 8, 5.4.3.2, 5.4.3.3 and 5.4.3.4.
-- A member is the number of its class and its place in that class's list.
use Rattle.std.specs.Prelude.{ℕ, Bool, ◌&&◌, ◌==◌, List, ◌++◌, map, Option, option_map, if◌then◌else◌, slice_get}
use Rattle.class_pool.specs.declared.class.Member.{Member}
use Rattle.class_pool.specs.declared.class.ClassFile.{ClassFile}
use Rattle.lists.specs.Lists.{onto, index_of}
use Rattle.class_lookup.specs.Lists.{first_some}
use Rattle.class_lookup.specs.Parts.{Signature, signature_of, same_signature, is_init}
use Rattle.class_lookup.specs.Hierarchy.{is_interface, superclasses, with_superinterfaces, supertypes, all_superinterfaces}

-- a class's number, and a place in its list of fields or of methods
abbrev pub Place : Type 0
Place = ℕ × ℕ

abbrev pub field_at : List ClassFile → Place → Option Member
field_at cs f = onto (slice_get cs f.0) (λ c. slice_get c.fields f.1)

abbrev pub method_at : List ClassFile → Place → Option Member
method_at cs m = onto (slice_get cs m.0) (λ c. slice_get c.methods m.1)

abbrev pub same_place : Place → Place → Bool
same_place p q = p.0 == q.0 && p.1 == q.1

-- ---- declared members; no class declares two of one name and descriptor (4.5, 4.6)

abbrev pub declared_in : (ClassFile → List Member) → Signature → ClassFile → Option ℕ
declared_in members s c = index_of (λ m. same_signature (signature_of c m) s) (members c)

-- the member of that name and descriptor that the class declares
abbrev pub declared : (ClassFile → List Member) → List ClassFile → Signature → (class : ℕ) → Option Place
declared members cs s c = onto (slice_get cs c) (λ k. option_map (λ i. (c, i)) (declared_in members s k))

abbrev pub declared_field : List ClassFile → Signature → (class : ℕ) → Option Place
declared_field cs s c = declared (λ k. k.fields) cs s c

abbrev pub declared_method : List ClassFile → Signature → (class : ℕ) → Option Place
declared_method cs s c = declared (λ k. k.methods) cs s c

-- ---- members looked up

-- A field of a class or an interface (5.4.3.2): the first that is declared in the class, in its direct superinterfaces in order and recursively, and in its
-- superclass recursively.
unfoldable pub find_field : List ClassFile → (class : ℕ) → Signature → Option Place
find_field cs c s = first_some (map (declared_field cs s) (supertypes cs c))

-- where a method is looked up: in an interface and its superinterfaces (5.4.3.4); in a class and its superclasses, then in all superinterfaces (5.4.3.3)
abbrev pub method_search : List ClassFile → (class : ℕ) → List ℕ
method_search cs c = if is_interface cs c then with_superinterfaces cs c else superclasses cs c ++ all_superinterfaces cs c

-- A method of a class or an interface. Of several superinterfaces that declare it the first counts. An instance initialization method is none but that of the
-- class itself (2.9); and java/lang/Object declares no other method, in which one of an interface could be looked up.
unfoldable pub find_method : List ClassFile → (class : ℕ) → Signature → Option Place
find_method cs c s = if is_init s then declared_method cs s c else first_some (map (declared_method cs s) (method_search cs c))
