-- The local variables with which a method begins: JVM Specification SE 8, 4.10.1.6 (methodInitialStackFrame).
use Rattle.std.specs.Prelude.{Bool, not, ◌&&◌, ◌==◌, if◌then◌else◌, List, [], ◌∷◌, ◌++◌, codes, Option, Some, None}
use Rattle.lists.specs.Lists.{onto}
use Rattle.descriptors.specs.declared.descriptor.Element.{Element}
use Rattle.descriptors.specs.declared.descriptor.Element.TheVariants as elements
use Rattle.descriptors.specs.declared.descriptor.FieldType.{FieldType}
use Rattle.descriptors.specs.Descriptors.{type_units}
use Rattle.descriptors.specs.Parsing.{method_in}
use Rattle.class_pool.specs.declared.class.ClassFile.{ClassFile}
use Rattle.class_pool.specs.declared.class.Member.{Member}
use Rattle.class_lookup.specs.Parts.{same_text, name_of, signature_of, is_static, is_init}
use Rattle.class_pool.specs.Grammar.{text_at}
use Rattle.frame_types.specs.declared.types.VarType.{VarType}
use Rattle.frame_types.specs.declared.types.VarType.TheVariants.{Integer, UninitializedThis, Object, Long}

-- the type as which a value is verified that is no array; float and double have none here
abbrev pub element_type : Element → Option VarType
element_type elements.Byte = Some Integer
element_type elements.Char = Some Integer
element_type elements.Double = None
element_type elements.Float = None
element_type elements.Int = Some Integer
element_type elements.Long = Some Long
element_type (elements.Class name) = Some (Object name)
element_type elements.Short = Some Integer
element_type elements.Boolean = Some Integer

-- an array type is named by its descriptor (4.4.1)
abbrev pub type_of : FieldType → Option VarType
type_of t = if t.dimensions == 0 then element_type t.element else Some (Object (type_units t))

abbrev pub types_of : List FieldType → Option (List VarType)
types_of [] = Some []
types_of (t ∷ ts) = onto (type_of t) (λ first. onto (types_of ts) (λ others. Some (first ∷ others)))

-- an `<init>` begins with `this` uninitialised, that of Object excepted
abbrev pub begins_uninitialized : ClassFile → Member → Bool
begins_uninitialized c m = is_init (signature_of c m) && not (same_text (name_of c) (codes "java/lang/Object"))

abbrev pub this_type : ClassFile → Member → VarType
this_type c m = if begins_uninitialized c m then UninitializedThis else Object (name_of c)

abbrev pub this_types : ClassFile → Member → List VarType
this_types c m = if is_static m then [] else this_type c m ∷ []

-- `this` and the parameters, a long one being one type; none where the method's descriptor isn't one of such types
unfoldable pub first_locals : ClassFile → Member → Option (List VarType)
first_locals c m = onto (method_in (text_at c.pool m.descriptor)) (λ d. onto (types_of d.parameters) (λ ts. Some (this_types c m ++ ts)))
