-- What a text means as what a Class entry gives, as a field's and as a method's descriptor: JVM Specification SE 8, 4.3 and 4.4.1.
use Rattle.std.specs.Prelude.{◌≡◌, ℕ, ◌<◌, List, [], ◌∷◌, map, Option, Some, None, IfSome, slice_get}
use Rattle.std.specs.Option.{option_map, option_map_or, IsSomeAnd}
use Rattle.class_pool.specs.declared.class.ClassFile.{ClassFile}
use Rattle.bytecode_model.specs.Lists.{onto}
use Rattle.bytecode_model.specs.Types.{Kind}
use Rattle.class_lookup.specs.Hierarchy.{find_class}
use Rattle.program_tables.specs.declared.text_type.EntryClass.{EntryClass}
use Rattle.program_tables.specs.declared.text_type.EntryClass.TheVariants as variants
use Rattle.program_tables.specs.declared.text_type.TextType.{TextType}
use Rattle.program_tables.specs.Kinds.{type_named, kind_of_type, class_in_type, classes_in_field_descriptor, classes_in_method_descriptor, field_declared}
use Rattle.program_tables.specs.Kinds.{parameters_declared, result_declared}
use Rattle.program_tables.specs.Meanings.{declared_seen}
use Rattle.class_lookup.specs.Symbols.{texts}
use Rattle.program_tables.specs.Tables.{kind_seen}
use Rattle.program_tables.specs.Unresolved.{are_there}

-- what an object of the type is that a Class entry names by this text
abbrev pub kind_of_text : List ClassFile → (text : List ℕ) → Option Kind
kind_of_text cs text = onto (type_named text) (kind_of_type cs)

-- the class, or the class of an array's elements, that a Class entry names by this text
abbrev pub class_in_text : (text : List ℕ) → List (List ℕ)
class_in_text text = option_map_or class_in_type (type_named text) []

-- the names are none; one, of no class; or one, of this class
abbrev pub IsClassOf : List ClassFile → (names : List (List ℕ)) → EntryClass → Type 0
IsClassOf cs names variants.None = names ≡ []
IsClassOf cs names variants.Missing = (name : List ℕ) × (names ≡ name ∷ []) × (find_class cs name ≡ None)
IsClassOf cs names (variants.Class number) = (name : List ℕ) × (names ≡ name ∷ []) × (find_class cs name ≡ Some number)

-- all that a text means
pub record IsTextType (cs : List ClassFile) (text : List ℕ) (t : TextType) : Type 0 where
  pub kind : option_map kind_seen t.entry.kind ≡ kind_of_text cs text
  pub within : IfSome t.entry.kind (λ k. k.dimensions < 256)
  pub class : IsClassOf cs (class_in_text text) t.entry.class
  pub field : option_map declared_seen t.field.declared ≡ field_declared cs text
  pub field_there : t.field.is_there ≡ are_there cs (classes_in_field_descriptor text)
  pub parameters : map declared_seen t.method.parameters ≡ parameters_declared cs text
  pub result : option_map declared_seen t.method.result ≡ result_declared cs text
  pub method_there : t.method.is_there ≡ are_there cs (classes_in_method_descriptor text)

-- of the first texts of the classes, by their symbols
pub record AreTextTypes (cs : List ClassFile) (types : List TextType) : Type 0 where
  pub each : (n : ℕ) (t : TextType) → slice_get types n ≡ Some t → IsSomeAnd (slice_get (texts cs) n) (λ text. IsTextType cs text t)
