-- The words of an image lie at its places.
use Rattle.std.specs.Prelude.{◌≡◌, ℕ, ◌+◌, ◌*◌, ◌<◌, ◌≤◌, length, List, [], ◌∷◌, Some, slice_get}
use Rattle.class_pool.specs.declared.class.ClassFile.{ClassFile}
use Rattle.bytecode_model.specs.Types.{Kind, OfNumbers, t_boolean}
use Rattle.bytecode_model.specs.Program.{Program, Method, Body, type_number}
use Rattle.bytecode_model.specs.Effects.{Fault, fault_object}
use Rattle.image_facts.specs.Places.{Places, AreFixed, object_place, image_of}
use Rattle.image_facts.specs.Says.{header_words, method_words}
use Rattle.program_tables.specs.Numbers.{types_of}
use Rattle.program_tables.specs.Resolved.{resolved}
use Rattle.image_words.specs.Regions.{type_image, image_words_of, places_of}
use Rattle.image_words.specs.Layout.{pool_place, outline_of}
use Rattle.image_words.specs.Pools.{entry_words}

-- The words of the image are those in front, the static fields, those in the middle, and the objects.
abbrev pub ImageWordsLie : Type 0
ImageWordsLie = (cs : List ClassFile) → image_words_of cs ≡ image_of (resolved cs) (places_of cs)

-- the header, and the places of the types of the arrays of numbers and of the errors' objects
pub record FrontIsSaid (P : Program) (pl : Places) : Type 0 where
  pub header : AreFixed P pl 0 (header_words P pl)
  pub arrays : (i t : ℕ) → i < 8 → type_number P (OfNumbers (t_boolean + i)) ≡ Some t → AreFixed P pl (pl.arrays + i) (pl.type t ∷ [])
  pub raise_list : (f : Fault) → AreFixed P pl (pl.raise_list + fault_object f) (object_place P pl P.first_objects (fault_object f) ∷ [])

abbrev pub FrontLaw : Type 0
FrontLaw = (cs : List ClassFile) → FrontIsSaid (resolved cs) (places_of cs)

-- the record of a method with code, that of a type, and the words of a pool's entry
abbrev pub MethodsLie : Type 0
MethodsLie = (cs : List ClassFile) (m : ℕ) (k : Method) (b : Body) → slice_get (resolved cs).methods m ≡ Some k → k.body ≡ Some b
    → AreFixed (resolved cs) (places_of cs) ((places_of cs).method m) (method_words (resolved cs) (places_of cs) k b)

abbrev pub TypesLie : Type 0
TypesLie = (cs : List ClassFile) (t : ℕ) (k : Kind) → slice_get (types_of cs) t ≡ Some k
    → AreFixed (resolved cs) (places_of cs) ((places_of cs).type t) (type_image cs (places_of cs) (t, k))

abbrev pub EntriesLie : Type 0
EntriesLie = (cs : List ClassFile) (c : ℕ) (k : ClassFile) (index : ℕ) → slice_get cs c ≡ Some k → index ≤ length k.pool
    → AreFixed (resolved cs) (places_of cs) (pool_place cs c + 2 * index) (entry_words cs (outline_of cs) c k index)
