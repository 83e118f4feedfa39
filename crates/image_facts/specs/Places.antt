-- Where the parts of an image lie.
use Rattle.std.specs.Prelude.{◌≡◌, ◌⊎◌, ℕ, ◌+◌, List, [], ◌++◌, length, take, sum_by, slice_get, Some, None}
use Rattle.std.specs.List.{flat_map}
use Rattle.bytecode_model.specs.declared.Value.{Value}
use Rattle.bytecode_model.specs.State.{Object}
use Rattle.bytecode_model.specs.Program.{Program}
use Rattle.bytecode_model.specs.Sizes.{object_words}
use Rattle.image_facts.specs.Within.{LieAt}
use Rattle.image_facts.specs.Words.{words_of, object_image, declared_words}

-- The words of an image are those in front, the static fields, those in the middle, and the first objects. Its parts lie at these places: the records
-- of methods and of types by their numbers, the pools by classes, the tables of methods and of interface methods by types, and two lists of places:
-- of the types of the arrays of numbers, and of the objects that instructions raise.
pub record Places : Type 0 where
  pub front : List ℕ
  pub middle : List ℕ
  pub method : ℕ → ℕ
  pub type : ℕ → ℕ
  pub pool : (class : ℕ) → ℕ
  pub method_table : (type : ℕ) → ℕ
  pub interface_table : (type : ℕ) → ℕ
  pub arrays : ℕ
  pub raise_list : ℕ

-- ---- static fields and objects, one behind another

abbrev pub statics_words : Program → ℕ
statics_words P = sum_by declared_words P.statics

abbrev pub static_place : Program → Places → (field : ℕ) → ℕ
static_place P pl k = length pl.front + sum_by declared_words (take k P.statics)

abbrev pub middle_place : Program → Places → ℕ
middle_place P pl = length pl.front + statics_words P

abbrev pub objects_place : Program → Places → ℕ
objects_place P pl = middle_place P pl + length pl.middle

abbrev pub object_place : Program → Places → List Object → (object : ℕ) → ℕ
object_place P pl objects p = objects_place P pl + sum_by (object_words P) (take p objects)

-- the word behind the last object
abbrev pub end_of : Program → Places → List Object → ℕ
end_of P pl objects = objects_place P pl + sum_by (object_words P) objects

-- all of these words, where the static fields and the objects have these values
abbrev pub words_with : Program → Places → (statics : List Value) → List Object → List ℕ
words_with P pl statics objects =
    let place = object_place P pl objects in
    pl.front ++ (flat_map (words_of place) statics ++ (pl.middle ++ flat_map (object_image P pl.type place) objects))

-- the words of the image, and how many they are
abbrev pub image_of : Program → Places → List ℕ
image_of P pl = words_with P pl P.first_statics P.first_objects

abbrev pub image_words : Program → Places → ℕ
image_words P pl = end_of P pl P.first_objects

-- ---- words that nothing writes

-- these words lie from the place on, in front or in the middle
abbrev pub AreFixed : Program → Places → (place : ℕ) → (words : List ℕ) → Type 0
AreFixed P pl place words = LieAt pl.front place words ⊎ ((k : ℕ) × (place ≡ middle_place P pl + k) × LieAt pl.middle k words)

-- the pool of the class that has the method
abbrev pub pool_of : Program → Places → (method : ℕ) → ℕ
pool_of P pl m = elim (slice_get P.methods m) [ None ↦ 0 | Some k ↦ pl.pool k.owner ]

-- a bare image has no words
abbrev pub bare_places : Places
bare_places = record {
  front = [];
  middle = [];
  method = λ m. 0;
  type = λ t. 0;
  pool = λ c. 0;
  method_table = λ t. 0;
  interface_table = λ t. 0;
  arrays = 0;
  raise_list = 0;
}
