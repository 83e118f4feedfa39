-- How wide the fields of an object and the elements of an array are, and so where each lies (JVM Specification SE 8, 2.3 and 2.4).
use Rattle.std.specs.Prelude.{◌≡◌, ℕ, ◌+◌, ◌*◌, ◌<◌, ◌^◌, Bool, true, false, length, slice_get, Some}
use Rattle.bytecode_model.specs.declared.Value.{Value}
use Rattle.bytecode_model.specs.declared.Value.TheVariants.{Unset}
use Rattle.bytecode_model.specs.Types.{Kind, OfClass, OfNumbers, Declared, is_long, zero_of, default, element_type}
use Rattle.bytecode_model.specs.State.{Object, State}
use Rattle.bytecode_model.specs.Program.{Program, Limits, kind_of}
use Rattle.bytecode_model.specs.WellFormed.{IsWellFormed}
use Rattle.image_facts.specs.Places.{Places, object_place}
use Rattle.image_facts.specs.Says.{field_place}
use Rattle.image_facts.specs.Laws.{part_place}

-- whether the elements of an array of the kind are longs
abbrev pub has_longs : Kind → Bool
has_longs (OfNumbers code) = is_long (zero_of (element_type code))
has_longs k = false

-- the words of an element
abbrev pub element_words : Bool → ℕ
element_words true = 2
element_words false = 1

-- an array is shorter than 2^31
abbrev pub ArraysAreShort : Type 0
ArraysAreShort = (P : Program) (limits : Limits) (s : State) (p : ℕ) (o : Object) (k : Kind) → IsWellFormed P limits s → slice_get s.objects p ≡ Some o
    → kind_of P o ≡ Some k
    → ((c : ℕ) → k ≡ OfClass c → ⊥) → length o.parts < 2 ^ 31

-- a value of an object that has the width of others, and is set
pub record IsAsWide (v : Value) (wide : Bool) : Type 0 where
  pub width : is_long v ≡ wide
  pub set : v ≡ Unset → ⊥

-- A field is as wide as it is declared, and lies behind those before it.
abbrev pub FieldsHaveWidths : Type 0
FieldsHaveWidths = (P : Program) (limits : Limits) (s : State) (p : ℕ) (o : Object) (c k : ℕ) (d : Declared) (v : Value) → IsWellFormed P limits s
    → slice_get s.objects p ≡ Some o
    → kind_of P o ≡ Some (OfClass c) → slice_get (P.fields c) k ≡ Some d → slice_get o.parts k ≡ Some v → IsAsWide v (is_long (default d))

abbrev pub FieldsHavePlaces : Type 0
FieldsHavePlaces = (P : Program) (pl : Places) (limits : Limits) (s : State) (p : ℕ) (o : Object) (c k : ℕ) → IsWellFormed P limits s
    → slice_get s.objects p ≡ Some o
    → kind_of P o ≡ Some (OfClass c) → part_place P pl s.objects p o k ≡ object_place P pl s.objects p + field_place P c k

-- So with the elements of an array, of which all have one width.
abbrev pub ElementsHaveWidths : Type 0
ElementsHaveWidths = (P : Program) (limits : Limits) (s : State) (p : ℕ) (o : Object) (kind : Kind) (k : ℕ) (v : Value) → IsWellFormed P limits s
    → slice_get s.objects p ≡ Some o
    → kind_of P o ≡ Some kind → ((c : ℕ) → kind ≡ OfClass c → ⊥) → slice_get o.parts k ≡ Some v → IsAsWide v (has_longs kind)

abbrev pub ElementsHavePlaces : Type 0
ElementsHavePlaces = (P : Program) (pl : Places) (limits : Limits) (s : State) (p : ℕ) (o : Object) (kind : Kind) (k : ℕ) (v : Value) → IsWellFormed P limits s
    → slice_get s.objects p ≡ Some o
    → kind_of P o ≡ Some kind → ((c : ℕ) → kind ≡ OfClass c → ⊥) → slice_get o.parts k ≡ Some v
    → part_place P pl s.objects p o k ≡ object_place P pl s.objects p + (2 + k * element_words (has_longs kind))

-- So with static fields.
abbrev pub StaticsHaveWidths : Type 0
StaticsHaveWidths = (P : Program) (limits : Limits) (s : State) (k : ℕ) (d : Declared) (v : Value) → IsWellFormed P limits s
    → slice_get P.statics k ≡ Some d → slice_get s.statics k ≡ Some v → IsAsWide v (is_long (default d))
