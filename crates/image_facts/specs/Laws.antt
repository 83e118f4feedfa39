-- What holds of words among other words, and so of the words of an image.
use Rattle.std.specs.Prelude.{◌≡◌, ℕ, ◌+◌, ◌<◌, ◌≤◌, List, [], ◌∷◌, ◌++◌, length, map, take, sum_by, slice_get, slice_index, slice_set, slice_range, Some}
use Rattle.std.specs.List.{flat_map}
use Rattle.bytecode_model.specs.declared.Value.{Value}
use Rattle.bytecode_model.specs.Lists.{replaced}
use Rattle.bytecode_model.specs.Types.{Declared, default}
use Rattle.bytecode_model.specs.State.{Object, State}
use Rattle.bytecode_model.specs.Program.{Program, Limits, kind_of}
use Rattle.bytecode_model.specs.Sizes.{value_words, header_words}
use Rattle.bytecode_model.specs.Steps.{written}
use Rattle.bytecode_model.specs.WellFormed.{AreValues, AreObjects, AreAlike, IsWellFormed}
use Rattle.image_facts.specs.Within.{LieAt, DifferAt}
use Rattle.image_facts.specs.Words.{words_of, object_image, declared_words}
use Rattle.image_facts.specs.Places.{Places, AreFixed, static_place, object_place, end_of, words_with}

-- ---- lists of words

-- Words that lie in a list are read there word by word, and as a range.
abbrev pub WordsAreRead : Type 0
WordsAreRead = (whole : List ℕ) (place : ℕ) (words : List ℕ) (k : ℕ) → LieAt whole place words → k < length words
    → slice_index whole (place + k) ≡ slice_index words k

abbrev pub RangesAreRead : Type 0
RangesAreRead = (whole : List ℕ) (place : ℕ) (words : List ℕ) → LieAt whole place words → slice_range whole place (place + length words) ≡ words

-- A list in which one of them differs comes of writing this one.
abbrev pub WordsAreWritten : Type 0
WordsAreWritten = (whole other : List ℕ) (place : ℕ) (words : List ℕ) (k word : ℕ) → k < length words
    → DifferAt whole other place words (slice_set words k word)
    → slice_set whole (place + k) word ≡ other

-- So where two differ, as those of a long do.
abbrev pub PairsAreWritten : Type 0
PairsAreWritten = (whole other : List ℕ) (place first second high low : ℕ) → DifferAt whole other place (first ∷ second ∷ []) (high ∷ low ∷ [])
    → slice_set (slice_set whole (place + 1) low) place high ≡ other

-- The words of pieces, one behind another: those of one lie behind the ones before it, and where it is replaced, nothing else differs.
abbrev pub joined : List (List ℕ) → List ℕ
joined pieces = flat_map (λ (piece : List ℕ). piece) pieces

abbrev pub PiecesLie : Type 0
PiecesLie = (pieces : List (List ℕ)) (i : ℕ) (words : List ℕ) → slice_get pieces i ≡ Some words → LieAt (joined pieces) (sum_by length (take i pieces)) words

abbrev pub PiecesDiffer : Type 0
PiecesDiffer = (pieces others : List (List ℕ)) (i : ℕ) (words instead : List ℕ) → slice_get pieces i ≡ Some words → replaced pieces i instead ≡ Some others
    → DifferAt (joined pieces) (joined others) (sum_by length (take i pieces)) words instead

-- What lies in words that lie in others lies in these.
abbrev pub LieThrough : Type 0
LieThrough = (whole : List ℕ) (place : ℕ) (middle : List ℕ) (part : ℕ) (words : List ℕ) → LieAt whole place middle → LieAt middle part words
    → LieAt whole (place + part) words

-- Words that follow do not matter.
abbrev pub ListsGoOn : Type 0
ListsGoOn = (whole other back : List ℕ) (place : ℕ) (words instead : List ℕ) → DifferAt whole other place words instead
    → DifferAt (whole ++ back) (other ++ back) place words instead

-- ---- the words of an image, where the static fields and the objects have some values

-- the words of a value of an object
abbrev pub part_place : Program → Places → List Object → (p : ℕ) → Object → (k : ℕ) → ℕ
part_place P pl objects p o k = object_place P pl objects p + (header_words (kind_of P o) + sum_by value_words (take k o.parts))

-- What is fixed is there.
abbrev pub FixedWordsLie : Type 0
FixedWordsLie = (P : Program) (pl : Places) (statics : List Value) (objects : List Object) (place : ℕ) (words : List ℕ)
    → AreAlike statics (map default P.statics)
    → AreFixed P pl place words → LieAt (words_with P pl statics objects) place words

-- Each object lies at its place, and its values at theirs.
abbrev pub ObjectsLie : Type 0
ObjectsLie = (P : Program) (pl : Places) (statics : List Value) (objects : List Object) (p : ℕ) (o : Object) → AreAlike statics (map default P.statics)
    → slice_get objects p ≡ Some o → LieAt (words_with P pl statics objects) (object_place P pl objects p)
    (object_image P pl.type (object_place P pl objects) o)

abbrev pub PartsLie : Type 0
PartsLie = (P : Program) (pl : Places) (statics : List Value) (objects : List Object) (p : ℕ) (o : Object) (k : ℕ) (v : Value)
    → AreAlike statics (map default P.statics)
    → slice_get objects p ≡ Some o → slice_get o.parts k ≡ Some v
    → LieAt (words_with P pl statics objects) (part_place P pl objects p o k) (words_of (object_place P pl objects) v)

-- Where a value of an object is written by one of its width, its words alone differ.
abbrev pub PartsDiffer : Type 0
PartsDiffer = (P : Program) (pl : Places) (statics : List Value) (objects changed : List Object) (p : ℕ) (o : Object) (k : ℕ) (v w : Value)
    → AreAlike statics (map default P.statics)
    → slice_get objects p ≡ Some o → slice_get o.parts k ≡ Some v → value_words w ≡ value_words v → written objects p k w ≡ Some changed
    → DifferAt (words_with P pl statics objects) (words_with P pl statics changed) (part_place P pl objects p o k) (words_of (object_place P pl objects) v)
    (words_of (object_place P pl objects) w)

-- The first so many fields take as many words as they are declared to.
abbrev pub FieldsAreWide : Type 0
FieldsAreWide = (vs : List Value) (ds : List Declared) (k : ℕ) → AreAlike vs (map default ds)
    → sum_by value_words (take k vs) ≡ sum_by declared_words (take k ds)

-- So of static fields.
abbrev pub StaticsLie : Type 0
StaticsLie = (P : Program) (pl : Places) (statics : List Value) (objects : List Object) (k : ℕ) (v : Value) → AreAlike statics (map default P.statics)
    → slice_get statics k ≡ Some v → LieAt (words_with P pl statics objects) (static_place P pl k) (words_of (object_place P pl objects) v)

abbrev pub StaticsDiffer : Type 0
StaticsDiffer = (P : Program) (pl : Places) (statics changed : List Value) (objects : List Object) (k : ℕ) (v w : Value)
    → AreAlike statics (map default P.statics)
    → slice_get statics k ≡ Some v → replaced statics k w ≡ Some changed
    → DifferAt (words_with P pl statics objects) (words_with P pl changed objects) (static_place P pl k) (words_of (object_place P pl objects) v)
    (words_of (object_place P pl objects) w)

-- The words end behind the last object, and those of an object that is made follow there.
abbrev pub WordsEnd : Type 0
WordsEnd = (P : Program) (pl : Places) (statics : List Value) (objects : List Object) → AreAlike statics (map default P.statics)
    → length (words_with P pl statics objects) ≡ end_of P pl objects

abbrev pub ObjectsFollow : Type 0
ObjectsFollow = (P : Program) (pl : Places) (statics : List Value) (objects : List Object) (o : Object) → AreValues (length objects) statics
    → AreObjects P (length objects) objects
    → AreValues (length objects) o.parts → words_with P pl statics (objects ++ o ∷ []) ≡ words_with P pl statics objects
    ++ object_image P pl.type (object_place P pl objects) o

-- The first objects of a state lie where those of the start do, and so does what follows them.
abbrev pub FirstObjectsStay : Type 0
FirstObjectsStay = (P : Program) (pl : Places) (limits : Limits) (s : State) (p : ℕ) → AreObjects P (length P.first_objects) P.first_objects
    → IsWellFormed P limits s
    → p ≤ length P.first_objects → object_place P pl s.objects p ≡ object_place P pl P.first_objects p
