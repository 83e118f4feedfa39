-- The rows of new, newarray and anewarray.
use Rattle.std.proofs.Common.{◌≡◌, ℕ, suc, ◌+◌, ◌-◌, ◌*◌, ◌%◌, ◌^◌, ◌==◌, ◌&&◌, Bool, true, false, nat_lt, List, [], ◌∷◌, drop, bit_xor, refl}
use Rattle.std.specs.Prelude.{slice_index, slice_set}
use Rattle.jop_core.specs.Operations.{number_of, signed_lt}
use Rattle.micro_sketch.specs.Sketch.{Sketch, exec, same_bool}
use Rattle.micro_sketch.specs.Row.{Effect, unchanged, words_of}
use Rattle.micro_sketch.specs.Rows.{Makes, makes, entered, outcome_of, outcome}
use Rattle.micro_sketch.specs.Operand.{past}
use Rattle.opcode_steps.proofs.ObjectLemmas.Raising.{MakesRaise, raises_raw, stopped_of, stopped}
use Rattle.opcode_steps.proofs.ObjectLemmas.TypeRows.{taken, index, entry_place, raising}

-- ---- what the rows compute with

-- the next word of the heap, and the end of the memory
abbrev pub heap : Sketch → ℕ
heap x = slice_index x.low 26

abbrev pub memory_end : Sketch → ℕ
memory_end x = slice_index x.low 27

-- a branch that goes where a test holds
abbrev pub where_true : (guess test : Bool) → Bool
where_true guess test = same_bool guess (nat_lt 0 (number_of test))

-- the object is made at the heap's next word: its first words are written, its place is pushed, and the heap goes on at the end
abbrev pub made : (words memory : List ℕ) → (end bytes : ℕ) → Sketch → Effect
made words memory end bytes x = record (unchanged x) { words = heap x ∷ words; memory = memory; low = slice_set (drop 24 x.low) 2 end; jpc = (past bytes x).jpc }

pub held : (guess test : Bool) (rest : Bool) → test ≡ guess → rest ≡ true → (where_true guess test && rest) ≡ true
held true true rest e r = r
held true false rest e r = cc
held false true rest e r = cc
held false false rest e r = r

-- ---- new

-- the type whose place the first word of the entry is, and the words of an instance
abbrev pub named_type : Sketch → ℕ
named_type x = slice_index x.memory (entry_place x (index x))

abbrev pub instance_end : Sketch → ℕ
instance_end x = (slice_index x.memory ((named_type x + 1) % 2 ^ 32) + heap x) % 2 ^ 32

abbrev pub instance_made : Sketch → Effect
instance_made x = made (words_of x) (slice_set x.memory (heap x) (named_type x)) (instance_end x) 2 x

new_makes : (x : Sketch) → let z = entered 187 x in outcome_of (exec 32 (false ∷ []) z) ≡ outcome (where_true false (nat_lt (memory_end z) (instance_end z)) && true) (instance_made z) z
new_makes x = refl

new_fails : (x : Sketch) → let z = entered 187 x in stopped_of (exec 32 (true ∷ []) z) ≡ stopped (where_true true (nat_lt (memory_end z) (instance_end z)) && true) (raising (words_of z) 2 7 z) z
new_fails x = refl

pub instance_fits : (x : Sketch) → let z = entered 187 x in nat_lt (memory_end z) (instance_end z) ≡ false → Makes (instance_made z) z
instance_fits x fits = let z = entered 187 x in makes 31 (false ∷ []) (instance_made z) z _ (new_makes x) (held false (nat_lt (memory_end z) (instance_end z)) true fits refl)

pub instance_fails : (x : Sketch) → let z = entered 187 x in nat_lt (memory_end z) (instance_end z) ≡ true → MakesRaise (raising (words_of z) 2 7 z) z
instance_fails x fails =
    let z = entered 187 x in raises_raw 31 (true ∷ []) (raising (words_of z) 2 7 z) (raising (words_of z) 2 7 z) z _ (new_fails x) (held true (nat_lt (memory_end z) (instance_end z)) true fails refl) refl

-- ---- arrays, the length of which is on top: an element takes 2 ^ shift words

abbrev pub below : Sketch → List ℕ
below x = x.next ∷ x.under

abbrev pub is_negative : Sketch → Bool
is_negative x = signed_lt x.top 0

abbrev pub array_end : (shift : ℕ) → Sketch → ℕ
array_end shift x = ((heap x + 2) % 2 ^ 32 + (x.top * 2 ^ shift) % 2 ^ 32) % 2 ^ 32

abbrev pub array_memory : (type : ℕ) → Sketch → List ℕ
array_memory type x = slice_set (slice_set x.memory (heap x) type) ((heap x + 1) % 2 ^ 32) x.top

abbrev pub array_made : (type shift bytes : ℕ) → Sketch → Effect
array_made type shift bytes x = made (below x) (array_memory type x) (array_end shift x) bytes x

-- whether it is too long for the memory, and whether it doesn't fit behind the other objects
abbrev pub is_over : Sketch → Bool
is_over x = nat_lt (memory_end x) x.top

abbrev pub ends_behind : (shift : ℕ) → Sketch → Bool
ends_behind shift x = nat_lt (memory_end x) (array_end shift x)

-- the tests on the way, the last one first
abbrev pub sized : (guess : Bool) → (rest : Bool) → Sketch → Bool
sized guess rest x = where_true guess (is_negative x) && rest

abbrev pub short_enough : (guess : Bool) → (rest : Bool) → Sketch → Bool
short_enough guess rest x = where_true guess (is_over x) && sized false rest x

abbrev pub fitting : (guess : Bool) → (shift : ℕ) → (rest : Bool) → Sketch → Bool
fitting guess shift rest x = where_true guess (ends_behind shift x) && short_enough false rest x

-- ---- anewarray

-- the type of its arrays, whose place the second word of the entry is
abbrev pub array_type : Sketch → ℕ
array_type x = slice_index x.memory ((entry_place x (index x) + 1) % 2 ^ 32)

references_make : (x : Sketch) → let z = entered 189 x in outcome_of (exec 51 (false ∷ false ∷ false ∷ []) z) ≡ outcome (fitting false 0 true z) (array_made (array_type z) 0 2 z) z
references_make x = refl

references_negative : (x : Sketch) → let z = entered 189 x in stopped_of (exec 28 (true ∷ []) z) ≡ stopped (sized true true z) (raising (below z) 2 5 z) z
references_negative x = refl

references_over : (x : Sketch) → let z = entered 189 x in stopped_of (exec 32 (false ∷ true ∷ []) z) ≡ stopped (short_enough true true z) (raising (below z) 2 7 z) z
references_over x = refl

references_fail : (x : Sketch) → let z = entered 189 x in stopped_of (exec 44 (false ∷ false ∷ true ∷ []) z) ≡ stopped (fitting true 0 true z) (raising (below z) 2 7 z) z
references_fail x = refl

-- ---- newarray

-- the code of the array's type is the byte behind the opcode
abbrev pub type_code : Sketch → ℕ
type_code x = taken 0 x

abbrev pub code_place : Sketch → ℕ
code_place x = ((slice_index x.memory 5 + type_code x) % 2 ^ 32 + (2 ^ 32 - 4)) % 2 ^ 32

abbrev pub coded_type : Sketch → ℕ
coded_type x = slice_index x.memory (code_place x)

abbrev pub is_coded_long : (guess : Bool) → Sketch → Bool
is_coded_long guess x = same_bool guess (bit_xor (type_code x) 11 == 0) && true

numbers_make : (x : Sketch) → let z = entered 188 x in outcome_of (exec 57 (false ∷ false ∷ false ∷ false ∷ []) z) ≡ outcome (fitting false 0 (is_coded_long false z) z) (array_made (coded_type z) 0 1 z) z
numbers_make x = refl

numbers_negative : (x : Sketch) → let z = entered 188 x in stopped_of (exec 34 (false ∷ true ∷ []) z) ≡ stopped (sized true (is_coded_long false z) z) (raising (below z) 1 5 z) z
numbers_negative x = refl

numbers_over : (x : Sketch) → let z = entered 188 x in stopped_of (exec 38 (false ∷ false ∷ true ∷ []) z) ≡ stopped (short_enough true (is_coded_long false z) z) (raising (below z) 1 7 z) z
numbers_over x = refl

numbers_fail : (x : Sketch) → let z = entered 188 x in stopped_of (exec 50 (false ∷ false ∷ false ∷ true ∷ []) z) ≡ stopped (fitting true 0 (is_coded_long false z) z) (raising (below z) 1 7 z) z
numbers_fail x = refl

longs_make : (x : Sketch) → let z = entered 188 x in outcome_of (exec 56 (true ∷ false ∷ false ∷ false ∷ []) z) ≡ outcome (fitting false 1 (is_coded_long true z) z) (array_made (coded_type z) 1 1 z) z
longs_make x = refl

longs_negative : (x : Sketch) → let z = entered 188 x in stopped_of (exec 33 (true ∷ true ∷ []) z) ≡ stopped (sized true (is_coded_long true z) z) (raising (below z) 1 5 z) z
longs_negative x = refl

longs_over : (x : Sketch) → let z = entered 188 x in stopped_of (exec 37 (true ∷ false ∷ true ∷ []) z) ≡ stopped (short_enough true (is_coded_long true z) z) (raising (below z) 1 7 z) z
longs_over x = refl

longs_fail : (x : Sketch) → let z = entered 188 x in stopped_of (exec 49 (true ∷ false ∷ false ∷ true ∷ []) z) ≡ stopped (fitting true 1 (is_coded_long true z) z) (raising (below z) 1 7 z) z
longs_fail x = refl

-- ---- the rows of arrays, as the states need them

-- the row of an opcode with so many bytes behind it, where a condition holds of the sketch: the place of the array's type, and the words of an element
pub record ArrayRows (op bytes shift : ℕ) (type : Sketch → ℕ) (condition : Sketch → Bool) : Type 0 where
  pub negative : (x : Sketch) → let z = entered op x in condition z ≡ true → is_negative z ≡ true → MakesRaise (raising (below z) bytes 5 z) z
  pub over : (x : Sketch) → let z = entered op x in condition z ≡ true → is_negative z ≡ false → is_over z ≡ true → MakesRaise (raising (below z) bytes 7 z) z
  pub fails : (x : Sketch) → let z = entered op x in condition z ≡ true → is_negative z ≡ false → is_over z ≡ false → ends_behind shift z ≡ true → MakesRaise (raising (below z) bytes 7 z) z
  pub makes_array : (x : Sketch) → let z = entered op x in condition z ≡ true → is_negative z ≡ false → is_over z ≡ false → ends_behind shift z ≡ false → Makes (array_made (type z) shift bytes z) z

size_held : (guess rest : Bool) (x : Sketch) → rest ≡ true → is_negative x ≡ guess → sized guess rest x ≡ true
size_held guess rest x r e = held guess (is_negative x) rest e r

short_held : (guess rest : Bool) (x : Sketch) → rest ≡ true → is_negative x ≡ false → is_over x ≡ guess → short_enough guess rest x ≡ true
short_held guess rest x r e f = held guess (is_over x) (sized false rest x) f (size_held false rest x r e)

fit_held : (guess : Bool) (shift : ℕ) (rest : Bool) (x : Sketch) → rest ≡ true → is_negative x ≡ false → is_over x ≡ false → ends_behind shift x ≡ guess → fitting guess shift rest x ≡ true
fit_held guess shift rest x r e f g = held guess (ends_behind shift x) (short_enough false rest x) g (short_held false rest x r e f)

raises : (k : ℕ) (guesses : List Bool) (words : List ℕ) (bytes fault : ℕ) (z : Sketch) (allowed : Bool) → stopped_of (exec (suc k) guesses z) ≡ stopped allowed (raising words bytes fault z) z → allowed ≡ true
    → MakesRaise (raising words bytes fault z) z
raises k guesses words bytes fault z allowed h fine = raises_raw k guesses (raising words bytes fault z) (raising words bytes fault z) z allowed h fine refl

pub reference_rows : ArrayRows 189 2 0 array_type (λ x. true)
reference_rows = record {
  negative = λ x c e. let z = entered 189 x in raises 27 (true ∷ []) (below z) 2 5 z (sized true true z) (references_negative x) (size_held true true z refl e);
  over = λ x c e f. let z = entered 189 x in raises 31 (false ∷ true ∷ []) (below z) 2 7 z (short_enough true true z) (references_over x) (short_held true true z refl e f);
  fails = λ x c e f g. let z = entered 189 x in raises 43 (false ∷ false ∷ true ∷ []) (below z) 2 7 z (fitting true 0 true z) (references_fail x) (fit_held true 0 true z refl e f g);
  makes_array = λ x c e f g. let z = entered 189 x in makes 50 (false ∷ false ∷ false ∷ []) (array_made (array_type z) 0 2 z) z (fitting false 0 true z) (references_make x) (fit_held false 0 true z refl e f g);
}

pub number_rows : ArrayRows 188 1 0 coded_type (is_coded_long false)
number_rows = record {
  negative = λ x c e. let z = entered 188 x in raises 33 (false ∷ true ∷ []) (below z) 1 5 z (sized true (is_coded_long false z) z) (numbers_negative x) (size_held true (is_coded_long false z) z c e);
  over = λ x c e f. let z = entered 188 x in raises 37 (false ∷ false ∷ true ∷ []) (below z) 1 7 z (short_enough true (is_coded_long false z) z) (numbers_over x) (short_held true (is_coded_long false z) z c e f);
  fails = λ x c e f g. let z = entered 188 x in
      raises 49 (false ∷ false ∷ false ∷ true ∷ []) (below z) 1 7 z (fitting true 0 (is_coded_long false z) z) (numbers_fail x) (fit_held true 0 (is_coded_long false z) z c e f g);
  makes_array = λ x c e f g. let z = entered 188 x in
      makes 56 (false ∷ false ∷ false ∷ false ∷ []) (array_made (coded_type z) 0 1 z) z (fitting false 0 (is_coded_long false z) z) (numbers_make x) (fit_held false 0 (is_coded_long false z) z c e f g);
}

pub long_rows : ArrayRows 188 1 1 coded_type (is_coded_long true)
long_rows = record {
  negative = λ x c e. let z = entered 188 x in raises 32 (true ∷ true ∷ []) (below z) 1 5 z (sized true (is_coded_long true z) z) (longs_negative x) (size_held true (is_coded_long true z) z c e);
  over = λ x c e f. let z = entered 188 x in raises 36 (true ∷ false ∷ true ∷ []) (below z) 1 7 z (short_enough true (is_coded_long true z) z) (longs_over x) (short_held true (is_coded_long true z) z c e f);
  fails = λ x c e f g. let z = entered 188 x in
      raises 48 (true ∷ false ∷ false ∷ true ∷ []) (below z) 1 7 z (fitting true 1 (is_coded_long true z) z) (longs_fail x) (fit_held true 1 (is_coded_long true z) z c e f g);
  makes_array = λ x c e f g. let z = entered 188 x in
      makes 55 (true ∷ false ∷ false ∷ false ∷ []) (array_made (coded_type z) 1 1 z) z (fitting false 1 (is_coded_long true z) z) (longs_make x) (fit_held false 1 (is_coded_long true z) z c e f g);
}
