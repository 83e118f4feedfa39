-- The rows of the opcodes of arrays, by computing on the sketch.
use Rattle.std.proofs.Common.{◌≡◌, ℕ, ◌+◌, ◌-◌, ◌*◌, ◌/◌, ◌%◌, ◌^◌, ◌<◌, ◌≤◌, ◌==◌, ◌&&◌, Bool, true, false, nat_lt, nat_le, bit_and, List, [], ◌∷◌, length, refl, sym, subst, arith}
use Rattle.std.specs.Prelude.{slice_index, slice_set}
use Rattle.std.proofs.lemmas.Bool.{leb-true}
use Rattle.jop_core.specs.Operations.{number_of, shifted_right}
use Rattle.micro_sketch.specs.Sketch.{Sketch, same_bool}
use Rattle.micro_sketch.specs.Row.{Effect, unchanged}
use Rattle.micro_sketch.specs.Rows.{Makes, makes, entered, head_of, tail_of, Raising}
use Rattle.bytecode_model.specs.Effects.{Fault, ArrayIndexOutOfBoundsException, ArrayStoreException, NullPointerException}
use Rattle.opcode_steps.specs.Heap.Raising.{MakesRaise, makes_raise, raised_by}

-- ---- what is read

-- the word behind the array's type
abbrev pub length_at : Sketch → (array : ℕ) → ℕ
length_at x array = slice_index x.memory ((array + 1) % 2 ^ 32)

-- the place of an element of one word, and of one of two
abbrev pub element_at : (array index : ℕ) → ℕ
element_at array index = ((array + index) % 2 ^ 32 + 2) % 2 ^ 32

abbrev pub long_at : (array index : ℕ) → ℕ
long_at array index = ((array + 2) % 2 ^ 32 + (index + index) % 2 ^ 32) % 2 ^ 32

-- ---- the tests, behind those before

abbrev pub is_null : (array : ℕ) → Bool
is_null array = same_bool true (array == 0) && true

abbrev pub is_there : (array : ℕ) → Bool
is_there array = same_bool false (array == 0) && true

abbrev pub is_outside : Sketch → (array index : ℕ) → Bool
is_outside x array index = same_bool true (number_of (nat_lt index (length_at x array)) == 0) && is_there array

abbrev pub is_inside : Sketch → (array index : ℕ) → Bool
is_inside x array index = same_bool false (number_of (nat_lt index (length_at x array)) == 0) && is_there array

-- ---- what a row makes

abbrev pub with_words : List ℕ → Sketch → Effect
with_words words x = record (unchanged x) { words = words; jpc = x.jpc }

abbrev pub with_memory : List ℕ → (memory : List ℕ) → Sketch → Effect
with_memory words memory x = record (unchanged x) { words = words; memory = memory; jpc = x.jpc }

abbrev pub raised : Fault → List ℕ → Sketch → Raising
raised f words x = raised_by f words x.jpc x

-- what is to be shown of a row, where it goes so
abbrev pub Row : (code : ℕ) → (allowed : Sketch → Bool) → (Sketch → Effect) → Type 0
Row code allowed f = (x : Sketch) → allowed (entered code x) ≡ true → Makes (f (entered code x)) (entered code x)

abbrev pub RaiseRow : (code : ℕ) → (allowed : Sketch → Bool) → (Sketch → Raising) → Type 0
RaiseRow code allowed f = (x : Sketch) → allowed (entered code x) ≡ true → MakesRaise (f (entered code x)) (entered code x)

-- ---- arraylength

abbrev pub has_length : Sketch → Bool
has_length x = is_there x.top

abbrev pub no_length : Sketch → Bool
no_length x = is_null x.top

pub arraylength : Row 190 has_length (λ x. with_words (length_at x x.top ∷ x.next ∷ x.under) x)
arraylength x h = let z = entered 190 x in makes 8 (false ∷ []) (with_words (length_at z z.top ∷ z.next ∷ z.under) z) z (has_length z) refl h

pub arraylength_null : RaiseRow 190 no_length (λ x. raised NullPointerException (x.next ∷ x.under) x)
arraylength_null x h = let z = entered 190 x in makes_raise 10 (true ∷ []) (raised NullPointerException (z.next ∷ z.under) z) z (no_length z) 0 refl h

-- ---- loads: the index is on top of the array

abbrev pub load_null : Sketch → Bool
load_null x = is_null x.next

abbrev pub load_outside : Sketch → Bool
load_outside x = is_outside x x.next x.top

abbrev pub load_inside : Sketch → Bool
load_inside x = is_inside x x.next x.top

abbrev pub loads_null : Sketch → Raising
loads_null x = raised NullPointerException x.under x

abbrev pub loads_outside : Sketch → Raising
loads_outside x = raised ArrayIndexOutOfBoundsException x.under x

abbrev pub loads_word : Sketch → Effect
loads_word x = with_words (slice_index x.memory (element_at x.next x.top) ∷ x.under) x

abbrev pub loads_long : Sketch → Effect
loads_long x = let at = long_at x.next x.top in with_words (slice_index x.memory ((at + 1) % 2 ^ 32) ∷ slice_index x.memory at ∷ x.under) x

-- the three ways of a load
pub record LoadRows (code : ℕ) (f : Sketch → Effect) : Type 0 where
  pub null : RaiseRow code load_null loads_null
  pub outside : RaiseRow code load_outside loads_outside
  pub inside : Row code load_inside f

pub iaload : LoadRows 46 loads_word
iaload = record {
  null = λ x h. let z = entered 46 x in makes_raise 11 (true ∷ []) (loads_null z) z (load_null z) 0 refl h;
  outside = λ x h. let z = entered 46 x in makes_raise 20 (false ∷ true ∷ []) (loads_outside z) z (load_outside z) 0 refl h;
  inside = λ x h. let z = entered 46 x in makes 20 (false ∷ false ∷ []) (loads_word z) z (load_inside z) refl h;
}

pub aaload : LoadRows 50 loads_word
aaload = record {
  null = λ x h. let z = entered 50 x in makes_raise 11 (true ∷ []) (loads_null z) z (load_null z) 0 refl h;
  outside = λ x h. let z = entered 50 x in makes_raise 20 (false ∷ true ∷ []) (loads_outside z) z (load_outside z) 0 refl h;
  inside = λ x h. let z = entered 50 x in makes 20 (false ∷ false ∷ []) (loads_word z) z (load_inside z) refl h;
}

pub baload : LoadRows 51 loads_word
baload = record {
  null = λ x h. let z = entered 51 x in makes_raise 11 (true ∷ []) (loads_null z) z (load_null z) 0 refl h;
  outside = λ x h. let z = entered 51 x in makes_raise 20 (false ∷ true ∷ []) (loads_outside z) z (load_outside z) 0 refl h;
  inside = λ x h. let z = entered 51 x in makes 20 (false ∷ false ∷ []) (loads_word z) z (load_inside z) refl h;
}

pub caload : LoadRows 52 loads_word
caload = record {
  null = λ x h. let z = entered 52 x in makes_raise 11 (true ∷ []) (loads_null z) z (load_null z) 0 refl h;
  outside = λ x h. let z = entered 52 x in makes_raise 20 (false ∷ true ∷ []) (loads_outside z) z (load_outside z) 0 refl h;
  inside = λ x h. let z = entered 52 x in makes 20 (false ∷ false ∷ []) (loads_word z) z (load_inside z) refl h;
}

pub saload : LoadRows 53 loads_word
saload = record {
  null = λ x h. let z = entered 53 x in makes_raise 11 (true ∷ []) (loads_null z) z (load_null z) 0 refl h;
  outside = λ x h. let z = entered 53 x in makes_raise 20 (false ∷ true ∷ []) (loads_outside z) z (load_outside z) 0 refl h;
  inside = λ x h. let z = entered 53 x in makes 20 (false ∷ false ∷ []) (loads_word z) z (load_inside z) refl h;
}

pub laload : LoadRows 47 loads_long
laload = record {
  null = λ x h. let z = entered 47 x in makes_raise 11 (true ∷ []) (loads_null z) z (load_null z) 0 refl h;
  outside = λ x h. let z = entered 47 x in makes_raise 20 (false ∷ true ∷ []) (loads_outside z) z (load_outside z) 0 refl h;
  inside = λ x h. let z = entered 47 x in makes 30 (false ∷ false ∷ []) (loads_long z) z (load_inside z) refl h;
}

-- ---- stores of one word: the value is on top of the index, which is on top of the array

-- what an array keeps of the word
abbrev pub kept_int : ℕ → ℕ
kept_int word = word

abbrev pub kept_byte : ℕ → ℕ
kept_byte word = shifted_right ((word * 2 ^ 24) % 2 ^ 32) 24

abbrev pub kept_short : ℕ → ℕ
kept_short word = shifted_right ((word * 2 ^ 16) % 2 ^ 32) 16

abbrev pub kept_char : ℕ → ℕ
kept_char word = bit_and word (2 ^ 16 - 1)

abbrev pub store_null : Sketch → Bool
store_null x = is_null (head_of x.under)

abbrev pub store_outside : Sketch → Bool
store_outside x = is_outside x (head_of x.under) x.next

abbrev pub store_inside : Sketch → Bool
store_inside x = is_inside x (head_of x.under) x.next

abbrev pub stores_null : Sketch → Raising
stores_null x = raised NullPointerException (tail_of x.under) x

abbrev pub stores_outside : Sketch → Raising
stores_outside x = raised ArrayIndexOutOfBoundsException (tail_of x.under) x

abbrev pub stores_word : (ℕ → ℕ) → Sketch → Effect
stores_word kept x = with_memory (tail_of x.under) (slice_set x.memory (element_at (head_of x.under) x.next) (kept x.top)) x

pub record StoreRows (code : ℕ) (kept : ℕ → ℕ) : Type 0 where
  pub null : RaiseRow code store_null stores_null
  pub outside : RaiseRow code store_outside stores_outside
  pub inside : Row code store_inside (stores_word kept)

pub iastore : StoreRows 79 kept_int
iastore = record {
  null = λ x h. let z = entered 79 x in makes_raise 12 (true ∷ []) (stores_null z) z (store_null z) 0 refl h;
  outside = λ x h. let z = entered 79 x in makes_raise 21 (false ∷ true ∷ []) (stores_outside z) z (store_outside z) 0 refl h;
  inside = λ x h. let z = entered 79 x in makes 22 (false ∷ false ∷ []) (stores_word kept_int z) z (store_inside z) refl h;
}

pub bastore : StoreRows 84 kept_byte
bastore = record {
  null = λ x h. let z = entered 84 x in makes_raise 17 (true ∷ []) (stores_null z) z (store_null z) 0 refl h;
  outside = λ x h. let z = entered 84 x in makes_raise 26 (false ∷ true ∷ []) (stores_outside z) z (store_outside z) 0 refl h;
  inside = λ x h. let z = entered 84 x in makes 27 (false ∷ false ∷ []) (stores_word kept_byte z) z (store_inside z) refl h;
}

pub castore : StoreRows 85 kept_char
castore = record {
  null = λ x h. let z = entered 85 x in makes_raise 15 (true ∷ []) (stores_null z) z (store_null z) 0 refl h;
  outside = λ x h. let z = entered 85 x in makes_raise 24 (false ∷ true ∷ []) (stores_outside z) z (store_outside z) 0 refl h;
  inside = λ x h. let z = entered 85 x in makes 25 (false ∷ false ∷ []) (stores_word kept_char z) z (store_inside z) refl h;
}

pub sastore : StoreRows 86 kept_short
sastore = record {
  null = λ x h. let z = entered 86 x in makes_raise 17 (true ∷ []) (stores_null z) z (store_null z) 0 refl h;
  outside = λ x h. let z = entered 86 x in makes_raise 26 (false ∷ true ∷ []) (stores_outside z) z (store_outside z) 0 refl h;
  inside = λ x h. let z = entered 86 x in makes 27 (false ∷ false ∷ []) (stores_word kept_short z) z (store_inside z) refl h;
}

-- ---- lastore: the two words of the value, the low one on top, then the index and the array

-- there are four words below B, so that one is left when these are taken
abbrev pub four_under : Sketch → Bool → Bool
four_under x b = nat_le 4 (length x.under) && b

abbrev pub long_null : Sketch → Bool
long_null x = is_null (head_of (tail_of x.under))

abbrev pub long_outside : Sketch → Bool
long_outside x = is_outside x (head_of (tail_of x.under)) (head_of x.under)

abbrev pub long_inside : Sketch → Bool
long_inside x = is_inside x (head_of (tail_of x.under)) (head_of x.under)

abbrev pub longs_null : Sketch → Raising
longs_null x = raised NullPointerException (tail_of (tail_of x.under)) x

abbrev pub longs_outside : Sketch → Raising
longs_outside x = raised ArrayIndexOutOfBoundsException (tail_of (tail_of x.under)) x

abbrev pub stores_long : Sketch → Effect
stores_long x =
    let at = long_at (head_of (tail_of x.under)) (head_of x.under) in
    with_memory (tail_of (tail_of x.under)) (slice_set (slice_set x.memory at x.next) ((at + 1) % 2 ^ 32) x.top) x

-- with three words below B in sight, and the rest
abbrev with_rest : Sketch → (rest : List ℕ) → Sketch
with_rest x rest = record (entered 80 x) { under = head_of x.under ∷ head_of (tail_of x.under) ∷ head_of (tail_of (tail_of x.under)) ∷ rest }

filled : (xs : List ℕ) → 0 < length xs → xs ≡ head_of xs ∷ tail_of xs
filled [] h = absurd (omega (arith, h))
filled (x ∷ xs) h = refl

and_parts : (a b : Bool) → (a && b) ≡ true → (a ≡ true) × (b ≡ true)
and_parts true b h = (refl, h)
and_parts false b h = absurd (cc)

-- what is shown where a fourth word is in sight holds where it is there
opened : (x : Sketch) (allowed : Sketch → Bool) (Q : Sketch → Type 0) → ((rest : List ℕ) → allowed (with_rest x (head_of rest ∷ tail_of rest)) ≡ true → Q (with_rest x (head_of rest ∷ tail_of rest)))
    → four_under (entered 80 x) (allowed (entered 80 x)) ≡ true → Q (entered 80 x)
opened x allowed Q shows h =
    let rest = tail_of (tail_of (tail_of x.under)) in
    let parts = and_parts (nat_le 4 (length (entered 80 x).under)) (allowed (entered 80 x)) h in
    let four : 4 ≤ length (entered 80 x).under = leb-true 4 (length (entered 80 x).under) parts.0 in
    let some : 0 < length rest = omega (arith, four) in
    let R : List ℕ → Type 0 = λ us. allowed (with_rest x us) ≡ true → Q (with_rest x us) in
    subst R (sym (filled rest some)) (shows rest) parts.1

pub lastore_null : RaiseRow 80 (λ x. four_under x (long_null x)) longs_null
lastore_null x =
    opened x long_null (λ z. MakesRaise (longs_null z) z) (λ rest h. let z = with_rest x (head_of rest ∷ tail_of rest) in makes_raise 13 (true ∷ []) (longs_null z) z (long_null z) 0 refl h)

pub lastore_outside : RaiseRow 80 (λ x. four_under x (long_outside x)) longs_outside
lastore_outside x =
    opened x long_outside (λ z. MakesRaise (longs_outside z) z)
    (λ rest h. let z = with_rest x (head_of rest ∷ tail_of rest) in makes_raise 22 (false ∷ true ∷ []) (longs_outside z) z (long_outside z) 0 refl h)

pub lastore_inside : Row 80 (λ x. four_under x (long_inside x)) stores_long
lastore_inside x =
    opened x long_inside (λ z. Makes (stores_long z) z) (λ rest h. let z = with_rest x (head_of rest ∷ tail_of rest) in makes 34 (false ∷ false ∷ []) (stores_long z) z (long_inside z) refl h)

-- ---- aastore: the value is on top of the index, which is on top of the array

-- the number of the array's component type
abbrev pub component_at : Sketch → (array : ℕ) → ℕ
component_at x array = (slice_index x.memory ((slice_index x.memory array + 2) % 2 ^ 32) + (2 ^ 32 - 1)) % 2 ^ 32

-- whether the type of that number is among the supertypes of the value's, as a bit
abbrev pub supertype_bit : Sketch → (number value : ℕ) → ℕ
supertype_bit x number value = bit_and (slice_index x.memory (((slice_index x.memory value + 5) % 2 ^ 32 + number / 2 ^ 5) % 2 ^ 32) / 2 ^ (number % 32)) 1

abbrev pub store_nothing : Sketch → Bool
store_nothing x = same_bool true (x.top == 0) && store_inside x

abbrev pub store_something : Sketch → Bool
store_something x = same_bool false (x.top == 0) && store_inside x

abbrev pub store_other : Sketch → Bool
store_other x = same_bool true (supertype_bit x (component_at x (head_of x.under)) x.top == 0) && store_something x

abbrev pub store_same : Sketch → Bool
store_same x = same_bool false (supertype_bit x (component_at x (head_of x.under)) x.top == 0) && store_something x

abbrev pub stores_other : Sketch → Raising
stores_other x = raised ArrayStoreException (tail_of x.under) x

abbrev pub stores_reference : Sketch → Effect
stores_reference x = stores_word kept_int x

pub aastore_null : RaiseRow 83 store_null stores_null
aastore_null x h = let z = entered 83 x in makes_raise 12 (true ∷ []) (stores_null z) z (store_null z) 0 refl h

pub aastore_outside : RaiseRow 83 store_outside stores_outside
aastore_outside x h = let z = entered 83 x in makes_raise 21 (false ∷ true ∷ []) (stores_outside z) z (store_outside z) 0 refl h

pub aastore_nothing : Row 83 store_nothing stores_reference
aastore_nothing x h = let z = entered 83 x in makes 24 (false ∷ false ∷ true ∷ []) (stores_reference z) z (store_nothing z) refl h

pub aastore_other : RaiseRow 83 store_other stores_other
aastore_other x h = let z = entered 83 x in makes_raise 55 (false ∷ false ∷ false ∷ true ∷ []) (stores_other z) z (store_other z) 0 refl h

pub aastore_same : Row 83 store_same stores_reference
aastore_same x h = let z = entered 83 x in makes 56 (false ∷ false ∷ false ∷ false ∷ []) (stores_reference z) z (store_same z) refl h
