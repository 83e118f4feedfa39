-- The rows of the opcodes of fields, by computing on the sketch.
use Rattle.std.proofs.Common.{◌≡◌, ℕ, ◌+◌, ◌*◌, ◌%◌, ◌^◌, ◌==◌, ◌&&◌, Bool, true, false, List, [], ◌∷◌, refl}
use Rattle.std.specs.Prelude.{slice_index, slice_set}
use Rattle.micro_sketch.specs.Sketch.{Sketch, abyte, same_bool}
use Rattle.micro_sketch.specs.Row.{Effect, unchanged, words_of}
use Rattle.micro_sketch.specs.Rows.{Makes, makes, entered, head_of, tail_of, Raising}
use Rattle.micro_sketch.specs.Operand.{past}
use Rattle.bytecode_model.specs.Effects.{NullPointerException}
use Rattle.opcode_steps.specs.Heap.Raising.{MakesRaise, makes_raise, raised_by}

-- ---- what is read

-- the operand register behind two bytes
abbrev pub taken : Sketch → ℕ
taken x = ((0 * 2 ^ 8 + abyte x) % 2 ^ 32 * 2 ^ 8 + abyte (past 1 x)) % 2 ^ 32

-- the place of the pool entry, and its two words
abbrev pub entry : Sketch → ℕ
entry x = ((taken x + taken x) % 2 ^ 32 + slice_index x.low 24) % 2 ^ 32

abbrev pub first : Sketch → ℕ
first x = slice_index x.memory (entry x)

abbrev pub second : Sketch → ℕ
second x = slice_index x.memory ((entry x + 1) % 2 ^ 32)

-- the place of a field in the object
abbrev pub field_at : Sketch → (object : ℕ) → ℕ
field_at x object = (first x + object) % 2 ^ 32

-- whether the field is a long, and whether the object is there
abbrev pub is_word : Sketch → Bool
is_word x = same_bool true (second x == 0) && true

abbrev pub is_double : Sketch → Bool
is_double x = same_bool false (second x == 0) && true

abbrev pub is_null : (object : ℕ) → Bool → Bool
is_null object before = same_bool true (object == 0) && before

abbrev pub is_there : (object : ℕ) → Bool → Bool
is_there object before = same_bool false (object == 0) && before

-- ---- what a row makes

abbrev pub with_words : List ℕ → Sketch → Effect
with_words words x = record (unchanged x) { words = words; jpc = (past 2 x).jpc }

abbrev pub with_memory : List ℕ → (memory : List ℕ) → Sketch → Effect
with_memory words memory x = record (unchanged x) { words = words; memory = memory; jpc = (past 2 x).jpc }

abbrev pub null : List ℕ → Sketch → Raising
null words x = raised_by NullPointerException words (past 2 x).jpc x

-- what is to be shown of a row, where it goes so
abbrev pub Row : (code : ℕ) → (allowed : Sketch → Bool) → (Sketch → Effect) → Type 0
Row code allowed f = (x : Sketch) → allowed (entered code x) ≡ true → Makes (f (entered code x)) (entered code x)

abbrev pub RaiseRow : (code : ℕ) → (allowed : Sketch → Bool) → (Sketch → Raising) → Type 0
RaiseRow code allowed f = (x : Sketch) → allowed (entered code x) ≡ true → MakesRaise (f (entered code x)) (entered code x)

-- ---- getstatic

abbrev pub static_word : Sketch → Effect
static_word x = with_words (slice_index x.memory (first x) ∷ words_of x) x

abbrev pub static_double : Sketch → Effect
static_double x = with_words (slice_index x.memory ((first x + 1) % 2 ^ 32) ∷ slice_index x.memory (first x) ∷ words_of x) x

pub getstatic_word : Row 178 is_word static_word
getstatic_word x h = let z = entered 178 x in makes 24 (true ∷ []) (static_word z) z (is_word z) refl h

pub getstatic_double : Row 178 is_double static_double
getstatic_double x h = let z = entered 178 x in makes 29 (false ∷ []) (static_double z) z (is_double z) refl h

-- ---- putstatic

abbrev pub puts_static_word : Sketch → Effect
puts_static_word x = with_memory (x.next ∷ x.under) (slice_set x.memory (first x) x.top) x

abbrev pub puts_static_double : Sketch → Effect
puts_static_double x = with_memory x.under (slice_set (slice_set x.memory ((first x + 1) % 2 ^ 32) x.top) (first x) x.next) x

pub putstatic_word : Row 179 is_word puts_static_word
putstatic_word x h = let z = entered 179 x in makes 23 (true ∷ []) (puts_static_word z) z (is_word z) refl h

pub putstatic_double : Row 179 is_double puts_static_double
putstatic_double x h = let z = entered 179 x in makes 33 (false ∷ []) (puts_static_double z) z (is_double z) refl h

-- ---- getfield

abbrev pub field_word : Sketch → Effect
field_word x = with_words (slice_index x.memory (field_at x x.top) ∷ x.next ∷ x.under) x

abbrev pub field_double : Sketch → Effect
field_double x = with_words (slice_index x.memory ((field_at x x.top + 1) % 2 ^ 32) ∷ slice_index x.memory (field_at x x.top) ∷ x.next ∷ x.under) x

abbrev pub gets_word : Sketch → Bool
gets_word x = same_bool true (second x == 0) && is_there x.top true

abbrev pub gets_double : Sketch → Bool
gets_double x = same_bool false (second x == 0) && is_there x.top true

abbrev pub gets_null : Sketch → Bool
gets_null x = is_null x.top true

abbrev pub get_null : Sketch → Raising
get_null x = null (x.next ∷ x.under) x

pub getfield_word : Row 180 gets_word field_word
getfield_word x h = let z = entered 180 x in makes 29 (false ∷ true ∷ []) (field_word z) z (gets_word z) refl h

pub getfield_double : Row 180 gets_double field_double
getfield_double x h = let z = entered 180 x in makes 34 (false ∷ false ∷ []) (field_double z) z (gets_double z) refl h

pub getfield_null : RaiseRow 180 gets_null get_null
getfield_null x h = let z = entered 180 x in makes_raise 12 (true ∷ []) (get_null z) z (gets_null z) (taken z) refl h

-- ---- putfield

abbrev pub puts_field_word : Sketch → Effect
puts_field_word x = with_memory x.under (slice_set x.memory (field_at x x.next) x.top) x

abbrev pub puts_field_double : Sketch → Effect
puts_field_double x =
    let at = field_at x (head_of x.under) in with_memory (tail_of x.under) (slice_set (slice_set x.memory ((at + 1) % 2 ^ 32) x.top) at x.next) x

abbrev pub puts_word : Sketch → Bool
puts_word x = is_there x.next (is_word x)

abbrev pub puts_double : Sketch → Bool
puts_double x = is_there (head_of x.under) (is_double x)

abbrev pub puts_word_null : Sketch → Bool
puts_word_null x = is_null x.next (is_word x)

abbrev pub puts_double_null : Sketch → Bool
puts_double_null x = is_null (head_of x.under) (is_double x)

abbrev pub put_word_null : Sketch → Raising
put_word_null x = null x.under x

abbrev pub put_double_null : Sketch → Raising
put_double_null x = null (tail_of x.under) x

pub putfield_word : Row 181 puts_word puts_field_word
putfield_word x h = let z = entered 181 x in makes 28 (true ∷ false ∷ []) (puts_field_word z) z (puts_word z) refl h

pub putfield_double : Row 181 puts_double puts_field_double
putfield_double x h = let z = entered 181 x in makes 38 (false ∷ false ∷ []) (puts_field_double z) z (puts_double z) refl h

pub putfield_word_null : RaiseRow 181 puts_word_null put_word_null
putfield_word_null x h = let z = entered 181 x in makes_raise 26 (true ∷ true ∷ []) (put_word_null z) z (puts_word_null z) (taken z) refl h

pub putfield_double_null : RaiseRow 181 puts_double_null put_double_null
putfield_double_null x h = let z = entered 181 x in makes_raise 27 (false ∷ true ∷ []) (put_double_null z) z (puts_double_null z) (taken z) refl h
