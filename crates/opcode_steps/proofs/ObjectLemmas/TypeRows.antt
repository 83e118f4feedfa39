-- The rows of checkcast and instanceof.
use Rattle.std.proofs.Common.{◌≡◌, ℕ, ◌+◌, ◌*◌, ◌/◌, ◌%◌, ◌^◌, ◌==◌, ◌&&◌, Bool, true, false, List, [], ◌∷◌, bit_and, refl, ap, ◌∙◌, eq-eqb}
use Rattle.std.specs.Prelude.{slice_index}
use Rattle.micro_sketch.specs.Sketch.{Sketch, exec, abyte, same_bool}
use Rattle.micro_sketch.specs.Row.{Effect, unchanged, words_of}
use Rattle.micro_sketch.specs.Rows.{Raising, Makes, makes, entered, outcome_of, outcome}
use Rattle.micro_sketch.specs.Operand.{past, behind, leaves}
use Rattle.opcode_steps.proofs.ObjectLemmas.Raising.{MakesRaise, raises_raw, stopped_of, stopped}

-- the operand register with a byte more
abbrev pub taken : (operand : ℕ) → Sketch → ℕ
taken operand x = (operand * 2 ^ 8 + abyte x) % 2 ^ 32

-- the index that stands in the two bytes behind the opcode
abbrev pub index : Sketch → ℕ
index x = taken (taken 0 x) (past 1 x)

-- the place of the pool entry
abbrev pub entry_place : Sketch → (index : ℕ) → ℕ
entry_place x k = ((k + k) % 2 ^ 32 + slice_index x.low 24) % 2 ^ 32

-- the number of a type whose place the first word of the entry is
abbrev pub asked : Sketch → (index : ℕ) → ℕ
asked x k = slice_index x.memory (slice_index x.memory (entry_place x k))

-- bit u of the supertypes of the type at a place
abbrev pub bit_place : (type u : ℕ) → ℕ
bit_place type u = ((type + 5) % 2 ^ 32 + u / 2 ^ (5 % 32)) % 2 ^ 32

abbrev pub supertype_bit : List ℕ → (type u : ℕ) → ℕ
supertype_bit memory type u = bit_and (slice_index memory (bit_place type u) / 2 ^ (u % 32)) 1

abbrev pub bit_of_top : Sketch → ℕ
bit_of_top x = supertype_bit x.memory (slice_index x.memory x.top) (asked x (index x))

-- the place of what an instruction raises
abbrev pub raised_object : Sketch → (fault : ℕ) → ℕ
raised_object x fault = slice_index x.memory ((fault + slice_index x.low 30) % 2 ^ 32)

abbrev pub raising : (words : List ℕ) → (bytes fault : ℕ) → Sketch → Raising
raising words bytes fault x = record { words = words; jpc = (past bytes x).jpc; object = raised_object x fault }

-- ---- checkcast

null_allowed : (k : ℕ) → k ≡ 0 → (same_bool true (k == 0) && true) ≡ true
null_allowed k z = ap (λ (b : Bool). b && true) (eq-eqb k 0 z)

pub object_allowed : (k : ℕ) → (k == 0) ≡ false → (same_bool false (k == 0) && true) ≡ true
object_allowed k some = ap (λ (b : Bool). same_bool false b && true) some

-- the bit is set, or isn't, at an object
both_allowed : (guess : Bool) (bit top : ℕ) (is : Bool) → (bit == 0) ≡ is → (top == 0) ≡ false → same_bool guess is ≡ true → (same_bool guess (bit == 0) && (same_bool false (top == 0) && true)) ≡ true
both_allowed guess bit top is e some same =
    ap (λ (b : Bool). same_bool guess b && (same_bool false (top == 0) && true)) e ∙ ap (λ (b : Bool). b && (same_bool false (top == 0) && true)) same ∙ object_allowed top some

cast_null : (x : Sketch) → let z = entered 192 x in outcome_of (exec 7 (true ∷ []) z) ≡ outcome (same_bool true (z.top == 0) && true) (behind 2 z (unchanged z)) z
cast_null x = refl

cast_passes : (x : Sketch) → let z = entered 192 x in
    outcome_of (exec 39 (false ∷ false ∷ []) z) ≡ outcome (same_bool false (bit_of_top z == 0) && (same_bool false (z.top == 0) && true)) (behind 2 z (unchanged z)) z
cast_passes x = refl

cast_fails : (x : Sketch) → let z = entered 192 x in
    stopped_of (exec 46 (false ∷ true ∷ []) z) ≡ stopped (same_bool true (bit_of_top z == 0) && (same_bool false (z.top == 0) && true)) (raising (words_of z) 2 3 z) z
cast_fails x = refl

pub null_is_cast : (x : Sketch) → let z = entered 192 x in z.top ≡ 0 → Makes (behind 2 z (unchanged z)) z
null_is_cast x null = let z = entered 192 x in makes 6 (true ∷ []) (behind 2 z (unchanged z)) z _ (cast_null x) (null_allowed z.top null)

pub object_is_cast : (x : Sketch) → let z = entered 192 x in ((z.top == 0) ≡ false) × ((bit_of_top z == 0) ≡ false) → Makes (behind 2 z (unchanged z)) z
object_is_cast x c =
    let z = entered 192 x in makes 38 (false ∷ false ∷ []) (behind 2 z (unchanged z)) z _ (cast_passes x) (both_allowed false (bit_of_top z) z.top false c.1 c.0 refl)

pub cast_raises : (x : Sketch) → let z = entered 192 x in ((z.top == 0) ≡ false) × ((bit_of_top z == 0) ≡ true) → MakesRaise (raising (words_of z) 2 3 z) z
cast_raises x c =
    let z = entered 192 x in raises_raw 45 (false ∷ true ∷ []) (raising (words_of z) 2 3 z) (raising (words_of z) 2 3 z) z _ (cast_fails x) (both_allowed true (bit_of_top z) z.top true c.1 c.0 refl) refl

-- ---- instanceof

abbrev pub answers : (word : ℕ) → Sketch → Effect
answers word x = behind 2 x (leaves (word ∷ x.next ∷ x.under) x)

test_null : (x : Sketch) → let z = entered 193 x in outcome_of (exec 6 (true ∷ []) z) ≡ outcome (same_bool true (z.top == 0) && true) (answers 0 z) z
test_null x = refl

test_object : (x : Sketch) → let z = entered 193 x in outcome_of (exec 37 (false ∷ []) z) ≡ outcome (same_bool false (z.top == 0) && true) (answers (bit_of_top z) z) z
test_object x = refl

pub null_is_tested : (x : Sketch) → let z = entered 193 x in z.top ≡ 0 → Makes (answers 0 z) z
null_is_tested x null = let z = entered 193 x in makes 5 (true ∷ []) (answers 0 z) z _ (test_null x) (null_allowed z.top null)

pub object_is_tested : (x : Sketch) → let z = entered 193 x in (z.top == 0) ≡ false → Makes (answers (bit_of_top z) z) z
object_is_tested x some = let z = entered 193 x in makes 36 (false ∷ []) (answers (bit_of_top z) z) z _ (test_object x) (object_allowed z.top some)

-- ---- monitorenter and monitorexit, which have the same microcode

abbrev pub drops : Sketch → Effect
drops x = leaves (x.next ∷ x.under) x

enter_object : (x : Sketch) → let z = entered 194 x in outcome_of (exec 2 (false ∷ []) z) ≡ outcome (same_bool false (z.top == 0) && true) (drops z) z
enter_object x = refl

enter_null : (x : Sketch) → let z = entered 194 x in stopped_of (exec 9 (true ∷ []) z) ≡ stopped (same_bool true (z.top == 0) && true) (raising (z.next ∷ z.under) 0 6 z) z
enter_null x = refl

exit_object : (x : Sketch) → let z = entered 195 x in outcome_of (exec 2 (false ∷ []) z) ≡ outcome (same_bool false (z.top == 0) && true) (drops z) z
exit_object x = refl

exit_null : (x : Sketch) → let z = entered 195 x in stopped_of (exec 9 (true ∷ []) z) ≡ stopped (same_bool true (z.top == 0) && true) (raising (z.next ∷ z.under) 0 6 z) z
exit_null x = refl

pub monitor_is_entered : (x : Sketch) → let z = entered 194 x in (z.top == 0) ≡ false → Makes (drops z) z
monitor_is_entered x some = let z = entered 194 x in makes 1 (false ∷ []) (drops z) z _ (enter_object x) (object_allowed z.top some)

pub enter_raises : (x : Sketch) → let z = entered 194 x in z.top ≡ 0 → MakesRaise (raising (z.next ∷ z.under) 0 6 z) z
enter_raises x null = let z = entered 194 x in raises_raw 8 (true ∷ []) (raising (z.next ∷ z.under) 0 6 z) (raising (z.next ∷ z.under) 0 6 z) z _ (enter_null x) (null_allowed z.top null) refl

pub monitor_is_left : (x : Sketch) → let z = entered 195 x in (z.top == 0) ≡ false → Makes (drops z) z
monitor_is_left x some = let z = entered 195 x in makes 1 (false ∷ []) (drops z) z _ (exit_object x) (object_allowed z.top some)

pub exit_raises : (x : Sketch) → let z = entered 195 x in z.top ≡ 0 → MakesRaise (raising (z.next ∷ z.under) 0 6 z) z
exit_raises x null = let z = entered 195 x in raises_raw 8 (true ∷ []) (raising (z.next ∷ z.under) 0 6 z) (raising (z.next ∷ z.under) 0 6 z) z _ (exit_null x) (null_allowed z.top null) refl
