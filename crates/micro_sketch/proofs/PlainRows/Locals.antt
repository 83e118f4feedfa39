-- The rows of opcodes that load a local or store into one.
use Rattle.std.proofs.Common.{◌≡◌, ℕ, suc, ◌+◌, ◌-◌, ◌*◌, ◌%◌, ◌^◌, ◌<◌, ◌&&◌, Bool, true, false, nat_lt, if◌then◌else◌, [], ◌∷◌, slice_index, slice_set, refl, ap, ◌∙◌, arith}
use Rattle.std.proofs.lemmas.List.{length-set}
use Rattle.std.proofs.Math.Nat.{mod-eq_of_lt}
use Rattle.jop_core.specs.Operations.{sign_extended8}
use Rattle.micro_sketch.specs.Sketch.{Sketch, exec, inside, abyte}
use Rattle.micro_sketch.specs.Row.{Effect, unchanged}
use Rattle.micro_sketch.specs.Rows.{entered, outcome_of, outcome}
use Rattle.micro_sketch.specs.Operand.{past, behind, byte_operand, pushes, pushes_two, HasLocal, HasLong}
use Rattle.micro_sketch.specs.LocalOps.{LocalOp, Iload, Lload, Aload, Iload0, Iload1, Iload2, Iload3, Lload0, Lload1, Lload2, Lload3, Aload0, Aload1, Aload2, Aload3, Istore, Lstore, Astore, Istore0, Istore1, Istore2, Istore3, Lstore0, Lstore1, Lstore2, Lstore3, Astore0, Astore1, Astore2, Astore3, Iinc, local_code, local_effect, local_ready}
use Rattle.micro_sketch.proofs.PlainRows.Shaping.{Row, comes_to, one_taken, one_taken_is, two_taken, two_taken_is}

abbrev Shown : LocalOp → Sketch → Type 0
Shown op x = Row (local_code op) (local_effect op) x

-- a word loaded from a place among those below the stack, and one stored there
abbrev pub loads_from : Sketch → (place : ℕ) → Effect
loads_from x place = pushes (slice_index x.deep (place - 64)) x

abbrev pub stores_to : Sketch → (place : ℕ) → Effect
stores_to x place = record (unchanged x) { words = x.next ∷ x.under; deep = slice_set x.deep (place - 64) x.top }

-- so two words: the high one's place, then the low one's
abbrev pub loads_two : Sketch → (high low : ℕ) → Effect
loads_two x high low = pushes_two (slice_index x.deep (low - 64)) (slice_index x.deep (high - 64)) x

abbrev pub stores_two : Sketch → (high low : ℕ) → Effect
stores_two x high low = record (unchanged x) { words = x.under; deep = slice_set (slice_set x.deep (low - 64) x.top) (high - 64) x.next }

-- a row with the place of a local
finds : (code : ℕ) (f : Sketch → Effect) (x : Sketch) (k place number : ℕ) (g : ℕ → Effect) → let z = entered code x in place ≡ x.vp + number → HasLocal number z
    → outcome_of (exec (suc k) [] z) ≡ outcome (inside place z && true) (g place) z → g (x.vp + number) ≡ f z → Row code f x
finds code f x k place number g found ready h same =
    let z = entered code x in
    comes_to code f x k [] (g place) (inside place z && true) h (ap (λ i. inside i z && true) found ∙ ap (λ b. b && true) ready) (ap g found ∙ same)

-- the test of two places, the later one first
abbrev pub both_inside : Sketch → (high low : ℕ) → Bool
both_inside x high low = inside low x && (inside high x && true)

both : (x : Sketch) (number : ℕ) → HasLong number x → both_inside x (x.vp + number) (x.vp + (number + 1)) ≡ true
both x number ready = ap (λ b. b && (inside (x.vp + number) x && true)) ready.low ∙ ap (λ b. b && true) ready.high

-- a row with the places of a long's words
finds_two : (code : ℕ) (f : Sketch → Effect) (x : Sketch) (k high low number : ℕ) (g : ℕ → ℕ → Effect) → let z = entered code x in high ≡ x.vp + number → low ≡ x.vp + (number + 1) → HasLong number z
    → outcome_of (exec (suc k) [] z) ≡ outcome (both_inside z high low) (g high low) z → g (x.vp + number) (x.vp + (number + 1)) ≡ f z → Row code f x
finds_two code f x k high low number g a b ready h same =
    let z = entered code x in
    comes_to code f x k [] (g high low) (both_inside z high low) h (ap (λ i. both_inside z i low) a ∙ ap (λ i. both_inside z (x.vp + number) i) b ∙ both z number ready) (ap (λ i. g i low) a ∙ ap (λ i. g (x.vp + number) i) b ∙ same)

-- the place of a long's high word is tested after the low word was stored
abbrev pub both_stored : Sketch → (high low : ℕ) → Bool
both_stored x high low = inside high (record x { deep = slice_set x.deep (low - 64) x.top }) && (inside low x && true)

pub still_inside : (x : Sketch) (place at word : ℕ) → inside place (record x { deep = slice_set x.deep at word }) ≡ inside place x
still_inside x place at word = ap (λ n. (if nat_lt place 64 then false else true) && nat_lt place (64 + n)) (length-set x.deep at word)

stored : (x : Sketch) (number : ℕ) → HasLong number x → both_stored x (x.vp + number) (x.vp + (number + 1)) ≡ true
stored x number ready =
    ap (λ b. b && (inside (x.vp + (number + 1)) x && true)) (still_inside x (x.vp + number) (x.vp + (number + 1) - 64) x.top ∙ ready.high)
    ∙ ap (λ b. b && true) ready.low

finds_stored : (code : ℕ) (f : Sketch → Effect) (x : Sketch) (k high low number : ℕ) (g : ℕ → ℕ → Effect) → let z = entered code x in high ≡ x.vp + number → low ≡ x.vp + (number + 1) → HasLong number z
    → outcome_of (exec (suc k) [] z) ≡ outcome (both_stored z high low) (g high low) z → g (x.vp + number) (x.vp + (number + 1)) ≡ f z → Row code f x
finds_stored code f x k high low number g a b ready h same =
    let z = entered code x in
    comes_to code f x k [] (g high low) (both_stored z high low) h (ap (λ i. both_stored z i low) a ∙ ap (λ i. both_stored z (x.vp + number) i) b ∙ stored z number ready) (ap (λ i. g i low) a ∙ ap (λ i. g (x.vp + number) i) b ∙ same)

-- the place of local 0 is VP
at_zero : (vp : ℕ) → vp ≡ vp + 0
at_zero vp = omega arith

-- places that are computed as words
fourth_place : (vp : ℕ) → vp + 3 + 1 < 2 ^ 32 → (vp + 4) % 2 ^ 32 ≡ vp + (3 + 1)
fourth_place vp h = mod-eq_of_lt (omega (arith, h)) ∙ omega arith

behind_place : (vp k : ℕ) → vp + k + 1 < 2 ^ 32 → ((vp + k) % 2 ^ 32 + 1) % 2 ^ 32 ≡ vp + (k + 1)
behind_place vp k h = omega (arith, h)

lload : (x : Sketch) → local_ready Lload (entered 22 x) → Shown Lload x
lload x ready =
    let z = entered 22 x in
    let low = λ (operand : ℕ). ((z.vp + operand) % 2 ^ 32 + 1) % 2 ^ 32 in
    finds_two 22 (local_effect Lload) x 7 (z.vp + one_taken z) (low (one_taken z)) (byte_operand z) (λ h l. behind 1 z (loads_two z h l)) (ap (λ k. z.vp + k) (one_taken_is z)) (ap low (one_taken_is z) ∙ behind_place z.vp (byte_operand z) ready.word) ready refl refl

lstore : (x : Sketch) → local_ready Lstore (entered 55 x) → Shown Lstore x
lstore x ready =
    let z = entered 55 x in
    let low = λ (operand : ℕ). ((z.vp + operand) % 2 ^ 32 + 1) % 2 ^ 32 in
    finds_stored 55 (local_effect Lstore) x 7 (z.vp + one_taken z) (low (one_taken z)) (byte_operand z) (λ h l. behind 1 z (stores_two z h l)) (ap (λ k. z.vp + k) (one_taken_is z)) (ap low (one_taken_is z) ∙ behind_place z.vp (byte_operand z) ready.word) ready refl refl

-- the number of an increment has the sign of its byte
last_byte : (a b : ℕ) → sign_extended8 (a * 2 ^ 8 + b) ≡ sign_extended8 b
last_byte a b = ap (λ (low : ℕ). if nat_lt low (2 ^ 7) then low else low + (2 ^ 32 - 2 ^ 8)) (let same : (a * 2 ^ 8 + b) % 2 ^ 8 ≡ b % 2 ^ 8 = omega arith in same)

iinc : (x : Sketch) → local_ready Iinc (entered 132 x) → Shown Iinc x
iinc x ready =
    let z = entered 132 x in
    let adds = λ (place operand : ℕ). behind 2 z (record (unchanged z) { deep = slice_set z.deep (place - 64) ((slice_index z.deep (place - 64) + sign_extended8 operand) % 2 ^ 32) }) in
    let twice = λ (place : ℕ). inside place z && (inside place z && true) in
    let found : (z.vp + one_taken z) % 2 ^ 32 ≡ z.vp + byte_operand z = ap (λ k. (z.vp + k) % 2 ^ 32) (one_taken_is z) ∙ mod-eq_of_lt ready.1 in
    comes_to 132 (local_effect Iinc) x 7 [] (adds ((z.vp + one_taken z) % 2 ^ 32) (two_taken z)) (twice ((z.vp + one_taken z) % 2 ^ 32)) refl
    (ap twice found ∙ ap (λ b. b && (b && true)) ready.0)
    (ap (λ i. adds i (two_taken z)) found ∙ ap (λ i. adds (z.vp + byte_operand z) i) (two_taken_is z)
    ∙ ap (λ (n : ℕ). let f : Effect = behind 2 z (record (unchanged z) { deep = slice_set z.deep (z.vp + byte_operand z - 64) ((slice_index z.deep (z.vp + byte_operand z - 64) + n) % 2 ^ 32) }) in f) (last_byte (abyte z) (abyte (past 1 z))))

pub local_row : (op : LocalOp) (x : Sketch) → local_ready op (entered (local_code op) x) → Shown op x
local_row Iload x ready = let z = entered 21 x in finds 21 (local_effect Iload) x 1 (z.vp + one_taken z) (byte_operand z) (λ p. behind 1 z (loads_from z p)) (ap (λ k. z.vp + k) (one_taken_is z)) ready refl refl
local_row Lload x ready = lload x ready
local_row Aload x ready = let z = entered 25 x in finds 25 (local_effect Aload) x 1 (z.vp + one_taken z) (byte_operand z) (λ p. behind 1 z (loads_from z p)) (ap (λ k. z.vp + k) (one_taken_is z)) ready refl refl
local_row Iload0 x ready = finds 26 (local_effect Iload0) x 0 x.vp 0 (loads_from (entered 26 x)) (at_zero x.vp) ready refl refl
local_row Iload1 x ready = finds 27 (local_effect Iload1) x 0 (x.vp + 1) 1 (loads_from (entered 27 x)) refl ready refl refl
local_row Iload2 x ready = finds 28 (local_effect Iload2) x 0 (x.vp + 2) 2 (loads_from (entered 28 x)) refl ready refl refl
local_row Iload3 x ready = finds 29 (local_effect Iload3) x 0 (x.vp + 3) 3 (loads_from (entered 29 x)) refl ready refl refl
local_row Lload0 x ready = finds_two 30 (local_effect Lload0) x 1 x.vp (x.vp + 1) 0 (loads_two (entered 30 x)) (at_zero x.vp) refl ready refl refl
local_row Lload1 x ready = finds_two 31 (local_effect Lload1) x 1 (x.vp + 1) (x.vp + 2) 1 (loads_two (entered 31 x)) refl refl ready refl refl
local_row Lload2 x ready = finds_two 32 (local_effect Lload2) x 1 (x.vp + 2) (x.vp + 3) 2 (loads_two (entered 32 x)) refl refl ready refl refl
local_row Lload3 x ready = finds_two 33 (local_effect Lload3) x 5 (x.vp + 3) ((x.vp + 4) % 2 ^ 32) 3 (loads_two (entered 33 x)) refl (fourth_place x.vp ready.word) ready refl refl
local_row Aload0 x ready = finds 42 (local_effect Aload0) x 0 x.vp 0 (loads_from (entered 42 x)) (at_zero x.vp) ready refl refl
local_row Aload1 x ready = finds 43 (local_effect Aload1) x 0 (x.vp + 1) 1 (loads_from (entered 43 x)) refl ready refl refl
local_row Aload2 x ready = finds 44 (local_effect Aload2) x 0 (x.vp + 2) 2 (loads_from (entered 44 x)) refl ready refl refl
local_row Aload3 x ready = finds 45 (local_effect Aload3) x 0 (x.vp + 3) 3 (loads_from (entered 45 x)) refl ready refl refl
local_row Istore x ready = let z = entered 54 x in finds 54 (local_effect Istore) x 1 (z.vp + one_taken z) (byte_operand z) (λ p. behind 1 z (stores_to z p)) (ap (λ k. z.vp + k) (one_taken_is z)) ready refl refl
local_row Lstore x ready = lstore x ready
local_row Astore x ready = let z = entered 58 x in finds 58 (local_effect Astore) x 1 (z.vp + one_taken z) (byte_operand z) (λ p. behind 1 z (stores_to z p)) (ap (λ k. z.vp + k) (one_taken_is z)) ready refl refl
local_row Istore0 x ready = finds 59 (local_effect Istore0) x 0 x.vp 0 (stores_to (entered 59 x)) (at_zero x.vp) ready refl refl
local_row Istore1 x ready = finds 60 (local_effect Istore1) x 0 (x.vp + 1) 1 (stores_to (entered 60 x)) refl ready refl refl
local_row Istore2 x ready = finds 61 (local_effect Istore2) x 0 (x.vp + 2) 2 (stores_to (entered 61 x)) refl ready refl refl
local_row Istore3 x ready = finds 62 (local_effect Istore3) x 0 (x.vp + 3) 3 (stores_to (entered 62 x)) refl ready refl refl
local_row Lstore0 x ready = finds_stored 63 (local_effect Lstore0) x 1 x.vp (x.vp + 1) 0 (stores_two (entered 63 x)) (at_zero x.vp) refl ready refl refl
local_row Lstore1 x ready = finds_stored 64 (local_effect Lstore1) x 1 (x.vp + 1) (x.vp + 2) 1 (stores_two (entered 64 x)) refl refl ready refl refl
local_row Lstore2 x ready = finds_stored 65 (local_effect Lstore2) x 1 (x.vp + 2) (x.vp + 3) 2 (stores_two (entered 65 x)) refl refl ready refl refl
local_row Lstore3 x ready = finds_stored 66 (local_effect Lstore3) x 5 (x.vp + 3) ((x.vp + 4) % 2 ^ 32) 3 (stores_two (entered 66 x)) refl (fourth_place x.vp ready.word) ready refl refl
local_row Astore0 x ready = finds 75 (local_effect Astore0) x 0 x.vp 0 (stores_to (entered 75 x)) (at_zero x.vp) ready refl refl
local_row Astore1 x ready = finds 76 (local_effect Astore1) x 0 (x.vp + 1) 1 (stores_to (entered 76 x)) refl ready refl refl
local_row Astore2 x ready = finds 77 (local_effect Astore2) x 0 (x.vp + 2) 2 (stores_to (entered 77 x)) refl ready refl refl
local_row Astore3 x ready = finds 78 (local_effect Astore3) x 0 (x.vp + 3) 3 (stores_to (entered 78 x)) refl ready refl refl
local_row Iinc x ready = iinc x ready
