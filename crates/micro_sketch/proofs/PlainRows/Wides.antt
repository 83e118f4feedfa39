-- The rows of opcodes under wide.
use Rattle.std.proofs.Common.{◌≡◌, ◌≢◌, ℕ, ◌+◌, ◌-◌, ◌*◌, ◌%◌, ◌^◌, ◌<◌, ◌≤◌, ◌==◌, ◌&&◌, Bool, true, false, nat_lt, if◌then◌else◌, List, [], ◌∷◌, bit_and, bit_xor, slice_index, slice_set, length, refl, sym, ap, ◌∙◌, arith, ltb-false}
use Rattle.std.proofs.lemmas.List.{set_comm}
use Rattle.std.proofs.lemmas.Nat.{and_mask}
use Rattle.std.proofs.Math.Nat.{mod-eq_of_lt}
use Rattle.jop_core.specs.Operations.{sign_extended16, number_of, signed_lt}
use Rattle.micro_sketch.specs.Sketch.{Sketch, exec, inside, abyte, same_bool}
use Rattle.micro_sketch.specs.Row.{Effect, unchanged}
use Rattle.micro_sketch.specs.Rows.{entered, outcome_of, outcome}
use Rattle.micro_sketch.specs.Operand.{past, behind, two_byte_operand}
use Rattle.micro_sketch.specs.WideOps.{WideOp, WideIload, WideLload, WideAload, WideIstore, WideLstore, WideAstore, WideIinc, under_code, wide_effect, wide_ready, wide_index, wide_increment, HasWide, HasWideLong}
use Rattle.micro_sketch.proofs.PlainRows.Shaping.{Row, comes_to, byte_small, taken, one_taken, one_taken_is, two_bytes_small}
use Rattle.micro_sketch.proofs.PlainRows.Locals.{loads_from, stores_to, loads_two, still_inside}

abbrev Shown : WideOp → Sketch → Type 0
Shown op x = Row 196 (wide_effect op) x

-- the operand register after the three bytes, and the local's number in it
abbrev three_taken : Sketch → ℕ
three_taken x = taken (taken (one_taken x) (past 1 x)) (past 2 x)

low_half : (o a b : ℕ) → a < 2 ^ 8 → b < 2 ^ 8 → (((o * 2 ^ 8 + a) % 2 ^ 32) * 2 ^ 8 + b) % 2 ^ 32 % 2 ^ 16 ≡ a * 2 ^ 8 + b
low_half o a b h k = omega (arith, h, k)

index_is : (x : Sketch) → bit_and (three_taken x) (2 ^ 16 - 1) ≡ wide_index x
index_is x = and_mask (three_taken x) 16 ∙ low_half (one_taken x) (abyte (past 1 x)) (abyte (past 2 x)) (byte_small (past 1 x)) (byte_small (past 2 x))

abbrev raw_place : Sketch → ℕ
raw_place x = (x.vp + bit_and (three_taken x) (2 ^ 16 - 1)) % 2 ^ 32

place_is : (x : Sketch) → x.vp + wide_index x < 2 ^ 32 → raw_place x ≡ x.vp + wide_index x
place_is x h = ap (λ k. (x.vp + k) % 2 ^ 32) (index_is x) ∙ mod-eq_of_lt h

-- the tests on the way, of the opcode under wide
abbrev tested : (load : Bool) → (op : ℕ) → Bool
tested load op =
    same_bool load (nat_lt 0 (number_of (signed_lt op 54)))
    && (same_bool false (bit_xor op 55 == 0) && (same_bool false (bit_xor op 22 == 0) && (same_bool false (bit_xor op 132 == 0) && true)))

abbrev loads_allowed : Sketch → (load : Bool) → (place op : ℕ) → Bool
loads_allowed x load place op = inside place x && tested load op

one_word : (x : Sketch) (op : WideOp) (load : Bool) (g : ℕ → Effect) (guesses : List Bool) → let z = entered 196 x in HasWide op z → tested load (under_code op) ≡ true
    → outcome_of (exec 29 guesses z) ≡ outcome (loads_allowed z load (raw_place z) (one_taken z)) (g (raw_place z)) z → g (z.vp + wide_index z) ≡ wide_effect op z → Shown op x
one_word x op load g guesses ready passes h same =
    let z = entered 196 x in
    let found = place_is z ready.word in
    comes_to 196 (wide_effect op) x 28 guesses (g (raw_place z)) (loads_allowed z load (raw_place z) (one_taken z)) h
    (ap (λ p. loads_allowed z load p (one_taken z)) found ∙ ap (λ o. loads_allowed z load (z.vp + wide_index z) o) (one_taken_is z ∙ ready.under) ∙ ap (λ b. b && tested load (under_code op)) ready.inside ∙ passes)
    (ap g found ∙ same)

wide_iload : (x : Sketch) → HasWide WideIload (entered 196 x) → Shown WideIload x
wide_iload x ready = let z = entered 196 x in one_word x WideIload true (λ p. behind 3 z (loads_from z p)) (false ∷ false ∷ false ∷ true ∷ []) ready refl refl refl

wide_aload : (x : Sketch) → HasWide WideAload (entered 196 x) → Shown WideAload x
wide_aload x ready = let z = entered 196 x in one_word x WideAload true (λ p. behind 3 z (loads_from z p)) (false ∷ false ∷ false ∷ true ∷ []) ready refl refl refl

wide_istore : (x : Sketch) → HasWide WideIstore (entered 196 x) → Shown WideIstore x
wide_istore x ready = let z = entered 196 x in one_word x WideIstore false (λ p. behind 3 z (stores_to z p)) (false ∷ false ∷ false ∷ false ∷ []) ready refl refl refl

wide_astore : (x : Sketch) → HasWide WideAstore (entered 196 x) → Shown WideAstore x
wide_astore x ready = let z = entered 196 x in one_word x WideAstore false (λ p. behind 3 z (stores_to z p)) (false ∷ false ∷ false ∷ false ∷ []) ready refl refl refl

-- A long's two words.

abbrev lload_tested : (op : ℕ) → Bool
lload_tested op = same_bool true (bit_xor op 22 == 0) && (same_bool false (bit_xor op 132 == 0) && true)

abbrev lstore_tested : (op : ℕ) → Bool
lstore_tested op = same_bool true (bit_xor op 55 == 0) && (same_bool false (bit_xor op 22 == 0) && (same_bool false (bit_xor op 132 == 0) && true))

abbrev behind_place : ℕ → ℕ
behind_place place = (place + 1) % 2 ^ 32

behind_is : (vp k : ℕ) → vp + k + 1 < 2 ^ 32 → behind_place (vp + k) ≡ vp + (k + 1)
behind_is vp k h = omega (arith, h)

wide_lload : (x : Sketch) → HasWideLong WideLload (entered 196 x) → Shown WideLload x
wide_lload x ready =
    let z = entered 196 x in
    let k = wide_index z in
    let word = ready.long.word in
    let found = place_is z (omega (arith, word)) in
    let allowed = λ (high low op : ℕ). inside low z && (inside high z && lload_tested op) in
    let g = λ (high low : ℕ). behind 3 z (loads_two z high low) in
    let next = behind_is z.vp k word in
    comes_to 196 (wide_effect WideLload) x 25 (false ∷ true ∷ []) (g (raw_place z) (behind_place (raw_place z))) (allowed (raw_place z) (behind_place (raw_place z)) (one_taken z)) refl
    (ap (λ p. allowed p (behind_place p) (one_taken z)) found ∙ ap (λ p. allowed (z.vp + k) p (one_taken z)) next ∙ ap (allowed (z.vp + k) (z.vp + (k + 1))) (one_taken_is z ∙ ready.under)
    ∙ ap (λ b. b && (inside (z.vp + k) z && lload_tested 22)) ready.long.low ∙ ap (λ b. b && lload_tested 22) ready.long.high)
    (ap (λ p. g p (behind_place p)) found ∙ ap (g (z.vp + k)) next)

past_base : (place : ℕ) (x : Sketch) → inside place x ≡ true → 64 ≤ place
past_base place x h = by (nat_lt place 64) refl (first (if nat_lt place 64 then false else true) (nat_lt place (64 + length x.deep)) h)
  where
    first : (a b : Bool) → (a && b) ≡ true → a ≡ true
    first true b e = refl
    first false b e = cc

    by : (b : Bool) → nat_lt place 64 ≡ b → (if b then false else true) ≡ true → 64 ≤ place
    by true e f = cc
    by false e f = ltb-false place 64 e

wide_lstore : (x : Sketch) → HasWideLong WideLstore (entered 196 x) → Shown WideLstore x
wide_lstore x ready =
    let z = entered 196 x in
    let k = wide_index z in
    let word = ready.long.word in
    let found = place_is z (omega (arith, word)) in
    let after = λ (high : ℕ). record z { deep = slice_set z.deep (high - 64) z.next } in
    let allowed = λ (high low op : ℕ). inside low (after high) && (inside high z && lstore_tested op) in
    let g = λ (high low : ℕ). behind 3 z (record (unchanged z) { words = z.under; deep = slice_set (slice_set z.deep (high - 64) z.next) (low - 64) z.top }) in
    let next = behind_is z.vp k word in
    let base = past_base (z.vp + k) z ready.long.high in
    let apart : (z.vp + k - 64) ≢ (z.vp + (k + 1) - 64) = distinct (z.vp) k base in
    comes_to 196 (wide_effect WideLstore) x 31 (false ∷ false ∷ true ∷ []) (g (raw_place z) (behind_place (raw_place z))) (allowed (raw_place z) (behind_place (raw_place z)) (one_taken z)) refl
    (ap (λ p. allowed p (behind_place p) (one_taken z)) found ∙ ap (λ p. allowed (z.vp + k) p (one_taken z)) next ∙ ap (allowed (z.vp + k) (z.vp + (k + 1))) (one_taken_is z ∙ ready.under)
    ∙ ap (λ b. b && (inside (z.vp + k) z && lstore_tested 55)) (still_inside z (z.vp + (k + 1)) (z.vp + k - 64) z.next ∙ ready.long.low) ∙ ap (λ b. b && lstore_tested 55) ready.long.high)
    (ap (λ p. g p (behind_place p)) found ∙ ap (g (z.vp + k)) next
    ∙ ap (λ (d : List ℕ). behind 3 z (record (unchanged z) { words = z.under; deep = d })) (set_comm z.deep (z.vp + k - 64) (z.vp + (k + 1) - 64) z.next z.top apart))
  where
    distinct : (vp k : ℕ) → 64 ≤ vp + k → (vp + k - 64) ≢ (vp + (k + 1) - 64)
    distinct vp k h e = omega (arith, h, e)

-- An increment.

abbrev five_taken : Sketch → ℕ
five_taken x = taken (taken (three_taken x) (past 3 x)) (past 4 x)

increment_is : (x : Sketch) → sign_extended16 (five_taken x) ≡ wide_increment x
increment_is x =
    let two = two_byte_operand (past 3 x) in
    let small = two_bytes_small (past 3 x) in
    let low : five_taken x % 2 ^ 16 ≡ two % 2 ^ 16 = low_half (three_taken x) (abyte (past 3 x)) (abyte (past 4 x)) (byte_small (past 3 x)) (byte_small (past 4 x)) ∙ sym (mod-eq_of_lt small) in
    ap (λ (n : ℕ). if nat_lt n (2 ^ 15) then n else n + (2 ^ 32 - 2 ^ 16)) low

wide_iinc : (x : Sketch) → HasWide WideIinc (entered 196 x) → Shown WideIinc x
wide_iinc x ready =
    let z = entered 196 x in
    let place = z.vp + wide_index z in
    let found = place_is z ready.word in
    let test = λ (op : ℕ). same_bool true (bit_xor op 132 == 0) && true in
    let allowed = λ (p op : ℕ). inside p z && (inside p z && test op) in
    let g = λ (p n : ℕ). behind 5 z (record (unchanged z) { deep = slice_set z.deep (p - 64) ((slice_index z.deep (p - 64) + n) % 2 ^ 32) }) in
    comes_to 196 (wide_effect WideIinc) x 21 (true ∷ []) (g (raw_place z) (sign_extended16 (five_taken z))) (allowed (raw_place z) (one_taken z)) refl
    (ap (λ p. allowed p (one_taken z)) found ∙ ap (allowed place) (one_taken_is z ∙ ready.under) ∙ ap (λ b. b && (b && true)) ready.inside)
    (ap (λ p. g p (sign_extended16 (five_taken z))) found ∙ ap (g place) (increment_is z))

pub wide_row : (op : WideOp) (x : Sketch) → wide_ready op (entered 196 x) → Shown op x
wide_row WideIload x ready = wide_iload x ready
wide_row WideLload x ready = wide_lload x ready
wide_row WideAload x ready = wide_aload x ready
wide_row WideIstore x ready = wide_istore x ready
wide_row WideLstore x ready = wide_lstore x ready
wide_row WideAstore x ready = wide_astore x ready
wide_row WideIinc x ready = wide_iinc x ready
