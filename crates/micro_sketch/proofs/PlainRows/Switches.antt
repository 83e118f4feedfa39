-- The row of tableswitch.
use Rattle.std.proofs.Common.{◌≡◌, ℕ, ◌+◌, ◌-◌, ◌*◌, ◌/◌, ◌%◌, ◌^◌, ◌<◌, ◌&&◌, ◌||◌, Bool, true, false, nat_lt, if◌then◌else◌, [], ◌∷◌, refl, sym, ap, ◌∙◌, arith}
use Rattle.jop_core.specs.Operations.{signed_lt, number_of}
use Rattle.micro_sketch.specs.Sketch.{Sketch, abyte, same_bool}
use Rattle.micro_sketch.specs.Row.{Effect}
use Rattle.micro_sketch.specs.Rows.{entered}
use Rattle.micro_sketch.specs.Operand.{past, four_byte_operand}
use Rattle.micro_sketch.specs.SwitchOps.{placed, operands, default_offset, least, greatest, table_offset, chosen_offset, jumps_by, tableswitch_effect, IsInCode}
use Rattle.micro_sketch.proofs.PlainRows.Shaping.{Row, comes_to, byte_small, taken}

-- four bytes more push all others out of the operand register
abbrev pub four_more : (operand : ℕ) → Sketch → ℕ
four_more operand x = taken (taken (taken (taken operand x) (past 1 x)) (past 2 x)) (past 3 x)

four_left : (o a b c d : ℕ) → a < 2 ^ 8 → b < 2 ^ 8 → c < 2 ^ 8 → d < 2 ^ 8
    → (((((o * 2 ^ 8 + a) % 2 ^ 32) * 2 ^ 8 + b) % 2 ^ 32 * 2 ^ 8 + c) % 2 ^ 32 * 2 ^ 8 + d) % 2 ^ 32 ≡ a * 2 ^ 24 + b * 2 ^ 16 + c * 2 ^ 8 + d
four_left o a b c d h k l m = omega (arith, h, k, l, m)

pub four_more_is : (o : ℕ) (x : Sketch) → four_more o x ≡ four_byte_operand x
four_more_is o x = four_left o (abyte x) (abyte (past 1 x)) (abyte (past 2 x)) (abyte (past 3 x)) (byte_small x) (byte_small (past 1 x)) (byte_small (past 2 x)) (byte_small (past 3 x))

-- where the row finds the operands
abbrev pub raw_operands : Sketch → Sketch
raw_operands x = placed (((x.jpc + 3) % 2 ^ 32 / 2 ^ 2 * 2 ^ 2) % 2 ^ 32 % 2 ^ 16) x

aligned : (j : ℕ) → j < 2 ^ 16 → ((j + 3) % 2 ^ 32 / 2 ^ 2 * 2 ^ 2) % 2 ^ 32 % 2 ^ 16 ≡ (j + 3) / 4 * 4 % 2 ^ 16
aligned j h = omega (arith, h)

pub operands_are : (x : Sketch) → x.jpc < 2 ^ 16 → raw_operands x ≡ operands x
operands_are x h = ap (λ j. placed j x) (aligned x.jpc h)

-- the jump, as it is computed
abbrev pub raw_jump : Sketch → (offset : ℕ) → ℕ
raw_jump x offset = ((x.jpc + (2 ^ 32 - 1)) % 2 ^ 32 + offset) % 2 ^ 32 % 2 ^ 16

jump_is : (j t : ℕ) → ((j + (2 ^ 32 - 1)) % 2 ^ 32 + t) % 2 ^ 32 % 2 ^ 16 ≡ (j + (2 ^ 16 - 1) + t) % 2 ^ 16
jump_is j t = omega arith

abbrev pub raw_effect : Sketch → (offset : ℕ) → Effect
raw_effect x offset = record (jumps_by offset x) { jpc = raw_jump x offset }

pub effect_is : (x : Sketch) (raw offset : ℕ) → raw ≡ offset → raw_effect x raw ≡ jumps_by offset x
effect_is x raw offset same = ap (raw_effect x) same ∙ ap (λ (j : ℕ). record (jumps_by offset x) { jpc = j }) (jump_is x.jpc offset)

-- the three operands in the register, one behind the other
abbrev first_word : Sketch → ℕ
first_word z = four_more 0 z

abbrev second_word : Sketch → ℕ
second_word z = four_more (first_word z) (past 4 z)

abbrev third_word : Sketch → ℕ
third_word z = four_more (second_word z) (past 8 z)

abbrev below : (key low : ℕ) → Bool
below key low = nat_lt 0 (number_of (signed_lt key low))

below_is : (key low : ℕ) → below key low ≡ signed_lt key low
below_is key low = by (signed_lt key low)
  where
    by : (b : Bool) → nat_lt 0 (number_of b) ≡ b
    by true = refl
    by false = refl

passes : (guess test is : Bool) → test ≡ is → is ≡ guess → same_bool guess test ≡ true
passes true test is e f = e ∙ f
passes false test is e f = ap (λ b. if b then false else true) (e ∙ f)

-- the place of an entry of the table
abbrev raw_entry : Sketch → (key low : ℕ) → ℕ
raw_entry z key low = ((past 12 z).jpc + ((key + (2 ^ 32 - low)) % 2 ^ 32 * 2 ^ 2) % 2 ^ 32) % 2 ^ 32 % 2 ^ 16

entry_is : (j k : ℕ) → (j + (k * 2 ^ 2) % 2 ^ 32) % 2 ^ 32 % 2 ^ 16 ≡ (j + 4 * k) % 2 ^ 16
entry_is j k = omega arith

pub tableswitch : (x : Sketch) → IsInCode x → Row 170 tableswitch_effect x
tableswitch x inside = by (signed_lt key (least z)) (signed_lt (greatest z) key) refl refl
  where
    z : Sketch
    z = entered 170 x

    key : ℕ
    key = z.top

    r : Sketch
    r = raw_operands z

    same : r ≡ operands z
    same = operands_are z inside

    default_is : first_word r ≡ default_offset z
    default_is = four_more_is 0 r ∙ ap (λ (y : Sketch). four_byte_operand y) same

    least_is : second_word r ≡ least z
    least_is = four_more_is (first_word r) (past 4 r) ∙ ap (λ (y : Sketch). four_byte_operand (past 4 y)) same

    greatest_is : third_word r ≡ greatest z
    greatest_is = four_more_is (second_word r) (past 8 r) ∙ ap (λ (y : Sketch). four_byte_operand (past 8 y)) same

    under : below key (second_word r) ≡ signed_lt key (least z)
    under = below_is key (second_word r) ∙ ap (signed_lt key) least_is

    over : below (third_word r) key ≡ signed_lt (greatest z) key
    over = below_is (third_word r) key ∙ ap (λ g. signed_lt g key) greatest_is

    by : (a b : Bool) → signed_lt key (least z) ≡ a → signed_lt (greatest z) key ≡ b → Row 170 tableswitch_effect x
    by true b e f =
        comes_to 170 tableswitch_effect x 38 (true ∷ []) (raw_effect z (first_word r)) (same_bool true (below key (second_word r)) && true) refl (ap (λ t. t && true) (passes true (below key (second_word r)) (signed_lt key (least z)) under e))
        (effect_is z (first_word r) (chosen_offset z key) (default_is ∙ ap (λ (t : Bool). if t || signed_lt (greatest z) key then default_offset z else table_offset z key) (sym e)))
    by false true e f =
        comes_to 170 tableswitch_effect x 42 (false ∷ true ∷ []) (raw_effect z (first_word r)) (same_bool true (below (third_word r) key) && (same_bool false (below key (second_word r)) && true)) refl
        (ap (λ t. t && (same_bool false (below key (second_word r)) && true)) (passes true (below (third_word r) key) (signed_lt (greatest z) key) over f) ∙ ap (λ t. t && true) (passes false (below key (second_word r)) (signed_lt key (least z)) under e))
        (effect_is z (first_word r) (chosen_offset z key)
        (default_is ∙ ap (λ (t : Bool). if t then default_offset z else table_offset z key) (sym (ap (λ t. t || signed_lt (greatest z) key) e ∙ f))))
    by false false e f =
        let at = λ (low : ℕ) (y : Sketch). placed (raw_entry y key low) (past 12 y) in
        let word = λ (low : ℕ) (y : Sketch). four_byte_operand (at low y) in
        let found : four_more (third_word r) (at (second_word r) r) ≡ table_offset z key =
        four_more_is (third_word r) (at (second_word r) r) ∙ ap (λ low. word low r) least_is ∙ ap (word (least z)) same
        ∙ ap (λ (place : ℕ). four_byte_operand (placed place (past 12 (operands z)))) (entry_is (past 12 (operands z)).jpc ((key + (2 ^ 32 - least z)) % 2 ^ 32)) in
        comes_to 170 tableswitch_effect x 56 (false ∷ false ∷ []) (raw_effect z (four_more (third_word r) (at (second_word r) r))) (same_bool false (below (third_word r) key) && (same_bool false (below key (second_word r)) && true)) refl
        (ap (λ t. t && (same_bool false (below key (second_word r)) && true)) (passes false (below (third_word r) key) (signed_lt (greatest z) key) over f) ∙ ap (λ t. t && true) (passes false (below key (second_word r)) (signed_lt key (least z)) under e))
        (effect_is z (four_more (third_word r) (at (second_word r) r)) (chosen_offset z key)
        (found ∙ ap (λ (t : Bool). if t then default_offset z else table_offset z key) (sym (ap (λ t. t || signed_lt (greatest z) key) e ∙ f))))
