-- How a row is shown, by computing on the sketch.
use Rattle.std.proofs.Common.{◌≡◌, ℕ, suc, ◌+◌, ◌*◌, ◌%◌, ◌^◌, ◌<◌, ◌≤◌, Bool, true, List, length, [], ◌∷◌, refl, ap, ◌∙◌, arith}
use Rattle.micro_sketch.specs.Sketch.{Sketch, exec, abyte}
use Rattle.micro_sketch.specs.Row.{Effect}
use Rattle.micro_sketch.specs.Rows.{Makes, makes, makes_raw, entered, outcome_of, outcome, shown}
use Rattle.micro_sketch.specs.Operand.{past, byte_operand, two_byte_operand, four_byte_operand}

-- What is to be shown: from the entry of the opcode with a code, x has the effect.
abbrev pub Row : (code : ℕ) → (Sketch → Effect) → Sketch → Type 0
Row code f x = Makes (f (entered code x)) (entered code x)

-- a row of k + 1 words that computes as it is stated
pub computes : (code : ℕ) (f : Sketch → Effect) (x : Sketch) (k : ℕ) → let z = entered code x in outcome_of (exec (suc k) [] z) ≡ outcome true (f z) z → Row code f x
computes code f x k h = let z = entered code x in makes k [] (f z) z true h refl

-- one that computes to a raw form of its effect, where it is allowed
pub comes_to : (code : ℕ) (f : Sketch → Effect) (x : Sketch) (k : ℕ) (guesses : List Bool) (raw : Effect) (allowed : Bool) → let z = entered code x in
    outcome_of (exec (suc k) guesses z) ≡ outcome allowed raw z → allowed ≡ true → raw ≡ f z → Row code f x
comes_to code f x k guesses raw allowed h fine same = let z = entered code x in makes_raw k guesses raw (f z) z allowed h fine same

-- With a fourth word below B in sight, which takes that there is one.

abbrev pub opened : (code : ℕ) → Sketch → Sketch
opened code x = record (entered code x) { under = shown 4 x.under }

pub opens : (code : ℕ) (x : Sketch) → 4 ≤ length x.under → entered code x ≡ opened code x
opens code x four = ap (λ (u : List ℕ). record (entered code x) { under = u }) (last x.under four)
  where
    last : (xs : List ℕ) → 4 ≤ length xs → shown 3 xs ≡ shown 4 xs
    last [] h = absurd (omega arith)
    last (a ∷ []) h = absurd (omega arith)
    last (a ∷ (b ∷ [])) h = absurd (omega arith)
    last (a ∷ (b ∷ (c ∷ []))) h = absurd (omega arith)
    last (a ∷ (b ∷ (c ∷ (d ∷ rest)))) h = refl

-- The operand register after the flag opd took in the bytes behind an opcode.

pub byte_small : (x : Sketch) → abyte x < 2 ^ 8
byte_small x = omega arith

-- with a byte more
abbrev pub taken : (operand : ℕ) → Sketch → ℕ
taken operand x = (operand * 2 ^ 8 + abyte x) % 2 ^ 32

abbrev pub one_taken : Sketch → ℕ
one_taken x = taken 0 x

abbrev pub two_taken : Sketch → ℕ
two_taken x = taken (one_taken x) (past 1 x)

abbrev pub four_taken : Sketch → ℕ
four_taken x = taken (taken (two_taken x) (past 2 x)) (past 3 x)

one_byte : (b : ℕ) → b < 2 ^ 8 → (0 * 2 ^ 8 + b) % 2 ^ 32 ≡ b
one_byte b h = omega arith

two_bytes : (a b : ℕ) → a < 2 ^ 8 → b < 2 ^ 8 → ((0 * 2 ^ 8 + a) % 2 ^ 32 * 2 ^ 8 + b) % 2 ^ 32 ≡ a * 2 ^ 8 + b
two_bytes a b h k = omega arith

four_bytes : (t c d : ℕ) → t < 2 ^ 16 → c < 2 ^ 8 → d < 2 ^ 8 → ((t * 2 ^ 8 + c) % 2 ^ 32 * 2 ^ 8 + d) % 2 ^ 32 ≡ t * 2 ^ 16 + c * 2 ^ 8 + d
four_bytes t c d h k l = omega arith

pub one_taken_is : (x : Sketch) → one_taken x ≡ byte_operand x
one_taken_is x = one_byte (abyte x) (byte_small x)

pub two_taken_is : (x : Sketch) → two_taken x ≡ two_byte_operand x
two_taken_is x = two_bytes (abyte x) (abyte (past 1 x)) (byte_small x) (byte_small (past 1 x))

pub two_bytes_small : (x : Sketch) → two_byte_operand x < 2 ^ 16
two_bytes_small x = omega (arith, byte_small x, byte_small (past 1 x))

pub four_taken_is : (x : Sketch) → four_taken x ≡ four_byte_operand x
four_taken_is x =
    ap (λ t. ((t * 2 ^ 8 + abyte (past 2 x)) % 2 ^ 32 * 2 ^ 8 + abyte (past 3 x)) % 2 ^ 32) (two_taken_is x)
    ∙ four_bytes (two_byte_operand x) (abyte (past 2 x)) (abyte (past 3 x)) (two_bytes_small x) (byte_small (past 2 x)) (byte_small (past 3 x))
    ∙ omega arith
