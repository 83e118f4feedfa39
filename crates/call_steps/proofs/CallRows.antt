-- The first part of the microcode of invokestatic, by computing on the sketch.
use Rattle.std.proofs.Common.{◌≡◌, ℕ, ◌+◌, ◌-◌, ◌*◌, ◌/◌, ◌%◌, ◌^◌, List, [], ◌∷◌, length, refl}
use Rattle.std.specs.Prelude.{slice_index}
use Rattle.microcode.specs.declared.addresses.TheConstants.{INVOKESTATIC, INVOKE}
use Rattle.micro_sketch.specs.Sketch.{Sketch, exec, abyte}
use Rattle.micro_sketch.specs.Operand.{past}
use Rattle.call_steps.proofs.Parts.{Low, at}

-- f as a row begins
abbrev pub begun : Sketch → Sketch
begun f = record f { operand = 0; loads = 0; words = 0; output = [] }

-- ---- what is read, as it computes

abbrev pub raw_index : Sketch → ℕ
raw_index f = ((0 * 2 ^ 8 + abyte f) % 2 ^ 32 * 2 ^ 8 + abyte (past 1 f)) % 2 ^ 32

abbrev pub raw_entry : Sketch → Low → ℕ
raw_entry f v = ((raw_index f + raw_index f) % 2 ^ 32 + v.pool) % 2 ^ 32

abbrev pub raw_method : Sketch → Low → ℕ
raw_method f v = slice_index f.memory (raw_entry f v)

abbrev pub raw_arguments : Sketch → (method : ℕ) → ℕ
raw_arguments f m = slice_index f.memory ((m + 1) % 2 ^ 32) / 2 ^ 16

abbrev pub raw_sp : Sketch → (under : List ℕ) → (arguments : ℕ) → ℕ
raw_sp f us a = (length f.deep + 63 + length us + (2 ^ 32 - a)) % 2 ^ 32

-- ---- to the common part

-- f where an operand, the last word that was read, and the places in the scratch words are these
abbrev pub with_method : Sketch → (index value : ℕ) → Sketch
with_method f index value = record (begun f) { operand = index; jpc = (past 2 f).jpc; value = value }

abbrev pub low_method : Low → (method arguments sp : ℕ) → Low
low_method v m a sp = record v { s0 = m; s1 = a; s6 = sp }

abbrev pub at_invoke : Sketch → Low → (t u k : ℕ) → (us js : List ℕ) → (index method arguments sp : ℕ) → Sketch
at_invoke f v t u k us js index m a sp = at INVOKE (with_method f index (slice_index f.memory ((m + 1) % 2 ^ 32))) (low_method v m a sp) t u us (u ∷ t ∷ k ∷ js)

pub begins : (f : Sketch) (v : Low) (t u j1 j2 j3 : ℕ) (us js : List ℕ) → exec 24 [] (at INVOKESTATIC (begun f) v t u us (j1 ∷ j2 ∷ j3 ∷ js))
    ≡ at_invoke f v t u j3 us js (raw_index f) (raw_method f v) (raw_arguments f (raw_method f v)) (raw_sp f us (raw_arguments f (raw_method f v)))
begins f v t u j1 j2 j3 us js = refl
