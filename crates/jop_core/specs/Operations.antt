-- What the plain microinstructions do to the registers, the on-chip words and the memory.
use Rattle.std.specs.Prelude.{ℕ, ◌+◌, ◌-◌, ◌*◌, ◌/◌, ◌%◌, ◌^◌, Bool, true, false, ◌==◌, ◌&&◌, nat_lt, nat_le, if◌then◌else◌, List, length, bit_and, bit_or}
use Rattle.std.specs.Prelude.{bit_xor, slice_set, slice_index, slice_range, Some, None}
use Rattle.std.specs.declared.option.Option.{Option}
use Rattle.microcode.specs.declared.isa.operation.Operation.{Operation}
use Rattle.microcode.specs.declared.isa.operation.Operation.TheVariants.{Nop, Pop, Dup, Add, Sub, And, Or, Xor}
use Rattle.microcode.specs.declared.isa.operation.Operation.TheVariants.{Shl, Shr, Ushr, Mul, Slt, Sltu, Ldo, Ldo8, Ldo16}
use Rattle.microcode.specs.declared.isa.operation.Operation.TheVariants.{Ldl, Stl, Ld0, Ld1, Ld2, Ld3, St0, St1, St2, St3, Ldvp, Stvp, Ldsp, Stsp, Ldjpc, Stjpc}
use Rattle.microcode.specs.declared.isa.operation.Operation.TheVariants.{Star, Ldmi, Stmi, Stmra, Stmwa, Stmwd, Wait, Ldmrd, Stbc, Jbr, Jbg, Ldin, Stout, Hltb}
use Rattle.microcode.specs.declared.isa.operation.Operation.TheVariants.{Hltu}
use Rattle.machine_memory.specs.Timing.Port.{Port, read_started, write_started}
use Rattle.method_cache.specs.Contents.{can_load, is_cached, loaded}
use Rattle.jop_core.specs.declared.halt.Halt.{Halt}
use Rattle.jop_core.specs.declared.halt.Halt.TheVariants.{Ended, Uncaught}
use Rattle.jop_core.specs.declared.places.TheConstants.{STACK}
use Rattle.jop_core.specs.State.{MachineState}
pub use Rattle.base.specs.Signed.{sign_extended8, sign_extended16, is_negative, signed_lt, shifted_right, number_of, holds}

-- the place below which each on-chip place stays
abbrev pub place_of : MachineState → ℕ → ℕ
place_of s place = place % length s.stack

abbrev pub word_at : MachineState → ℕ → ℕ
word_at s place = slice_index s.stack (place_of s place)

-- the on-chip word behind SP becomes B, B becomes A, and A the word
abbrev pub pushed : ℕ → MachineState → MachineState
pushed x s = record s { stack = slice_set s.stack (place_of s (s.sp + 1)) s.b; sp = place_of s (s.sp + 1); b = s.a; a = x }

-- A becomes B, and B the on-chip word at SP
abbrev pub popped : MachineState → MachineState
popped s = record s { a = s.b; b = word_at s s.sp; sp = place_of s (s.sp + (length s.stack - 1)) }

-- pops into the on-chip word at a place
abbrev pub stored : ℕ → MachineState → MachineState
stored place s = record (popped s) { stack = slice_set s.stack (place_of s place) s.a }

-- the result of a binary operation on B and A
abbrev pub combined : Operation → ℕ → ℕ → ℕ
combined Add b a = (b + a) % 2 ^ 32
combined Sub b a = (b + (2 ^ 32 - a)) % 2 ^ 32
combined And b a = bit_and b a
combined Or b a = bit_or b a
combined Xor b a = bit_xor b a
combined Shl b a = (b * 2 ^ (a % 32)) % 2 ^ 32
combined Shr b a = shifted_right b (a % 32)
combined Ushr b a = b / 2 ^ (a % 32)
combined Mul b a = (b * a) % 2 ^ 32
combined Slt b a = number_of (signed_lt b a)
combined Sltu b a = number_of (nat_lt b a)
combined _ b a = b

-- a binary operation pops, and sets A
abbrev pub after_binary : Operation → MachineState → MachineState
after_binary op s = record (popped s) { a = combined op s.b s.a }

-- where a branch of a bytecode goes, whose opcode and offset were read
abbrev pub branch_target : MachineState → ℕ
branch_target s = (s.jpc + (2 ^ 16 - 3) + sign_extended16 s.operand % 2 ^ 16) % 2 ^ 16

-- the next byte of the input, and all bits at its end
abbrev pub input_word : Option ℕ → ℕ
input_word None = 2 ^ 32 - 1
input_word (Some byte) = byte

-- a method at a place of memory: how many words of code it has, and where they begin behind its record and its exception table
abbrev pub code_words : List ℕ → ℕ → ℕ
code_words memory m = slice_index memory (m + 1) % 2 ^ 16

abbrev pub code_place : List ℕ → ℕ → ℕ
code_place memory m = m + 4 + 3 * slice_index memory (m + 3)

-- it has code, which lies in memory and fits the cache
abbrev pub can_switch : MachineState → ℕ → Bool
can_switch s m =
    can_load (code_words s.port.words m) s.cache && nat_le (code_place s.port.words m + code_words s.port.words m) (length s.port.words)

-- the words of its code
abbrev pub code_of : MachineState → ℕ → List ℕ
code_of s m = slice_range s.port.words (code_place s.port.words m) (code_place s.port.words m + code_words s.port.words m)

-- the cycles that a load of n words stalls
abbrev pub load_stall : Port → ℕ → ℕ
load_stall port n = 4 + n * (2 + port.read)

-- A look-up of a method that the cache holds, and of one that it loads. The counts of both have 64 bits.
abbrev pub looked_up : (is_hit : Bool) → ℕ → MachineState → MachineState
looked_up true m s = record s { method = m; hits = (s.hits + 1) % 2 ^ 64 }
looked_up false m s = record s {
  method = m;
  misses = (s.misses + 1) % 2 ^ 64;
  stall = load_stall s.port (code_words s.port.words m);
  cache = loaded m (code_of s m) s.cache;
}

-- the method at A's place becomes the current one; a place of no method only pops
abbrev pub switched : MachineState → MachineState
switched s = if can_switch s s.a then looked_up (is_cached s.a s.cache) s.a (popped s) else popped s

-- the machine halts where the top frame is boot's, whose locals are the first words of the stack
abbrev pub halted_at_boot : Halt → MachineState → MachineState
halted_at_boot halt s = if s.vp == STACK then record s { halt = halt } else s

-- The effect of an operation, apart from the flags of its word and the next address, where `ldin` is given this input.
abbrev pub operated : (input : Option ℕ) → Operation → MachineState → MachineState
operated input Nop s = s
operated input Pop s = popped s
operated input Dup s = pushed s.a s
operated input Add s = after_binary Add s
operated input Sub s = after_binary Sub s
operated input And s = after_binary And s
operated input Or s = after_binary Or s
operated input Xor s = after_binary Xor s
operated input Shl s = after_binary Shl s
operated input Shr s = after_binary Shr s
operated input Ushr s = after_binary Ushr s
operated input Mul s = after_binary Mul s
operated input Slt s = after_binary Slt s
operated input Sltu s = after_binary Sltu s
operated input Ldo s = pushed s.operand s
operated input Ldo8 s = pushed (sign_extended8 s.operand) s
operated input Ldo16 s = pushed (sign_extended16 s.operand) s
operated input Ldl s = pushed (word_at s (s.vp + s.operand)) s
operated input Stl s = stored (s.vp + s.operand) s
operated input Ld0 s = pushed (word_at s s.vp) s
operated input Ld1 s = pushed (word_at s (s.vp + 1)) s
operated input Ld2 s = pushed (word_at s (s.vp + 2)) s
operated input Ld3 s = pushed (word_at s (s.vp + 3)) s
operated input St0 s = stored s.vp s
operated input St1 s = stored (s.vp + 1) s
operated input St2 s = stored (s.vp + 2) s
operated input St3 s = stored (s.vp + 3) s
operated input Ldvp s = pushed s.vp s
operated input Stvp s = record (popped s) { vp = place_of s s.a }
operated input Ldsp s = pushed s.sp s
operated input Stsp s = record (popped s) { sp = place_of s s.a }
operated input Ldjpc s = pushed s.jpc s
operated input Stjpc s = record (popped s) { jpc = s.a % 2 ^ 16 }
operated input Star s = record (popped s) { ar = place_of s s.a }
operated input Ldmi s = pushed (word_at s s.ar) s
operated input Stmi s = stored s.ar s
operated input Stmra s = record (popped s) { port = read_started s.a s.port }
operated input Stmwa s = record (popped s) { write_address = s.a }
operated input Stmwd s = record (popped s) { port = write_started s.write_address s.a s.port }
operated input Wait s = s
operated input Ldmrd s = pushed s.port.value s
operated input Stbc s = switched s
operated input Jbr s = if holds s.opcode s.b s.a then record (popped s) { jpc = branch_target s } else popped s
operated input Jbg s = record s { jpc = branch_target s }
operated input Ldin s = pushed (input_word input) s
operated input Stout s = popped s
operated input Hltb s = halted_at_boot Ended s
operated input Hltu s = halted_at_boot Uncaught s
