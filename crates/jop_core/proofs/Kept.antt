-- What no cycle changes, one microinstruction at a time.
use Rattle.std.proofs.Common.{◌≡◌, ℕ, ◌+◌, ◌-◌, Bool, true, false, ◌==◌, nat_lt, if◌then◌else◌, Some, None, refl, ◌∙◌}
use Rattle.std.specs.declared.option.Option.{Option}
use Rattle.std.proofs.lemmas.List.{length-set}
use Rattle.microcode.specs.declared.isa.Body.{Body}
use Rattle.microcode.specs.declared.isa.Body.TheVariants.{Plain, Stm, Ldm, Ldi, Bz, Bnz, Jmp}
use Rattle.microcode.specs.declared.isa.Micro.{Micro}
use Rattle.microcode.specs.declared.isa.operation.Operation.{Operation}
use Rattle.microcode.specs.declared.isa.operation.Operation.TheVariants.{Nop, Pop, Dup, Add, Sub, And, Or, Xor, Shl, Shr, Ushr, Mul, Slt, Sltu, Ldo, Ldo8, Ldo16, Ldl, Stl, Ld0, Ld1, Ld2, Ld3, St0, St1, St2, St3, Ldvp, Stvp, Ldsp, Stsp, Ldjpc, Stjpc, Star, Ldmi, Stmi, Stmra, Stmwa, Stmwd, Wait, Ldmrd, Stbc, Jbr, Jbg, Ldin, Stout, Hltb, Hltu}
use Rattle.microcode.specs.Isa.Operations.{operation_of}
use Rattle.method_cache.specs.Contents.{is_cached}
use Rattle.jop_core.specs.declared.halt.Halt.{Halt}
use Rattle.jop_core.specs.declared.halt.Halt.TheVariants.{Ended, Uncaught}
use Rattle.jop_core.specs.declared.places.TheConstants.{STACK}
use Rattle.jop_core.specs.State.{MachineState}
use Rattle.jop_core.specs.Operations.{pushed, popped, sign_extended8, sign_extended16, input_word, stored, place_of, word_at, after_binary, holds, branch_target, looked_up, can_switch, switched, halted_at_boot, operated}
use Rattle.jop_core.specs.Cycle.{branched, with_opd, with_nxt, with_flags, performed, waits, ran, micro_at, counted, cycle_of}
use Rattle.jop_core.specs.Keeps.{KeepsSizes, IsCycle, CyclesKeep}

-- the sizes and the clock stay
pub record Keeps (old new : MachineState) : Type 0 where
  pub sizes : KeepsSizes old new
  pub clock : new.clock ≡ old.clock

keeps_refl : (s : MachineState) → Keeps s s
keeps_refl s = record { sizes = record { stack = refl; memory = refl; read = refl; write = refl; blocks = refl; block_words = refl }; clock = refl }

keeps_trans : (s t u : MachineState) → Keeps s t → Keeps t u → Keeps s u
keeps_trans s t u first second = let a = first.sizes in let b = second.sizes in record {
  sizes = record {
    stack = b.stack ∙ a.stack;
    memory = b.memory ∙ a.memory;
    read = b.read ∙ a.read;
    write = b.write ∙ a.write;
    blocks = b.blocks ∙ a.blocks;
    block_words = b.block_words ∙ a.block_words;
  };
  clock = second.clock ∙ first.clock;
}

if_keeps : (b : Bool) (s t u : MachineState) → Keeps s t → Keeps s u → Keeps s (if b then t else u)
if_keeps true s t u first second = first
if_keeps false s t u first second = second

popped_keeps : (s : MachineState) → Keeps s (popped s)
popped_keeps s = record { sizes = record { stack = refl; memory = refl; read = refl; write = refl; blocks = refl; block_words = refl }; clock = refl }

pushed_keeps : (x : ℕ) (s : MachineState) → Keeps s (pushed x s)
pushed_keeps x s = record { sizes = record { stack = length-set s.stack (place_of s (s.sp + 1)) s.b; memory = refl; read = refl; write = refl; blocks = refl; block_words = refl }; clock = refl }

stored_keeps : (place : ℕ) (s : MachineState) → Keeps s (stored place s)
stored_keeps place s = record { sizes = record { stack = length-set s.stack (place_of s place) s.a; memory = refl; read = refl; write = refl; blocks = refl; block_words = refl }; clock = refl }

binary_keeps : (op : Operation) (s : MachineState) → Keeps s (after_binary op s)
binary_keeps op s = record { sizes = record { stack = refl; memory = refl; read = refl; write = refl; blocks = refl; block_words = refl }; clock = refl }

looked_up_keeps : (is_hit : Bool) (m : ℕ) (s : MachineState) → Keeps s (looked_up is_hit m s)
looked_up_keeps true m s = record { sizes = record { stack = refl; memory = refl; read = refl; write = refl; blocks = refl; block_words = refl }; clock = refl }
looked_up_keeps false m s = record { sizes = record { stack = refl; memory = refl; read = refl; write = refl; blocks = refl; block_words = refl }; clock = refl }

switched_keeps : (s : MachineState) → Keeps s (switched s)
switched_keeps s =
    if_keeps (can_switch s s.a) s (looked_up (is_cached s.a s.cache) s.a (popped s)) (popped s)
    (keeps_trans s (popped s) (looked_up (is_cached s.a s.cache) s.a (popped s)) (popped_keeps s) (looked_up_keeps (is_cached s.a s.cache) s.a (popped s)))
    (popped_keeps s)

halted_keeps : (halt : Halt) (s : MachineState) → Keeps s (halted_at_boot halt s)
halted_keeps halt s = if_keeps (s.vp == STACK) s (record s { halt = halt }) s (record { sizes = record { stack = refl; memory = refl; read = refl; write = refl; blocks = refl; block_words = refl }; clock = refl }) (keeps_refl s)

jbr_keeps : (s : MachineState) → Keeps s (operated None Jbr s)
jbr_keeps s = if_keeps (holds s.opcode s.b s.a) s (record (popped s) { jpc = branch_target s }) (popped s) (record { sizes = record { stack = refl; memory = refl; read = refl; write = refl; blocks = refl; block_words = refl }; clock = refl }) (popped_keeps s)

operated_keeps : (input : Option ℕ) (op : Operation) (s : MachineState) → Keeps s (operated input op s)
operated_keeps input Nop s = keeps_refl s
operated_keeps input Pop s = popped_keeps s
operated_keeps input Dup s = pushed_keeps s.a s
operated_keeps input Add s = binary_keeps Add s
operated_keeps input Sub s = binary_keeps Sub s
operated_keeps input And s = binary_keeps And s
operated_keeps input Or s = binary_keeps Or s
operated_keeps input Xor s = binary_keeps Xor s
operated_keeps input Shl s = binary_keeps Shl s
operated_keeps input Shr s = binary_keeps Shr s
operated_keeps input Ushr s = binary_keeps Ushr s
operated_keeps input Mul s = binary_keeps Mul s
operated_keeps input Slt s = binary_keeps Slt s
operated_keeps input Sltu s = binary_keeps Sltu s
operated_keeps input Ldo s = pushed_keeps s.operand s
operated_keeps input Ldo8 s = pushed_keeps (sign_extended8 s.operand) s
operated_keeps input Ldo16 s = pushed_keeps (sign_extended16 s.operand) s
operated_keeps input Ldl s = pushed_keeps (word_at s (s.vp + s.operand)) s
operated_keeps input Stl s = stored_keeps (s.vp + s.operand) s
operated_keeps input Ld0 s = pushed_keeps (word_at s s.vp) s
operated_keeps input Ld1 s = pushed_keeps (word_at s (s.vp + 1)) s
operated_keeps input Ld2 s = pushed_keeps (word_at s (s.vp + 2)) s
operated_keeps input Ld3 s = pushed_keeps (word_at s (s.vp + 3)) s
operated_keeps input St0 s = stored_keeps s.vp s
operated_keeps input St1 s = stored_keeps (s.vp + 1) s
operated_keeps input St2 s = stored_keeps (s.vp + 2) s
operated_keeps input St3 s = stored_keeps (s.vp + 3) s
operated_keeps input Ldvp s = pushed_keeps s.vp s
operated_keeps input Stvp s = record { sizes = record { stack = refl; memory = refl; read = refl; write = refl; blocks = refl; block_words = refl }; clock = refl }
operated_keeps input Ldsp s = pushed_keeps s.sp s
operated_keeps input Stsp s = record { sizes = record { stack = refl; memory = refl; read = refl; write = refl; blocks = refl; block_words = refl }; clock = refl }
operated_keeps input Ldjpc s = pushed_keeps s.jpc s
operated_keeps input Stjpc s = record { sizes = record { stack = refl; memory = refl; read = refl; write = refl; blocks = refl; block_words = refl }; clock = refl }
operated_keeps input Star s = record { sizes = record { stack = refl; memory = refl; read = refl; write = refl; blocks = refl; block_words = refl }; clock = refl }
operated_keeps input Ldmi s = pushed_keeps (word_at s s.ar) s
operated_keeps input Stmi s = stored_keeps s.ar s
operated_keeps input Stmra s = record { sizes = record { stack = refl; memory = refl; read = refl; write = refl; blocks = refl; block_words = refl }; clock = refl }
operated_keeps input Stmwa s = record { sizes = record { stack = refl; memory = refl; read = refl; write = refl; blocks = refl; block_words = refl }; clock = refl }
operated_keeps input Stmwd s = record { sizes = record { stack = refl; memory = length-set s.port.words s.write_address s.a; read = refl; write = refl; blocks = refl; block_words = refl }; clock = refl }
operated_keeps input Wait s = keeps_refl s
operated_keeps input Ldmrd s = pushed_keeps s.port.value s
operated_keeps input Stbc s = switched_keeps s
operated_keeps input Jbr s = jbr_keeps s
operated_keeps input Jbg s = record { sizes = record { stack = refl; memory = refl; read = refl; write = refl; blocks = refl; block_words = refl }; clock = refl }
operated_keeps input Ldin s = pushed_keeps (input_word input) s
operated_keeps input Stout s = popped_keeps s
operated_keeps input Hltb s = halted_keeps Ended s
operated_keeps input Hltu s = halted_keeps Uncaught s

opd_keeps : (opd : Bool) (s : MachineState) → Keeps s (with_opd opd s)
opd_keeps true s = record { sizes = record { stack = refl; memory = refl; read = refl; write = refl; blocks = refl; block_words = refl }; clock = refl }
opd_keeps false s = keeps_refl s

nxt_keeps : (nxt : Bool) (s : MachineState) → Keeps s (with_nxt nxt s)
nxt_keeps true s = record { sizes = record { stack = refl; memory = refl; read = refl; write = refl; blocks = refl; block_words = refl }; clock = refl }
nxt_keeps false s = record { sizes = record { stack = refl; memory = refl; read = refl; write = refl; blocks = refl; block_words = refl }; clock = refl }

-- what came first, and then the flags
flags_keep : (m : Micro) (s t : MachineState) → Keeps s t → Keeps s (with_flags m t)
flags_keep m s t first = keeps_trans s t (with_flags m t) first (keeps_trans t (with_opd m.opd t) (with_flags m t) (opd_keeps m.opd t) (nxt_keeps m.nxt (with_opd m.opd t)))

branched_keeps : (taken : Bool) (to : ℕ) (s t : MachineState) → Keeps s t → Keeps s (branched taken to t)
branched_keeps true to s t first = keeps_trans s t (branched true to t) first (record { sizes = record { stack = refl; memory = refl; read = refl; write = refl; blocks = refl; block_words = refl }; clock = refl })
branched_keeps false to s t first = keeps_trans s t (branched false to t) first (record { sizes = record { stack = refl; memory = refl; read = refl; write = refl; blocks = refl; block_words = refl }; clock = refl })

body_keeps : (input : Option ℕ) (body : Body) (opd nxt : Bool) (s : MachineState) → Keeps s (performed input (record { body = body; opd = opd; nxt = nxt }) s)
body_keeps input (Plain code) opd nxt s = flags_keep (record { body = Plain code; opd = opd; nxt = nxt }) s (operated input (operation_of code) s) (operated_keeps input (operation_of code) s)
body_keeps input (Stm place) opd nxt s = flags_keep (record { body = Stm place; opd = opd; nxt = nxt }) s (stored place s) (stored_keeps place s)
body_keeps input (Ldm place) opd nxt s = flags_keep (record { body = Ldm place; opd = opd; nxt = nxt }) s (pushed (word_at s place) s) (pushed_keeps (word_at s place) s)
body_keeps input (Ldi number) opd nxt s = flags_keep (record { body = Ldi number; opd = opd; nxt = nxt }) s (pushed (word_at s (32 + number)) s) (pushed_keeps (word_at s (32 + number)) s)
body_keeps input (Bz to) opd nxt s = branched_keeps (s.a == 0) to s (popped s) (popped_keeps s)
body_keeps input (Bnz to) opd nxt s = branched_keeps (nat_lt 0 s.a) to s (popped s) (popped_keeps s)
body_keeps input (Jmp to) opd nxt s = branched_keeps true to s s (keeps_refl s)

pub ran_keeps : (input : Option ℕ) (m : Option Micro) (s : MachineState) → Keeps s (ran input m s)
ran_keeps input None s = keeps_refl s
ran_keeps input (Some m) s = if_keeps (waits m s) s s (performed input m s) (keeps_refl s) (body_keeps input m.body m.opd m.nxt s)

-- a cycle first counts
counts : (s t : MachineState) → Keeps (counted s) t → IsCycle s t
counts s t keeps = let k = keeps.sizes in record { sizes = record { stack = k.stack; memory = k.memory; read = k.read; write = k.write; blocks = k.blocks; block_words = k.block_words }; clock = keeps.clock }

either : (stalled : Bool) (s t u : MachineState) → Keeps (counted s) t → Keeps (counted s) u → IsCycle s (if stalled then t else u)
either true s t u first second = counts s t first
either false s t u first second = counts s u second

pub cycles_keep : CyclesKeep
unfolding cycle_of
cycles_keep input s =
    either (nat_lt 0 s.stall) s (record (counted s) { stall = s.stall - 1 }) (ran input (micro_at s) (counted s))
    (record { sizes = record { stack = refl; memory = refl; read = refl; write = refl; blocks = refl; block_words = refl }; clock = refl })
    (ran_keeps input (micro_at s) (counted s))
