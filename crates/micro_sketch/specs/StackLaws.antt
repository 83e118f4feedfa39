-- The load of a word of the stack by its place, also of one past SP.
use Rattle.std.specs.Prelude.{ℕ, ◌≡◌, ◌-◌, ◌<◌, ◌≤◌, Bool, true, slice_index}
use Rattle.microcode.specs.declared.isa.operation.Operation.TheVariants.{Ldmi}
use Rattle.micro_sketch.specs.Sketch.{Sketch, apush, lead, opd_byte}
use Rattle.micro_sketch.specs.Stands.{Env, Shaped, PortFits, Goes, Reaches}
use Rattle.micro_sketch.specs.Frames.{whole, RunsNext}

-- x with the word of an on-chip place from 64 on its stack
abbrev pub with_stack_word : ℕ → Sketch → Sketch
with_stack_word place x = apush (slice_index (whole x) (place - 64)) x

-- A word ldmi whose AR is from 64 on puts the word of that place on the stack.
abbrev pub StackWordIsLoaded : Type 0
StackWordIsLoaded = (n : ℕ) (x : Sketch) (e : Env) (opd nxt : Bool) → Goes x → Shaped n x → PortFits x.busy e → RunsNext Ldmi opd nxt x → 64 ≤ x.ar → x.ar < n →
    (lead nxt (opd_byte opd (with_stack_word x.ar x))).fine ≡ true → Reaches n x (lead nxt (opd_byte opd (with_stack_word x.ar x))) e
