-- Rows that go on in another frame: a new VP, and where they end.
use Rattle.std.specs.Prelude.{ℕ, ◌≡◌, ◌≢◌, ◌<◌, Bool, true}
use Rattle.microcode.specs.declared.TheConstants.{RAISE}
use Rattle.microcode.specs.declared.isa.operation.Operation.TheVariants.{Stvp}
use Rattle.micro_flow.specs.declared.CostParams.{CostParams}
use Rattle.jop_core.specs.declared.halt.Halt.TheVariants.{Running}
use Rattle.jop_core.specs.State.{MachineState}
use Rattle.micro_sketch.specs.Sketch.{Sketch, apop, lead, opd_byte}
use Rattle.micro_sketch.specs.Stands.{Env, Shaped, PortFits, Goes, Reaches}
use Rattle.micro_sketch.specs.Frames.{RunsNext}
use Rattle.micro_sketch.specs.Rows.{Switch, DidSwitch}

-- x with its frame at the place on top
abbrev pub framed : Sketch → Sketch
framed x = record (apop x) { vp = x.top }

-- A word stvp moves VP to any place on the chip, also past the words below the stack.
abbrev pub FramePlaceMoves : Type 0
FramePlaceMoves = (n : ℕ) (x : Sketch) (e : Env) (opd nxt : Bool) → Goes x → Shaped n x → PortFits x.busy e → RunsNext Stvp opd nxt x → x.top < n
    → (lead nxt (opd_byte opd (framed x))).fine ≡ true
    → Reaches n x (lead nxt (opd_byte opd (framed x))) e

-- After a row that goes on in another frame the machine stands at an opcode's entry, which is never that of the raise routine.
abbrev pub SwitchRunsOn : Type 0
SwitchRunsOn = (n : ℕ) (p : CostParams) (op cycles : ℕ) (f : Switch) (x : Sketch) (e : Env) (new : MachineState) → DidSwitch n p op f x e cycles new
    → (new.halt ≡ Running) × (new.mpc ≢ RAISE)
