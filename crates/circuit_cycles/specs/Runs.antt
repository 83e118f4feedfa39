-- Runs of the circuit, clock by clock, beside runs of the machine.
use Rattle.std.specs.Prelude.{ℕ, ◌≡◌, ◌≢◌, Bool, true, false, nat_lt, if◌then◌else◌, List, [], ◌∷◌, ◌++◌, Option, Some, None}
use Rattle.microcode.specs.declared.isa.operation.Operation.{Operation}
use Rattle.microcode.specs.declared.isa.operation.Operation.TheVariants.{Stbc}
use Rattle.microcode.specs.declared.isa.Body.{Body}
use Rattle.microcode.specs.declared.isa.Body.TheVariants.{Plain}
use Rattle.microcode.specs.declared.isa.Micro.{Micro}
use Rattle.microcode.specs.Isa.Operations.{operation_of}
use Rattle.jop_core.specs.declared.halt.Halt.TheVariants.{Running}
use Rattle.jop_core.specs.State.{MachineState}
use Rattle.jop_core.specs.Operations.{can_switch}
use Rattle.jop_core.specs.Cycle.{cycle_of, micro_at, asks_input, output_of}
use Rattle.image_file.specs.Bare.{BareContent}
use Rattle.machine_memory.specs.declared.timing.Config.{Config}
use Rattle.jop_core.specs.Reset.{linked_start, linked_reset, CanStart, bare_start, bare_reset, CanStartBare}
use Rattle.circuit_cycles.specs.Shape.{Shape}
use Rattle.circuit_cycles.specs.Core.{Core, Given, next, switches, put, takes_input}
use Rattle.circuit_cycles.specs.Stands.{Stands}
use Rattle.circuit_cycles.specs.Starting.{IsShapeOf, first_core, boot_entry}

-- ---- a cycle that looks a method up

abbrev pub is_stbc : Operation → Bool
is_stbc Stbc = true
is_stbc _ = false

abbrev pub body_switches : Body → Bool
body_switches (Plain code) = is_stbc (operation_of code)
body_switches _ = false

abbrev pub looks_up : Option Micro → Bool
looks_up None = false
looks_up (Some m) = body_switches m.body

-- whether the cycle looks a method up
abbrev pub switches_at : MachineState → Bool
switches_at s = if nat_lt 0 s.stall then false else looks_up (micro_at s)

-- ---- what comes and goes at a clock

-- A clock puts out what the cycle puts out, asks for a byte of the input where the cycle does, and looks a method up where the cycle does.
pub record SeesTheSame (c : Core) (s : MachineState) : Type 0 where
  pub output : put c ≡ output_of s
  pub input : takes_input c ≡ asks_input s
  pub method : switches c ≡ switches_at s

abbrev pub ClocksSeeTheSame : Type 0
ClocksSeeTheSame = (shape : Shape) (c : Core) (s : MachineState) → s.halt ≡ Running → Stands shape c s → SeesTheSame c s

-- ---- a clock

-- A clock of a circuit that stands for a machine gives one that stands for the machine behind a cycle, where what the cycle looks up is a method.
abbrev pub ClocksAreCycles : Type 0
ClocksAreCycles =
    (shape : Shape) (given : Given) (c : Core) (s : MachineState) → s.halt ≡ Running → Stands shape c s → (switches_at s ≡ true → can_switch s s.a ≡ true)
    → Stands shape (next shape given c) (cycle_of given.input s)

-- ---- runs

-- the circuit behind these clocks, and the bytes that they put out
abbrev pub clocked : Shape → List Given → Core → Core
clocked shape [] c = c
clocked shape (given ∷ later) c = clocked shape later (next shape given c)

abbrev pub clocked_out : Shape → List Given → Core → List ℕ
clocked_out shape [] c = []
clocked_out shape (given ∷ later) c = put c ++ clocked_out shape later (next shape given c)

-- the machine behind a cycle for each of these clocks, with its input, and the bytes that they put out
abbrev pub cycled : List Given → MachineState → MachineState
cycled [] s = s
cycled (given ∷ later) s = cycled later (cycle_of given.input s)

abbrev pub cycled_out : List Given → MachineState → List ℕ
cycled_out [] s = []
cycled_out (given ∷ later) s = output_of s ++ cycled_out later (cycle_of given.input s)

-- The machine hasn't halted before any of these cycles, and each place that it looks up is a method's.
abbrev pub RunsOn : List Given → MachineState → Type 0
RunsOn [] s = Unit {0}
RunsOn (given ∷ later) s = (s.halt ≡ Running) × (switches_at s ≡ true → can_switch s s.a ≡ true) × RunsOn later (cycle_of given.input s)

-- So many clocks of a circuit are as many cycles of the machine: it stands for the machine behind them, and has put out the same bytes.
pub record RunsAlong (shape : Shape) (run : List Given) (c : Core) (s : MachineState) : Type 0 where
  pub stands : Stands shape (clocked shape run c) (cycled run s)
  pub output : clocked_out shape run c ≡ cycled_out run s

abbrev pub RunsAreRuns : Type 0
RunsAreRuns = (shape : Shape) (run : List Given) (c : Core) (s : MachineState) → Stands shape c s → RunsOn run s → RunsAlong shape run c s

-- ---- from a reset on

-- The start-up clock of a circuit with these first contents puts out nothing, and behind it the circuit runs as this machine does.
pub record RunsFrom (shape : Shape) (first : Core) (given : Given) (run : List Given) (s : MachineState) : Type 0 where
  pub silent : put first ≡ []
  pub runs : RunsAlong shape run (next shape given first) s

-- A circuit whose memory begins with a linked image runs as the machine that begins with it.
abbrev pub LinkedRunsAreRuns : Type 0
LinkedRunsAreRuns =
    (shape : Shape) (n : ℕ) (image : List ℕ) (config : Config) (given : Given) (run : List Given) → IsShapeOf shape n config → CanStart image config
    → RunsOn run (linked_reset n image config)
    → RunsFrom shape (first_core shape (boot_entry (linked_start image)) (linked_reset n image config)) given run (linked_reset n image config)

-- and so does one with a bare image
abbrev pub BareRunsAreRuns : Type 0
BareRunsAreRuns =
    (shape : Shape) (n : ℕ) (image : BareContent) (config : Config) (given : Given) (run : List Given) → IsShapeOf shape n config
    → CanStartBare image config → RunsOn run (bare_reset n image config)
    → RunsFrom shape (first_core shape (boot_entry (bare_start image)) (bare_reset n image config)) given run (bare_reset n image config)

-- ---- the end

-- what a clock leaves of a circuit that has halted
pub record StaysHalted (c d : Core) : Type 0 where
  pub halt : d.halt ≡ c.halt
  pub begun : d.starting ≡ 0
  pub on_chip : d.on_chip ≡ c.on_chip
  pub main : d.main ≡ c.main
  pub silent : put c ≡ []
  pub deaf : takes_input c ≡ false

-- A circuit that has halted stays so, with its memories, and neither puts out nor takes a byte.
abbrev pub HaltsStay : Type 0
HaltsStay = (shape : Shape) (given : Given) (c : Core) → c.starting ≡ 0 → c.halt ≢ 0 → StaysHalted c (next shape given c)
