-- Rows that raise one of the objects of the raise list (JVM Specification SE 8, 2.10).
-- Of these `raised_outcome` and `makes_raise`, which build a `MakesRaise` from an outcome, are for proofs alone: no contract's meaning rests on them.
use Rattle.std.specs.Prelude.{◌≡◌, ℕ, suc, ◌+◌, ◌%◌, ◌^◌, ◌<◌, ◌≤◌, Bool, true, false, List, [], ◌∷◌, ◌++◌, length, drop, reverse, slice_index, slice_set, None}
use Rattle.std.specs.declared.option.Option.{Option}
use Rattle.std.proofs.Common.{ap, ◌∙◌}
use Rattle.microcode.specs.declared.TheConstants.{RAISE}
use Rattle.micro_flow.specs.declared.CostParams.{CostParams}
use Rattle.opcodes.specs.declared.instruction.Instr.{Instr}
use Rattle.jop_core.specs.declared.halt.Halt.TheVariants.{Running as GoingOn}
use Rattle.jop_core.specs.declared.places.TheConstants.{RAISE_LIST}
use Rattle.jop_core.specs.State as machine
use Rattle.micro_sketch.specs.Sketch.{Sketch, exec}
use Rattle.micro_sketch.specs.Stands.{Env, IsDone}
use Rattle.micro_sketch.specs.View.{env_of}
use Rattle.micro_sketch.specs.Row.{StandsAt}
use Rattle.micro_sketch.specs.Rows.{Outcome, outcome_of, Raising, Raises, RunsToRaise}
use Rattle.bytecode_model.specs.declared.Ending.TheVariants.{Running}
use Rattle.bytecode_model.specs.State.{State}
use Rattle.bytecode_model.specs.Program.{Program}
use Rattle.bytecode_model.specs.Rows.{Row}
use Rattle.bytecode_model.specs.Effects.{Fault, fault, fault_object, effect}
use Rattle.image_facts.specs.Places.{Places}
use Rattle.machine_stands.specs.StandsFor.{limits_of}
use Rattle.machine_stands.specs.Comes.{params, ComesTo}
use Rattle.machine_stands.specs.Simulates.{IsStep}
use Rattle.machine_stands.specs.Seen.{seen}
use Rattle.machine_stands.specs.Reading.{IsAtRow}

-- ---- on the sketch

-- some words from x on come to the raise routine, and leave this
pub record MakesRaise (f : Raising) (x : Sketch) : Type 0 where
  pub words : ℕ
  pub guesses : List Bool
  pub done : IsDone (exec (suc words) guesses x)
  pub raises : Raises f x (exec (suc words) guesses x)

-- its outcome, where the row was allowed or not, and has taken an operand
abbrev pub raised_outcome : (allowed : Bool) → (operand : ℕ) → Raising → Sketch → Outcome
raised_outcome allowed operand f x = record {
  words = f.words;
  deep = x.deep;
  answers = x.answers;
  output = [];
  opcode = x.opcode;
  jpc = f.jpc;
  mpc = RAISE;
  operand = operand;
  halt = GoingOn;
  vp = x.vp;
  method = x.method;
  cache = x.cache;
  memory = x.memory;
  hits = x.hits;
  misses = x.misses;
  low = slice_set (drop 24 x.low) 7 f.object;
  loads = 0;
  loaded = 0;
  fine = allowed;
  done = true;
  busy = false;
}

pub makes_raise : (k : ℕ) (guesses : List Bool) (f : Raising) (x : Sketch) (allowed : Bool) (operand : ℕ)
    → outcome_of (exec (suc k) guesses x) ≡ raised_outcome allowed operand f x → allowed ≡ true
    → MakesRaise f x
makes_raise k guesses f x allowed operand h fine = record {
  words = k;
  guesses = guesses;
  done = record { fine = ap (λ (o : Outcome). o.fine) h ∙ fine; done = ap (λ (o : Outcome). o.done) h; idle = ap (λ (o : Outcome). o.busy) h };
  raises = record {
    mpc = ap (λ (o : Outcome). o.mpc) h;
    running = ap (λ (o : Outcome). o.halt) h;
    words = ap (λ (o : Outcome). o.words) h;
    deep = ap (λ (o : Outcome). o.deep) h;
    low = ap (λ (o : Outcome). o.low) h;
    memory = ap (λ (o : Outcome). o.memory) h;
    jpc = ap (λ (o : Outcome). o.jpc) h;
    opcode = ap (λ (o : Outcome). o.opcode) h;
    answers = ap (λ (o : Outcome). o.answers) h;
    output = ap (λ (o : Outcome). o.output) h;
    kept = record {
      vp = ap (λ (o : Outcome). o.vp) h;
      method = ap (λ (o : Outcome). o.method) h;
      cache = ap (λ (o : Outcome). o.cache) h;
      hits = ap (λ (o : Outcome). o.hits) h;
      misses = ap (λ (o : Outcome). o.misses) h;
      loads = ap (λ (o : Outcome). o.loads) h;
      loaded = ap (λ (o : Outcome). o.loaded) h;
    };
  };
}

-- So the machine comes to the raise routine, in at most the opcode's cost.
abbrev pub MadeRaisesRun : Type 0
MadeRaisesRun = (n : ℕ) (p : CostParams) (op : ℕ) (f : Raising) (x : Sketch) (e : Env) (m : machine.MachineState) → StandsAt n p op x e m → MakesRaise f x
    → RunsToRaise n p op f x e

-- ---- of the raise list

-- the words of the stack and the place of the next byte, and the object that the raise list has for the fault
abbrev pub raised_by : Fault → (words : List ℕ) → (jpc : ℕ) → Sketch → Raising
raised_by f words jpc x = record { words = words; jpc = jpc; object = slice_index x.memory ((fault_object f + slice_index x.low RAISE_LIST) % 2 ^ 32) }

-- A row whose effect is to raise the fault, and which so comes to the raise routine, comes to the next state. It leaves some words above those that
-- the frame saves, and jpc is past a byte of the instruction.
abbrev pub FaultsAreRaised : Type 0
FaultsAreRaised = (P : Program) (pl : Places) (n size : ℕ) (m : machine.MachineState) (answer : Option ℕ) (s s' : State) (h : IsStep P pl n size m answer s s')
    (i : Instr) (r : Row) (f : Fault)
    (words left : List ℕ) (jpc : ℕ) → let x = seen (params m i.count 0) (None ∷ []) m h.stands.words h.stands.below in
    s.mode ≡ Running → P.linked ≡ true → IsAtRow P pl n size m answer s s' h.stands i r
    → effect P (limits_of P pl n size) s h.stands.top (h.stands.top.pc + i.length) r ≡ fault f
    → words ≡ left ++ reverse h.stands.words.saved → length left ≤ length h.stands.words.operands → h.stands.top.pc < jpc → jpc ≤ h.stands.top.pc + i.length
    → RunsToRaise n (params m i.count 0) m.opcode (raised_by f words jpc x) x (env_of m) → ComesTo P pl n size m s s'
