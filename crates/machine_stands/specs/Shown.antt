-- What the sketch of a machine shows of the top frame of a state for which the machine stands.
use Rattle.std.specs.Prelude.{◌≡◌, ℕ, zero, suc, ◌+◌, ◌%◌, ◌^◌, ◌<◌, ◌≤◌, List, ◌++◌, length, drop, reverse}
use Rattle.std.specs.declared.option.Option.{Option}
use Rattle.micro_flow.specs.declared.CostParams.{CostParams}
use Rattle.opcodes.specs.Bytes.{u1}
use Rattle.jop_core.specs.State as machine
use Rattle.micro_sketch.specs.Sketch.{Sketch, abyte}
use Rattle.micro_sketch.specs.View.{env_of}
use Rattle.micro_sketch.specs.Row.{StandsAt, words_of}
use Rattle.bytecode_model.specs.declared.Ending.TheVariants.{Running}
use Rattle.bytecode_model.specs.State.{State}
use Rattle.bytecode_model.specs.Program.{Program}
use Rattle.image_facts.specs.Places.{Places}
use Rattle.machine_stands.specs.Frames.{stacked, vp_over}
use Rattle.machine_stands.specs.StandsFor.{StandsFor}
use Rattle.machine_stands.specs.Simulates.{IsStep}
use Rattle.machine_stands.specs.Seen.{seen}
use Rattle.machine_stands.specs.Again.{registers_of}

-- x past so many bytes more
abbrev pub advanced : ℕ → Sketch → Sketch
advanced zero x = x
advanced (suc k) x = advanced k (record x { jpc = (x.jpc + 1) % 2 ^ 16 })

pub record Shows (P : Program) (pl : Places) (n size : ℕ) (m : machine.MachineState) (s : State) (st : StandsFor P pl n size m s) (p : CostParams)
    (x : Sketch) : Type 0 where
  pub stands : StandsAt n p m.opcode x (env_of m) m
  -- the operands and the saved words
  pub words : words_of x ≡ st.words.operands ++ reverse st.words.saved
  pub saved : length st.words.saved ≡ 5
  pub depth : length st.words.operands ≤ st.body.max_stack
  -- the local variables, which begin at VP, among the words below
  pub deep : x.deep ≡ stacked st.below ++ st.words.locals
  pub vp : x.vp ≡ vp_over st.below
  pub locals : length st.words.locals ≡ length st.top.locals
  pub small : x.vp + length st.words.locals < 2 ^ 32
  -- the bytes behind the opcode
  pub code : length st.body.code < 2 ^ 16
  pub jpc : (k : ℕ) → st.top.pc + (1 + k) ≤ length st.body.code → (advanced k x).jpc ≡ st.top.pc + (1 + k)
  pub bytes : (k : ℕ) → st.top.pc + (1 + k) < length st.body.code → abyte (advanced k x) ≡ u1 st.body.code (st.top.pc + (1 + k))
  pub byte_at : (place : ℕ) → place < length st.body.code → abyte (record x { jpc = place }) ≡ u1 st.body.code place
  -- the places from 24 to 31
  pub raised : ℕ
  pub low : drop 24 x.low ≡ registers_of P pl n size s st.top raised

abbrev pub SketchesShow : Type 0
SketchesShow = (P : Program) (pl : Places) (n size : ℕ) (m : machine.MachineState) (answer : Option ℕ) (s s' : State) (h : IsStep P pl n size m answer s s')
    (p : CostParams) (answers : List (Option ℕ)) → s.mode ≡ Running
    → p.r ≡ m.port.read → p.w ≡ m.port.write → Shows P pl n size m s h.stands p (seen p answers m h.stands.words h.stands.below)
