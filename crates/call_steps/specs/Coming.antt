-- A call, from the step to where the machine stands for the next state.
use Rattle.std.specs.Prelude.{ℕ, ◌≡◌, ◌+◌, ◌^◌, ◌<◌, true, List, [], ◌∷◌, ◌++◌, length, reverse, Some, None, IsSome, slice_get}
use Rattle.std.specs.List.{sum_by}
use Rattle.std.specs.declared.option.Option.{Option}
use Rattle.opcodes.specs.declared.instruction.Instr.{Instr}
use Rattle.jop_core.specs.State as machine
use Rattle.micro_sketch.specs.Sketch.{Sketch, found_words}
use Rattle.micro_sketch.specs.View.{env_of}
use Rattle.bytecode_model.specs.declared.Value.{Value}
use Rattle.bytecode_model.specs.declared.Ending.TheVariants.{Running}
use Rattle.bytecode_model.specs.State.{State}
use Rattle.bytecode_model.specs.Program.{Program, Method, Body, body_of}
use Rattle.bytecode_model.specs.Rows.{Row}
use Rattle.bytecode_model.specs.Sizes.{value_words}
use Rattle.bytecode_model.specs.Effects.{Call}
use Rattle.bytecode_model.specs.Steps.{applied}
use Rattle.bytecode_model.specs.WellFormed.{IsWellFormed}
use Rattle.base.specs.Packed.{words_of_bytes}
use Rattle.jop_core.specs.Operations.{code_words}
use Rattle.image_facts.specs.Places.{Places}
use Rattle.image_facts.specs.Says as says
use Rattle.image_facts.specs.Says.{Says}
use Rattle.machine_stands.specs.StandsFor.{StandsFor, limits_of}
use Rattle.machine_stands.specs.Comes.{params, ComesTo}
use Rattle.machine_stands.specs.Simulates.{IsStep}
use Rattle.machine_stands.specs.Seen.{seen}
use Rattle.machine_stands.specs.Reading.{IsAtRow}
use Rattle.call_steps.specs.Method.{max_locals, max_stack, argument_words, pool, IsMethod}
use Rattle.call_steps.specs.Entry.{CanEnter, Enters}

-- ---- the record of a method

-- what the microcode reads of a method at a place
pub record IsRead (P : Program) (pl : Places) (x : Sketch) (k : Method) (b : Body) (m : ℕ) : Type 0 where
  pub locals : max_locals x.memory m ≡ b.max_locals
  pub stack : max_stack x.memory m ≡ b.max_stack
  pub few_locals : b.max_locals < 2 ^ 16
  pub few_operands : b.max_stack < 2 ^ 16
  pub arguments : argument_words x.memory m ≡ says.argument_words_of k
  pub pool_is : pool x.memory m ≡ pl.pool k.owner
  pub is_method : IsMethod x m
  pub code : found_words x m ≡ words_of_bytes b.code
  pub code_count : code_words x.memory m ≡ length (words_of_bytes b.code)

-- so it is read on each sketch of the memory and the cache of a machine that stands for a state
abbrev pub MethodsAreRead : Type 0
MethodsAreRead = (P : Program) (pl : Places) (n size : ℕ) (m : machine.MachineState) (s : State) (st : StandsFor P pl n size m s) (x : Sketch) (j : ℕ)
    (k : Method)
    (b : Body)
    → IsWellFormed P (limits_of P pl n size) s → Says P pl → P.linked ≡ true → slice_get P.methods j ≡ Some k → k.body ≡ Some b → x.memory ≡ m.port.words
    → x.cache ≡ m.cache
    → IsRead P pl x k b (pl.method j)

-- ---- the call

-- How the row of the call goes on, where these are the words of its arguments and of the operands below: as many words as the values that are taken
-- and the method's record say, of a method with a body.
abbrev pub RowEnters : (P : Program) (pl : Places) (n size : ℕ) (m : machine.MachineState) (s : State) (st : StandsFor P pl n size m s) (i : Instr)
    (taken : List Value) (t : ℕ) → Type 0
RowEnters P pl n size m s st i taken t =
    let x = seen (params m i.count 0) (None ∷ []) m st.words st.below in
    (arguments others : List ℕ) → st.words.operands ≡ arguments ++ others → length arguments ≡ sum_by value_words taken
    → length arguments ≡ argument_words x.memory (pl.method t) → IsSome (body_of P t)
    → CanEnter n x (pl.method t) arguments (others ++ reverse st.words.saved)
    → Enters n (params m i.count 0) m.opcode x (env_of m) (pl.method t) (st.top.pc + i.length) arguments (others ++ reverse st.words.saved)

-- So the machine comes to where it stands for the state of the called method, or for a StackOverflowError.
abbrev pub CallsCome : Type 0
CallsCome = (P : Program) (pl : Places) (n size : ℕ) (m : machine.MachineState) (answer : Option ℕ) (s s' : State) (h : IsStep P pl n size m answer s s')
    (i : Instr)
    (r : Row) (t : ℕ) (taken rest : List Value)
    → s.mode ≡ Running → P.linked ≡ true → IsAtRow P pl n size m answer s s' h.stands i r → 0 < i.length → h.stands.top.operands ≡ taken ++ rest
    → applied P (limits_of P pl n size) answer s h.stands.top h.stands.callers (Call t (reverse taken) rest) ≡ Some s'
    → RowEnters P pl n size m s h.stands i taken t → ComesTo P pl n size m s s'
