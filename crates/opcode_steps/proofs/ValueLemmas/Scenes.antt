-- A plain opcode from its entry to where the machine stands for the next state.
use Rattle.std.proofs.Common.{◌≡◌, ℕ, ◌+◌, ◌^◌, ◌<◌, false, List, [], ◌∷◌, ◌++◌, Option, Some, None, reverse, refl, sym, ◌∙◌, ap, subst, arith}
use Rattle.std.specs.Prelude.{IfSome}
use Rattle.lists.proofs.Lemmas.{some_same}
use Rattle.opcodes.specs.declared.instruction.Instr.{Instr}
use Rattle.opcodes.specs.Bytes.{u1}
use Rattle.jop_core.specs.State as machine
use Rattle.micro_sketch.specs.Sketch.{Sketch, abyte}
use Rattle.micro_sketch.specs.View.{env_of}
use Rattle.micro_sketch.specs.Row as row
use Rattle.micro_sketch.specs.Row.{StandsAt, unchanged}
use Rattle.micro_sketch.specs.Rows.{RunsRow}
use Rattle.micro_sketch.specs.Opcodes as plain
use Rattle.micro_sketch.specs.Opcodes.{PlainOp, code_of, IsReady, raises}
use Rattle.micro_sketch.specs.PlainLaws.{PlainRowsRun}
use Rattle.bytecode_model.specs.declared.Value.{Value}
use Rattle.bytecode_model.specs.declared.Ending.TheVariants.{Running}
use Rattle.bytecode_model.specs.State.{State}
use Rattle.bytecode_model.specs.Program.{Program, Body, Operand}
use Rattle.bytecode_model.specs.Rows.{Row}
use Rattle.bytecode_model.specs.Table.{row_of}
use Rattle.bytecode_model.specs.Effects.{Go, effect}
use Rattle.bytecode_model.specs.WellFormed.{IsWellFormed}
use Rattle.image_facts.specs.Places.{Places, object_place}
use Rattle.image_facts.specs.Says.{IsCode}
use Rattle.image_facts.specs.Laws.{FirstObjectsStay}
use Rattle.machine_stands.specs.Frames.{AreLocals, AreOperands, stacked}
use Rattle.machine_stands.specs.StandsFor.{StandsFor, limits_of}
use Rattle.machine_stands.specs.Comes.{params, ComesTo}
use Rattle.machine_stands.specs.Simulates.{IsStep}
use Rattle.machine_stands.specs.Seen.{seen}
use Rattle.machine_stands.specs.Reading.{IsAtRow, Reads, PlainOnesAreRead, WideOnesHaveOpcodes, WideOnesAreRead}
use Rattle.machine_stands.specs.Shown.{Shows, SketchesShow, advanced}
use Rattle.machine_stands.specs.Going.{MakesFrame, FramesGoOn}
use Rattle.machine_stands.specs.Operands.{OneWordIsOnTop, TwoWordsAreOnTop, OneWordIsPushed, OperandsArePartedAnywhere, OperandsAreJoined, OperandsHaveWords}
use Rattle.machine_stands.specs.Fixed.{PoolsAreRead}

pub record Laws : Type 0 where
  pub plain : PlainOnesAreRead
  pub wide_opcodes : WideOnesHaveOpcodes
  pub wide : WideOnesAreRead
  pub shows : SketchesShow
  pub goes : FramesGoOn
  pub one : OneWordIsOnTop
  pub two : TwoWordsAreOnTop
  pub pushed : OneWordIsPushed
  pub parts : OperandsArePartedAnywhere
  pub joined : OperandsAreJoined
  pub count : OperandsHaveWords
  pub pools : PoolsAreRead
  pub runs : PlainRowsRun
  pub stay : FirstObjectsStay

-- What is to be shown of an opcode, where the bytes at the instruction's place are such.
abbrev pub LineWhere : ℕ → (List ℕ → ℕ → Type 0) → Type 0
LineWhere op Where = (P : Program) (pl : Places) (n size : ℕ) (m : machine.MachineState) (answer : Option ℕ) (s s' : State) (h : IsStep P pl n size m answer s s') → s.mode ≡ Running → m.opcode ≡ op
    → Where h.stands.body.code h.stands.top.pc → ComesTo P pl n size m s s'

abbrev pub anywhere : List ℕ → ℕ → Type 0
anywhere code pc = Unit {0}

abbrev pub Line : ℕ → Type 0
Line op = LineWhere op anywhere

-- the instruction of the opcode is such
abbrev pub ReadsAs : ℕ → (List ℕ → ℕ → Type 0) → (List ℕ → ℕ → Instr) → Type 0
ReadsAs op Where instr = (P : Program) (pl : Places) (n size : ℕ) (m : machine.MachineState) (answer : Option ℕ) (s s' : State) (h : IsStep P pl n size m answer s s') → s.mode ≡ Running → m.opcode ≡ op
    → Where h.stands.body.code h.stands.top.pc → Reads P pl n size m answer s s' h.stands (instr h.stands.body.code h.stands.top.pc)

-- how the instruction of an opcode with j bytes behind it is read
pub record Spelled (k : ℕ) (Where : List ℕ → ℕ → Type 0) (j : ℕ) (instr : List ℕ → ℕ → Instr) : Type 0 where
  pub reads : ReadsAs k Where instr
  pub long : (code : List ℕ) (pc : ℕ) → (instr code pc).length ≡ 1 + j

-- the bytes behind an opcode, as the sketch has them
pub record HasBytes (code : List ℕ) (pc j : ℕ) (x : Sketch) : Type 0 where
  pub byte : (k : ℕ) → k < j → abyte (advanced k x) ≡ u1 code (pc + (1 + k))
  pub small : (k : ℕ) → u1 code k < 2 ^ 8

-- The machine as a sketch, at an instruction with a row and j bytes behind its opcode, and how the row ends on the sketch.
pub record Scene (P : Program) (pl : Places) (n size : ℕ) (m : machine.MachineState) (answer : Option ℕ) (s s' : State) (st : StandsFor P pl n size m s) (i : Instr) (r : Row) (op : PlainOp) (j : ℕ) (x : Sketch) : Type 0 where
  pub instruction : IsAtRow P pl n size m answer s s' st i r
  pub well : IsWellFormed P (limits_of P pl n size) s
  pub shows : Shows P pl n size m s st (params m i.count 0) x
  pub memory : x.memory ≡ m.port.words
  pub opcode : m.opcode ≡ code_of op
  pub long : i.length ≡ 1 + j
  pub calm : raises op x ≡ false
  pub bytes : HasBytes st.body.code st.top.pc j x
  pub ends : (pc : ℕ) (ls ops : List Value) (f : row.Effect) → effect P (limits_of P pl n size) s st.top (st.top.pc + i.length) r ≡ Go pc ls ops → MakesFrame P pl n size m s st pc ls ops x f
      → RunsRow n (params m i.count 0) m.opcode f x (env_of m) → ComesTo P pl n size m s s'

abbrev pub FromScene : (i : List ℕ → ℕ → Instr) (r : List ℕ → ℕ → Row) (op : PlainOp) (j : ℕ) (Where : List ℕ → ℕ → Type 0) → Type 0
FromScene i r op j Where = (P : Program) (pl : Places) (n size : ℕ) (m : machine.MachineState) (answer : Option ℕ) (s s' : State) (st : StandsFor P pl n size m s) (x : Sketch) → Where st.body.code st.top.pc
    → Scene P pl n size m answer s s' st (i st.body.code st.top.pc) (r st.body.code st.top.pc) op j x → ComesTo P pl n size m s s'

-- the scene of a step
pub scene : Laws → (P : Program) (pl : Places) (n size : ℕ) (m : machine.MachineState) (answer : Option ℕ) (s s' : State) (h : IsStep P pl n size m answer s s') (i : Instr) (r : Row) (op : PlainOp) (j : ℕ) → s.mode ≡ Running
    → m.opcode ≡ code_of op → i.length ≡ 1 + j → ((x : Sketch) → raises op x ≡ false) → IsAtRow P pl n size m answer s s' h.stands i r
    → Scene P pl n size m answer s s' h.stands i r op j (seen (params m i.count 0) (None ∷ []) m h.stands.words h.stands.below)
scene laws P pl n size m answer s s' h i r op j mode opcode long calm at =
    let x = seen (params m i.count 0) (None ∷ []) m h.stands.words h.stands.below in
    let shows = laws.shows P pl n size m answer s s' h (params m i.count 0) (None ∷ []) mode refl refl in
    let code = subst (λ o. IfSome o (λ (u : Body). IsCode u.code)) h.stands.is_body (h.says.codes h.stands.top.method) in
    record {
      instruction = at;
      well = h.well_formed;
      shows = shows;
      memory = refl;
      opcode = opcode;
      long = long;
      calm = calm x;
      bytes = record { byte = λ k less. shows.bytes k (omega (arith, less, at.within, long)); small = code.bytes };
      ends = λ pc ls ops f. laws.goes P pl n size m answer s s' h i r pc ls ops f mode at;
    }

-- a row that is known
pub line_of : Laws → (k : ℕ) (Where : List ℕ → ℕ → Type 0) (i : List ℕ → ℕ → Instr) (r : List ℕ → ℕ → Row) (op : PlainOp) (j : ℕ) → Spelled k Where j i → code_of op ≡ k
    → ((code : List ℕ) (pc : ℕ) (operand : Operand) → row_of code (i code pc) operand ≡ Some (r code pc)) → ((x : Sketch) → raises op x ≡ false)
    → FromScene i r op j Where → LineWhere k Where
line_of laws k Where i r op j spelled code is calm goes P pl n size m answer s s' h mode opcode there =
    let st = h.stands in
    let at = i st.body.code st.top.pc in
    let read = spelled.reads P pl n size m answer s s' h mode opcode there in
    let row = some_same read.0 (r st.body.code st.top.pc) (sym read.1.is_row ∙ is st.body.code st.top.pc (P.operand st.top.method st.top.pc)) in
    goes P pl n size m answer s s' st (seen (params m at.count 0) (None ∷ []) m st.words st.below) there
    (scene laws P pl n size m answer s s' h at (r st.body.code st.top.pc) op j mode (opcode ∙ sym code) (spelled.long st.body.code st.top.pc) calm
    (subst (λ (q : Row). IsAtRow P pl n size m answer s s' st at q) row read.1))

-- x with other words, past so many bytes
abbrev pub moved : List ℕ → List ℕ → ℕ → Sketch → row.Effect
moved words deep j x = record (unchanged x) { words = words; deep = deep; jpc = (advanced j x).jpc }

-- from the effect, as words and as values, to the next state
pub comes : Laws → (P : Program) (pl : Places) (n size : ℕ) (m : machine.MachineState) (answer : Option ℕ) (s s' : State) (st : StandsFor P pl n size m s) (i : Instr) (r : Row) (op : PlainOp) (j : ℕ) (x : Sketch)
    (ls ops : List Value) (words deep lw ow : List ℕ) → Scene P pl n size m answer s s' st i r op j x → IsReady op x → plain.effect op x ≡ moved words deep j x
    → effect P (limits_of P pl n size) s st.top (st.top.pc + i.length) r ≡ Go (st.top.pc + i.length) ls ops
    → AreLocals (object_place P pl s.objects) ls lw → AreOperands (object_place P pl s.objects) ops ow → words ≡ ow ++ reverse st.words.saved → deep ≡ stacked st.below ++ lw → ComesTo P pl n size m s s'
comes laws P pl n size m answer s s' st i r op j x ls ops words deep lw ow at ready makes goes locals operands stack below =
    let f = moved words deep j x in
    let p = params m i.count 0 in
    let Q : ℕ → Type 0 = λ k. StandsAt n p k x (env_of m) m in
    let run = laws.runs n p op x (env_of m) m (subst Q at.opcode at.shows.stands) ready at.calm in
    let end : st.top.pc + i.length ≡ st.top.pc + (1 + j) = ap (λ (k : ℕ). st.top.pc + k) at.long in
    let makes_frame : MakesFrame P pl n size m s st (st.top.pc + i.length) ls ops x f = record {
      local_words = lw;
      operand_words = ow;
      are_locals = locals;
      are_operands = operands;
      stack = stack;
      deep = below;
      low = refl;
      memory = refl;
      jpc = at.shows.jpc j (omega (arith, at.instruction.within, at.long)) ∙ sym end;
      answers = refl;
      output = refl;
    } in
    let R : ℕ → row.Effect → Type 0 = λ k g. RunsRow n p k g x (env_of m) in
    at.ends (st.top.pc + i.length) ls ops f goes makes_frame (subst (λ (k : ℕ). R k f) (sym at.opcode) (subst (λ (g : row.Effect). R (code_of op) g) makes run))
