-- A row as a run of the machine, by what it makes of the operands and where it goes.
use Rattle.std.proofs.Common.{◌≡◌, ◌⊎◌, ⊎_elim, ℕ, ◌+◌, ◌<◌, Bool, true, false, List, [], ◌∷◌, ◌++◌, Option, Some, None, length, reverse, refl, sym, ◌∙◌, ap, subst}
use Rattle.std.specs.Prelude.{IsTrue, IfSome}
use Rattle.std.specs.Option.{IsSomeAnd}
use Rattle.std.proofs.lemmas.Option.{none-some}
use Rattle.lists.proofs.Lemmas.{some_same}
use Rattle.micro_flow.specs.Walk.{turns_at}
use Rattle.opcodes.specs.declared.instruction.Instr.{Instr}
use Rattle.opcodes.specs.Start.{AreStarts}
use Rattle.jop_core.specs.State as machine
use Rattle.micro_sketch.specs.Sketch.{Sketch}
use Rattle.micro_sketch.specs.View.{env_of}
use Rattle.micro_sketch.specs.Row as row
use Rattle.micro_sketch.specs.Row.{StandsAt, unchanged}
use Rattle.micro_sketch.specs.Rows.{RunsRow, RunsToRaise}
use Rattle.micro_sketch.specs.Rows as rows
use Rattle.micro_sketch.specs.Opcodes as plain
use Rattle.micro_sketch.specs.Opcodes.{PlainOp, code_of, IsReady, raises, raised_by}
use Rattle.micro_sketch.specs.PlainLaws.{PlainRowsRun, PlainRowsRaise}
use Rattle.bytecode_model.specs.declared.Value.{Value}
use Rattle.bytecode_model.specs.declared.Ending.TheVariants.{Running}
use Rattle.bytecode_model.specs.State.{Frame, State}
use Rattle.bytecode_model.specs.Program.{Program, Body, body_of}
use Rattle.bytecode_model.specs.Rows.{Row}
use Rattle.bytecode_model.specs.WellFormed as well
use Rattle.bytecode_model.specs.WellFormed.{AreValues}
use Rattle.bytecode_model.specs.Effects.{Stuck, Go, Raise, effect}
use Rattle.bytecode_model.specs.Steps.{applied}
use Rattle.image_facts.specs.Places.{Places, object_place}
use Rattle.image_facts.specs.Says.{IsCode}
use Rattle.machine_stands.specs.Frames.{AreOperands}
use Rattle.machine_stands.specs.StandsFor.{StandsFor, limits_of}
use Rattle.machine_stands.specs.Comes.{params, ComesTo}
use Rattle.machine_stands.specs.Simulates.{IsStep, is_bare}
use Rattle.machine_stands.specs.Seen.{seen}
use Rattle.machine_stands.specs.Reading.{IsAtRow, RowsAreRead, PlainOnesAreRead, TableSwitchesAreRead, LookupSwitchesAreRead}
use Rattle.machine_stands.specs.Shown.{Shows, SketchesShow}
use Rattle.machine_stands.specs.Going.{MakesFrame, FramesGoOn, LeavesFrame, FramesRaise}
use Rattle.machine_stands.specs.Operands.{OneWordIsOnTop, TwoWordsAreOnTop}
use Rattle.machine_stands.specs.Fixed.{RaiseListIsRead}

pub record Laws : Type 0 where
  pub any : RowsAreRead
  pub plain : PlainOnesAreRead
  pub tables : TableSwitchesAreRead
  pub lookups : LookupSwitchesAreRead
  pub shows : SketchesShow
  pub goes : FramesGoOn
  pub raises : FramesRaise
  pub one : OneWordIsOnTop
  pub two : TwoWordsAreOnTop
  pub raise_list : RaiseListIsRead
  pub runs : PlainRowsRun
  pub runs_to_raise : PlainRowsRaise
  pub starts : (code : List ℕ) → AreStarts code

-- what is to be shown of an opcode
abbrev pub Line : ℕ → Type 0
Line op = (P : Program) (pl : Places) (n size : ℕ) (m : machine.MachineState) (answer : Option ℕ) (s s' : State) → IsStep P pl n size m answer s s' → s.mode ≡ Running → m.opcode ≡ op
    → (P.linked ≡ true) ⊎ IsTrue (is_bare op) → ComesTo P pl n size m s s'

-- the top frame is well formed, and what is asked of its operands
frame_of : (P : Program) (objects : ℕ) (f : Frame) (b : Body) (fs : List Frame) (callers : List Frame) → fs ≡ f ∷ callers → body_of P f.method ≡ Some b → well.AreFrames P objects fs → well.IsFrame P objects f b
frame_of P objects f b fs callers is body h =
    let A : List Frame → Type 0 = λ gs. well.AreFrames P objects gs in
    let S : Option Body → Type 0 = λ o. IsSomeAnd o (well.IsFrame P objects f) in
    subst S body (subst A is h).0

pub code_of_body : (b : Body) (o : Option Body) → o ≡ Some b → IfSome o (λ c. IsCode c.code) → IsCode b.code
code_of_body b o is h = let C : Option Body → Type 0 = λ p. IfSome p (λ c. IsCode c.code) in subst C is h

-- The machine as a sketch, at an instruction with a row, and how the row on the sketch ends.
pub record Scene (P : Program) (pl : Places) (n size : ℕ) (m : machine.MachineState) (answer : Option ℕ) (s s' : State) (st : StandsFor P pl n size m s) (i : Instr) (r : Row) (x : Sketch) : Type 0 where
  pub instruction : IsAtRow P pl n size m answer s s' st i r
  pub shows : Shows P pl n size m s st (params m i.count 0) x
  pub code : IsCode st.body.code
  pub memory : x.memory ≡ m.port.words
  pub left : x.left ≡ turns_at (params m i.count 0)
  pub frame : well.IsFrame P (length s.objects) st.top st.body
  pub defined : effect P (limits_of P pl n size) s st.top (st.top.pc + i.length) r ≡ Stuck → ⊥
  -- the place that it goes to is one of the code
  pub lands : (pc : ℕ) (ls ops : List Value) → effect P (limits_of P pl n size) s st.top (st.top.pc + i.length) r ≡ Go pc ls ops → pc < length st.body.code
  pub ends : (pc : ℕ) (ls ops : List Value) (f : row.Effect) → effect P (limits_of P pl n size) s st.top (st.top.pc + i.length) r ≡ Go pc ls ops → MakesFrame P pl n size m s st pc ls ops x f
      → RunsRow n (params m i.count 0) m.opcode f x (env_of m) → ComesTo P pl n size m s s'
  pub breaks : (object : ℕ) (f : rows.Raising) → effect P (limits_of P pl n size) s st.top (st.top.pc + i.length) r ≡ Raise object → LeavesFrame P pl n size m s st i object f
      → RunsToRaise n (params m i.count 0) m.opcode f x (env_of m) → ComesTo P pl n size m s s'

pub scene : Laws → (P : Program) (pl : Places) (n size : ℕ) (m : machine.MachineState) (answer : Option ℕ) (s s' : State) (h : IsStep P pl n size m answer s s') (i : Instr) (r : Row) → s.mode ≡ Running
    → IsAtRow P pl n size m answer s s' h.stands i r → Scene P pl n size m answer s s' h.stands i r (seen (params m i.count 0) (None ∷ []) m h.stands.words h.stands.below)
scene laws P pl n size m answer s s' h i r mode at = record {
  instruction = at;
  shows = laws.shows P pl n size m answer s s' h (params m i.count 0) (None ∷ []) mode refl refl;
  memory = refl;
  left = refl;
  code = code_of_body h.stands.body (body_of P h.stands.top.method) h.stands.is_body (h.says.codes h.stands.top.method);
  frame = frame_of P (length s.objects) h.stands.top h.stands.body s.frames h.stands.callers h.stands.frames h.stands.is_body h.well_formed.frames;
  defined = λ stuck. none-some s' (ap (applied P (limits_of P pl n size) answer s h.stands.top h.stands.callers) (sym stuck) ∙ at.step);
  lands = λ pc ls ops goes.
      let f : Frame = record h.stands.top { pc = pc; locals = ls; operands = ops } in
      let t : State = record s { frames = f ∷ h.stands.callers; mode = Running } in
      let next : s' ≡ t = sym (some_same t s' (ap (applied P (limits_of P pl n size) answer s h.stands.top h.stands.callers) (sym goes) ∙ at.step)) in
      let frames : s'.frames ≡ f ∷ h.stands.callers = ap (λ (u : State). u.frames) next in
      (laws.starts h.stands.body.code).within_code pc (frame_of P (length s'.objects) f h.stands.body s'.frames h.stands.callers frames h.stands.is_body h.next_well_formed.frames).start;
  ends = λ pc ls ops f. laws.goes P pl n size m answer s s' h i r pc ls ops f mode at;
  breaks = λ object f. laws.raises P pl n size m answer s s' h i r object f mode at;
}

-- no bare image has such an opcode
pub only_linked : (linked code : Bool) → (linked ≡ true) ⊎ IsTrue code → code ≡ false → linked ≡ true
only_linked linked code either never = ⊎_elim (λ (e : linked ≡ true). e) (λ (t : code ≡ true). let clash : false ≡ true = sym never ∙ t in cc) either

-- x with other words, at another place
abbrev pub placed : List ℕ → ℕ → Sketch → row.Effect
placed words jpc x = record (unchanged x) { words = words; jpc = jpc }

module _ (laws : Laws) (P : Program) (pl : Places) (n size : ℕ) (m : machine.MachineState) (answer : Option ℕ) (s s' : State) (st : StandsFor P pl n size m s) (i : Instr) (r : Row) (x : Sketch)
    (at : Scene P pl n size m answer s s' st i r x) where
  -- a plain opcode leaves other operands, and goes on at a place
  pub comes : (op : PlainOp) (pc : ℕ) (ops : List Value) (words : List ℕ) (jpc : ℕ) (ow : List ℕ) → m.opcode ≡ code_of op → IsReady op x → raises op x ≡ false
      → plain.effect op x ≡ placed words jpc x → effect P (limits_of P pl n size) s st.top (st.top.pc + i.length) r ≡ Go pc st.top.locals ops
      → AreOperands (object_place P pl s.objects) ops ow → words ≡ ow ++ reverse st.words.saved → jpc ≡ pc → ComesTo P pl n size m s s'
  comes op pc ops words jpc ow opcode ready calm makes goes operands stack place =
      let f = placed words jpc x in
      let p = params m i.count 0 in
      let Q : ℕ → Type 0 = λ k. StandsAt n p k x (env_of m) m in
      let run = laws.runs n p op x (env_of m) m (subst Q opcode at.shows.stands) ready calm in
      let makes_frame : MakesFrame P pl n size m s st pc st.top.locals ops x f = record {
        local_words = st.words.locals;
        operand_words = ow;
        are_locals = st.are_frames.0.locals;
        are_operands = operands;
        stack = stack;
        deep = at.shows.deep;
        low = refl;
        memory = refl;
        jpc = place;
        answers = refl;
        output = refl;
      } in
      let R : ℕ → row.Effect → Type 0 = λ k g. RunsRow n p k g x (env_of m) in
      at.ends pc st.top.locals ops f goes makes_frame (subst (λ (k : ℕ). R k f) (sym opcode) (subst (λ (g : row.Effect). R (code_of op) g) makes run))
