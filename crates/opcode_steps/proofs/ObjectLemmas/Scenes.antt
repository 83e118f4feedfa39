-- What the opcodes of objects and types have in common: the laws, and what a machine that stands for a state shows.
use Rattle.std.proofs.Common.{◌≡◌, ℕ, ◌+◌, ◌*◌, ◌%◌, ◌^◌, ◌<◌, ◌≤◌, true, false, pos, List, [], ◌∷◌, ◌++◌, Option, Some, None, length, reverse, refl, sym, ap, ◌∙◌, subst, arith}
use Rattle.std.specs.Prelude.{slice_index, IsSomeAnd}
use Rattle.std.proofs.lemmas.List.{get_or-drop}
use Rattle.lists.specs.Members.{heads, tails}
use Rattle.opcodes.specs.declared.instruction.Instr.{Instr}
use Rattle.opcodes.specs.Bytes.{u1, u2}
use Rattle.opcodes.specs.Form.{Operands}
use Rattle.opcodes.specs.Instruction.{operands_width}
use Rattle.opcodes.specs.Row as opcodes
use Rattle.opcodes.specs.Reading.{plain_instr}
use Rattle.jop_core.specs.State as machine
use Rattle.micro_sketch.specs.Laws.{CostsHold}
use Rattle.micro_sketch.specs.Sketch.{Sketch, abyte}
use Rattle.micro_sketch.specs.View.{env_of}
use Rattle.micro_sketch.specs.Row.{StandsAt, words_of}
use Rattle.micro_sketch.specs.Rows.{Makes, RunsRow, RunsToRaise, entered}
use Rattle.micro_sketch.specs.RowLaws.{AreRowLaws}
use Rattle.micro_sketch.specs.Operand.{past, behind, leaves, two_byte_operand}
use Rattle.bytecode_model.specs.declared.Value.{Value}
use Rattle.bytecode_model.specs.declared.Ending.TheVariants.{Running}
use Rattle.bytecode_model.specs.Types.{is_long}
use Rattle.bytecode_model.specs.State.{State}
use Rattle.bytecode_model.specs.Program.{Program, NoOperand}
use Rattle.bytecode_model.specs.Rows.{Row}
use Rattle.bytecode_model.specs.Effects as effects
use Rattle.bytecode_model.specs.Effects.{Fault, fault_object, Go, Raise, fault}
use Rattle.image_facts.specs.Places.{Places, object_place, pool_of}
use Rattle.image_facts.specs.Says.{SaysAll, SaysLinked, Means}
use Rattle.machine_stands.specs.Frames.{IsWordOf, AreOperands}
use Rattle.machine_stands.specs.StandsFor.{StandsFor, limits_of}
use Rattle.machine_stands.specs.Comes.{params, ComesTo}
use Rattle.machine_stands.specs.Simulates.{IsStep}
use Rattle.machine_stands.specs.Seen.{seen}
use Rattle.machine_stands.specs.Again.{MadeRowsRun, RowsCome, registers_of}
use Rattle.machine_stands.specs.Reading.{IsAtRow, PlainOnesAreRead, operands_of}
use Rattle.machine_stands.specs.Shown.{Shows, SketchesShow}
use Rattle.machine_stands.specs.Going.{MakesFrame, LeavesFrame, FramesGoOn, FramesRaise}
use Rattle.machine_stands.specs.Operands.{OneWordIsOnTop, OneWordIsPushed}
use Rattle.machine_stands.specs.Fixed.{FixedWordsAreRead, RaiseListIsRead, PoolsAreRead}
use Rattle.opcode_steps.proofs.ObjectLemmas.Raising.{MakesRaise, raise_runs}
use Rattle.opcode_steps.proofs.ObjectLemmas.TypeRows.{index, entry_place, raised_object, raising}
use Rattle.opcode_steps.proofs.ObjectLemmas.Objects.{ObjectLaws}

pub record StateLaws : Type 0 where
  pub rows : AreRowLaws
  pub costs : CostsHold
  pub plain : PlainOnesAreRead
  pub shows : SketchesShow
  pub runs : MadeRowsRun
  pub comes : RowsCome
  pub goes : FramesGoOn
  pub raises : FramesRaise
  pub one : OneWordIsOnTop
  pub pushed : OneWordIsPushed
  pub words : FixedWordsAreRead
  pub list : RaiseListIsRead
  pub pools : PoolsAreRead
  pub objects : ObjectLaws

-- a byte more in the operand register
byte_taken : (b : ℕ) → b < 2 ^ 8 → (0 * 2 ^ 8 + b) % 2 ^ 32 ≡ b
byte_taken b h = omega arith

two_taken : (a b : ℕ) → a < 2 ^ 8 → b < 2 ^ 8 → ((0 * 2 ^ 8 + a) % 2 ^ 32 * 2 ^ 8 + b) % 2 ^ 32 ≡ a * 2 ^ 8 + b
two_taken a b h k = omega arith

byte_small : (x : Sketch) → abyte x < 2 ^ 8
byte_small x = omega arith

pub index_is_operand : (x : Sketch) → index x ≡ two_byte_operand x
index_is_operand x = two_taken (abyte x) (abyte (past 1 x)) (byte_small x) (byte_small (past 1 x))

-- The machine stands for a state of a program that comes of class files, and is about to run an instruction of this opcode, with so many bytes behind it.
pub record Here (op : ℕ) (o : Operands) (j : ℕ) : Type 0 where
  pub P : Program
  pub pl : Places
  pub n : ℕ
  pub size : ℕ
  pub m : machine.MachineState
  pub answer : Option ℕ
  pub s : State
  pub t : State
  pub h : IsStep P pl n size m answer s t
  pub mode : s.mode ≡ Running
  pub linked : P.linked ≡ true
  pub opcode : m.opcode ≡ op
  pub long : 1 + operands_width o ≡ 1 + j
  pub row : Row
  pub at : IsAtRow P pl n size m answer s t h.stands (plain_instr op h.stands.body.code h.stands.top.pc o) row

-- What is to be shown of an opcode.
abbrev pub Line : ℕ → Type 0
Line op = (P : Program) (pl : Places) (n size : ℕ) (m : machine.MachineState) (answer : Option ℕ) (s t : State) → IsStep P pl n size m answer s t → s.mode ≡ Running → P.linked ≡ true → m.opcode ≡ op → ComesTo P pl n size m s t

abbrev pub Comes : {op : ℕ} {o : Operands} {j : ℕ} → Here op o j → Type 0
Comes c = ComesTo c.P c.pl c.n c.size c.m c.s c.t

pub line_of : StateLaws → (op : ℕ) (o : Operands) (j : ℕ) → operands_of (opcodes.row_of op).form ≡ Some o → 1 + operands_width o ≡ 1 + j → ((c : Here op o j) → Comes c) → Line op
line_of laws op o j form long go P pl n size m answer s t h mode linked opcode =
    let read = laws.plain P pl n size m answer s t h op o mode opcode form in
    go (record { P = P; pl = pl; n = n; size = size; m = m; answer = answer; s = s; t = t; h = h; mode = mode; linked = linked; opcode = opcode; long = long; row = read.0; at = read.1 })

module _ (laws : StateLaws) {op : ℕ} {o : Operands} {j : ℕ} (c : Here op o j) where
  abbrev pub st : StandsFor c.P c.pl c.n c.size c.m c.s
  st = c.h.stands

  abbrev pub code : List ℕ
  code = st.body.code

  abbrev pub instr : Instr
  instr = plain_instr op code st.top.pc o

  abbrev pub x : Sketch
  x = seen (params c.m 0 0) (None ∷ []) c.m st.words st.below

  abbrev pub place : ℕ → ℕ
  place = object_place c.P c.pl c.s.objects

  abbrev pub next : ℕ
  next = st.top.pc + instr.length

  abbrev pub effect_of : Row → effects.Effect
  effect_of r = effects.effect c.P (limits_of c.P c.pl c.n c.size) c.s st.top next r

  -- the words that the frame saves, as they are on the stack
  abbrev pub saved : List ℕ
  saved = reverse st.words.saved

  pub says_linked : SaysLinked c.P c.pl
  says_linked = subst (λ b. SaysAll b c.P c.pl) c.linked c.h.says.all

  pub shows : Shows c.P c.pl c.n c.size c.m c.s st (params c.m 0 0) x
  shows = laws.shows c.P c.pl c.n c.size c.m c.answer c.s c.t c.h (params c.m 0 0) (None ∷ []) c.mode refl refl

  pub stands : StandsAt c.n (params c.m 0 0) op x (env_of c.m) c.m
  stands = subst (λ (k : ℕ). StandsAt c.n (params c.m 0 0) k x (env_of c.m) c.m) c.opcode shows.stands

  pub registers : (k : ℕ) → slice_index x.low (24 + k) ≡ slice_index (registers_of c.P c.pl c.n c.size c.s st.top shows.raised) k
  registers k = sym (get_or-drop 24 x.low k 0) ∙ ap (λ (ws : List ℕ). slice_index ws k) shows.low

  -- behind the instruction
  pub jpc_is : (past j x).jpc ≡ next
  jpc_is = let within = c.at.within in let long = c.long in shows.jpc j (omega (arith, within, long)) ∙ ap (λ (k : ℕ). st.top.pc + k) (sym long)

  -- x as it stands at the entry of the opcode
  pub at_entry : (Q : Sketch → Type 0) → Q (entered op x) → Q x
  at_entry Q q = subst Q (sym (laws.rows.enters c.n (params c.m 0 0) op x (env_of c.m) c.m stands)) q

  -- a row that leaves these words on the stack, at the next instruction
  pub comes_on : (ops : List Value) (ow ws : List ℕ) → effect_of c.row ≡ Go next st.top.locals ops → Makes (behind j x (leaves ws x)) x → ws ≡ ow ++ saved → AreOperands place ops ow → Comes c
  comes_on ops ow ws does makes stack are =
      let f = behind j x (leaves ws x) in
      let p = params c.m 0 0 in
      let frame : MakesFrame c.P c.pl c.n c.size c.m c.s st next st.top.locals ops x f = record {
        local_words = st.words.locals;
        operand_words = ow;
        are_locals = st.are_frames.0.locals;
        are_operands = are;
        stack = stack;
        deep = shows.deep;
        low = refl;
        memory = refl;
        jpc = jpc_is;
        answers = refl;
        output = refl;
      } in
      laws.goes c.P c.pl c.n c.size c.m c.answer c.s c.t c.h instr c.row next st.top.locals ops f c.mode c.at does frame
      (subst (λ (k : ℕ). RunsRow c.n p k f x (env_of c.m)) (sym c.opcode) (laws.runs c.n p op f x (env_of c.m) c.m stands makes))

  -- the object of a fault
  object_is : (f : Fault) → raised_object x (fault_object f) ≡ place (fault_object f)
  object_is f =
      let list = laws.list c.P c.pl c.n c.size c.m c.answer c.s c.t c.h f c.linked in
      let small = st.sizes.small in
      let order : (fault_object f + c.pl.raise_list) % 2 ^ 32 ≡ c.pl.raise_list + fault_object f = omega (arith, list.0, small) in
      ap (λ (k : ℕ). slice_index x.memory ((fault_object f + k) % 2 ^ 32)) (registers 6) ∙ ap (slice_index x.memory) order ∙ list.1

  -- a row that raises, past so many of the bytes behind the opcode, and leaves these words on the stack
  pub comes_to_raise : (f : Fault) (read : ℕ) (left ws : List ℕ) → effect_of c.row ≡ fault f → MakesRaise (raising ws read (fault_object f) x) x → read ≤ j → ws ≡ left ++ saved → length left ≤ st.body.max_stack
      → Comes c
  comes_to_raise f read left ws does makes few stack depth =
      let g = raising ws read (fault_object f) x in
      let p = params c.m 0 0 in
      let within = c.at.within in
      let long = c.long in
      let jpc : (past read x).jpc ≡ st.top.pc + (1 + read) = shows.jpc read (omega (arith, within, long, few)) in
      let frame : LeavesFrame c.P c.pl c.n c.size c.m c.s st instr (fault_object f) g = record {
        left = left;
        few = depth;
        stack = stack;
        from = omega (arith, jpc);
        to = omega (arith, jpc, few, long);
        place = object_is f;
      } in
      laws.raises c.P c.pl c.n c.size c.m c.answer c.s c.t c.h instr c.row (fault_object f) g c.mode c.at does frame
      (subst (λ (k : ℕ). RunsToRaise c.n p k g x (env_of c.m)) (sym c.opcode) (raise_runs laws.rows laws.costs c.n p op g x (env_of c.m) c.m stands makes))

  -- the topmost operand, of one word
  pub record Topped (v : Value) (rest : List Value) : Type 0 where
    pub others : List ℕ
    pub words : st.words.operands ≡ x.top ∷ others
    pub below : x.next ∷ x.under ≡ others ++ saved
    pub is : IsWordOf place v x.top
    pub stay : AreOperands place rest others
    pub count : length others ≤ st.body.max_stack

  pub topped : (v : Value) (rest : List Value) → is_long v ≡ false → st.top.operands ≡ v ∷ rest → Topped v rest
  topped v rest short is =
      let top = laws.one place v rest st.words.operands short (subst (λ (vs : List Value). AreOperands place vs st.words.operands) is st.are_frames.0.operands) in
      let all : words_of x ≡ (top.word ∷ top.others) ++ saved = shows.words ∙ ap (λ (ws : List ℕ). ws ++ saved) top.split in
      let depth = shows.depth in
      let head = heads x.top top.word (x.next ∷ x.under) (top.others ++ saved) all in
      record {
        others = top.others;
        words = top.split ∙ ap (λ (w : ℕ). w ∷ top.others) (sym head);
        below = tails x.top top.word (x.next ∷ x.under) (top.others ++ saved) all;
        is = subst (λ (w : ℕ). IsWordOf place v w) (sym head) top.is;
        stay = top.stay;
        count = omega (arith, depth, ap (λ (ws : List ℕ). length ws) top.split);
      }

  -- the words of the pool entry that the two bytes behind the opcode name
  pub record Entry : Type 0 where
    pub first : ℕ
    pub second : ℕ
    pub place_is : entry_place x (index x) ≡ pool_of c.P c.pl st.top.method + 2 * u2 code (st.top.pc + 1)
    pub within : pool_of c.P c.pl st.top.method + 2 * u2 code (st.top.pc + 1) + 1 < c.size
    pub first_is : slice_index x.memory (entry_place x (index x)) ≡ first
    pub second_is : slice_index x.memory ((entry_place x (index x) + 1) % 2 ^ 32) ≡ second
    pub means : Means c.P c.pl instr.op (c.P.operand st.top.method st.top.pc) first second

  -- these are an index
  index_is : 2 ≤ j → index x ≡ u2 code (st.top.pc + 1)
  index_is two =
      let pc = st.top.pc in
      let within = c.at.within in
      let long = c.long in
      let second : pc + 1 + 1 ≡ pc + 2 = omega arith in
      index_is_operand x ∙ ap (λ (b : ℕ). b * 2 ^ 8 + abyte (past 1 x)) (shows.bytes 0 (omega (arith, within, long, two)))
      ∙ ap (λ (b : ℕ). u1 code (pc + 1) * 2 ^ 8 + b) (shows.bytes 1 (omega (arith, within, long, two)))
      ∙ ap (λ (k : ℕ). u1 code (pc + 1) * 2 ^ 8 + u1 code k) (sym second)

  pub entry_read : 2 ≤ j → instr.first ≡ pos (u2 code (st.top.pc + 1)) → (c.P.operand st.top.method st.top.pc ≡ NoOperand → ⊥) → Entry
  entry_read two first named =
      let k = u2 code (st.top.pc + 1) in
      let pool = pool_of c.P c.pl st.top.method in
      let entry = laws.pools c.P c.pl c.n c.size c.m c.answer c.s c.t c.h instr c.row k c.mode c.at first named in
      let within = entry.within in
      let small = st.sizes.small in
      let at : entry_place x (index x) ≡ pool + 2 * k =
      ap (λ (i : ℕ). entry_place x i) (index_is two) ∙ ap (λ (p : ℕ). ((k + k) % 2 ^ 32 + p) % 2 ^ 32) (registers 0) ∙ omega (arith, within, small) in
      let behind : (entry_place x (index x) + 1) % 2 ^ 32 ≡ pool + 2 * k + 1 = ap (λ (i : ℕ). (i + 1) % 2 ^ 32) at ∙ omega (arith, within, small) in
      record {
        first = entry.first;
        second = entry.second;
        place_is = at;
        within = within;
        first_is = ap (slice_index x.memory) at ∙ entry.first_is;
        second_is = ap (slice_index x.memory) behind ∙ entry.second_is;
        means = entry.means;
      }
