-- The opcodes of devices, from the step to where the machine stands for the next state.
use Rattle.std.proofs.Common.{◌≡◌, ◌⊎◌, ℕ, suc, ◌+◌, ◌-◌, ◌%◌, ◌^◌, ◌<◌, ◌==◌, false, ℤ, pos, negsuc, List, [], ◌∷◌, ◌++◌, Option, Some, None, ⊎_elim, length, drop, reverse, refl, sym, ap, ◌∙◌, subst, arith, append-nil, eqb-true}
use Rattle.std.specs.Prelude.{FitsSigned}
use Rattle.std.specs.Int.{w8, w32, int_wrap, cast_signed, cast_unsigned}
use Rattle.std.proofs.lemmas.Int.{of_z-to_z}
use Rattle.std.proofs.lemmas.List.Sums.{sum_by-cons}
use Rattle.std.proofs.lemmas.Option.{none-some}
use Rattle.lists.specs.Tests.{either}
use Rattle.lists.proofs.Lemmas.{holds_at, some_same}
use Rattle.lists.specs.Members.{heads, tails}
use Rattle.opcodes.specs.declared.instruction.Instr.{Instr}
use Rattle.opcodes.specs.Form.{one, Absent}
use Rattle.opcodes.specs.Row as opcodes
use Rattle.opcodes.specs.Reading.{plain_instr}
use Rattle.jop_core.specs.State as machine
use Rattle.jop_core.specs.Operations.{input_word}
use Rattle.micro_sketch.specs.Sketch.{Sketch}
use Rattle.micro_sketch.specs.View.{env_of}
use Rattle.micro_sketch.specs.Row.{StandsAt}
use Rattle.micro_sketch.specs.Rows.{RunsRow}
use Rattle.micro_sketch.specs.RowLaws.{AreRowLaws}
use Rattle.bytecode_model.specs.declared.Value.{Value}
use Rattle.bytecode_model.specs.declared.Value.TheVariants.{Int, Long, Ref, Null, Unset}
use Rattle.bytecode_model.specs.declared.Ending.TheVariants.{Running}
use Rattle.bytecode_model.specs.Types.{IntType, is_long}
use Rattle.bytecode_model.specs.Numbers.{low_bits}
use Rattle.bytecode_model.specs.Rows as rows
use Rattle.bytecode_model.specs.Rows.{Row}
use Rattle.bytecode_model.specs.State.{Object, Frame, State}
use Rattle.bytecode_model.specs.Program.{Program, Limits, Operand, body_of}
use Rattle.bytecode_model.specs.Sizes.{frame_words, frames_words}
use Rattle.bytecode_model.specs.Table.{row_of}
use Rattle.bytecode_model.specs.Effects.{Effect, Give, on_number}
use Rattle.bytecode_model.specs.Steps.{applied, answered, with_top}
use Rattle.bytecode_model.specs.WellFormed as formed
use Rattle.bytecode_model.specs.WellFormed.{AreValues}
use Rattle.image_facts.specs.Words.{int_word}
use Rattle.image_facts.specs.Places.{Places, object_place, end_of, pool_of}
use Rattle.machine_stands.specs.Frames.{FrameWords, IsWordOf, AreLocals, AreOperands, AreWordsOfFrames}
use Rattle.machine_stands.specs.StandsFor.{limits_of, memory_of}
use Rattle.machine_stands.specs.Comes.{params, ComesTo}
use Rattle.machine_stands.specs.Simulates.{IsStep, Simulates}
use Rattle.machine_stands.specs.Seen.{seen}
use Rattle.machine_stands.specs.Again.{registers_of, GoesOn, MadeRowsRun, RowsCome}
use Rattle.machine_stands.specs.Reading.{IsAtRow, PlainOnesAreRead, operands_of}
use Rattle.machine_stands.specs.Shown.{Shows, SketchesShow}
use Rattle.machine_stands.specs.Operands.{OneWordIsOnTop, OneWordIsPushed}
use Rattle.opcode_steps.specs.Devices.Family.{is_device}
use Rattle.opcode_steps.specs.Devices.Opcodes.{DeviceOp, Impdep1, Impdep2, code_of, effect}
use Rattle.opcode_steps.proofs.DeviceLemmas.Steps.{device_made}

pub record DeviceLaws : Type 0 where
  pub rows : AreRowLaws
  pub plain : PlainOnesAreRead
  pub shows : SketchesShow
  pub runs : MadeRowsRun
  pub comes : RowsCome
  pub one : OneWordIsOnTop
  pub pushed : OneWordIsPushed

-- ---- the instructions

form_read : (op : DeviceOp) → operands_of (opcodes.row_of (code_of op)).form ≡ Some (one Absent)
unfolding opcodes.row_of
form_read Impdep1 = refl
form_read Impdep2 = refl

abbrev its_row : DeviceOp → Row
its_row Impdep1 = rows.Read
its_row Impdep2 = rows.Write

row_is : (op : DeviceOp) (code : List ℕ) (pc : ℕ) (o : Operand) (r : Row) → row_of code (plain_instr (code_of op) code pc (one Absent)) o ≡ Some r → r ≡ its_row op
unfolding row_of
row_is Impdep1 code pc o r h = sym (some_same rows.Read r h)
row_is Impdep2 code pc o r h = sym (some_same rows.Write r h)

-- ---- bytes

-- the int for an answer of the input
answer_word : (place : ℕ → ℕ) (answer : Option ℕ) → IsWordOf place (answered answer) (input_word answer)
answer_word place None = refl
answer_word place (Some byte) = refl

answer_is_short : (answer : Option ℕ) → is_long (answered answer) ≡ false
answer_is_short None = refl
answer_is_short (Some byte) = refl

-- the low bits of a number

is_word : (k : ℕ) (z : ℤ) → k < 2 ^ 8 → cast_signed w8 k ≡ int_wrap w8 z → k ≡ low_bits w8 z
is_word k z small e = sym (of_z-to_z w8 k small) ∙ ap (cast_unsigned w8) e

natural_wraps : (n : ℕ) → cast_signed w8 (n % 2 ^ 8) ≡ int_wrap w8 (pos n)
unfolding int_wrap
natural_wraps n = refl

negative_wraps : (n : ℕ) → cast_signed w8 (2 ^ 8 - 1 - n % 2 ^ 8) ≡ int_wrap w8 (negsuc n)
unfolding int_wrap
negative_wraps n = refl

low_byte : (x : ℤ) → FitsSigned w32 x → int_word x % 2 ^ 8 ≡ low_bits w8 x
low_byte (pos n) h = is_word (n % 2 ^ 8) (pos n) (omega arith) (natural_wraps n)
low_byte (negsuc n) h =
    let small = h.sfits in
    let e : (2 ^ 32 - suc n) % 2 ^ 8 ≡ 2 ^ 8 - 1 - n % 2 ^ 8 = omega arith in
    e ∙ is_word (2 ^ 8 - 1 - n % 2 ^ 8) (negsuc n) (omega arith) (negative_wraps n)

-- ---- the operands

int_on_top : (P : Program) (limits : Limits) (answer : Option ℕ) (s : State) (f : Frame) (callers : List Frame) (s' : State) (ops : List Value) (go : ℤ → List Value → Effect)
    → applied P limits answer s f callers (on_number IntType ops go) ≡ Some s' → (k : ℤ) × (rest : List Value) × (ops ≡ Int k ∷ rest) × (applied P limits answer s f callers (go k rest) ≡ Some s')
int_on_top P limits answer s f callers s' [] go h = absurd (none-some s' h)
int_on_top P limits answer s f callers s' (Int k ∷ rest) go h = (k, rest, refl, h)
int_on_top P limits answer s f callers s' (Long k ∷ rest) go h = absurd (none-some s' h)
int_on_top P limits answer s f callers s' (Ref p ∷ rest) go h = absurd (none-some s' h)
int_on_top P limits answer s f callers s' (Null ∷ rest) go h = absurd (none-some s' h)
int_on_top P limits answer s f callers s' (Unset ∷ rest) go h = absurd (none-some s' h)

module _ (laws : DeviceLaws) (P : Program) (pl : Places) (n size : ℕ) (m : machine.MachineState) (answer : Option ℕ) (s s' : State) (h : IsStep P pl n size m answer s s') (mode : s.mode ≡ Running) where
  abbrev instr : DeviceOp → Instr
  instr op = plain_instr (code_of op) h.stands.body.code h.stands.top.pc (one Absent)

  abbrev place : ℕ → ℕ
  place = object_place P pl s.objects

  abbrev x : List (Option ℕ) → Sketch
  x answers = seen (params m 0 0) answers m h.stands.words h.stands.below

  at : (op : DeviceOp) → m.opcode ≡ code_of op → IsAtRow P pl n size m answer s s' h.stands (instr op) (its_row op)
  at op opcode =
      let read = laws.plain P pl n size m answer s s' h (code_of op) (one Absent) mode opcode (form_read op) in
      subst (λ (r : Row). IsAtRow P pl n size m answer s s' h.stands (instr op) r) (row_is op h.stands.body.code h.stands.top.pc (P.operand h.stands.top.method h.stands.top.pc) read.0 read.1.is_row) read.1

  shows : (answers : List (Option ℕ)) → Shows P pl n size m s h.stands (params m 0 0) (x answers)
  shows answers = laws.shows P pl n size m answer s s' h (params m 0 0) answers mode refl refl

  runs : (op : DeviceOp) (answers : List (Option ℕ)) → m.opcode ≡ code_of op → RunsRow n (params m 0 0) m.opcode (effect op (x answers)) (x answers) (env_of m)
  runs op answers opcode =
      let stands = (shows answers).stands in
      laws.runs n (params m 0 0) m.opcode (effect op (x answers)) (x answers) (env_of m) m stands
      (device_made laws.rows n (params m 0 0) op (x answers) (env_of m) m (subst (λ (k : ℕ). StandsAt n (params m 0 0) k (x answers) (env_of m) m) opcode stands))

  -- the top frame behind the instruction
  abbrev gone_on : List Value → Frame
  gone_on ops = record h.stands.top { pc = h.stands.top.pc + 1; operands = ops }

  same_words : (ops : List Value) → frames_words P s.frames ≡ frames_words P (gone_on ops ∷ h.stands.callers)
  same_words ops = ap (frames_words P) h.stands.frames ∙ sum_by-cons (frame_words P) h.stands.top h.stands.callers ∙ sym (sum_by-cons (frame_words P) (gone_on ops) h.stands.callers)

  low_is : (answers : List (Option ℕ)) (ops : List Value) (t : State) → t.objects ≡ s.objects → t.frames ≡ gone_on ops ∷ h.stands.callers
      → drop 24 (x answers).low ≡ registers_of P pl n size t (gone_on ops) (shows answers).raised
  low_is answers ops t objects frames =
      let end : end_of P pl s.objects ≡ end_of P pl t.objects = ap (λ (os : List Object). end_of P pl os) (sym objects) in
      let sum : frames_words P s.frames ≡ frames_words P t.frames = same_words ops ∙ ap (frames_words P) (sym frames) in
      (shows answers).low ∙ (λ i. pool_of P pl h.stands.top.method ∷ pl.method h.stands.top.method ∷ end i ∷ size ∷ sum i ∷ (n - 80) ∷ pl.raise_list ∷ (shows answers).raised ∷ [])

  -- impdep1

  take_comes : m.opcode ≡ code_of Impdep1 → ComesTo P pl n size m s s'
  take_comes opcode =
      let a = at Impdep1 opcode in
      let answers = answer ∷ None ∷ [] in
      let z = x answers in
      let top = gone_on (answered answer ∷ h.stands.top.operands) in
      let next : s' ≡ with_top (record s { answers = s.answers ++ answer ∷ [] }) h.stands.callers top = sym (some_same _ s' a.step) in
      let shown = shows answers in
      let words : FrameWords = record h.stands.words { operands = input_word answer ∷ h.stands.words.operands } in
      let goes : GoesOn P pl n size m s s' h.stands (effect Impdep1 z) = record {
        top = top;
        words = words;
        raised = shown.raised;
        mode = ap (λ (u : State). u.mode) next;
        frames = ap (λ (u : State). u.frames) next;
        method = refl;
        saved = refl;
        locals = subst (λ (os : List Object). AreLocals (object_place P pl os) h.stands.top.locals h.stands.words.locals) (sym (ap (λ (u : State). u.objects) next)) h.stands.are_frames.0.locals;
        operands = subst (λ (os : List Object). AreOperands (object_place P pl os) top.operands words.operands) (sym (ap (λ (u : State). u.objects) next))
            (laws.pushed place (answered answer) h.stands.top.operands (input_word answer) h.stands.words.operands (answer_is_short answer) (answer_word place answer) h.stands.are_frames.0.operands);
        callers = subst (λ (os : List Object). AreWordsOfFrames P pl (object_place P pl os) h.stands.callers h.stands.below) (sym (ap (λ (u : State). u.objects) next)) h.stands.are_frames.1;
        stack = ap (λ (ws : List ℕ). input_word answer ∷ ws) shown.words;
        deep = shown.deep;
        low = low_is answers (answered answer ∷ h.stands.top.operands) s' (ap (λ (u : State). u.objects) next) (ap (λ (u : State). u.frames) next);
        memory = h.stands.memory ∙ ap (λ (u : State). memory_of P pl size u) (sym next);
        as_many = refl;
        jpc = shown.jpc 0 a.within;
      } in
      laws.comes P pl n size m answer s s' h (instr Impdep1) (answer ∷ []) (effect Impdep1 z) mode a.at (ap (λ (u : State). u.answers) next) refl
      (ap (λ (u : State). u.output) next ∙ sym (append-nil s.output)) goes (runs Impdep1 answers opcode)

  -- impdep2

  give_comes : m.opcode ≡ code_of Impdep2 → ComesTo P pl n size m s s'
  give_comes opcode =
      let a = at Impdep2 opcode in
      let limits = limits_of P pl n size in
      let answers = None ∷ [] in
      let z = x answers in
      let shown = shows answers in
      let t = int_on_top P limits answer s h.stands.top h.stands.callers s' h.stands.top.operands (λ k rest. Give (low_bits w8 k) (h.stands.top.pc + 1) h.stands.top.locals rest) a.step in
      let k = t.0 in
      let rest = t.1 in
      let top = gone_on rest in
      let next : s' ≡ with_top (record s { output = s.output ++ low_bits w8 k ∷ [] }) h.stands.callers top = sym (some_same _ s' t.3) in
      let one = laws.one place (Int k) rest h.stands.words.operands refl (subst (λ (vs : List Value). AreOperands place vs h.stands.words.operands) t.2 h.stands.are_frames.0.operands) in
      let words : FrameWords = record h.stands.words { operands = one.others } in
      let both = shown.words ∙ ap (λ (ws : List ℕ). ws ++ reverse h.stands.words.saved) one.split in
      let word : z.top ≡ int_word k = heads z.top one.word (z.next ∷ z.under) (one.others ++ reverse h.stands.words.saved) both ∙ one.is in
      let frames = subst (λ (fs : List Frame). formed.AreFrames P (length s.objects) fs) h.stands.frames h.well_formed.frames in
      let frame = holds_at (body_of P h.stands.top.method) h.stands.body (formed.IsFrame P (length s.objects) h.stands.top) h.stands.is_body frames.0 in
      let fits : FitsSigned w32 k = (subst (λ (vs : List Value). AreValues (length s.objects) vs) t.2 frame.operand_values).0 in
      let byte : z.top % 2 ^ 8 ≡ low_bits w8 k = ap (λ (w : ℕ). w % 2 ^ 8) word ∙ low_byte k fits in
      let goes : GoesOn P pl n size m s s' h.stands (effect Impdep2 z) = record {
        top = top;
        words = words;
        raised = shown.raised;
        mode = ap (λ (u : State). u.mode) next;
        frames = ap (λ (u : State). u.frames) next;
        method = refl;
        saved = refl;
        locals = subst (λ (os : List Object). AreLocals (object_place P pl os) h.stands.top.locals h.stands.words.locals) (sym (ap (λ (u : State). u.objects) next)) h.stands.are_frames.0.locals;
        operands = subst (λ (os : List Object). AreOperands (object_place P pl os) rest one.others) (sym (ap (λ (u : State). u.objects) next)) one.stay;
        callers = subst (λ (os : List Object). AreWordsOfFrames P pl (object_place P pl os) h.stands.callers h.stands.below) (sym (ap (λ (u : State). u.objects) next)) h.stands.are_frames.1;
        stack = tails z.top one.word (z.next ∷ z.under) (one.others ++ reverse h.stands.words.saved) both;
        deep = shown.deep;
        low = low_is answers rest s' (ap (λ (u : State). u.objects) next) (ap (λ (u : State). u.frames) next);
        memory = h.stands.memory ∙ ap (λ (u : State). memory_of P pl size u) (sym next);
        as_many = refl;
        jpc = shown.jpc 0 a.within;
      } in
      laws.comes P pl n size m answer s s' h (instr Impdep2) [] (effect Impdep2 z) mode a.at (ap (λ (u : State). u.answers) next ∙ sym (append-nil s.answers)) refl
      (ap (λ (u : State). u.output) next ∙ ap (λ (b : ℕ). s.output ++ b ∷ []) (sym byte)) goes (runs Impdep2 answers opcode)

-- ---- either

pub simulates : DeviceLaws → Simulates is_device
simulates laws P pl n size m answer s s' h mode family linked =
    ⊎_elim (λ e. take_comes laws P pl n size m answer s s' h mode (eqb-true m.opcode 254 e)) (λ e. give_comes laws P pl n size m answer s s' h mode (eqb-true m.opcode 255 e)) (either (m.opcode == 254) (m.opcode == 255) family)
