-- How an opcode's line follows from its row, by shapes.
use Rattle.std.proofs.Common.{◌≡◌, ℕ, ◌+◌, ◌-◌, ◌*◌, ◌%◌, ◌^◌, ◌<◌, ◌≤◌, true, false, ℤ, List, ◌∷◌, Some, length, set, refl, sym, ◌∙◌, ap, subst, arith}
use Rattle.std.specs.Prelude.{slice_index}
use Rattle.std.specs.Int.{w32}
use Rattle.std.specs.Int.RustNames.{FitsSigned}
use Rattle.opcodes.specs.declared.instruction.Instr.{Instr}
use Rattle.opcodes.specs.Bytes.{u1, u2}
use Rattle.opcodes.specs.Form.{Operands, Widened, one, Absent}
use Rattle.opcodes.specs.Instruction.{operands_width}
use Rattle.opcodes.specs.Row as opcodes
use Rattle.opcodes.specs.Reading.{plain_instr, wide_instr}
use Rattle.micro_sketch.specs.Sketch.{Sketch, inside}
use Rattle.micro_sketch.specs.Row.{words_of}
use Rattle.micro_sketch.specs.Operand.{byte_operand, two_byte_operand, past}
use Rattle.micro_sketch.specs.Opcodes as plain
use Rattle.micro_sketch.specs.Opcodes.{PlainOp, OfNumber, OfStack, code_of, IsReady, raises}
use Rattle.micro_sketch.specs.NumberOps.{NumberOp, number_code, number_effect}
use Rattle.micro_sketch.specs.StackOps.{StackOp, stack_code, stack_effect, stack_ready}
use Rattle.bytecode_model.specs.declared.Value.{Value}
use Rattle.bytecode_model.specs.declared.Value.TheVariants.{Long}
use Rattle.bytecode_model.specs.Types.{LongType, Moved, Numbers, is_long, is_moved}
use Rattle.bytecode_model.specs.Program.{Operand}
use Rattle.bytecode_model.specs.Rows as rows
use Rattle.bytecode_model.specs.Rows.{Row, Width, StackForm}
use Rattle.bytecode_model.specs.Table.{row_of}
use Rattle.image_facts.specs.Words.{int_word, high_word, low_word}
use Rattle.machine_stands.specs.Frames.{IsWordOf}
use Rattle.machine_stands.specs.Reading.{operands_of}
use Rattle.opcode_steps.proofs.ValueLemmas.Locals.{is_word}
use Rattle.opcode_steps.proofs.ValueLemmas.Scenes.{Laws, LineWhere, Line, anywhere, Spelled, HasBytes, Scene, line_of, moved}
use Rattle.opcode_steps.proofs.ValueLemmas.Pushing.{pushes_constant, pushes_long_constant}
use Rattle.opcode_steps.proofs.ValueLemmas.Moving.{loads_one, loads_long, stores_one, stores_long, increments}
use Rattle.opcode_steps.proofs.ValueLemmas.Shuffling.{width_words, Arranges, shuffles}

-- ---- how the instruction is read

pub plainly : Laws → (k : ℕ) (o : Operands) (j : ℕ) → operands_of (opcodes.row_of k).form ≡ Some o → 1 + operands_width o ≡ 1 + j → Spelled k anywhere j (λ code pc. plain_instr k code pc o)
plainly laws k o j form long = record { reads = λ P pl n size m answer s s' h mode opcode there. laws.plain P pl n size m answer s s' h k o mode opcode form; long = λ code pc. long }

-- behind `wide`
abbrev pub behind_wide : ℕ → List ℕ → ℕ → Type 0
behind_wide under code pc = u1 code (pc + 1) ≡ under

pub widely : Laws → (under : ℕ) (o w : Operands) (j : ℕ) → (opcodes.row_of under).form ≡ Widened o w → 2 + operands_width w ≡ 1 + j → Spelled 196 (behind_wide under) j (λ code pc. wide_instr under code pc w)
widely laws under o w j form long = record { reads = λ P pl n size m answer s s' h mode opcode there. laws.wide P pl n size m answer s s' h under o w mode opcode there form; long = λ code pc. long }

-- ---- the bytes behind the opcode

pub one_byte : (code : List ℕ) (pc j : ℕ) (x : Sketch) → 0 < j → HasBytes code pc j x → byte_operand x ≡ u1 code (pc + 1)
one_byte code pc j x some h = h.byte 0 some

pub two_bytes : (code : List ℕ) (pc j : ℕ) (x : Sketch) → 1 < j → HasBytes code pc j x → two_byte_operand x ≡ u2 code (pc + 1)
two_bytes code pc j x some h =
    ap (λ (b : ℕ). b * 2 ^ 8 + byte_operand (past 1 x)) (h.byte 0 (omega (arith, some)))
    ∙ ap (λ (b : ℕ). u1 code (pc + 1) * 2 ^ 8 + b) (h.byte 1 some ∙ ap (u1 code) (let same : pc + 2 ≡ pc + 1 + 1 = omega arith in same))

-- those of an opcode behind `wide`
pub wide_bytes : (code : List ℕ) (pc j : ℕ) (x : Sketch) → 2 < j → HasBytes code pc j x → two_byte_operand (past 1 x) ≡ u2 code (pc + 2)
wide_bytes code pc j x some h =
    ap (λ (b : ℕ). b * 2 ^ 8 + byte_operand (past 2 x)) (h.byte 1 (omega (arith, some)))
    ∙ ap (λ (b : ℕ). u1 code (pc + 2) * 2 ^ 8 + b) (h.byte 2 some ∙ ap (u1 code) (let same : pc + 3 ≡ pc + 2 + 1 = omega arith in same))

pub wide_bytes_behind : (code : List ℕ) (pc j : ℕ) (x : Sketch) → 4 < j → HasBytes code pc j x → two_byte_operand (past 3 x) ≡ u2 code (pc + 2 + 2)
wide_bytes_behind code pc j x some h =
    ap (λ (b : ℕ). b * 2 ^ 8 + byte_operand (past 4 x)) (h.byte 3 (omega (arith, some)) ∙ ap (u1 code) (let same : pc + 4 ≡ pc + 2 + 2 = omega arith in same))
    ∙ ap (λ (b : ℕ). u1 code (pc + 2 + 2) * 2 ^ 8 + b) (h.byte 4 some ∙ ap (u1 code) (let same : pc + 5 ≡ pc + 2 + 2 + 1 = omega arith in same))

pub two_small : (code : List ℕ) (pc j : ℕ) (x : Sketch) (place : ℕ) → HasBytes code pc j x → u2 code place < 2 ^ 16
two_small code pc j x place h = omega (arith, h.small place, h.small (place + 1))

-- ---- constants

pub constant : Laws → (k : ℕ) (op : NumberOp) (v : Value) (word : ℕ) → number_code op ≡ k → operands_of (opcodes.row_of k).form ≡ Some (one Absent)
    → ((code : List ℕ) (pc : ℕ) (o : Operand) → row_of code (plain_instr k code pc (one Absent)) o ≡ Some (rows.Push v)) → ((x : Sketch) → number_effect op x ≡ moved (word ∷ words_of x) x.deep 0 x)
    → is_long v ≡ false → ((place : ℕ → ℕ) → IsWordOf place v word) → Line k
constant laws k op v word code form is makes short word_is =
    line_of laws k anywhere (λ code pc. plain_instr k code pc (one Absent)) (λ code pc. rows.Push v) (OfNumber op) 0 (plainly laws k (one Absent) 0 form refl) code is (λ x. refl)
    (pushes_constant laws (λ code pc. plain_instr k code pc (one Absent)) (λ code pc. v) (OfNumber op) 0 anywhere (λ x. word) (λ x. tt) makes (λ code pc. short) (λ code pc x place h. word_is place))

pub long_constant : Laws → (k : ℕ) (op : NumberOp) (v : ℤ) (low high : ℕ) → number_code op ≡ k → operands_of (opcodes.row_of k).form ≡ Some (one Absent)
    → ((code : List ℕ) (pc : ℕ) (o : Operand) → row_of code (plain_instr k code pc (one Absent)) o ≡ Some (rows.Push (Long v))) → ((x : Sketch) → number_effect op x ≡ moved (low ∷ high ∷ words_of x) x.deep 0 x)
    → low ≡ low_word v → high ≡ high_word v → Line k
long_constant laws k op v low high code form is makes is_low is_high =
    line_of laws k anywhere (λ code pc. plain_instr k code pc (one Absent)) (λ code pc. rows.Push (Long v)) (OfNumber op) 0 (plainly laws k (one Absent) 0 form refl) code is (λ x. refl)
    (pushes_long_constant laws (λ code pc. plain_instr k code pc (one Absent)) v (OfNumber op) 0 anywhere low high (λ x. tt) makes is_low is_high)

-- one that stands behind the opcode
pub immediate : Laws → (k : ℕ) (o : Operands) (j : ℕ) (op : NumberOp) (v : List ℕ → ℕ → Value) (word : Sketch → ℕ) → number_code op ≡ k → operands_of (opcodes.row_of k).form ≡ Some o → 1 + operands_width o ≡ 1 + j
    → ((code : List ℕ) (pc : ℕ) (operand : Operand) → row_of code (plain_instr k code pc o) operand ≡ Some (rows.Push (v code pc))) → ((x : Sketch) → number_effect op x ≡ moved (word x ∷ words_of x) x.deep j x)
    → ((code : List ℕ) (pc : ℕ) → is_long (v code pc) ≡ false) → ((code : List ℕ) (pc : ℕ) (x : Sketch) (place : ℕ → ℕ) → HasBytes code pc j x → IsWordOf place (v code pc) (word x)) → Line k
immediate laws k o j op v word code form long is makes short word_is =
    line_of laws k anywhere (λ code pc. plain_instr k code pc o) (λ code pc. rows.Push (v code pc)) (OfNumber op) j (plainly laws k o j form long) code is (λ x. refl)
    (pushes_constant laws (λ code pc. plain_instr k code pc o) v (OfNumber op) j anywhere word (λ x. tt) makes short word_is)

-- ---- local variables

-- index is that of the instruction, a that of the sketch
module _ (laws : Laws) (k : ℕ) (Where : List ℕ → ℕ → Type 0) (j : ℕ) (i : List ℕ → ℕ → Instr) (spelled : Spelled k Where j i) (op : PlainOp) (code_is : code_of op ≡ k) (calm : (x : Sketch) → raises op x ≡ false)
    (index : List ℕ → ℕ → ℕ) (a : Sketch → ℕ) (same : (code : List ℕ) (pc : ℕ) (x : Sketch) → HasBytes code pc j x → a x ≡ index code pc) where
  pub load : (sort : Moved) → ((code : List ℕ) (pc : ℕ) (operand : Operand) → row_of code (i code pc) operand ≡ Some (rows.Load sort (index code pc)))
      → ((code : List ℕ) (pc : ℕ) (x : Sketch) → HasBytes code pc j x → Where code pc → inside (x.vp + a x) x ≡ true → x.vp + a x < 2 ^ 32 → IsReady op x)
      → ((x : Sketch) → plain.effect op x ≡ moved (slice_index x.deep (x.vp + a x - 64) ∷ words_of x) x.deep j x) → ((v : Value) → is_moved sort v ≡ true → is_word v ≡ true) → LineWhere k Where
  load sort is ready makes word =
      line_of laws k Where i (λ code pc. rows.Load sort (index code pc)) op j spelled code_is is calm
      (λ P pl n size m answer s s' st x there at. loads_one laws P pl n size m answer s s' st (i st.body.code st.top.pc) op j x sort (a x)
      (subst (λ (b : ℕ). Scene P pl n size m answer s s' st (i st.body.code st.top.pc) (rows.Load sort b) op j x) (sym (same st.body.code st.top.pc x at.bytes)) at)
      (ready st.body.code st.top.pc x at.bytes there) (makes x) word)

  pub load_long : ((code : List ℕ) (pc : ℕ) (operand : Operand) → row_of code (i code pc) operand ≡ Some (rows.Load (Numbers LongType) (index code pc)))
      → ((code : List ℕ) (pc : ℕ) (x : Sketch) → HasBytes code pc j x → Where code pc → inside (x.vp + a x) x ≡ true → inside (x.vp + (a x + 1)) x ≡ true → x.vp + a x + 1 < 2 ^ 32 → IsReady op x)
      → ((x : Sketch) → plain.effect op x ≡ moved (slice_index x.deep (x.vp + (a x + 1) - 64) ∷ slice_index x.deep (x.vp + a x - 64) ∷ words_of x) x.deep j x) → LineWhere k Where
  load_long is ready makes =
      line_of laws k Where i (λ code pc. rows.Load (Numbers LongType) (index code pc)) op j spelled code_is is calm
      (λ P pl n size m answer s s' st x there at. loads_long laws P pl n size m answer s s' st (i st.body.code st.top.pc) op j x (a x)
      (subst (λ (b : ℕ). Scene P pl n size m answer s s' st (i st.body.code st.top.pc) (rows.Load (Numbers LongType) b) op j x) (sym (same st.body.code st.top.pc x at.bytes)) at)
      (ready st.body.code st.top.pc x at.bytes there) (makes x))

  pub store : (sort : Moved) → ((code : List ℕ) (pc : ℕ) (operand : Operand) → row_of code (i code pc) operand ≡ Some (rows.Store sort (index code pc)))
      → ((code : List ℕ) (pc : ℕ) (x : Sketch) → HasBytes code pc j x → Where code pc → inside (x.vp + a x) x ≡ true → x.vp + a x < 2 ^ 32 → IsReady op x)
      → ((x : Sketch) → plain.effect op x ≡ moved (x.next ∷ x.under) (set x.deep (x.vp + a x - 64) x.top) j x) → ((v : Value) → is_moved sort v ≡ true → is_word v ≡ true) → LineWhere k Where
  store sort is ready makes word =
      line_of laws k Where i (λ code pc. rows.Store sort (index code pc)) op j spelled code_is is calm
      (λ P pl n size m answer s s' st x there at. stores_one laws P pl n size m answer s s' st (i st.body.code st.top.pc) op j x sort (a x)
      (subst (λ (b : ℕ). Scene P pl n size m answer s s' st (i st.body.code st.top.pc) (rows.Store sort b) op j x) (sym (same st.body.code st.top.pc x at.bytes)) at)
      (ready st.body.code st.top.pc x at.bytes there) (makes x) word)

  pub store_long : ((code : List ℕ) (pc : ℕ) (operand : Operand) → row_of code (i code pc) operand ≡ Some (rows.Store (Numbers LongType) (index code pc)))
      → ((code : List ℕ) (pc : ℕ) (x : Sketch) → HasBytes code pc j x → Where code pc → inside (x.vp + a x) x ≡ true → inside (x.vp + (a x + 1)) x ≡ true → x.vp + a x + 1 < 2 ^ 32 → IsReady op x)
      → ((x : Sketch) → plain.effect op x ≡ moved x.under (set (set x.deep (x.vp + (a x + 1) - 64) x.top) (x.vp + a x - 64) x.next) j x) → LineWhere k Where
  store_long is ready makes =
      line_of laws k Where i (λ code pc. rows.Store (Numbers LongType) (index code pc)) op j spelled code_is is calm
      (λ P pl n size m answer s s' st x there at. stores_long laws P pl n size m answer s s' st (i st.body.code st.top.pc) op j x (a x)
      (subst (λ (b : ℕ). Scene P pl n size m answer s s' st (i st.body.code st.top.pc) (rows.Store (Numbers LongType) b) op j x) (sym (same st.body.code st.top.pc x at.bytes)) at)
      (ready st.body.code st.top.pc x at.bytes there) (makes x))

  pub increment : (by : List ℕ → ℕ → ℤ) (word : Sketch → ℕ) → ((code : List ℕ) (pc : ℕ) (operand : Operand) → row_of code (i code pc) operand ≡ Some (rows.Increment (index code pc) (by code pc)))
      → ((code : List ℕ) (pc : ℕ) (x : Sketch) → HasBytes code pc j x → Where code pc → inside (x.vp + a x) x ≡ true → x.vp + a x < 2 ^ 32 → IsReady op x)
      → ((x : Sketch) → plain.effect op x ≡ moved (words_of x) (set x.deep (x.vp + a x - 64) ((slice_index x.deep (x.vp + a x - 64) + word x) % 2 ^ 32)) j x)
      → ((code : List ℕ) (pc : ℕ) (x : Sketch) → HasBytes code pc j x → (word x ≡ int_word (by code pc)) × FitsSigned w32 (by code pc)) → LineWhere k Where
  increment by word is ready makes number =
      line_of laws k Where i (λ code pc. rows.Increment (index code pc) (by code pc)) op j spelled code_is is calm
      (λ P pl n size m answer s s' st x there at. increments laws P pl n size m answer s s' st (i st.body.code st.top.pc) op j x (a x) (by st.body.code st.top.pc) (word x)
      (subst (λ (b : ℕ). Scene P pl n size m answer s s' st (i st.body.code st.top.pc) (rows.Increment b (by st.body.code st.top.pc)) op j x) (sym (same st.body.code st.top.pc x at.bytes)) at)
      (ready st.body.code st.top.pc x at.bytes there) (makes x) (number st.body.code st.top.pc x at.bytes).0 (number st.body.code st.top.pc x at.bytes).1)

-- ---- the operand stack

pub shuffled : Laws → (k : ℕ) (op : StackOp) (form : StackForm) (upper lower : Width) (f : List ℕ → List ℕ) → stack_code op ≡ k → operands_of (opcodes.row_of k).form ≡ Some (one Absent)
    → ((code : List ℕ) (pc : ℕ) (o : Operand) → row_of code (plain_instr k code pc (one Absent)) o ≡ Some (rows.Shuffle form upper lower))
    → ((x : Sketch) → width_words upper + width_words lower + 3 ≤ length x.under → stack_ready op x) → ((x : Sketch) → stack_effect op x ≡ moved (f (words_of x)) x.deep 0 x) → Arranges form upper lower f → Line k
shuffled laws k op form upper lower f code fixed is ready makes arranges =
    line_of laws k anywhere (λ code pc. plain_instr k code pc (one Absent)) (λ code pc. rows.Shuffle form upper lower) (OfStack op) 0 (plainly laws k (one Absent) 0 fixed refl) code is (λ x. refl)
    (λ P pl n size m answer s s' st x there at. shuffles laws P pl n size m answer s s' st (plain_instr k st.body.code st.top.pc (one Absent)) (OfStack op) x form upper lower f at (ready x) (makes x) arranges)
