-- The lines of constants of the pool: of ints, longs and strings.
use Rattle.std.proofs.Common.{◌≡◌, ◌≢◌, ℕ, ◌+◌, ◌*◌, ◌%◌, ◌^◌, ◌<◌, pos, List, ◌∷◌, Option, Some, refl, sym, ◌∙◌, ap, subst, arith}
use Rattle.std.specs.Prelude.{slice_index}
use Rattle.std.proofs.lemmas.List.{get_or-drop}
use Rattle.std.proofs.lemmas.Option.{none-some}
use Rattle.std.proofs.Math.Nat.{mod-eq_of_lt}
use Rattle.lists.proofs.Lemmas.{some_same}
use Rattle.opcodes.specs.declared.instruction.Instr.{Instr}
use Rattle.opcodes.specs.Bytes.{u1, u2}
use Rattle.opcodes.specs.Form.{Operands, one, UnsignedByte, UnsignedShort}
use Rattle.opcodes.specs.Instruction.{operands_width}
use Rattle.opcodes.specs.Row as opcodes
use Rattle.opcodes.specs.Reading.{plain_instr}
use Rattle.jop_core.specs.State as machine
use Rattle.micro_sketch.specs.Sketch.{Sketch}
use Rattle.micro_sketch.specs.Row.{words_of}
use Rattle.micro_sketch.specs.Operand.{byte_operand, two_byte_operand, pool_word, second_pool_word}
use Rattle.micro_sketch.specs.Opcodes.{OfNumber}
use Rattle.micro_sketch.specs.NumberOps.{NumberOp, Ldc, LdcW, Ldc2W, number_code, number_effect}
use Rattle.bytecode_model.specs.declared.Value.TheVariants.{Int, Long, Ref}
use Rattle.bytecode_model.specs.State.{State}
use Rattle.bytecode_model.specs.Program.{Program, Operand, NoOperand, AnInt, ALong, AString, AStatic, AField, AMethod, AType}
use Rattle.bytecode_model.specs.Rows as rows
use Rattle.bytecode_model.specs.Rows.{Row}
use Rattle.bytecode_model.specs.Table.{row_of}
use Rattle.bytecode_model.specs.Table as table
use Rattle.bytecode_model.specs.Effects.{effect}
use Rattle.image_facts.specs.Places.{Places, pool_of}
use Rattle.image_facts.specs.Says.{Means}
use Rattle.machine_stands.specs.StandsFor.{StandsFor, limits_of}
use Rattle.machine_stands.specs.Comes.{ComesTo}
use Rattle.machine_stands.specs.Simulates.{IsStep}
use Rattle.machine_stands.specs.Reading.{operands_of}
use Rattle.machine_stands.specs.Fixed.{IsPoolEntry}
use Rattle.opcode_steps.proofs.ValueLemmas.Scenes.{Laws, Line, HasBytes, Scene, scene, moved}
use Rattle.opcode_steps.proofs.ValueLemmas.Pushing.{pushes_one, pushes_long}
use Rattle.opcode_steps.proofs.ValueLemmas.Shapes.{one_byte, two_bytes}

-- ---- the words of an entry, as the row reads them

record ReadsPool (P : Program) (pl : Places) (m : machine.MachineState) (method : ℕ) (index a : ℕ) (x : Sketch) : Type 0 where
  first : pool_word x a ≡ slice_index m.port.words (pool_of P pl method + 2 * index)
  second : second_pool_word x a ≡ slice_index m.port.words (pool_of P pl method + 2 * index + 1)

pool_read : (P : Program) (pl : Places) (n size : ℕ) (m : machine.MachineState) (s s' : State) (answer : Option ℕ) (st : StandsFor P pl n size m s) (i : Instr) (r : Row) (op : NumberOp) (j : ℕ) (x : Sketch) (index a : ℕ)
    → Scene P pl n size m answer s s' st i r (OfNumber op) j x → a ≡ index → pool_of P pl st.top.method + 2 * index + 1 < size → ReadsPool P pl m st.top.method index a x
pool_read P pl n size m s s' answer st i r op j x index a at same within =
    let pool : slice_index x.low 24 ≡ pool_of P pl st.top.method = sym (get_or-drop 24 x.low 0 0) ∙ ap (λ (ws : List ℕ). slice_index ws 0) at.shows.low in
    let small : size < 2 ^ 32 = st.sizes.small in
    let place : (slice_index x.low 24 + 2 * a) % 2 ^ 32 ≡ pool_of P pl st.top.method + 2 * index =
    ap (λ (k : ℕ). (k + 2 * a) % 2 ^ 32) pool ∙ ap (λ (k : ℕ). (pool_of P pl st.top.method + 2 * k) % 2 ^ 32) same ∙ mod-eq_of_lt (omega (arith, within, small)) in
    let next : ((slice_index x.low 24 + 2 * a) % 2 ^ 32 + 1) % 2 ^ 32 ≡ pool_of P pl st.top.method + 2 * index + 1 = ap (λ (k : ℕ). (k + 1) % 2 ^ 32) place ∙ mod-eq_of_lt (omega (arith, within, small)) in
    record {
      first = ap (slice_index x.memory) place ∙ ap (λ (ws : List ℕ). slice_index ws (pool_of P pl st.top.method + 2 * index)) at.memory;
      second = ap (slice_index x.memory) next ∙ ap (λ (ws : List ℕ). slice_index ws (pool_of P pl st.top.method + 2 * index + 1)) at.memory;
    }

-- ---- the row by what the entry means

abbrev IsConstant : Operand → Row → Type 0
IsConstant (AnInt v) r = r ≡ rows.Push (Int v)
IsConstant (AString p) r = r ≡ rows.Push (Ref p)
IsConstant o r = ⊥

is_constant : (code : List ℕ) (i : Instr) (o : Operand) (r : Row) → table.constant code i o ≡ Some r → IsConstant o r
is_constant code i (AnInt v) r h = sym (some_same (rows.Push (Int v)) r h)
is_constant code i (AString p) r h = sym (some_same (rows.Push (Ref p)) r h)
is_constant code i NoOperand r h = absurd (none-some r h)
is_constant code i (ALong v) r h = absurd (none-some r h)
is_constant code i (AStatic f) r h = absurd (none-some r h)
is_constant code i (AField c k e) r h = absurd (none-some r h)
is_constant code i (AMethod c k) r h = absurd (none-some r h)
is_constant code i (AType k) r h = absurd (none-some r h)

abbrev IsLongConstant : Operand → Row → Type 0
IsLongConstant (ALong v) r = r ≡ rows.Push (Long v)
IsLongConstant o r = ⊥

is_long_constant : (code : List ℕ) (i : Instr) (o : Operand) (r : Row) → table.long_constant code i o ≡ Some r → IsLongConstant o r
is_long_constant code i (ALong v) r h = sym (some_same (rows.Push (Long v)) r h)
is_long_constant code i NoOperand r h = absurd (none-some r h)
is_long_constant code i (AnInt v) r h = absurd (none-some r h)
is_long_constant code i (AString p) r h = absurd (none-some r h)
is_long_constant code i (AStatic f) r h = absurd (none-some r h)
is_long_constant code i (AField c k e) r h = absurd (none-some r h)
is_long_constant code i (AMethod c k) r h = absurd (none-some r h)
is_long_constant code i (AType k) r h = absurd (none-some r h)

module _ (laws : Laws) (P : Program) (pl : Places) (n size : ℕ) (m : machine.MachineState) (answer : Option ℕ) (s s' : State) (h : IsStep P pl n size m answer s s') (i : Instr) (r : Row) (op : NumberOp) (j : ℕ) (x : Sketch) (index a : ℕ)
    (at : Scene P pl n size m answer s s' h.stands i r (OfNumber op) j x) (same : a ≡ index) where
  -- an int or a string
  pushes_of_pool : (o : Operand) → P.operand h.stands.top.method h.stands.top.pc ≡ o → IsConstant o r → (o ≢ NoOperand → IsPoolEntry P pl size m i.op h.stands.top.method h.stands.top.pc index)
      → number_effect op x ≡ moved (pool_word x a ∷ words_of x) x.deep j x → ComesTo P pl n size m s s'
  pushes_of_pool (AnInt v) is row entries makes =
      let entry = entries (λ none. cc) in
      let means = subst (λ (o : Operand). Means P pl i.op o entry.first entry.second) is entry.means in
      let read = pool_read P pl n size m s s' answer h.stands i r op j x index a at same entry.within in
      pushes_one laws P pl n size m answer s s' h.stands i r (OfNumber op) j x (Int v) (pool_word x a) at tt makes
      (ap (λ (q : Row). effect P (limits_of P pl n size) s h.stands.top (h.stands.top.pc + i.length) q) row) refl (read.first ∙ entry.first_is ∙ means)
  pushes_of_pool (AString p) is row entries makes =
      let entry = entries (λ none. cc) in
      let means = subst (λ (o : Operand). Means P pl i.op o entry.first entry.second) is entry.means in
      let read = pool_read P pl n size m s s' answer h.stands i r op j x index a at same entry.within in
      pushes_one laws P pl n size m answer s s' h.stands i r (OfNumber op) j x (Ref p) (pool_word x a) at tt makes
      (ap (λ (q : Row). effect P (limits_of P pl n size) s h.stands.top (h.stands.top.pc + i.length) q) row) refl
      (read.first ∙ entry.first_is ∙ means.0 ∙ sym (laws.stay P pl (limits_of P pl n size) s p h.says.first h.well_formed (omega (arith, means.1))))
  pushes_of_pool NoOperand is row entries makes = absurd row
  pushes_of_pool (ALong v) is row entries makes = absurd row
  pushes_of_pool (AStatic f) is row entries makes = absurd row
  pushes_of_pool (AField c k e) is row entries makes = absurd row
  pushes_of_pool (AMethod c k) is row entries makes = absurd row
  pushes_of_pool (AType k) is row entries makes = absurd row

  pushes_long_of_pool : (o : Operand) → P.operand h.stands.top.method h.stands.top.pc ≡ o → IsLongConstant o r → (o ≢ NoOperand → IsPoolEntry P pl size m i.op h.stands.top.method h.stands.top.pc index)
      → number_effect op x ≡ moved (second_pool_word x a ∷ pool_word x a ∷ words_of x) x.deep j x → ComesTo P pl n size m s s'
  pushes_long_of_pool (ALong v) is row entries makes =
      let entry = entries (λ none. cc) in
      let means = subst (λ (o : Operand). Means P pl i.op o entry.first entry.second) is entry.means in
      let read = pool_read P pl n size m s s' answer h.stands i r op j x index a at same entry.within in
      pushes_long laws P pl n size m answer s s' h.stands i r (OfNumber op) j x v (second_pool_word x a) (pool_word x a) at tt makes
      (ap (λ (q : Row). effect P (limits_of P pl n size) s h.stands.top (h.stands.top.pc + i.length) q) row) (read.second ∙ entry.second_is ∙ means.1) (read.first ∙ entry.first_is ∙ means.0)
  pushes_long_of_pool NoOperand is row entries makes = absurd row
  pushes_long_of_pool (AnInt v) is row entries makes = absurd row
  pushes_long_of_pool (AString p) is row entries makes = absurd row
  pushes_long_of_pool (AStatic f) is row entries makes = absurd row
  pushes_long_of_pool (AField c k e) is row entries makes = absurd row
  pushes_long_of_pool (AMethod c k) is row entries makes = absurd row
  pushes_long_of_pool (AType k) is row entries makes = absurd row

-- ---- the lines

module _ (laws : Laws) (k : ℕ) (o : Operands) (j : ℕ) (op : NumberOp) (index : List ℕ → ℕ → ℕ) (a : Sketch → ℕ) (code_is : number_code op ≡ k) (form : operands_of (opcodes.row_of k).form ≡ Some o)
    (long : 1 + operands_width o ≡ 1 + j) (first : (code : List ℕ) (pc : ℕ) → (plain_instr k code pc o).first ≡ pos (index code pc))
    (same : (code : List ℕ) (pc : ℕ) (x : Sketch) → HasBytes code pc j x → a x ≡ index code pc) where
  one_of_pool : ((code : List ℕ) (pc : ℕ) (operand : Operand) → row_of code (plain_instr k code pc o) operand ≡ table.constant code (plain_instr k code pc o) operand)
      → ((x : Sketch) → number_effect op x ≡ moved (pool_word x (a x) ∷ words_of x) x.deep j x) → Line k
  one_of_pool is makes P pl n size m answer s s' h mode opcode there =
      let st = h.stands in
      let i = plain_instr k st.body.code st.top.pc o in
      let read = laws.plain P pl n size m answer s s' h k o mode opcode form in
      let named = P.operand st.top.method st.top.pc in
      let at = scene laws P pl n size m answer s s' h i read.0 (OfNumber op) j mode (opcode ∙ sym code_is) long (λ x. refl) read.1 in
      pushes_of_pool laws P pl n size m answer s s' h i read.0 op j _ (index st.body.code st.top.pc) _ at (same st.body.code st.top.pc _ at.bytes) named refl
      (is_constant st.body.code i named read.0 (sym (is st.body.code st.top.pc named) ∙ read.1.is_row))
      (λ some. laws.pools P pl n size m answer s s' h i read.0 (index st.body.code st.top.pc) mode read.1 (first st.body.code st.top.pc) some) (makes _)

  long_of_pool : ((code : List ℕ) (pc : ℕ) (operand : Operand) → row_of code (plain_instr k code pc o) operand ≡ table.long_constant code (plain_instr k code pc o) operand)
      → ((x : Sketch) → number_effect op x ≡ moved (second_pool_word x (a x) ∷ pool_word x (a x) ∷ words_of x) x.deep j x) → Line k
  long_of_pool is makes P pl n size m answer s s' h mode opcode there =
      let st = h.stands in
      let i = plain_instr k st.body.code st.top.pc o in
      let read = laws.plain P pl n size m answer s s' h k o mode opcode form in
      let named = P.operand st.top.method st.top.pc in
      let at = scene laws P pl n size m answer s s' h i read.0 (OfNumber op) j mode (opcode ∙ sym code_is) long (λ x. refl) read.1 in
      pushes_long_of_pool laws P pl n size m answer s s' h i read.0 op j _ (index st.body.code st.top.pc) _ at (same st.body.code st.top.pc _ at.bytes) named refl
      (is_long_constant st.body.code i named read.0 (sym (is st.body.code st.top.pc named) ∙ read.1.is_row))
      (λ some. laws.pools P pl n size m answer s s' h i read.0 (index st.body.code st.top.pc) mode read.1 (first st.body.code st.top.pc) some) (makes _)

pub ldc : Laws → Line 18
unfolding opcodes.row_of row_of
ldc laws = one_of_pool laws 18 (one UnsignedByte) 1 Ldc (λ code pc. u1 code (pc + 1)) byte_operand refl refl refl (λ code pc. refl) (λ code pc x h. one_byte code pc 1 x (omega arith) h) (λ code pc o. refl) (λ x. refl)

pub ldc_w : Laws → Line 19
unfolding opcodes.row_of row_of
ldc_w laws =
    one_of_pool laws 19 (one UnsignedShort) 2 LdcW (λ code pc. u2 code (pc + 1)) two_byte_operand refl refl refl (λ code pc. refl) (λ code pc x h. two_bytes code pc 2 x (omega arith) h) (λ code pc o. refl) (λ x. refl)

pub ldc2_w : Laws → Line 20
unfolding opcodes.row_of row_of
ldc2_w laws =
    long_of_pool laws 20 (one UnsignedShort) 2 Ldc2W (λ code pc. u2 code (pc + 1)) two_byte_operand refl refl refl (λ code pc. refl) (λ code pc x h. two_bytes code pc 2 x (omega arith) h) (λ code pc o. refl) (λ x. refl)
