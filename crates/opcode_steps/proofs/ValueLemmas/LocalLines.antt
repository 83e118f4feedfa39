-- The lines of loads and stores, of the increment, and of these behind `wide`.
use Rattle.std.proofs.Common.{◌≡◌, ℕ, ◌+◌, ◌-◌, ◌^◌, ◌<◌, true, List, ◌∷◌, Some, set, refl, ◌∙◌, ap, arith}
use Rattle.std.specs.Prelude.{slice_index}
use Rattle.base.specs.Signed.{sign_extended8, sign_extended16}
use Rattle.opcodes.specs.Bytes.{u1, u2, s1, s2}
use Rattle.opcodes.specs.Form.{one, two, Absent, UnsignedByte, UnsignedShort, SignedByte, SignedShort}
use Rattle.opcodes.specs.Row as opcodes
use Rattle.opcodes.specs.Reading.{plain_instr, wide_instr}
use Rattle.micro_sketch.specs.Sketch.{Sketch, inside}
use Rattle.micro_sketch.specs.Row.{words_of}
use Rattle.micro_sketch.specs.Operand.{byte_operand}
use Rattle.micro_sketch.specs.Opcodes.{OfLocal, OfWide}
use Rattle.micro_sketch.specs.LocalOps.{LocalOp, Iload, Lload, Aload, Iload0, Iload1, Iload2, Iload3, Lload0, Lload1, Lload2, Lload3, Aload0, Aload1, Aload2, Aload3, Istore, Lstore, Astore, Istore0, Istore1, Istore2, Istore3, Lstore0, Lstore1, Lstore2, Lstore3, Astore0, Astore1, Astore2, Astore3, Iinc, local_code, local_effect, local_ready}
use Rattle.micro_sketch.specs.LocalOps as local
use Rattle.micro_sketch.specs.WideOps.{WideIload, WideLload, WideAload, WideIstore, WideLstore, WideAstore, WideIinc, wide_index, wide_increment}
use Rattle.bytecode_model.specs.declared.Value.{Value}
use Rattle.bytecode_model.specs.declared.Value.TheVariants.{Int, Long, Ref, Null, Unset}
use Rattle.bytecode_model.specs.Types.{IntType, LongType, Moved, Numbers, References, is_moved}
use Rattle.bytecode_model.specs.Program.{Operand}
use Rattle.bytecode_model.specs.Rows as rows
use Rattle.bytecode_model.specs.Table.{row_of}
use Rattle.image_facts.specs.Words.{int_word}
use Rattle.machine_stands.specs.Reading.{operands_of}
use Rattle.opcode_steps.proofs.ValueLemmas.Ints.{extended8, extended16, fits8, fits16}
use Rattle.opcode_steps.proofs.ValueLemmas.Locals.{is_word}
use Rattle.opcode_steps.proofs.ValueLemmas.Scenes.{Laws, Line, LineWhere, anywhere, moved}
use Rattle.opcode_steps.proofs.ValueLemmas.Shapes.{plainly, widely, behind_wide, one_byte, wide_bytes, wide_bytes_behind, two_small, load, load_long, store, store_long, increment}

int_words : (v : Value) → is_moved (Numbers IntType) v ≡ true → is_word v ≡ true
int_words (Int n) h = refl
int_words (Long n) h = absurd (cc)
int_words (Ref p) h = absurd (cc)
int_words Null h = absurd (cc)
int_words Unset h = absurd (cc)

reference_words : (v : Value) → is_moved References v ≡ true → is_word v ≡ true
reference_words (Ref p) h = refl
reference_words Null h = refl
reference_words (Int n) h = absurd (cc)
reference_words (Long n) h = absurd (cc)
reference_words Unset h = absurd (cc)

-- ---- of a local variable that the opcode names

module _ (laws : Laws) (k : ℕ) (op : LocalOp) (a : ℕ) (code_is : local_code op ≡ k) (form : operands_of (opcodes.row_of k).form ≡ Some (one Absent)) where
  short_load : (sort : Moved) → ((code : List ℕ) (pc : ℕ) (o : Operand) → row_of code (plain_instr k code pc (one Absent)) o ≡ Some (rows.Load sort a)) → ((x : Sketch) → inside (x.vp + a) x ≡ true → local_ready op x)
      → ((x : Sketch) → local_effect op x ≡ moved (slice_index x.deep (x.vp + a - 64) ∷ words_of x) x.deep 0 x) → ((v : Value) → is_moved sort v ≡ true → is_word v ≡ true) → Line k
  short_load sort is ready makes word =
      load laws k anywhere 0 (λ code pc. plain_instr k code pc (one Absent)) (plainly laws k (one Absent) 0 form refl) (OfLocal op) code_is (λ x. refl) (λ code pc. a) (λ x. a) (λ code pc x h. refl) sort is
      (λ code pc x h there in_place small. ready x in_place) makes word

  short_load_long : ((code : List ℕ) (pc : ℕ) (o : Operand) → row_of code (plain_instr k code pc (one Absent)) o ≡ Some (rows.Load (Numbers LongType) a))
      → ((x : Sketch) → inside (x.vp + a) x ≡ true → inside (x.vp + (a + 1)) x ≡ true → x.vp + a + 1 < 2 ^ 32 → local_ready op x)
      → ((x : Sketch) → local_effect op x ≡ moved (slice_index x.deep (x.vp + (a + 1) - 64) ∷ slice_index x.deep (x.vp + a - 64) ∷ words_of x) x.deep 0 x) → Line k
  short_load_long is ready makes =
      load_long laws k anywhere 0 (λ code pc. plain_instr k code pc (one Absent)) (plainly laws k (one Absent) 0 form refl) (OfLocal op) code_is (λ x. refl) (λ code pc. a) (λ x. a) (λ code pc x h. refl) is
      (λ code pc x h there. ready x) makes

  short_store : (sort : Moved) → ((code : List ℕ) (pc : ℕ) (o : Operand) → row_of code (plain_instr k code pc (one Absent)) o ≡ Some (rows.Store sort a)) → ((x : Sketch) → inside (x.vp + a) x ≡ true → local_ready op x)
      → ((x : Sketch) → local_effect op x ≡ moved (x.next ∷ x.under) (set x.deep (x.vp + a - 64) x.top) 0 x) → ((v : Value) → is_moved sort v ≡ true → is_word v ≡ true) → Line k
  short_store sort is ready makes word =
      store laws k anywhere 0 (λ code pc. plain_instr k code pc (one Absent)) (plainly laws k (one Absent) 0 form refl) (OfLocal op) code_is (λ x. refl) (λ code pc. a) (λ x. a) (λ code pc x h. refl) sort is
      (λ code pc x h there in_place small. ready x in_place) makes word

  short_store_long : ((code : List ℕ) (pc : ℕ) (o : Operand) → row_of code (plain_instr k code pc (one Absent)) o ≡ Some (rows.Store (Numbers LongType) a))
      → ((x : Sketch) → inside (x.vp + a) x ≡ true → inside (x.vp + (a + 1)) x ≡ true → x.vp + a + 1 < 2 ^ 32 → local_ready op x)
      → ((x : Sketch) → local_effect op x ≡ moved x.under (set (set x.deep (x.vp + (a + 1) - 64) x.top) (x.vp + a - 64) x.next) 0 x) → Line k
  short_store_long is ready makes =
      store_long laws k anywhere 0 (λ code pc. plain_instr k code pc (one Absent)) (plainly laws k (one Absent) 0 form refl) (OfLocal op) code_is (λ x. refl) (λ code pc. a) (λ x. a) (λ code pc x h. refl) is
      (λ code pc x h there. ready x) makes

pub iload_0 : Laws → Line 26
unfolding opcodes.row_of row_of
iload_0 laws = short_load laws 26 Iload0 0 refl refl (Numbers IntType) (λ code pc o. refl) (λ x h. h) (λ x. refl) int_words

pub iload_1 : Laws → Line 27
unfolding opcodes.row_of row_of
iload_1 laws = short_load laws 27 Iload1 1 refl refl (Numbers IntType) (λ code pc o. refl) (λ x h. h) (λ x. refl) int_words

pub iload_2 : Laws → Line 28
unfolding opcodes.row_of row_of
iload_2 laws = short_load laws 28 Iload2 2 refl refl (Numbers IntType) (λ code pc o. refl) (λ x h. h) (λ x. refl) int_words

pub iload_3 : Laws → Line 29
unfolding opcodes.row_of row_of
iload_3 laws = short_load laws 29 Iload3 3 refl refl (Numbers IntType) (λ code pc o. refl) (λ x h. h) (λ x. refl) int_words

pub lload_0 : Laws → Line 30
unfolding opcodes.row_of row_of
lload_0 laws = short_load_long laws 30 Lload0 0 refl refl (λ code pc o. refl) (λ x high low word. record { high = high; low = low; word = word }) (λ x. refl)

pub lload_1 : Laws → Line 31
unfolding opcodes.row_of row_of
lload_1 laws = short_load_long laws 31 Lload1 1 refl refl (λ code pc o. refl) (λ x high low word. record { high = high; low = low; word = word }) (λ x. refl)

pub lload_2 : Laws → Line 32
unfolding opcodes.row_of row_of
lload_2 laws = short_load_long laws 32 Lload2 2 refl refl (λ code pc o. refl) (λ x high low word. record { high = high; low = low; word = word }) (λ x. refl)

pub lload_3 : Laws → Line 33
unfolding opcodes.row_of row_of
lload_3 laws = short_load_long laws 33 Lload3 3 refl refl (λ code pc o. refl) (λ x high low word. record { high = high; low = low; word = word }) (λ x. refl)

pub aload_0 : Laws → Line 42
unfolding opcodes.row_of row_of
aload_0 laws = short_load laws 42 Aload0 0 refl refl References (λ code pc o. refl) (λ x h. h) (λ x. refl) reference_words

pub aload_1 : Laws → Line 43
unfolding opcodes.row_of row_of
aload_1 laws = short_load laws 43 Aload1 1 refl refl References (λ code pc o. refl) (λ x h. h) (λ x. refl) reference_words

pub aload_2 : Laws → Line 44
unfolding opcodes.row_of row_of
aload_2 laws = short_load laws 44 Aload2 2 refl refl References (λ code pc o. refl) (λ x h. h) (λ x. refl) reference_words

pub aload_3 : Laws → Line 45
unfolding opcodes.row_of row_of
aload_3 laws = short_load laws 45 Aload3 3 refl refl References (λ code pc o. refl) (λ x h. h) (λ x. refl) reference_words

pub istore_0 : Laws → Line 59
unfolding opcodes.row_of row_of
istore_0 laws = short_store laws 59 Istore0 0 refl refl (Numbers IntType) (λ code pc o. refl) (λ x h. h) (λ x. refl) int_words

pub istore_1 : Laws → Line 60
unfolding opcodes.row_of row_of
istore_1 laws = short_store laws 60 Istore1 1 refl refl (Numbers IntType) (λ code pc o. refl) (λ x h. h) (λ x. refl) int_words

pub istore_2 : Laws → Line 61
unfolding opcodes.row_of row_of
istore_2 laws = short_store laws 61 Istore2 2 refl refl (Numbers IntType) (λ code pc o. refl) (λ x h. h) (λ x. refl) int_words

pub istore_3 : Laws → Line 62
unfolding opcodes.row_of row_of
istore_3 laws = short_store laws 62 Istore3 3 refl refl (Numbers IntType) (λ code pc o. refl) (λ x h. h) (λ x. refl) int_words

pub lstore_0 : Laws → Line 63
unfolding opcodes.row_of row_of
lstore_0 laws = short_store_long laws 63 Lstore0 0 refl refl (λ code pc o. refl) (λ x high low word. record { high = high; low = low; word = word }) (λ x. refl)

pub lstore_1 : Laws → Line 64
unfolding opcodes.row_of row_of
lstore_1 laws = short_store_long laws 64 Lstore1 1 refl refl (λ code pc o. refl) (λ x high low word. record { high = high; low = low; word = word }) (λ x. refl)

pub lstore_2 : Laws → Line 65
unfolding opcodes.row_of row_of
lstore_2 laws = short_store_long laws 65 Lstore2 2 refl refl (λ code pc o. refl) (λ x high low word. record { high = high; low = low; word = word }) (λ x. refl)

pub lstore_3 : Laws → Line 66
unfolding opcodes.row_of row_of
lstore_3 laws = short_store_long laws 66 Lstore3 3 refl refl (λ code pc o. refl) (λ x high low word. record { high = high; low = low; word = word }) (λ x. refl)

pub astore_0 : Laws → Line 75
unfolding opcodes.row_of row_of
astore_0 laws = short_store laws 75 Astore0 0 refl refl References (λ code pc o. refl) (λ x h. h) (λ x. refl) reference_words

pub astore_1 : Laws → Line 76
unfolding opcodes.row_of row_of
astore_1 laws = short_store laws 76 Astore1 1 refl refl References (λ code pc o. refl) (λ x h. h) (λ x. refl) reference_words

pub astore_2 : Laws → Line 77
unfolding opcodes.row_of row_of
astore_2 laws = short_store laws 77 Astore2 2 refl refl References (λ code pc o. refl) (λ x h. h) (λ x. refl) reference_words

pub astore_3 : Laws → Line 78
unfolding opcodes.row_of row_of
astore_3 laws = short_store laws 78 Astore3 3 refl refl References (λ code pc o. refl) (λ x h. h) (λ x. refl) reference_words

-- ---- of one by its index in a byte

pub iload : Laws → Line 21
unfolding opcodes.row_of row_of
iload laws =
    load laws 21 anywhere 1 (λ code pc. plain_instr 21 code pc (one UnsignedByte)) (plainly laws 21 (one UnsignedByte) 1 refl refl) (OfLocal Iload) refl (λ x. refl) (λ code pc. u1 code (pc + 1)) byte_operand
    (λ code pc x h. one_byte code pc 1 x (omega arith) h) (Numbers IntType) (λ code pc o. refl) (λ code pc x h there in_place small. in_place) (λ x. refl) int_words

pub lload : Laws → Line 22
unfolding opcodes.row_of row_of
lload laws =
    load_long laws 22 anywhere 1 (λ code pc. plain_instr 22 code pc (one UnsignedByte)) (plainly laws 22 (one UnsignedByte) 1 refl refl) (OfLocal Lload) refl (λ x. refl) (λ code pc. u1 code (pc + 1)) byte_operand
    (λ code pc x h. one_byte code pc 1 x (omega arith) h) (λ code pc o. refl) (λ code pc x h there high low word. record { high = high; low = low; word = word }) (λ x. refl)

pub aload : Laws → Line 25
unfolding opcodes.row_of row_of
aload laws =
    load laws 25 anywhere 1 (λ code pc. plain_instr 25 code pc (one UnsignedByte)) (plainly laws 25 (one UnsignedByte) 1 refl refl) (OfLocal Aload) refl (λ x. refl) (λ code pc. u1 code (pc + 1)) byte_operand
    (λ code pc x h. one_byte code pc 1 x (omega arith) h) References (λ code pc o. refl) (λ code pc x h there in_place small. in_place) (λ x. refl) reference_words

pub istore : Laws → Line 54
unfolding opcodes.row_of row_of
istore laws =
    store laws 54 anywhere 1 (λ code pc. plain_instr 54 code pc (one UnsignedByte)) (plainly laws 54 (one UnsignedByte) 1 refl refl) (OfLocal Istore) refl (λ x. refl) (λ code pc. u1 code (pc + 1)) byte_operand
    (λ code pc x h. one_byte code pc 1 x (omega arith) h) (Numbers IntType) (λ code pc o. refl) (λ code pc x h there in_place small. in_place) (λ x. refl) int_words

pub lstore : Laws → Line 55
unfolding opcodes.row_of row_of
lstore laws =
    store_long laws 55 anywhere 1 (λ code pc. plain_instr 55 code pc (one UnsignedByte)) (plainly laws 55 (one UnsignedByte) 1 refl refl) (OfLocal Lstore) refl (λ x. refl) (λ code pc. u1 code (pc + 1)) byte_operand
    (λ code pc x h. one_byte code pc 1 x (omega arith) h) (λ code pc o. refl) (λ code pc x h there high low word. record { high = high; low = low; word = word }) (λ x. refl)

pub astore : Laws → Line 58
unfolding opcodes.row_of row_of
astore laws =
    store laws 58 anywhere 1 (λ code pc. plain_instr 58 code pc (one UnsignedByte)) (plainly laws 58 (one UnsignedByte) 1 refl refl) (OfLocal Astore) refl (λ x. refl) (λ code pc. u1 code (pc + 1)) byte_operand
    (λ code pc x h. one_byte code pc 1 x (omega arith) h) References (λ code pc o. refl) (λ code pc x h there in_place small. in_place) (λ x. refl) reference_words

pub iinc : Laws → Line 132
unfolding opcodes.row_of row_of
iinc laws =
    increment laws 132 anywhere 2 (λ code pc. plain_instr 132 code pc (two UnsignedByte SignedByte)) (plainly laws 132 (two UnsignedByte SignedByte) 2 refl refl) (OfLocal Iinc) refl (λ x. refl) (λ code pc. u1 code (pc + 1)) byte_operand
    (λ code pc x h. one_byte code pc 2 x (omega arith) h) (λ code pc. s1 code (pc + 1 + 1)) local.increment (λ code pc o. refl) (λ code pc x h there in_place small. (in_place, small)) (λ x. refl)
    (λ code pc x h. (
      ap sign_extended8 (h.byte 1 (omega arith)) ∙ extended8 (u1 code (pc + 2)) (h.small (pc + 2)) ∙ ap (λ (place : ℕ). int_word (s1 code place)) (let same : pc + 2 ≡ pc + 1 + 1 = omega arith in same),
      fits8 (u1 code (pc + 1 + 1)) (h.small (pc + 1 + 1)),
    ))

-- ---- behind `wide`

pub wide_iload : Laws → LineWhere 196 (behind_wide 21)
unfolding opcodes.row_of row_of
wide_iload laws =
    load laws 196 (behind_wide 21) 3 (λ code pc. wide_instr 21 code pc (one UnsignedShort)) (widely laws 21 (one UnsignedByte) (one UnsignedShort) 3 refl refl) (OfWide WideIload) refl (λ x. refl)
    (λ code pc. u2 code (pc + 2)) wide_index (λ code pc x h. wide_bytes code pc 3 x (omega arith) h) (Numbers IntType) (λ code pc o. refl)
    (λ code pc x h there in_place small. record { under = one_byte code pc 3 x (omega arith) h ∙ there; inside = in_place; word = small }) (λ x. refl) int_words

pub wide_lload : Laws → LineWhere 196 (behind_wide 22)
unfolding opcodes.row_of row_of
wide_lload laws =
    load_long laws 196 (behind_wide 22) 3 (λ code pc. wide_instr 22 code pc (one UnsignedShort)) (widely laws 22 (one UnsignedByte) (one UnsignedShort) 3 refl refl) (OfWide WideLload) refl (λ x. refl)
    (λ code pc. u2 code (pc + 2)) wide_index (λ code pc x h. wide_bytes code pc 3 x (omega arith) h) (λ code pc o. refl)
    (λ code pc x h there high low word. record { under = one_byte code pc 3 x (omega arith) h ∙ there; long = record { high = high; low = low; word = word } }) (λ x. refl)

pub wide_aload : Laws → LineWhere 196 (behind_wide 25)
unfolding opcodes.row_of row_of
wide_aload laws =
    load laws 196 (behind_wide 25) 3 (λ code pc. wide_instr 25 code pc (one UnsignedShort)) (widely laws 25 (one UnsignedByte) (one UnsignedShort) 3 refl refl) (OfWide WideAload) refl (λ x. refl)
    (λ code pc. u2 code (pc + 2)) wide_index (λ code pc x h. wide_bytes code pc 3 x (omega arith) h) References (λ code pc o. refl)
    (λ code pc x h there in_place small. record { under = one_byte code pc 3 x (omega arith) h ∙ there; inside = in_place; word = small }) (λ x. refl) reference_words

pub wide_istore : Laws → LineWhere 196 (behind_wide 54)
unfolding opcodes.row_of row_of
wide_istore laws =
    store laws 196 (behind_wide 54) 3 (λ code pc. wide_instr 54 code pc (one UnsignedShort)) (widely laws 54 (one UnsignedByte) (one UnsignedShort) 3 refl refl) (OfWide WideIstore) refl (λ x. refl)
    (λ code pc. u2 code (pc + 2)) wide_index (λ code pc x h. wide_bytes code pc 3 x (omega arith) h) (Numbers IntType) (λ code pc o. refl)
    (λ code pc x h there in_place small. record { under = one_byte code pc 3 x (omega arith) h ∙ there; inside = in_place; word = small }) (λ x. refl) int_words

pub wide_lstore : Laws → LineWhere 196 (behind_wide 55)
unfolding opcodes.row_of row_of
wide_lstore laws =
    store_long laws 196 (behind_wide 55) 3 (λ code pc. wide_instr 55 code pc (one UnsignedShort)) (widely laws 55 (one UnsignedByte) (one UnsignedShort) 3 refl refl) (OfWide WideLstore) refl (λ x. refl)
    (λ code pc. u2 code (pc + 2)) wide_index (λ code pc x h. wide_bytes code pc 3 x (omega arith) h) (λ code pc o. refl)
    (λ code pc x h there high low word. record { under = one_byte code pc 3 x (omega arith) h ∙ there; long = record { high = high; low = low; word = word } }) (λ x. refl)

pub wide_astore : Laws → LineWhere 196 (behind_wide 58)
unfolding opcodes.row_of row_of
wide_astore laws =
    store laws 196 (behind_wide 58) 3 (λ code pc. wide_instr 58 code pc (one UnsignedShort)) (widely laws 58 (one UnsignedByte) (one UnsignedShort) 3 refl refl) (OfWide WideAstore) refl (λ x. refl)
    (λ code pc. u2 code (pc + 2)) wide_index (λ code pc x h. wide_bytes code pc 3 x (omega arith) h) References (λ code pc o. refl)
    (λ code pc x h there in_place small. record { under = one_byte code pc 3 x (omega arith) h ∙ there; inside = in_place; word = small }) (λ x. refl) reference_words

pub wide_iinc : Laws → LineWhere 196 (behind_wide 132)
unfolding opcodes.row_of row_of
wide_iinc laws =
    increment laws 196 (behind_wide 132) 5 (λ code pc. wide_instr 132 code pc (two UnsignedShort SignedShort)) (widely laws 132 (two UnsignedByte SignedByte) (two UnsignedShort SignedShort) 5 refl refl) (OfWide WideIinc) refl (λ x. refl)
    (λ code pc. u2 code (pc + 2)) wide_index (λ code pc x h. wide_bytes code pc 5 x (omega arith) h) (λ code pc. s2 code (pc + 2 + 2)) wide_increment (λ code pc o. refl)
    (λ code pc x h there in_place small. record { under = one_byte code pc 5 x (omega arith) h ∙ there; inside = in_place; word = small }) (λ x. refl)
    (λ code pc x h. (
      ap sign_extended16 (wide_bytes_behind code pc 5 x (omega arith) h) ∙ extended16 (u2 code (pc + 2 + 2)) (two_small code pc 5 x (pc + 2 + 2) h),
      fits16 (u2 code (pc + 2 + 2)) (two_small code pc 5 x (pc + 2 + 2) h),
    ))
