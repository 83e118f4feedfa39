-- A machine at an opcode of fields, as a sketch, and how its rows end.
use Rattle.std.proofs.Common.{◌≡◌, ℕ, ◌+◌, ◌*◌, ◌%◌, ◌^◌, ◌<◌, ◌≤◌, ◌==◌, ◌&&◌, Bool, true, false, ℤ, List, [], ◌∷◌, ◌++◌, Option, None, length, reverse, refl, sym, ◌∙◌, ap, subst, arith, eq-eqb}
use Rattle.std.specs.Prelude.{slice_index}
use Rattle.std.proofs.lemmas.Bool.Decides.{nat_tests}
use Rattle.std.proofs.lemmas.List.{get_or-drop}
use Rattle.std.proofs.Math.Nat.{mod-eq_of_lt}
use Rattle.opcodes.specs.declared.instruction.Instr.{Instr}
use Rattle.opcodes.specs.Bytes.{u1, u2}
use Rattle.opcodes.specs.Form.{one, UnsignedShort}
use Rattle.opcodes.specs.Reading.{plain_instr}
use Rattle.jop_core.specs.State as machine
use Rattle.micro_sketch.specs.Sketch.{Sketch, abyte, same_bool}
use Rattle.micro_sketch.specs.View.{env_of}
use Rattle.micro_sketch.specs.Row.{words_of}
use Rattle.micro_sketch.specs.Operand.{past}
use Rattle.bytecode_model.specs.declared.Value.{Value}
use Rattle.bytecode_model.specs.declared.Value.TheVariants.{Long}
use Rattle.bytecode_model.specs.declared.Ending.TheVariants.{Running}
use Rattle.bytecode_model.specs.Types.{is_long}
use Rattle.bytecode_model.specs.State.{Object, Frame, State}
use Rattle.bytecode_model.specs.Program.{Program, Limits, Operand, NoOperand}
use Rattle.bytecode_model.specs.Rows as bytecode
use Rattle.bytecode_model.specs.Effects.{Effect, Go, NullPointerException, fault, effect}
use Rattle.bytecode_model.specs.Steps.{with_top}
use Rattle.image_facts.specs.Places.{Places, object_place, pool_of}
use Rattle.image_facts.specs.Says.{Means}
use Rattle.machine_stands.specs.Frames.{AreOperands}
use Rattle.machine_stands.specs.StandsFor.{limits_of, memory_of}
use Rattle.machine_stands.specs.Comes.{params, ComesTo}
use Rattle.machine_stands.specs.Simulates.{IsStep}
use Rattle.machine_stands.specs.Seen.{seen}
use Rattle.machine_stands.specs.Reading.{IsAtRow, PlainOnesAreRead}
use Rattle.machine_stands.specs.Shown.{Shows, SketchesShow}
use Rattle.machine_stands.specs.Operands.{OneOnTop, LongOnTop, OneWordIsOnTop, TwoWordsAreOnTop, OneWordIsPushed}
use Rattle.machine_stands.specs.Fixed.{PoolsAreRead}
use Rattle.opcode_steps.specs.Heap.Reading.{ObjectsAreNotNull, PartsAreRead, LongPartsAreRead, StaticsAreRead, LongStaticsAreRead}
use Rattle.opcode_steps.specs.Heap.Widths.{FieldsHaveWidths, FieldsHavePlaces, StaticsHaveWidths}
use Rattle.opcode_steps.specs.Heap.Writing.{PartsAreWritten, LongPartsAreWritten, StaticsAreWritten, LongStaticsAreWritten, SamePlaces, PlacesStay}
use Rattle.opcode_steps.specs.Heap.Ending.{RowsAreMade, RaisesAreMade, RowsGoOn, RowsWrite, RowsRaise}
use Rattle.opcode_steps.proofs.HeapLemmas.FieldRows.{taken, entry, first, second, with_words, with_memory, null, Row, RaiseRow}

pub record Laws : Type 0 where
  pub plain : PlainOnesAreRead
  pub shows : SketchesShow
  pub one : OneWordIsOnTop
  pub two : TwoWordsAreOnTop
  pub pushed : OneWordIsPushed
  pub pools : PoolsAreRead
  pub not_null : ObjectsAreNotNull
  pub parts : PartsAreRead
  pub long_parts : LongPartsAreRead
  pub statics : StaticsAreRead
  pub long_statics : LongStaticsAreRead
  pub field_widths : FieldsHaveWidths
  pub field_places : FieldsHavePlaces
  pub static_widths : StaticsHaveWidths
  pub parts_written : PartsAreWritten
  pub long_parts_written : LongPartsAreWritten
  pub statics_written : StaticsAreWritten
  pub long_statics_written : LongStaticsAreWritten
  pub places : PlacesStay
  pub made : RowsAreMade
  pub raises_made : RaisesAreMade
  pub goes : RowsGoOn
  pub writes : RowsWrite
  pub raises : RowsRaise

two_bytes : (a b : ℕ) → a < 2 ^ 8 → b < 2 ^ 8 → ((0 * 2 ^ 8 + a) % 2 ^ 32 * 2 ^ 8 + b) % 2 ^ 32 ≡ a * 2 ^ 8 + b
two_bytes a b h k = omega arith

byte_small : (x : Sketch) → abyte x < 2 ^ 8
byte_small x = omega arith

place_is : (b pool size : ℕ) → pool + 2 * b + 1 < size → size < 2 ^ 32 → ((b + b) % 2 ^ 32 + pool) % 2 ^ 32 ≡ pool + 2 * b
place_is b pool size h l = omega arith

-- ---- tests

pub null_test : (w : ℕ) (b : Bool) → w ≡ 0 → b ≡ true → (same_bool true (w == 0) && b) ≡ true
null_test w b zero before = ap (λ (t : Bool). same_bool true t && b) (eq-eqb w 0 zero) ∙ before

pub there_test : (w : ℕ) (b : Bool) → 0 < w → b ≡ true → (same_bool false (w == 0) && b) ≡ true
there_test w b some before = let no : (w == 0) ≡ false = grind (arith, nat_tests) in ap (λ (t : Bool). same_bool false t && b) no ∙ before

-- ---- places

pub sum_is : (a b c size : ℕ) → c ≡ b + a → c < size → size < 2 ^ 32 → (a + b) % 2 ^ 32 ≡ c
sum_is a b c size e h l = let same : a + b ≡ c = omega (arith, e) in ap (λ (k : ℕ). k % 2 ^ 32) same ∙ mod-eq_of_lt {n = c} {m = 2 ^ 32} (omega (arith, h, l))

pub next_is : (a c size : ℕ) → a ≡ c → c + 1 < size → size < 2 ^ 32 → (a + 1) % 2 ^ 32 ≡ c + 1
next_is a c size e h l = ap (λ (k : ℕ). (k + 1) % 2 ^ 32) e ∙ mod-eq_of_lt {n = c + 1} {m = 2 ^ 32} (omega (arith, h, l))

-- ---- a step at an opcode of fields

pub record Scene (op : ℕ) : Type 0 where
  pub P : Program
  pub pl : Places
  pub n : ℕ
  pub size : ℕ
  pub m : machine.MachineState
  pub answer : Option ℕ
  pub s : State
  pub s' : State
  pub h : IsStep P pl n size m answer s s'
  pub mode : s.mode ≡ Running
  pub linked : P.linked ≡ true
  pub opcode : m.opcode ≡ op

module _ (op : ℕ) (g : Scene op) where
  abbrev pub Comes : Type 0
  Comes = ComesTo g.P g.pl g.n g.size g.m g.s g.s'

  abbrev pub limits : Limits
  limits = limits_of g.P g.pl g.n g.size

  abbrev pub top : Frame
  top = g.h.stands.top

  abbrev pub code : List ℕ
  code = g.h.stands.body.code

  abbrev pub instr : Instr
  instr = plain_instr op code top.pc (one UnsignedShort)

  abbrev pub index : ℕ
  index = u2 code (top.pc + 1)

  abbrev pub x : Sketch
  x = seen (params g.m 0 0) (None ∷ []) g.m g.h.stands.words g.h.stands.below

  abbrev pub place : ℕ → ℕ
  place = object_place g.P g.pl g.s.objects

  abbrev pub saved : List ℕ
  saved = reverse g.h.stands.words.saved

  abbrev pub operands : List ℕ
  operands = g.h.stands.words.operands

  abbrev pub At : bytecode.Row → Type 0
  At r = IsAtRow g.P g.pl g.n g.size g.m g.answer g.s g.s' g.h.stands instr r

  abbrev pub effect_of : bytecode.Row → Effect
  effect_of r = effect g.P limits g.s top (top.pc + 3) r

  -- the instruction names a member
  abbrev pub named : Operand
  named = g.P.operand top.method top.pc

module _ (laws : Laws) (op : ℕ) (g : Scene op) where
  pub shows : Shows g.P g.pl g.n g.size g.m g.s g.h.stands (params g.m 0 0) (x op g)
  shows = laws.shows g.P g.pl g.n g.size g.m g.answer g.s g.s' g.h (params g.m 0 0) (None ∷ []) g.mode refl refl

  end_is : (r : bytecode.Row) → At op g r → (past 2 (x op g)).jpc ≡ (top op g).pc + 3
  end_is r at = shows.jpc 2 (omega (arith, at.within))

  -- ---- how rows end

  pub goes_by : (r : bytecode.Row) (words : Sketch → List ℕ) (allowed : Sketch → Bool) (ops : List Value) (ws : List ℕ) → Row op allowed (λ y. with_words (words y) y) → allowed (x op g) ≡ true → At op g r
      → effect_of op g r ≡ Go ((top op g).pc + 3) (top op g).locals ops → AreOperands (place op g) ops ws → words (x op g) ≡ ws ++ saved op g → Comes op g
  goes_by r words allowed ops ws is ok at goes are stack =
      laws.goes g.P g.pl g.n g.size g.m g.answer g.s g.s' g.h (instr op g) r ops ws (words (x op g)) (past 2 (x op g)).jpc g.mode at goes are stack (end_is r at)
      (laws.made g.n (params g.m 0 0) op (x op g) (env_of g.m) g.m (λ y. with_words (words y) y) allowed shows.stands g.opcode is ok)

  pub writes_by : (r : bytecode.Row) (statics : List Value) (objects : List Object) (words memory : Sketch → List ℕ) (allowed : Sketch → Bool) (ops : List Value) (ws : List ℕ) → Row op allowed (λ y. with_memory (words y) (memory y) y)
      → allowed (x op g) ≡ true → At op g r
      → g.s' ≡ with_top (record g.s { statics = statics; objects = objects }) g.h.stands.callers (record (top op g) { pc = (top op g).pc + 3; locals = (top op g).locals; operands = ops })
      → SamePlaces g.P g.pl g.s.objects objects → AreOperands (place op g) ops ws → words (x op g) ≡ ws ++ saved op g → memory (x op g) ≡ memory_of g.P g.pl g.size (record g.s { statics = statics; objects = objects })
      → length (memory (x op g)) ≡ length g.m.port.words → Comes op g
  writes_by r statics objects words memory allowed ops ws is ok at next stay are stack there many =
      laws.writes g.P g.pl g.n g.size g.m g.answer g.s g.s' g.h (instr op g) r statics objects ops ws (words (x op g)) (memory (x op g)) (past 2 (x op g)).jpc g.mode at next stay are stack (end_is r at) there many
      (laws.made g.n (params g.m 0 0) op (x op g) (env_of g.m) g.m (λ y. with_memory (words y) (memory y) y) allowed shows.stands g.opcode is ok)

  pub null_by : (r : bytecode.Row) (words : Sketch → List ℕ) (allowed : Sketch → Bool) (left : List ℕ) → RaiseRow op allowed (λ y. null (words y) y) → allowed (x op g) ≡ true → At op g r → effect_of op g r ≡ fault NullPointerException
      → words (x op g) ≡ left ++ saved op g → length left ≤ length (operands op g) → Comes op g
  null_by r words allowed left is ok at goes stack few =
      let end = end_is r at in
      laws.raises g.P g.pl g.n g.size g.m g.answer g.s g.s' g.h (instr op g) r NullPointerException (words (x op g)) left (past 2 (x op g)).jpc g.mode g.linked at goes stack few (omega (arith, end)) (omega (arith, end))
      (laws.raises_made g.n (params g.m 0 0) op (x op g) (env_of g.m) g.m (λ y. null (words y) y) allowed shows.stands g.opcode is ok)

  -- ---- the pool entry

  taken_is : (r : bytecode.Row) → At op g r → taken (x op g) ≡ index op g
  taken_is r at =
      let y = x op g in
      let pc = (top op g).pc in
      let within = at.within in
      let one_more : pc + 1 + 1 ≡ pc + 2 = omega arith in
      two_bytes (abyte y) (abyte (past 1 y)) (byte_small y) (byte_small (past 1 y))
      ∙ ap (λ (b : ℕ). b * 2 ^ 8 + abyte (past 1 y)) (shows.bytes 0 (omega (arith, within))) ∙ ap (λ (b : ℕ). u1 (code op g) (pc + 1) * 2 ^ 8 + b) (shows.bytes 1 (omega (arith, within)))
      ∙ ap (λ (k : ℕ). u1 (code op g) (pc + 1) * 2 ^ 8 + u1 (code op g) k) (sym one_more)

  -- what the row reads of it
  pub record HasEntry : Type 0 where
    pub first_word : ℕ
    pub second_word : ℕ
    pub first_is : first (x op g) ≡ first_word
    pub second_is : second (x op g) ≡ second_word
    pub means : Means g.P g.pl op (named op g) first_word second_word

  pub has_entry : (r : bytecode.Row) → At op g r → (named op g ≡ NoOperand → ⊥) → HasEntry
  has_entry r at is_named =
      let y = x op g in
      let pool = pool_of g.P g.pl (top op g).method in
      let e = laws.pools g.P g.pl g.n g.size g.m g.answer g.s g.s' g.h (instr op g) r (index op g) g.mode at refl is_named in
      let small = g.h.stands.sizes.small in
      let within = e.within in
      let pool_is : slice_index y.low 24 ≡ pool = sym (get_or-drop 24 y.low 0 0) ∙ ap (λ (ws : List ℕ). slice_index ws 0) shows.low in
      let at_place : entry y ≡ pool + 2 * index op g =
      ap (λ (k : ℕ). ((k + k) % 2 ^ 32 + slice_index y.low 24) % 2 ^ 32) (taken_is r at) ∙ ap (λ (k : ℕ). ((index op g + index op g) % 2 ^ 32 + k) % 2 ^ 32) pool_is
      ∙ place_is (index op g) pool g.size within small in
      record {
        first_word = e.first;
        second_word = e.second;
        first_is = ap (slice_index y.memory) at_place ∙ e.first_is;
        second_is = ap (slice_index y.memory) (next_is (entry y) (pool + 2 * index op g) g.size at_place within small) ∙ e.second_is;
        means = e.means;
      }

  -- what two words are on top of
  pub one_on_top : (v : Value) (rest : List Value) → (top op g).operands ≡ v ∷ rest → is_long v ≡ false → OneOnTop (place op g) v rest (operands op g)
  one_on_top v rest ops short = laws.one (place op g) v rest (operands op g) short (subst (λ (vs : List Value). AreOperands (place op g) vs (operands op g)) ops g.h.stands.are_frames.0.operands)

  pub long_on_top : (v : ℤ) (rest : List Value) → (top op g).operands ≡ Long v ∷ rest → LongOnTop (place op g) v rest (operands op g)
  long_on_top v rest ops = laws.two (place op g) v rest (operands op g) (subst (λ (vs : List Value). AreOperands (place op g) vs (operands op g)) ops g.h.stands.are_frames.0.operands)

  -- the words of the stack, where those of the operands are such
  pub words_are : (ws : List ℕ) → operands op g ≡ ws → words_of (x op g) ≡ ws ++ saved op g
  words_are ws e = shows.words ∙ ap (λ (us : List ℕ). us ++ saved op g) e
