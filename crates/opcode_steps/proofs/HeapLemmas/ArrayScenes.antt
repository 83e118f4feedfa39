-- A machine at an opcode of arrays, as a sketch, and how its rows end.
use Rattle.std.proofs.Common.{◌≡◌, ℕ, ◌+◌, ◌<◌, ◌≤◌, Bool, true, false, ℤ, List, [], ◌∷◌, ◌++◌, Option, None, length, reverse, refl, ◌∙◌, ap, subst, arith, eq-eqb, ◌==◌, ◌&&◌}
use Rattle.std.proofs.lemmas.Bool.Decides.{nat_tests}
use Rattle.lists.proofs.Lemmas.{holds_at}
use Rattle.opcodes.specs.declared.instruction.Instr.{Instr}
use Rattle.opcodes.specs.Form.{one, Absent}
use Rattle.opcodes.specs.Reading.{plain_instr}
use Rattle.jop_core.specs.State as machine
use Rattle.micro_sketch.specs.Sketch.{Sketch, same_bool}
use Rattle.micro_sketch.specs.View.{env_of}
use Rattle.micro_sketch.specs.Row.{words_of}
use Rattle.bytecode_model.specs.declared.Value.{Value}
use Rattle.bytecode_model.specs.declared.Value.TheVariants.{Long}
use Rattle.bytecode_model.specs.declared.Ending.TheVariants.{Running}
use Rattle.bytecode_model.specs.Types.{is_long}
use Rattle.bytecode_model.specs.State.{Object, Frame, State}
use Rattle.bytecode_model.specs.Program.{Program, Limits, body_of}
use Rattle.bytecode_model.specs.Rows as bytecode
use Rattle.bytecode_model.specs.Effects.{Effect, Go, Fault, fault, effect}
use Rattle.bytecode_model.specs.Steps.{with_top}
use Rattle.bytecode_model.specs.WellFormed as formed
use Rattle.bytecode_model.specs.WellFormed.{AreValues}
use Rattle.image_facts.specs.Places.{Places, object_place}
use Rattle.machine_stands.specs.Frames.{AreOperands}
use Rattle.machine_stands.specs.StandsFor.{limits_of, memory_of}
use Rattle.machine_stands.specs.Comes.{params, ComesTo}
use Rattle.machine_stands.specs.Simulates.{IsStep}
use Rattle.machine_stands.specs.Seen.{seen}
use Rattle.machine_stands.specs.Reading.{IsAtRow, PlainOnesAreRead}
use Rattle.machine_stands.specs.Shown.{Shows, SketchesShow}
use Rattle.machine_stands.specs.Operands.{OneOnTop, LongOnTop, OneWordIsOnTop, TwoWordsAreOnTop, OneWordIsPushed}
use Rattle.machine_stands.specs.Fixed.{FixedWordsAreRead}
use Rattle.opcode_steps.specs.Heap.Reading.{ObjectsAreRead, ObjectsAreNotNull, PartsAreRead, LongPartsAreRead}
use Rattle.opcode_steps.specs.Heap.Widths.{ArraysAreShort, ElementsHaveWidths, ElementsHavePlaces}
use Rattle.opcode_steps.specs.Heap.Writing.{PartsAreWritten, LongPartsAreWritten, SamePlaces, PlacesStay}
use Rattle.opcode_steps.specs.Heap.Ending.{RowsAreMade, RaisesAreMade, RowsGoOn, RowsWrite, RowsRaise}
use Rattle.opcode_steps.proofs.HeapLemmas.ArrayRows.{with_words, with_memory, raised, Row, RaiseRow}

pub record Laws : Type 0 where
  pub plain : PlainOnesAreRead
  pub shows : SketchesShow
  pub one : OneWordIsOnTop
  pub two : TwoWordsAreOnTop
  pub pushed : OneWordIsPushed
  pub fixed : FixedWordsAreRead
  pub objects : ObjectsAreRead
  pub not_null : ObjectsAreNotNull
  pub parts : PartsAreRead
  pub long_parts : LongPartsAreRead
  pub short : ArraysAreShort
  pub widths : ElementsHaveWidths
  pub element_places : ElementsHavePlaces
  pub parts_written : PartsAreWritten
  pub long_parts_written : LongPartsAreWritten
  pub places : PlacesStay
  pub made : RowsAreMade
  pub raises_made : RaisesAreMade
  pub goes : RowsGoOn
  pub writes : RowsWrite
  pub raises : RowsRaise

-- ---- tests

pub null_test : (w : ℕ) (b : Bool) → w ≡ 0 → b ≡ true → (same_bool true (w == 0) && b) ≡ true
null_test w b zero before = ap (λ (t : Bool). same_bool true t && b) (eq-eqb w 0 zero) ∙ before

pub there_test : (w : ℕ) (b : Bool) → 0 < w → b ≡ true → (same_bool false (w == 0) && b) ≡ true
there_test w b some before = let no : (w == 0) ≡ false = grind (arith, nat_tests) in ap (λ (t : Bool). same_bool false t && b) no ∙ before

-- ---- a step at an opcode of arrays

pub record Scene (op : ℕ) : Type 0 where
  pub P : Program
  pub pl : Places
  pub n : ℕ
  pub size : ℕ
  pub m : machine.MachineState
  pub answer : Option ℕ
  pub s : State
  pub s' : State
  pub h : IsStep P pl n size m answer s s'
  pub mode : s.mode ≡ Running
  pub linked : P.linked ≡ true
  pub opcode : m.opcode ≡ op

module _ (op : ℕ) (g : Scene op) where
  abbrev pub Comes : Type 0
  Comes = ComesTo g.P g.pl g.n g.size g.m g.s g.s'

  abbrev pub limits : Limits
  limits = limits_of g.P g.pl g.n g.size

  abbrev pub top : Frame
  top = g.h.stands.top

  abbrev pub code : List ℕ
  code = g.h.stands.body.code

  abbrev pub instr : Instr
  instr = plain_instr op code top.pc (one Absent)

  abbrev pub x : Sketch
  x = seen (params g.m 0 0) (None ∷ []) g.m g.h.stands.words g.h.stands.below

  abbrev pub place : ℕ → ℕ
  place = object_place g.P g.pl g.s.objects

  abbrev pub saved : List ℕ
  saved = reverse g.h.stands.words.saved

  abbrev pub operands : List ℕ
  operands = g.h.stands.words.operands

  abbrev pub At : bytecode.Row → Type 0
  At r = IsAtRow g.P g.pl g.n g.size g.m g.answer g.s g.s' g.h.stands instr r

  abbrev pub effect_of : bytecode.Row → Effect
  effect_of r = effect g.P limits g.s top (top.pc + 1) r

  -- the values of the operands are numbers in range
  pub operand_values : AreValues (length g.s.objects) top.operands
  operand_values =
      let frames = subst (λ (fs : List Frame). formed.AreFrames g.P (length g.s.objects) fs) g.h.stands.frames g.h.well_formed.frames in
      (holds_at (body_of g.P top.method) g.h.stands.body (formed.IsFrame g.P (length g.s.objects) top) g.h.stands.is_body frames.0).operand_values

module _ (laws : Laws) (op : ℕ) (g : Scene op) where
  pub shows : Shows g.P g.pl g.n g.size g.m g.s g.h.stands (params g.m 0 0) (x op g)
  shows = laws.shows g.P g.pl g.n g.size g.m g.answer g.s g.s' g.h (params g.m 0 0) (None ∷ []) g.mode refl refl

  end_is : (r : bytecode.Row) → At op g r → (x op g).jpc ≡ (top op g).pc + 1
  end_is r at = shows.jpc 0 (omega (arith, at.within))

  -- ---- how rows end

  pub goes_by : (r : bytecode.Row) (words : Sketch → List ℕ) (allowed : Sketch → Bool) (ops : List Value) (ws : List ℕ) → Row op allowed (λ y. with_words (words y) y) → allowed (x op g) ≡ true → At op g r
      → effect_of op g r ≡ Go ((top op g).pc + 1) (top op g).locals ops → AreOperands (place op g) ops ws → words (x op g) ≡ ws ++ saved op g → Comes op g
  goes_by r words allowed ops ws is ok at goes are stack =
      laws.goes g.P g.pl g.n g.size g.m g.answer g.s g.s' g.h (instr op g) r ops ws (words (x op g)) (x op g).jpc g.mode at goes are stack (end_is r at)
      (laws.made g.n (params g.m 0 0) op (x op g) (env_of g.m) g.m (λ y. with_words (words y) y) allowed shows.stands g.opcode is ok)

  pub writes_by : (r : bytecode.Row) (objects : List Object) (words memory : Sketch → List ℕ) (allowed : Sketch → Bool) (ops : List Value) (ws : List ℕ) → Row op allowed (λ y. with_memory (words y) (memory y) y)
      → allowed (x op g) ≡ true → At op g r
      → g.s' ≡ with_top (record g.s { objects = objects }) g.h.stands.callers (record (top op g) { pc = (top op g).pc + 1; locals = (top op g).locals; operands = ops })
      → SamePlaces g.P g.pl g.s.objects objects → AreOperands (place op g) ops ws → words (x op g) ≡ ws ++ saved op g → memory (x op g) ≡ memory_of g.P g.pl g.size (record g.s { objects = objects })
      → length (memory (x op g)) ≡ length g.m.port.words → Comes op g
  writes_by r objects words memory allowed ops ws is ok at next stay are stack there many =
      laws.writes g.P g.pl g.n g.size g.m g.answer g.s g.s' g.h (instr op g) r g.s.statics objects ops ws (words (x op g)) (memory (x op g)) (x op g).jpc g.mode at next stay are stack (end_is r at) there many
      (laws.made g.n (params g.m 0 0) op (x op g) (env_of g.m) g.m (λ y. with_memory (words y) (memory y) y) allowed shows.stands g.opcode is ok)

  pub raises_by : (r : bytecode.Row) (f : Fault) (words : Sketch → List ℕ) (allowed : Sketch → Bool) (left : List ℕ) → RaiseRow op allowed (λ y. raised f (words y) y) → allowed (x op g) ≡ true → At op g r → effect_of op g r ≡ fault f
      → words (x op g) ≡ left ++ saved op g → length left ≤ length (operands op g) → Comes op g
  raises_by r f words allowed left is ok at goes stack few =
      let end = end_is r at in
      laws.raises g.P g.pl g.n g.size g.m g.answer g.s g.s' g.h (instr op g) r f (words (x op g)) left (x op g).jpc g.mode g.linked at goes stack few (omega (arith, end)) (omega (arith, end))
      (laws.raises_made g.n (params g.m 0 0) op (x op g) (env_of g.m) g.m (λ y. raised f (words y) y) allowed shows.stands g.opcode is ok)

  -- what words are on top of
  pub one_on_top : (v : Value) (rest : List Value) (ops : List Value) (ws : List ℕ) → AreOperands (place op g) ops ws → ops ≡ v ∷ rest → is_long v ≡ false → OneOnTop (place op g) v rest ws
  one_on_top v rest ops ws are e short = laws.one (place op g) v rest ws short (subst (λ (vs : List Value). AreOperands (place op g) vs ws) e are)

  pub long_on_top : (v : ℤ) (rest : List Value) → (top op g).operands ≡ Long v ∷ rest → LongOnTop (place op g) v rest (operands op g)
  long_on_top v rest ops = laws.two (place op g) v rest (operands op g) (subst (λ (vs : List Value). AreOperands (place op g) vs (operands op g)) ops g.h.stands.are_frames.0.operands)

  -- the words of the stack, where those of the operands are such
  pub words_are : (ws : List ℕ) → operands op g ≡ ws → words_of (x op g) ≡ ws ++ saved op g
  words_are ws e = shows.words ∙ ap (λ (us : List ℕ). us ++ saved op g) e
