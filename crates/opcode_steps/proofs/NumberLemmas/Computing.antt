-- A row that computes a number of those that it takes.
use Rattle.std.proofs.Common.{◌≡◌, ℕ, ◌+◌, ◌≤◌, false, List, [], ◌∷◌, ◌++◌, Option, Some, None, length, reverse, refl, sym, ◌∙◌, ap, arith}
use Rattle.std.proofs.lemmas.List.{length-append, length-reverse}
use Rattle.std.specs.Prelude.{ℤ}
use Rattle.lists.proofs.Lemmas.{some_same}
use Rattle.opcodes.specs.declared.instruction.Instr.{Instr}
use Rattle.opcodes.specs.Form.{one, Absent}
use Rattle.opcodes.specs.Row as opcodes
use Rattle.opcodes.specs.Reading.{plain_instr}
use Rattle.jop_core.specs.State as machine
use Rattle.micro_sketch.specs.Sketch.{Sketch}
use Rattle.micro_sketch.specs.Row.{words_of}
use Rattle.micro_sketch.specs.Opcodes as plain
use Rattle.micro_sketch.specs.Opcodes.{PlainOp, code_of, IsReady, raises}
use Rattle.micro_sketch.specs.Operand.{leaves}
use Rattle.bytecode_model.specs.declared.Value.{Value}
use Rattle.bytecode_model.specs.Types.{NumberType}
use Rattle.bytecode_model.specs.State.{State}
use Rattle.bytecode_model.specs.Program.{Program, Operand}
use Rattle.bytecode_model.specs.Rows as rows
use Rattle.bytecode_model.specs.Rows.{Row, FunctionOf}
use Rattle.bytecode_model.specs.Table.{row_of}
use Rattle.bytecode_model.specs.Effects.{Effect, Go, effect, on_numbers, or_fault, ArithmeticException, number}
use Rattle.image_facts.specs.Places.{Places, object_place}
use Rattle.machine_stands.specs.StandsFor.{StandsFor, limits_of}
use Rattle.machine_stands.specs.Comes.{params, ComesTo}
use Rattle.machine_stands.specs.Seen.{seen}
use Rattle.machine_stands.specs.Reading.{operands_of}
use Rattle.opcode_steps.proofs.NumberLemmas.Taken.{Numbers, given, Fit, words_on, words_on-append, result_words, result-append, result_is, Taken, taken}
use Rattle.opcode_steps.proofs.NumberLemmas.Scenes.{Laws, Line, Scene, scene, comes}

-- of a sketch the opcode makes these words
pub record Made (op : PlainOp) (x : Sketch) (words : List ℕ) : Type 0 where
  pub ready : IsReady op x
  pub calm : raises op x ≡ false
  pub effect : plain.effect op x ≡ leaves words x

-- of the words of numbers of these types the opcode makes those of a result, whatever lies below
abbrev pub Makes : (op : PlainOp) (ts : List NumberType) (t : NumberType) → (Numbers ts → ℤ) → Type 0
Makes op ts t r = (x : Sketch) (ns : Numbers ts) (tail : List ℕ) → Fit ts ns → words_of x ≡ words_on ts ns tail → 5 ≤ length tail → Made op x (result_words t (r ns) tail)

pub tail_long : (others saved : List ℕ) → length saved ≡ 5 → 5 ≤ length (others ++ reverse saved)
tail_long others saved h = omega (arith, length-append others (reverse saved), length-reverse saved)

module _ (laws : Laws) (P : Program) (pl : Places) (n size : ℕ) (m : machine.MachineState) (answer : Option ℕ) (s s' : State) (st : StandsFor P pl n size m s) (i : Instr) (r : Row) (x : Sketch)
    (at : Scene P pl n size m answer s s' st i r x) where
  -- the numbers that it takes, and their words on top of the sketch's
  pub takes : (R : Type 0) (ts : List NumberType) (f : FunctionOf ts R) (go : R → List Value → Effect)
      → effect P (limits_of P pl n size) s st.top (st.top.pc + i.length) r ≡ on_numbers R ts f st.top.operands go
      → Taken (object_place P pl s.objects) (length s.objects) R ts f st.top.operands st.words.operands
  takes R ts f go is =
      taken laws.one laws.two (object_place P pl s.objects) (length s.objects) R ts f st.top.operands st.words.operands at.frame.operand_values st.are_frames.0.operands go (λ stuck. at.defined (is ∙ stuck))

  pub shown_words : (ts : List NumberType) (ns : Numbers ts) (others : List ℕ) → st.words.operands ≡ words_on ts ns others → words_of x ≡ words_on ts ns (others ++ reverse st.words.saved)
  shown_words ts ns others e = at.shows.words ∙ ap (λ (ws : List ℕ). ws ++ reverse st.words.saved) e ∙ words_on-append ts ns others (reverse st.words.saved)

  pub compute : (op : PlainOp) (ts : List NumberType) (t : NumberType) (f : FunctionOf ts (Option ℤ)) (g : Numbers ts → ℤ) → m.opcode ≡ code_of op → i.length ≡ 1 → r ≡ rows.Compute ts t f
      → ((ns : Numbers ts) → given (Option ℤ) ts f ns ≡ Some (g ns)) → Makes op ts t g → ComesTo P pl n size m s s'
  compute op ts t f g opcode short is total makes =
      let next = st.top.pc + i.length in
      let go : Option ℤ → List Value → Effect = λ o rest. or_fault ArithmeticException o (λ k. Go next st.top.locals (number t k ∷ rest)) in
      let row : effect P (limits_of P pl n size) s st.top next r ≡ on_numbers (Option ℤ) ts f st.top.operands go = ap (λ (q : Row). effect P (limits_of P pl n size) s st.top next q) is in
      let k = takes (Option ℤ) ts f go row in
      let tail = k.others ++ reverse st.words.saved in
      let made = makes x k.numbers tail k.fit (shown_words ts k.numbers k.others k.are) (tail_long k.others st.words.saved at.shows.saved) in
      comes laws P pl n size m answer s s' st i r x at op next (number t (g k.numbers) ∷ k.rest) (result_words t (g k.numbers) tail) x.jpc (result_words t (g k.numbers) k.others) opcode made.ready made.calm made.effect
      (row ∙ k.effect go ∙ ap (λ (o : Option ℤ). go o k.rest) (total k.numbers))
      (result_is (object_place P pl s.objects) t (g k.numbers) k.rest k.others k.stay) (sym (result-append t (g k.numbers) k.others (reverse st.words.saved)))
      (at.shows.jpc 0 (omega (arith, at.instruction.within, short)) ∙ ap (λ (k : ℕ). st.top.pc + k) (sym short))

-- an opcode without operands in the code
pub computes : Laws → (code : ℕ) (op : PlainOp) (ts : List NumberType) (t : NumberType) (f : FunctionOf ts (Option ℤ)) (g : Numbers ts → ℤ) → code_of op ≡ code
    → operands_of (opcodes.row_of code).form ≡ Some (one Absent) → ((bytes : List ℕ) (pc : ℕ) (operand : Operand) → row_of bytes (plain_instr code bytes pc (one Absent)) operand ≡ Some (rows.Compute ts t f))
    → ((ns : Numbers ts) → given (Option ℤ) ts f ns ≡ Some (g ns)) → Makes op ts t g → Line code
computes laws code op ts t f g is form row total makes P pl n size m answer s s' h mode opcode bare =
    let st = h.stands in
    let i = plain_instr code st.body.code st.top.pc (one Absent) in
    let read = laws.plain P pl n size m answer s s' h code (one Absent) mode opcode form in
    let at = scene laws P pl n size m answer s s' h i read.0 mode read.1 in
    compute laws P pl n size m answer s s' st i read.0 (seen (params m i.count 0) (None ∷ []) m st.words st.below) at op ts t f g (opcode ∙ sym is) refl
    (some_same read.0 (rows.Compute ts t f) (sym read.1.is_row ∙ row st.body.code st.top.pc (P.operand st.top.method st.top.pc))) total makes
