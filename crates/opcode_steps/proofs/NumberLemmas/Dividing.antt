-- Division: a zero divisor raises the ArithmeticException (JVM Specification SE 8, 6.5.idiv and irem).
use Rattle.std.proofs.Common.{◌≡◌, ◌≢◌, ℕ, zero, suc, ◌+◌, ◌-◌, ◌^◌, ◌<◌, true, false, ◌==◌, List, [], ◌∷◌, ◌++◌, Option, Some, None, length, reverse, refl, sym, ◌∙◌, ap, subst, arith, eq-eqb}
use Rattle.std.specs.Prelude.{ℤ, pos, negsuc, int_div, int_rem, slice_index}
use Rattle.std.specs.Int.{w32, int_wrap}
use Rattle.std.specs.Int.RustNames.{FitsSigned}
use Rattle.std.proofs.lemmas.Bool.{ne_eqb}
use Rattle.std.proofs.lemmas.List.{get_or-drop}
use Rattle.lists.proofs.Lemmas.{some_same}
use Rattle.opcodes.specs.declared.instruction.Instr.{Instr}
use Rattle.opcodes.specs.Form.{one, Absent}
use Rattle.opcodes.specs.Row as opcodes
use Rattle.opcodes.specs.Reading.{plain_instr}
use Rattle.jop_core.specs.State as machine
use Rattle.micro_sketch.specs.Sketch.{Sketch}
use Rattle.micro_sketch.specs.View.{env_of}
use Rattle.micro_sketch.specs.Row.{StandsAt}
use Rattle.micro_sketch.specs.Rows.{RunsToRaise}
use Rattle.micro_sketch.specs.Opcodes.{OfDivision}
use Rattle.micro_sketch.specs.Operand.{leaves}
use Rattle.micro_sketch.specs.DivisionOps as words
use Rattle.micro_sketch.specs.DivisionOps.{DivisionOp, Idiv, Irem, division_effect, division_code, division_raises, HasOperands}
use Rattle.bytecode_model.specs.declared.Value.{Value}
use Rattle.bytecode_model.specs.Types.{IntType}
use Rattle.bytecode_model.specs.State.{State}
use Rattle.bytecode_model.specs.Program.{Program, Operand}
use Rattle.bytecode_model.specs.Rows as rows
use Rattle.bytecode_model.specs.Rows.{Row}
use Rattle.bytecode_model.specs.Table.{row_of}
use Rattle.bytecode_model.specs.Numbers as numbers
use Rattle.bytecode_model.specs.Effects.{Effect, Go, effect, on_numbers, or_fault, ArithmeticException, number}
use Rattle.image_facts.specs.Places.{Places, object_place}
use Rattle.image_facts.specs.Words.{int_word}
use Rattle.machine_stands.specs.StandsFor.{StandsFor, limits_of}
use Rattle.machine_stands.specs.Comes.{params, ComesTo}
use Rattle.machine_stands.specs.Simulates.{is_bare}
use Rattle.machine_stands.specs.Seen.{seen}
use Rattle.machine_stands.specs.Going.{LeavesFrame}
use Rattle.machine_stands.specs.Reading.{operands_of}
use Rattle.opcode_steps.proofs.NumberLemmas.Wrapping.{word_fits}
use Rattle.opcode_steps.proofs.NumberLemmas.Numbers.{quotient_word, remainder_word}
use Rattle.opcode_steps.proofs.NumberLemmas.Taken.{result_words, result_is}
use Rattle.opcode_steps.proofs.NumberLemmas.Scenes.{Laws, Line, Scene, scene, comes, only_linked}
use Rattle.opcode_steps.proofs.NumberLemmas.Computing.{takes, shown_words}
use Rattle.opcode_steps.proofs.NumberLemmas.Results.{top_is}

-- what the definition divides, and the words
abbrev divided : DivisionOp → ℤ → ℤ → Option ℤ
divided Idiv = numbers.quotient
divided Irem = numbers.remainder

abbrev outcome : DivisionOp → ℤ → ℤ → ℤ
outcome Idiv y x = int_div x y
outcome Irem y x = int_rem x y

abbrev word_outcome : DivisionOp → (dividend divisor : ℕ) → ℕ
word_outcome Idiv = words.quotient
word_outcome Irem = words.remainder

effect_is : (op : DivisionOp) (x : Sketch) → division_effect op x ≡ leaves (word_outcome op x.next x.top ∷ x.under) x
effect_is Idiv x = refl
effect_is Irem x = refl

outcome_word : (op : DivisionOp) (x y : ℤ) → FitsSigned w32 x → FitsSigned w32 y → word_outcome op (int_word x) (int_word y) ≡ int_word (int_wrap w32 (outcome op y x))
outcome_word Idiv x y p q = quotient_word x y p q
outcome_word Irem x y p q = remainder_word x y p q

-- by the divisor
data Divisor (op : DivisionOp) (y x : ℤ) : Type 0 where
  none : y ≡ pos 0 → divided op y x ≡ None → Divisor op y x
  some : int_word y ≢ 0 → divided op y x ≡ Some (outcome op y x) → Divisor op y x

divisor : (op : DivisionOp) (y x : ℤ) → FitsSigned w32 y → Divisor op y x
divisor Idiv (pos zero) x h = none refl refl
divisor Irem (pos zero) x h = none refl refl
divisor Idiv (pos (suc n)) x h = some (λ (e : suc n ≡ 0). absurd (omega arith)) refl
divisor Irem (pos (suc n)) x h = some (λ (e : suc n ≡ 0). absurd (omega arith)) refl
divisor Idiv (negsuc n) x h = let small = h.sfits in some (λ (e : 2 ^ 32 - suc n ≡ 0). absurd (omega arith)) refl
divisor Irem (negsuc n) x h = let small = h.sfits in some (λ (e : 2 ^ 32 - suc n ≡ 0). absurd (omega arith)) refl

module _ (laws : Laws) (P : Program) (pl : Places) (n size : ℕ) (m : machine.MachineState) (answer : Option ℕ) (s s' : State) (st : StandsFor P pl n size m s) (i : Instr) (r : Row) (x : Sketch)
    (at : Scene P pl n size m answer s s' st i r x) (exceptions : (pl.raise_list + 0 < size) × (slice_index m.port.words (pl.raise_list + 0) ≡ object_place P pl s.objects 0)) where
  list_is : slice_index x.low 30 ≡ pl.raise_list
  list_is = sym (get_or-drop 24 x.low 6 0) ∙ ap (λ (ws : List ℕ). slice_index ws 6) at.shows.low

  object_is : slice_index x.memory (slice_index x.low 30) ≡ object_place P pl s.objects 0
  object_is =
      let same : pl.raise_list ≡ pl.raise_list + 0 = omega arith in
      ap (λ (ws : List ℕ). slice_index ws (slice_index x.low 30)) at.memory ∙ ap (slice_index m.port.words) (list_is ∙ same) ∙ exceptions.1

  pub divides : (op : DivisionOp) → m.opcode ≡ division_code op → i.length ≡ 1 → r ≡ rows.Compute (IntType ∷ IntType ∷ []) IntType (divided op) → ComesTo P pl n size m s s'
  divides op opcode short is =
      let next = st.top.pc + i.length in
      let p = params m i.count 0 in
      let go : Option ℤ → List Value → Effect = λ o rest. or_fault ArithmeticException o (λ k. Go next st.top.locals (number IntType k ∷ rest)) in
      let row : effect P (limits_of P pl n size) s st.top next r ≡ on_numbers (Option ℤ) (IntType ∷ IntType ∷ []) (divided op) st.top.operands go =
      ap (λ (q : Row). effect P (limits_of P pl n size) s st.top next q) is in
      let k = takes laws P pl n size m answer s s' st i r x at (Option ℤ) (IntType ∷ IntType ∷ []) (divided op) go row in
      let y = k.numbers.0 in
      let z = k.numbers.1.0 in
      let tail = k.others ++ reverse st.words.saved in
      let (e, f) = top_is x.top (int_word y) (x.next ∷ x.under) (int_word z ∷ tail) (shown_words laws P pl n size m answer s s' st i r x at (IntType ∷ IntType ∷ []) k.numbers k.others k.are) in
      let (d, u) = top_is x.next (int_word z) x.under tail f in
      let fits_top = word_fits w32 y k.fit.0 in
      let fits_next = word_fits w32 z k.fit.1.0 in
      let small = st.sizes.small in
      let ready : HasOperands x = record { dividend = omega (arith, d, fits_next); divisor = omega (arith, e, fits_top); list = omega (arith, list_is, exceptions.0, small) } in
      let place : x.jpc ≡ st.top.pc + 1 = at.shows.jpc 0 (omega (arith, at.instruction.within, short)) in
      elim (divisor op y z k.fit.0) [
        | some nonzero given_is ↦
            let no : (x.top == 0) ≡ false = ne_eqb x.top 0 (λ (t : x.top ≡ 0). nonzero (sym e ∙ t)) in
            let w = word_outcome op in
            comes laws P pl n size m answer s s' st i r x at (OfDivision op) next (number IntType (outcome op y z) ∷ k.rest) (result_words IntType (outcome op y z) tail) x.jpc (result_words IntType (outcome op y z) k.others)
            opcode ready no
            (effect_is op x ∙ ap (λ (ws : List ℕ). leaves ws x)
            (ap (λ (j : ℕ). w x.next j ∷ x.under) e ∙ ap (λ (j : ℕ). w j (int_word y) ∷ x.under) d ∙ ap (λ (us : List ℕ). w (int_word z) (int_word y) ∷ us) u
            ∙ ap (λ (j : ℕ). j ∷ tail) (outcome_word op z y k.fit.1.0 k.fit.0)))
            (row ∙ k.effect go ∙ ap (λ (o : Option ℤ). go o k.rest) given_is)
            (result_is (object_place P pl s.objects) IntType (outcome op y z) k.rest k.others k.stay) refl
            (place ∙ ap (λ (j : ℕ). st.top.pc + j) (sym short))
        | none zero_is given_is ↦
            let hot : (x.top == 0) ≡ true = eq-eqb x.top 0 (e ∙ ap int_word zero_is) in
            let Q : ℕ → Type 0 = λ j. StandsAt n p j x (env_of m) m in
            let run = laws.runs_to_raise n p (OfDivision op) x (env_of m) m (subst Q opcode at.shows.stands) ready hot in
            let R : ℕ → Type 0 = λ j. RunsToRaise n p j (division_raises x) x (env_of m) in
            let leaves_frame : LeavesFrame P pl n size m s st i 0 (division_raises x) = record {
              left = k.others;
              few = omega (arith, ap length k.are, at.shows.depth);
              stack = u;
              from = omega (arith, place);
              to = omega (arith, place, short);
              place = object_is;
            } in
            at.breaks 0 (division_raises x) (row ∙ k.effect go ∙ ap (λ (o : Option ℤ). go o k.rest) given_is) leaves_frame (subst R (sym opcode) run)
      ]

-- of a linked program: a bare image has no division
division_line : Laws → (code : ℕ) (op : DivisionOp) → division_code op ≡ code → operands_of (opcodes.row_of code).form ≡ Some (one Absent)
    → ((bytes : List ℕ) (pc : ℕ) (operand : Operand) → row_of bytes (plain_instr code bytes pc (one Absent)) operand ≡ Some (rows.Compute (IntType ∷ IntType ∷ []) IntType (divided op))) → is_bare code ≡ false → Line code
division_line laws code op is form row never P pl n size m answer s s' h mode opcode bare =
    let st = h.stands in
    let i = plain_instr code st.body.code st.top.pc (one Absent) in
    let read = laws.plain P pl n size m answer s s' h code (one Absent) mode opcode form in
    let at = scene laws P pl n size m answer s s' h i read.0 mode read.1 in
    divides laws P pl n size m answer s s' st i read.0 (seen (params m i.count 0) (None ∷ []) m st.words st.below) at
    (laws.raise_list P pl n size m answer s s' h ArithmeticException (only_linked P.linked (is_bare code) bare never)) op (opcode ∙ sym is) refl
    (some_same read.0 (rows.Compute (IntType ∷ IntType ∷ []) IntType (divided op)) (sym read.1.is_row ∙ row st.body.code st.top.pc (P.operand st.top.method st.top.pc)))

pub idiv : Laws → Line 108
unfolding opcodes.row_of row_of
idiv laws = division_line laws 108 Idiv refl refl (λ bytes pc operand. refl) refl

pub irem : Laws → Line 112
unfolding opcodes.row_of row_of
irem laws = division_line laws 112 Irem refl refl (λ bytes pc operand. refl) refl
