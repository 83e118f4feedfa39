-- A row that jumps where a test of numbers holds, and one that always does (JVM Specification SE 8, 6.5.if<cond>, if_icmp<cond> and goto).
use Rattle.std.proofs.Common.{◌≡◌, ℕ, ◌+◌, ◌^◌, ◌<◌, Bool, true, false, cond, List, [], ◌∷◌, ◌++◌, Option, Some, None, reverse, refl, sym, ◌∙◌, ap, subst, arith}
use Rattle.std.specs.Prelude.{ℤ, pos, ◌+ℤ◌}
use Rattle.lists.proofs.Lemmas.{some_same}
use Rattle.opcodes.specs.declared.instruction.Instr.{Instr}
use Rattle.opcodes.specs.Bytes.{s2, s4}
use Rattle.opcodes.specs.Form.{one, Offset, WideOffset}
use Rattle.opcodes.specs.Row as opcodes
use Rattle.opcodes.specs.Reading.{plain_instr}
use Rattle.jop_core.specs.Operations.{holds}
use Rattle.jop_core.specs.State as machine
use Rattle.micro_sketch.specs.Sketch.{Sketch}
use Rattle.micro_sketch.specs.Row.{words_of}
use Rattle.micro_sketch.specs.Opcodes as plain
use Rattle.micro_sketch.specs.Opcodes.{PlainOp, code_of, IsReady, raises}
use Rattle.micro_sketch.specs.BranchOps as branches
use Rattle.micro_sketch.specs.Operand.{past, jump_place, wide_jump_place}
use Rattle.bytecode_model.specs.declared.Value.{Value}
use Rattle.bytecode_model.specs.Types.{NumberType, IntType}
use Rattle.bytecode_model.specs.State.{State}
use Rattle.bytecode_model.specs.Program.{Program, Operand}
use Rattle.bytecode_model.specs.Rows as rows
use Rattle.bytecode_model.specs.Rows.{Row, FunctionOf}
use Rattle.bytecode_model.specs.Table.{row_of}
use Rattle.bytecode_model.specs.Effects.{Effect, effect, on_numbers, branch, at_offset}
use Rattle.image_facts.specs.Places.{Places, object_place}
use Rattle.image_facts.specs.Words.{int_word}
use Rattle.machine_stands.specs.Frames.{AreOperands}
use Rattle.machine_stands.specs.StandsFor.{StandsFor, limits_of}
use Rattle.machine_stands.specs.Comes.{params, ComesTo}
use Rattle.machine_stands.specs.Seen.{seen}
use Rattle.machine_stands.specs.Reading.{operands_of}
use Rattle.opcode_steps.proofs.NumberLemmas.Taken.{Numbers, given, Fit, words_on}
use Rattle.opcode_steps.proofs.NumberLemmas.Scenes.{Laws, Line, Scene, scene, comes, placed}
use Rattle.opcode_steps.proofs.NumberLemmas.Computing.{takes, shown_words}
use Rattle.opcode_steps.proofs.NumberLemmas.Results.{top_is}
use Rattle.opcode_steps.proofs.NumberLemmas.Tests.{TestsOne, TestsTwo}
use Rattle.opcode_steps.proofs.NumberLemmas.Jumping.{landed, jump_is, wide_jump_is}

-- of a sketch the opcode leaves these words, and jumps where the test holds
pub record Branched (op : PlainOp) (x : Sketch) (words : List ℕ) (test : Bool) : Type 0 where
  pub ready : IsReady op x
  pub calm : raises op x ≡ false
  pub effect : plain.effect op x ≡ placed words (cond test (jump_place x) (past 2 x).jpc) x

abbrev pub Branches : (op : PlainOp) (ts : List NumberType) → FunctionOf ts Bool → Type 0
Branches op ts test = (x : Sketch) (ns : Numbers ts) (tail : List ℕ) → Fit ts ns → words_of x ≡ words_on ts ns tail → Branched op x tail (given Bool ts test ns)

module _ (laws : Laws) (P : Program) (pl : Places) (n size : ℕ) (m : machine.MachineState) (answer : Option ℕ) (s s' : State) (st : StandsFor P pl n size m s) (i : Instr) (r : Row) (x : Sketch)
    (at : Scene P pl n size m answer s s' st i r x) where
  -- with the offset of 16 bits behind the opcode
  pub branches_to : (op : PlainOp) (b : Bool) (rest : List Value) (words others : List ℕ) → m.opcode ≡ code_of op → i.length ≡ 3 → Branched op x words b
      → effect P (limits_of P pl n size) s st.top (st.top.pc + i.length) r ≡ branch st.top (st.top.pc + i.length) b (s2 st.body.code (st.top.pc + 1)) rest
      → AreOperands (object_place P pl s.objects) rest others → words ≡ others ++ reverse st.words.saved → ComesTo P pl n size m s s'
  branches_to op true rest words others opcode long made goes stay stack =
      let l = landed P pl n size m answer s s' st i r x at (s2 st.body.code (st.top.pc + 1)) rest goes in
      comes laws P pl n size m answer s s' st i r x at op l.place rest words (jump_place x) others opcode made.ready made.calm made.effect l.goes stay stack
      (jump_is P pl n size m answer s s' st i r x at l.place (omega arith) l.inside l.is)
  branches_to op false rest words others opcode long made goes stay stack =
      comes laws P pl n size m answer s s' st i r x at op (st.top.pc + i.length) rest words (past 2 x).jpc others opcode made.ready made.calm made.effect goes stay stack
      (at.shows.jpc 2 (omega (arith, at.instruction.within)) ∙ ap (λ (k : ℕ). st.top.pc + k) (sym long))

  pub branches_on_numbers : (op : PlainOp) (ts : List NumberType) (test : FunctionOf ts Bool) → m.opcode ≡ code_of op → i.length ≡ 3 → r ≡ rows.Branch ts test (s2 st.body.code (st.top.pc + 1)) → Branches op ts test
      → ComesTo P pl n size m s s'
  branches_on_numbers op ts test opcode long is makes =
      let next = st.top.pc + i.length in
      let go : Bool → List Value → Effect = λ b rest. branch st.top next b (s2 st.body.code (st.top.pc + 1)) rest in
      let row : effect P (limits_of P pl n size) s st.top next r ≡ on_numbers Bool ts test st.top.operands go = ap (λ (q : Row). effect P (limits_of P pl n size) s st.top next q) is in
      let k = takes laws P pl n size m answer s s' st i r x at Bool ts test go row in
      let tail = k.others ++ reverse st.words.saved in
      branches_to op (given Bool ts test k.numbers) k.rest tail k.others opcode long
      (makes x k.numbers tail k.fit (shown_words laws P pl n size m answer s s' st i r x at ts k.numbers k.others k.are)) (row ∙ k.effect go) k.stay refl

  -- always
  pub jumps : (op : PlainOp) (offset : ℤ) (jpc : ℕ) → m.opcode ≡ code_of op → r ≡ rows.Jump offset → IsReady op x → raises op x ≡ false → plain.effect op x ≡ placed (words_of x) jpc x
      → ((t : ℕ) → t < 2 ^ 16 → pos st.top.pc +ℤ offset ≡ pos t → jpc ≡ t) → ComesTo P pl n size m s s'
  jumps op offset jpc opcode is ready calm makes there =
      let row : effect P (limits_of P pl n size) s st.top (st.top.pc + i.length) r ≡ at_offset st.top offset st.top.operands = ap (λ (q : Row). effect P (limits_of P pl n size) s st.top (st.top.pc + i.length) q) is in
      let l = landed P pl n size m answer s s' st i r x at offset st.top.operands row in
      comes laws P pl n size m answer s s' st i r x at op l.place st.top.operands (words_of x) jpc st.words.operands opcode ready calm makes l.goes st.are_frames.0.operands at.shows.words (there l.place l.inside l.is)

-- ---- lines of opcodes

pub branch_line : Laws → (code : ℕ) (op : PlainOp) (ts : List NumberType) (test : FunctionOf ts Bool) → code_of op ≡ code → operands_of (opcodes.row_of code).form ≡ Some (one Offset)
    → ((bytes : List ℕ) (pc : ℕ) (operand : Operand) → row_of bytes (plain_instr code bytes pc (one Offset)) operand ≡ Some (rows.Branch ts test (s2 bytes (pc + 1)))) → Branches op ts test → Line code
branch_line laws code op ts test is form row makes P pl n size m answer s s' h mode opcode bare =
    let st = h.stands in
    let i = plain_instr code st.body.code st.top.pc (one Offset) in
    let read = laws.plain P pl n size m answer s s' h code (one Offset) mode opcode form in
    let at = scene laws P pl n size m answer s s' h i read.0 mode read.1 in
    branches_on_numbers laws P pl n size m answer s s' st i read.0 (seen (params m i.count 0) (None ∷ []) m st.words st.below) at op ts test (opcode ∙ sym is) refl
    (some_same read.0 (rows.Branch ts test (s2 st.body.code (st.top.pc + 1))) (sym read.1.is_row ∙ row st.body.code st.top.pc (P.operand st.top.method st.top.pc))) makes

-- a branch on the word on top, and one on two
abbrev pub BranchesOne : PlainOp → (code : ℕ) → Type 0
BranchesOne op code = (x : Sketch) → Branched op x (x.next ∷ x.under) (holds code x.next x.top)

abbrev pub BranchesTwo : PlainOp → (code : ℕ) → Type 0
BranchesTwo op code = (x : Sketch) → Branched op x x.under (holds code x.next x.top)

pub tests_one : (op : PlainOp) (code : ℕ) (test : ℤ → ℤ → Bool) → BranchesOne op code → TestsOne code test → Branches op (IntType ∷ []) (λ x. test (pos 0) x)
tests_one op code test branch_of good x ns tail fit words =
    let (e, f) = top_is x.top (int_word ns.0) (x.next ∷ x.under) tail words in
    let B : List ℕ → Bool → Type 0 = λ ws b. Branched op x ws b in
    subst (λ (ws : List ℕ). B ws (test (pos 0) ns.0)) f
    (subst (λ (b : Bool). B (x.next ∷ x.under) b) (ap (λ (k : ℕ). holds code x.next k) e ∙ good x.next ns.0 fit.0) (branch_of x))

pub tests_two : (op : PlainOp) (code : ℕ) (test : ℤ → ℤ → Bool) → BranchesTwo op code → TestsTwo code test → Branches op (IntType ∷ IntType ∷ []) test
tests_two op code test branch_of good x ns tail fit words =
    let (e, f) = top_is x.top (int_word ns.0) (x.next ∷ x.under) (int_word ns.1.0 ∷ tail) words in
    let (d, u) = top_is x.next (int_word ns.1.0) x.under tail f in
    let B : List ℕ → Bool → Type 0 = λ ws b. Branched op x ws b in
    subst (λ (ws : List ℕ). B ws (test ns.0 ns.1.0)) u
    (subst (λ (b : Bool). B x.under b) (ap (λ (k : ℕ). holds code x.next k) e ∙ ap (λ (k : ℕ). holds code k (int_word ns.0)) d ∙ good ns.1.0 ns.0 fit.1.0 fit.0) (branch_of x))

pub goto : Laws → Line 167
unfolding opcodes.row_of row_of
goto laws P pl n size m answer s s' h mode opcode bare =
    let st = h.stands in
    let i = plain_instr 167 st.body.code st.top.pc (one Offset) in
    let read = laws.plain P pl n size m answer s s' h 167 (one Offset) mode opcode refl in
    let at = scene laws P pl n size m answer s s' h i read.0 mode read.1 in
    let x = seen (params m i.count 0) (None ∷ []) m st.words st.below in
    jumps laws P pl n size m answer s s' st i read.0 x at (plain.OfBranch branches.Goto) (s2 st.body.code (st.top.pc + 1)) (jump_place x) opcode
    (some_same read.0 (rows.Jump (s2 st.body.code (st.top.pc + 1))) (sym read.1.is_row)) tt refl refl
    (λ t inside e. jump_is P pl n size m answer s s' st i read.0 x at t (omega arith) inside e)

pub goto_w : Laws → Line 200
unfolding opcodes.row_of row_of
goto_w laws P pl n size m answer s s' h mode opcode bare =
    let st = h.stands in
    let i = plain_instr 200 st.body.code st.top.pc (one WideOffset) in
    let read = laws.plain P pl n size m answer s s' h 200 (one WideOffset) mode opcode refl in
    let at = scene laws P pl n size m answer s s' h i read.0 mode read.1 in
    let x = seen (params m i.count 0) (None ∷ []) m st.words st.below in
    jumps laws P pl n size m answer s s' st i read.0 x at (plain.OfBranch branches.GotoW) (s4 st.body.code (st.top.pc + 1)) (wide_jump_place x) opcode
    (some_same read.0 (rows.Jump (s4 st.body.code (st.top.pc + 1))) (sym read.1.is_row)) tt refl refl
    (λ t inside e. wide_jump_is P pl n size m answer s s' st i read.0 x at t (omega arith) inside e)
