-- The branches on references (JVM Specification SE 8, 6.5.if_acmp<cond>, ifnull and ifnonnull).
use Rattle.std.proofs.Common.{◌≡◌, ℕ, ◌+◌, Bool, true, false, List, [], ◌∷◌, ◌++◌, Option, Some, None, reverse, refl, sym, ◌∙◌, ap, subst}
use Rattle.lists.proofs.Lemmas.{some_same}
use Rattle.opcodes.specs.declared.instruction.Instr.{Instr}
use Rattle.opcodes.specs.Bytes.{s2}
use Rattle.opcodes.specs.Form.{one, Offset}
use Rattle.opcodes.specs.Row as opcodes
use Rattle.opcodes.specs.Reading.{plain_instr}
use Rattle.jop_core.specs.Operations.{holds}
use Rattle.jop_core.specs.State as machine
use Rattle.micro_sketch.specs.Sketch.{Sketch}
use Rattle.micro_sketch.specs.Opcodes.{PlainOp, OfBranch, code_of}
use Rattle.micro_sketch.specs.BranchOps as branches
use Rattle.bytecode_model.specs.declared.Value.{Value}
use Rattle.bytecode_model.specs.State.{State}
use Rattle.bytecode_model.specs.Program.{Program, Operand}
use Rattle.bytecode_model.specs.Rows as rows
use Rattle.bytecode_model.specs.Rows.{Row}
use Rattle.bytecode_model.specs.Table.{row_of}
use Rattle.bytecode_model.specs.Effects.{Effect, effect, branch, same_bool}
use Rattle.image_facts.specs.Places.{Places}
use Rattle.image_facts.specs.Says.{Says}
use Rattle.machine_stands.specs.StandsFor.{StandsFor, limits_of}
use Rattle.machine_stands.specs.Comes.{params, ComesTo}
use Rattle.machine_stands.specs.Simulates.{is_bare}
use Rattle.machine_stands.specs.Seen.{seen}
use Rattle.machine_stands.specs.Reading.{operands_of}
use Rattle.opcode_steps.proofs.NumberLemmas.Scenes.{Laws, Line, Scene, scene, only_linked}
use Rattle.opcode_steps.proofs.NumberLemmas.Results.{top_is}
use Rattle.opcode_steps.proofs.NumberLemmas.Branching.{Branched, BranchesOne, BranchesTwo, branches_to}
use Rattle.opcode_steps.proofs.NumberLemmas.Objects.{Tells, equal_words, unequal_words, is_zero, is_some, on_two, on_one, two_compared, one_compared}

-- the test of an opcode tells whether two words are the same, and whether one is 0
abbrev TellsTwo : (code : ℕ) → (wanted : Bool) → Type 0
TellsTwo code wanted = (x y : ℕ) (b : Bool) → Tells b x y → holds code y x ≡ same_bool b wanted

abbrev TellsOne : (code : ℕ) → (wanted : Bool) → Type 0
TellsOne code wanted = (below x : ℕ) (b : Bool) → Tells b x 0 → holds code below x ≡ same_bool b wanted

module _ (laws : Laws) (P : Program) (pl : Places) (n size : ℕ) (m : machine.MachineState) (answer : Option ℕ) (s s' : State) (st : StandsFor P pl n size m s) (i : Instr) (r : Row) (x : Sketch)
    (at : Scene P pl n size m answer s s' st i r x) (says : Says P pl) (linked : P.linked ≡ true) where
  two : (op : PlainOp) (code : ℕ) (wanted : Bool) → m.opcode ≡ code_of op → i.length ≡ 3 → r ≡ rows.BranchSame wanted (s2 st.body.code (st.top.pc + 1)) → BranchesTwo op code → TellsTwo code wanted → ComesTo P pl n size m s s'
  two op code wanted opcode long is made tells =
      let next = st.top.pc + i.length in
      let go : Bool → List Value → Effect = λ b rest. branch st.top next (same_bool b wanted) (s2 st.body.code (st.top.pc + 1)) rest in
      let row : effect P (limits_of P pl n size) s st.top next r ≡ on_two st.top.operands go = ap (λ (q : Row). effect P (limits_of P pl n size) s st.top next q) is in
      let k = two_compared laws.one P pl s.objects says linked st.top.operands st.words.operands at.frame.operand_values st.are_frames.0.operands go (λ stuck. at.defined (row ∙ stuck)) in
      let tail = k.others ++ reverse st.words.saved in
      let (e, f) = top_is x.top k.upper (x.next ∷ x.under) (k.lower ∷ tail) (at.shows.words ∙ ap (λ (ws : List ℕ). ws ++ reverse st.words.saved) k.split) in
      let (d, u) = top_is x.next k.lower x.under tail f in
      let B : List ℕ → Bool → Type 0 = λ ws b. Branched op x ws b in
      let test : holds code x.next x.top ≡ same_bool k.answer wanted = ap (λ (j : ℕ). holds code x.next j) e ∙ ap (λ (j : ℕ). holds code j k.upper) d ∙ tells k.upper k.lower k.answer k.tells in
      branches_to laws P pl n size m answer s s' st i r x at op (same_bool k.answer wanted) k.rest tail k.others opcode long
      (subst (λ (ws : List ℕ). B ws (same_bool k.answer wanted)) u (subst (λ (b : Bool). B x.under b) test (made x))) (row ∙ k.effect go) k.stay refl

  single : (op : PlainOp) (code : ℕ) (wanted : Bool) → m.opcode ≡ code_of op → i.length ≡ 3 → r ≡ rows.BranchNull wanted (s2 st.body.code (st.top.pc + 1)) → BranchesOne op code → TellsOne code wanted → ComesTo P pl n size m s s'
  single op code wanted opcode long is made tells =
      let next = st.top.pc + i.length in
      let go : Bool → List Value → Effect = λ b rest. branch st.top next (same_bool b wanted) (s2 st.body.code (st.top.pc + 1)) rest in
      let row : effect P (limits_of P pl n size) s st.top next r ≡ on_one st.top.operands go = ap (λ (q : Row). effect P (limits_of P pl n size) s st.top next q) is in
      let k = one_compared laws.one P pl s.objects says linked st.top.operands st.words.operands at.frame.operand_values st.are_frames.0.operands go (λ stuck. at.defined (row ∙ stuck)) in
      let tail = k.others ++ reverse st.words.saved in
      let (e, f) = top_is x.top k.upper (x.next ∷ x.under) tail (at.shows.words ∙ ap (λ (ws : List ℕ). ws ++ reverse st.words.saved) k.split) in
      let B : List ℕ → Bool → Type 0 = λ ws b. Branched op x ws b in
      let test : holds code x.next x.top ≡ same_bool k.answer wanted = ap (λ (j : ℕ). holds code x.next j) e ∙ tells x.next k.upper k.answer k.tells in
      branches_to laws P pl n size m answer s s' st i r x at op (same_bool k.answer wanted) k.rest tail k.others opcode long
      (subst (λ (ws : List ℕ). B ws (same_bool k.answer wanted)) f (subst (λ (b : Bool). B (x.next ∷ x.under) b) test (made x))) (row ∙ k.effect go) k.stay refl

two_line : Laws → (code : ℕ) (op : PlainOp) (wanted : Bool) → code_of op ≡ code → operands_of (opcodes.row_of code).form ≡ Some (one Offset)
    → ((bytes : List ℕ) (pc : ℕ) (operand : Operand) → row_of bytes (plain_instr code bytes pc (one Offset)) operand ≡ Some (rows.BranchSame wanted (s2 bytes (pc + 1)))) → is_bare code ≡ false
    → BranchesTwo op code → TellsTwo code wanted → Line code
two_line laws code op wanted is form row never made tells P pl n size m answer s s' h mode opcode bare =
    let st = h.stands in
    let i = plain_instr code st.body.code st.top.pc (one Offset) in
    let read = laws.plain P pl n size m answer s s' h code (one Offset) mode opcode form in
    let at = scene laws P pl n size m answer s s' h i read.0 mode read.1 in
    two laws P pl n size m answer s s' st i read.0 (seen (params m i.count 0) (None ∷ []) m st.words st.below) at h.says (only_linked P.linked (is_bare code) bare never) op code wanted (opcode ∙ sym is) refl
    (some_same read.0 (rows.BranchSame wanted (s2 st.body.code (st.top.pc + 1))) (sym read.1.is_row ∙ row st.body.code st.top.pc (P.operand st.top.method st.top.pc))) made tells

single_line : Laws → (code : ℕ) (op : PlainOp) (wanted : Bool) → code_of op ≡ code → operands_of (opcodes.row_of code).form ≡ Some (one Offset)
    → ((bytes : List ℕ) (pc : ℕ) (operand : Operand) → row_of bytes (plain_instr code bytes pc (one Offset)) operand ≡ Some (rows.BranchNull wanted (s2 bytes (pc + 1)))) → is_bare code ≡ false
    → BranchesOne op code → TellsOne code wanted → Line code
single_line laws code op wanted is form row never made tells P pl n size m answer s s' h mode opcode bare =
    let st = h.stands in
    let i = plain_instr code st.body.code st.top.pc (one Offset) in
    let read = laws.plain P pl n size m answer s s' h code (one Offset) mode opcode form in
    let at = scene laws P pl n size m answer s s' h i read.0 mode read.1 in
    single laws P pl n size m answer s s' st i read.0 (seen (params m i.count 0) (None ∷ []) m st.words st.below) at h.says (only_linked P.linked (is_bare code) bare never) op code wanted (opcode ∙ sym is) refl
    (some_same read.0 (rows.BranchNull wanted (s2 st.body.code (st.top.pc + 1))) (sym read.1.is_row ∙ row st.body.code st.top.pc (P.operand st.top.method st.top.pc))) made tells

pub if_acmpeq : Laws → Line 165
unfolding opcodes.row_of row_of
if_acmpeq laws = two_line laws 165 (OfBranch branches.IfAcmpeq) true refl refl (λ bytes pc operand. refl) refl (λ x. record { ready = tt; calm = refl; effect = refl }) equal_words

pub if_acmpne : Laws → Line 166
unfolding opcodes.row_of row_of
if_acmpne laws = two_line laws 166 (OfBranch branches.IfAcmpne) false refl refl (λ bytes pc operand. refl) refl (λ x. record { ready = tt; calm = refl; effect = refl }) unequal_words

pub ifnull : Laws → Line 198
unfolding opcodes.row_of row_of
ifnull laws = single_line laws 198 (OfBranch branches.Ifnull) true refl refl (λ bytes pc operand. refl) refl (λ x. record { ready = tt; calm = refl; effect = refl }) (λ below. is_zero)

pub ifnonnull : Laws → Line 199
unfolding opcodes.row_of row_of
ifnonnull laws = single_line laws 199 (OfBranch branches.Ifnonnull) false refl refl (λ bytes pc operand. refl) refl (λ x. record { ready = tt; calm = refl; effect = refl }) (λ below. is_some)
