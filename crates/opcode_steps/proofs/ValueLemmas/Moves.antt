-- Each opcode of the family has its line.
use Rattle.std.proofs.Common.{◌≡◌, ℕ, zero, suc, ◌+◌, ◌-◌, ◌≤◌, Bool, true, false, ◌==◌, ◌||◌, ◌&&◌, nat_le, List, [], ◌∷◌, None, refl, sym, ◌∙◌, subst, arith, eqb-true}
use Rattle.std.proofs.lemmas.Bool.{and_parts, leb-true}
use Rattle.std.proofs.lemmas.Option.{none-some}
use Rattle.opcodes.specs.Bytes.{u1}
use Rattle.opcodes.specs.Fault.{may_be_wide}
use Rattle.opcodes.specs.Form.{Operands, Widened, one, UnsignedByte, UnsignedShort}
use Rattle.opcodes.specs.Row as opcodes
use Rattle.opcodes.specs.Reading.{wide_instr}
use Rattle.bytecode_model.specs.Program.{Operand}
use Rattle.bytecode_model.specs.Table.{row_of}
use Rattle.machine_stands.specs.Simulates.{Simulates}
use Rattle.opcode_steps.specs.Values.Family.{is_among, constants, loads, stores, shuffles, others, moves_values}
use Rattle.opcode_steps.proofs.ValueLemmas.Scenes.{Laws, Line, LineWhere}
use Rattle.opcode_steps.proofs.ValueLemmas.Shapes.{behind_wide}
use Rattle.opcode_steps.proofs.ValueLemmas.Constants.{nop, aconst_null, iconst_m1, iconst_0, iconst_1, iconst_2, iconst_3, iconst_4, iconst_5, lconst_0, lconst_1, bipush, sipush}
use Rattle.opcode_steps.proofs.ValueLemmas.PoolLines.{ldc, ldc_w, ldc2_w}
use Rattle.opcode_steps.proofs.ValueLemmas.LocalLines as local
use Rattle.opcode_steps.proofs.ValueLemmas.StackLines as stack

-- what holds of each of some opcodes
abbrev EachOf : (ℕ → Type 0) → List ℕ → Type 0
EachOf Q [] = Unit {0}
EachOf Q (k ∷ ks) = Q k × EachOf Q ks

either : {A : Type 0} (a b : Bool) → (a || b) ≡ true → (a ≡ true → A) → (b ≡ true → A) → A
either true b is here there = here refl
either false b is here there = there is

one_of : (Q : ℕ → Type 0) (op : ℕ) (ks : List ℕ) → is_among ks op ≡ true → EachOf Q ks → Q op
one_of Q op [] is h = absurd (cc)
one_of Q op (k ∷ ks) is h = either (k == op) (is_among ks op) is (λ e. subst Q (eqb-true k op e) h.0) (λ e. one_of Q op ks e h.1)

-- ---- what stands behind `wide`

abbrev WideLine : ℕ → Type 0
WideLine under = LineWhere 196 (behind_wide under)

-- an opcode that may stand there and has no row
no_row : Laws → (under : ℕ) (o w : Operands) → (opcodes.row_of under).form ≡ Widened o w → ((code : List ℕ) (pc : ℕ) (operand : Operand) → row_of code (wide_instr under code pc w) operand ≡ None) → WideLine under
no_row laws under o w form none P pl n size m answer s s' h mode opcode there =
    let read = laws.wide P pl n size m answer s s' h under o w mode opcode there form in
    absurd (none-some read.0 (sym (none h.stands.body.code h.stands.top.pc (P.operand h.stands.top.method h.stands.top.pc)) ∙ read.1.is_row))

no_fload : Laws → WideLine 23
unfolding opcodes.row_of row_of
no_fload laws = no_row laws 23 (one UnsignedByte) (one UnsignedShort) refl (λ code pc o. refl)

no_dload : Laws → WideLine 24
unfolding opcodes.row_of row_of
no_dload laws = no_row laws 24 (one UnsignedByte) (one UnsignedShort) refl (λ code pc o. refl)

no_fstore : Laws → WideLine 56
unfolding opcodes.row_of row_of
no_fstore laws = no_row laws 56 (one UnsignedByte) (one UnsignedShort) refl (λ code pc o. refl)

no_dstore : Laws → WideLine 57
unfolding opcodes.row_of row_of
no_dstore laws = no_row laws 57 (one UnsignedByte) (one UnsignedShort) refl (λ code pc o. refl)

no_ret : Laws → WideLine 169
unfolding opcodes.row_of row_of
no_ret laws = no_row laws 169 (one UnsignedByte) (one UnsignedShort) refl (λ code pc o. refl)

-- one of five opcodes in a row
one_of_five : (Q : ℕ → Type 0) (low op : ℕ) → (nat_le low op && nat_le op (low + 4)) ≡ true → Q (low + 0) → Q (low + 1) → Q (low + 2) → Q (low + 3) → Q (low + 4) → Q op
one_of_five Q low op is a b c d e =
    let tests = and_parts (nat_le low op) (nat_le op (low + 4)) is in
    let least = leb-true low op tests.0 in
    let most = leb-true op (low + 4) tests.1 in
    let there : low + (op - low) ≡ op = omega (arith, least) in
    subst Q there (at (op - low) (omega (arith, least, most)))
  where
    at : (k : ℕ) → k ≤ 4 → Q (low + k)
    at zero few = a
    at (suc zero) few = b
    at (suc (suc zero)) few = c
    at (suc (suc (suc zero))) few = d
    at (suc (suc (suc (suc zero)))) few = e
    at (suc (suc (suc (suc (suc k))))) few = absurd (omega (arith, few))

wide_line : Laws → (under : ℕ) → may_be_wide under ≡ true → WideLine under
wide_line laws under is =
    either ((nat_le 21 under && nat_le under 25) || (nat_le 54 under && nat_le under 58) || under == 132) (under == 169) is
    (λ is. either ((nat_le 21 under && nat_le under 25) || (nat_le 54 under && nat_le under 58)) (under == 132) is
    (λ is. either (nat_le 21 under && nat_le under 25) (nat_le 54 under && nat_le under 58) is
    (λ is. one_of_five WideLine 21 under is (local.wide_iload laws) (local.wide_lload laws) (no_fload laws) (no_dload laws) (local.wide_aload laws))
    (λ is. one_of_five WideLine 54 under is (local.wide_istore laws) (local.wide_lstore laws) (no_fstore laws) (no_dstore laws) (local.wide_astore laws)))
    (λ is. subst WideLine (sym (eqb-true under 132 is)) (local.wide_iinc laws)))
    (λ is. subst WideLine (sym (eqb-true under 169 is)) (no_ret laws))

wide : Laws → Line 196
wide laws P pl n size m answer s s' h mode opcode there =
    let under = u1 h.stands.body.code (h.stands.top.pc + 1) in
    wide_line laws under (laws.wide_opcodes P pl n size m answer s s' h mode opcode) P pl n size m answer s s' h mode opcode refl

-- ---- all of them

constants_move : Laws → EachOf Line constants
constants_move laws = (nop laws, (aconst_null laws, (iconst_m1 laws, (iconst_0 laws, (iconst_1 laws, (iconst_2 laws, (iconst_3 laws, (iconst_4 laws, (iconst_5 laws, (lconst_0 laws, (lconst_1 laws, (bipush laws, (sipush laws, (ldc laws, (ldc_w laws, (ldc2_w laws, tt))))))))))))))))

loads_move : Laws → EachOf Line loads
loads_move laws = (local.iload laws, (local.lload laws, (local.aload laws, (local.iload_0 laws, (local.iload_1 laws, (local.iload_2 laws, (local.iload_3 laws, (local.lload_0 laws, (local.lload_1 laws, (local.lload_2 laws, (local.lload_3 laws, (local.aload_0 laws, (local.aload_1 laws, (local.aload_2 laws, (local.aload_3 laws, tt)))))))))))))))

stores_move : Laws → EachOf Line stores
stores_move laws = (local.istore laws, (local.lstore laws, (local.astore laws, (local.istore_0 laws, (local.istore_1 laws, (local.istore_2 laws, (local.istore_3 laws, (local.lstore_0 laws, (local.lstore_1 laws, (local.lstore_2 laws, (local.lstore_3 laws, (local.astore_0 laws, (local.astore_1 laws, (local.astore_2 laws, (local.astore_3 laws, tt)))))))))))))))

shuffles_move : Laws → EachOf Line shuffles
shuffles_move laws = (stack.pop laws, (stack.pop2 laws, (stack.dup laws, (stack.dup_x1 laws, (stack.dup_x2 laws, (stack.dup2 laws, (stack.dup2_x1 laws, (stack.dup2_x2 laws, (stack.swap laws, tt)))))))))

others_move : Laws → EachOf Line others
others_move laws = (local.iinc laws, (wide laws, tt))

pub values_move : Laws → Simulates moves_values
values_move laws P pl n size m answer s s' h mode member bare =
    let op = m.opcode in
    let line : Line op =
    either (is_among constants op || is_among loads op || is_among stores op || is_among shuffles op) (is_among others op) member
    (λ is. either (is_among constants op || is_among loads op || is_among stores op) (is_among shuffles op) is
    (λ is. either (is_among constants op || is_among loads op) (is_among stores op) is
    (λ is. either (is_among constants op) (is_among loads op) is (λ is. one_of Line op constants is (constants_move laws)) (λ is. one_of Line op loads is (loads_move laws)))
    (λ is. one_of Line op stores is (stores_move laws)))
    (λ is. one_of Line op shuffles is (shuffles_move laws)))
    (λ is. one_of Line op others is (others_move laws)) in
    line P pl n size m answer s s' h mode refl tt
