-- The opcodes that are built.
use Rattle.std.proofs.Common.{◌≡◌, ℕ, ◌<◌, Bool, true, false, ◌||◌, ◌&&◌, not, List, map, get_or, refl, sym, ◌∙◌, ap, arith, ◌⊎◌, inl, inr, ⊎_elim}
use Rattle.std.specs.Prelude.{Ok, Some, None}
use Rattle.std.specs.List.{range_with_len}
use Rattle.std.proofs.lemmas.List.FromFn.{get_or-map-range_with_len}
use Rattle.machine_stands.specs.Comes.{ComesTo}
use Rattle.machine_stands.specs.Simulates.{Simulates}
use Rattle.opcode_steps.specs.Values.Family.{moves_values}
use Rattle.opcode_steps.specs.Numbers.Laws.{computes_numbers}
use Rattle.call_steps.specs.Family.{calls_by_receiver, calls_or_returns, throws}
use Rattle.opcode_steps.specs.Devices.Family.{is_device}
use Rattle.opcode_steps.specs.Heap.Family.{is_of_array, is_of_field}
use Rattle.opcode_steps.specs.Objects.Family.{allocates, is_monitor, tests_types}
use Rattle.opcodes.specs.declared.instruction.Instr.{Instr}
use Rattle.opcodes.specs.Bytes.{u1}
use Rattle.opcodes.specs.Form.{Form, NotAnOpcode, Fixed, Widened, TableSwitch, LookupSwitch, Wide}
use Rattle.opcodes.specs.Row as opcodes
use Rattle.opcodes.specs.Instruction.{decoded}
use Rattle.opcodes.specs.Reading.{IsOfForm, InstructionsAreOfTheirForm}
use Rattle.bytecode_model.specs.Program.{Operand}
use Rattle.bytecode_model.specs.Rows.{Row}
use Rattle.bytecode_model.specs.Table.{row_of}
use Rattle.bytecode_model.specs.Supported.{is_supported, RowsAreOfTheirOpcodes}
use Rattle.boundary.specs.Families.{is_built}

-- tests that agree on each byte
on_bytes : (f g : ℕ → Bool) → map f (range_with_len 0 256) ≡ map g (range_with_len 0 256) → (op : ℕ) → op < 256 → f op ≡ g op
on_bytes f g same op h =
    sym (get_or-map-range_with_len f 0 256 op op false h (omega arith)) ∙ ap (λ (list : List Bool). get_or list op false) same
    ∙ get_or-map-range_with_len g 0 256 op op false h (omega arith)

-- ---- one law for all families

either_case : (a b : Bool) → (a || b) ≡ true → (a ≡ true) ⊎ (b ≡ true)
either_case true b h = inl refl
either_case false b h = inr h

either_simulates : (f g : ℕ → Bool) → Simulates f → Simulates g → Simulates (λ op. f op || g op)
either_simulates f g first second P pl n size m answer s s' h mode family origin = by_case (either_case (f m.opcode) (g m.opcode) family)
  where
    by_case : (f m.opcode ≡ true) ⊎ (g m.opcode ≡ true) → ComesTo P pl n size m s s'
    by_case (inl is) = first P pl n size m answer s s' h mode is origin
    by_case (inr is) = second P pl n size m answer s s' h mode is origin

-- the laws of the families
pub record FamilyLaws : Type 0 where
  pub values : Simulates moves_values
  pub numbers : Simulates computes_numbers
  pub calls : Simulates calls_or_returns
  pub by_receiver : Simulates calls_by_receiver
  pub thrown : Simulates throws
  pub devices : Simulates is_device
  pub fields : Simulates is_of_field
  pub arrays : Simulates is_of_array
  pub made : Simulates allocates
  pub tests : Simulates tests_types
  pub monitors : Simulates is_monitor

-- the families so far, each with one more
abbrev with_numbers : ℕ → Bool
with_numbers op = moves_values op || computes_numbers op

abbrev with_calls : ℕ → Bool
with_calls op = with_numbers op || calls_or_returns op

abbrev with_receivers : ℕ → Bool
with_receivers op = with_calls op || calls_by_receiver op

abbrev with_throws : ℕ → Bool
with_throws op = with_receivers op || throws op

abbrev with_devices : ℕ → Bool
with_devices op = with_throws op || is_device op

abbrev with_fields : ℕ → Bool
with_fields op = with_devices op || is_of_field op

abbrev with_arrays : ℕ → Bool
with_arrays op = with_fields op || is_of_array op

abbrev with_made : ℕ → Bool
with_made op = with_arrays op || allocates op

abbrev with_tests : ℕ → Bool
with_tests op = with_made op || tests_types op

pub all_simulate : FamilyLaws → Simulates is_built
unfolding is_built
all_simulate laws =
    let numbers = either_simulates moves_values computes_numbers laws.values laws.numbers in
    let calls = either_simulates with_numbers calls_or_returns numbers laws.calls in
    let by_receiver = either_simulates with_calls calls_by_receiver calls laws.by_receiver in
    let thrown = either_simulates with_receivers throws by_receiver laws.thrown in
    let devices = either_simulates with_throws is_device thrown laws.devices in
    let fields = either_simulates with_devices is_of_field devices laws.fields in
    let arrays = either_simulates with_fields is_of_array fields laws.arrays in
    let made = either_simulates with_arrays allocates arrays laws.made in
    let tests = either_simulates with_made tests_types made laws.tests in
    either_simulates with_tests is_monitor tests laws.monitors

-- ---- an instruction that has a row has an opcode of a family

one_and_not : (a b : Bool) → a ≡ true → (a && not b) ≡ false → b ≡ true
one_and_not true true h g = refl
one_and_not true false h g = absurd (cc)
one_and_not false b h g = absurd (cc)

supported_are_built : map (λ op. is_supported op && not (is_built op)) (range_with_len 0 256) ≡ map (λ op. false) (range_with_len 0 256)
unfolding is_built opcodes.row_of
supported_are_built = refl

abbrev is_wide : Form → Bool
is_wide Wide = true
is_wide form = false

wide_is_built : map (λ op. is_wide (opcodes.row_of op).form && not (is_built op)) (range_with_len 0 256) ≡ map (λ op. false) (range_with_len 0 256)
unfolding is_built opcodes.row_of
wide_is_built = refl

is_supported_at : RowsAreOfTheirOpcodes → (op : ℕ) → op < 256 → (code : List ℕ) (i : Instr) (operand : Operand) (r : Row) → i.op ≡ op → row_of code i operand ≡ Some r → is_supported op ≡ true
is_supported_at rows op small code i operand r is row = by_test (is_supported op) refl
  where
    by_test : (b : Bool) → is_supported op ≡ b → is_supported op ≡ true
    by_test true e = e
    by_test false e = let clash : None ≡ Some r = sym ((rows.rows op small).unsupported e code i operand is) ∙ row in absurd (cc)

own_opcode : (form : Form) (op : ℕ) (code : List ℕ) (pc : ℕ) (i : Instr) → IsOfForm form op code pc i → (i.op ≡ op) ⊎ (is_wide form ≡ true)
own_opcode NotAnOpcode op code pc i h = absurd h
own_opcode (Fixed o) op code pc i h = inl (ap (λ (j : Instr). j.op) h)
own_opcode (Widened o w) op code pc i h = inl (ap (λ (j : Instr). j.op) h)
own_opcode TableSwitch op code pc i h = inl (ap (λ (j : Instr). j.op) h)
own_opcode LookupSwitch op code pc i h = inl (ap (λ (j : Instr). j.op) h)
own_opcode Wide op code pc i h = inr refl

pub opcode_is_built : RowsAreOfTheirOpcodes → InstructionsAreOfTheirForm → (code : List ℕ) (pc op : ℕ) (i : Instr) (operand : Operand) (r : Row) → u1 code pc ≡ op → op < 256 → decoded code pc ≡ Ok i → row_of code i operand ≡ Some r
    → is_built op ≡ true
opcode_is_built rows forms code pc op i operand r at byte whole row =
    ⊎_elim
    (λ own. one_and_not (is_supported op) (is_built op) (is_supported_at rows op byte code i operand r own row) (on_bytes (λ op. is_supported op && not (is_built op)) (λ op. false) supported_are_built op byte))
    (λ wide. one_and_not (is_wide (opcodes.row_of op).form) (is_built op) wide (on_bytes (λ op. is_wide (opcodes.row_of op).form && not (is_built op)) (λ op. false) wide_is_built op byte))
    (own_opcode (opcodes.row_of op).form op code pc i (forms code pc op (opcodes.row_of op).form i whole at refl))
