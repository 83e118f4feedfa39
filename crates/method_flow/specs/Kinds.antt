-- Where the instruction at a place leads, told by its opcode and its operands alone, for code that makes graphs without what instructions mean
-- (JVM Specification SE 8, 6.5).
use Rattle.std.specs.Prelude.{◌≡◌, ◌⊎◌, ◌↔◌, ℕ, ◌+◌, ◌≤◌, true, List, Contains, ℤ, pos, Some}
use Rattle.opcodes.specs.declared.instruction.Instr.{Instr}
use Rattle.opcodes.specs.declared.table.Kind.{Kind}
use Rattle.opcodes.specs.declared.table.Kind.TheVariants.{Branch, Jump, Switch, Return, Throw, Invoke}
use Rattle.opcodes.specs.Bytes.{u1}
use Rattle.opcodes.specs.Row as opcodes
use Rattle.opcodes.specs.Target as operands
use Rattle.bytecode_model.specs.Program.{Program, Body, body_of, instr_at}
use Rattle.bytecode_model.specs.Rows.{Row}
use Rattle.bytecode_model.specs.Steps.{row_in}
use Rattle.bytecode_model.specs.WellFormed.{is_call}
use Rattle.method_flow.specs.Nodes.{LeadsTo, IsReturn}

-- where an opcode of this kind leads, whose operands name these places
abbrev pub LeadsByKind : Kind → (named : List ℤ) → (next : ℕ) → ℕ → Type 0
LeadsByKind Branch named next q = Contains named (pos q) ⊎ (q ≡ next)
LeadsByKind Jump named next q = Contains named (pos q)
LeadsByKind Switch named next q = Contains named (pos q)
LeadsByKind Return named next q = ⊥
LeadsByKind Throw named next q = ⊥
LeadsByKind kind named next q = q ≡ next

-- the row says of control what the kind says
pub record IsOfKind (kind : Kind) (named : List ℤ) (p next : ℕ) (r : Row) : Type 0 where
  pub leads : (q : ℕ) → LeadsTo p next r q ↔ LeadsByKind kind named next q
  pub returns : IsReturn r ↔ (kind ≡ Return)
  pub calls : (is_call r ≡ true) ↔ (kind ≡ Invoke)

-- each row says of control what the kind of its opcode says, with the places that its operands name
abbrev pub RowsAreOfTheirKinds : Type 0
RowsAreOfTheirKinds = (P : Program) (m p next : ℕ) (b : Body) (i : Instr) (r : Row) → body_of P m ≡ Some b → instr_at P m p ≡ Some i
    → row_in P m p ≡ Some (next, r)
    → (next ≡ p + i.length) × IsOfKind (opcodes.row_of i.op).kind (operands.targets_of b.code p i) p next r

-- the instruction is one of the four invokes that name a method, from invokevirtual (182) to invokeinterface (185), and has no cases
pub record IsInvokeAt (code : List ℕ) (p : ℕ) (i : Instr) : Type 0 where
  pub opcode : i.op ≡ u1 code p
  pub from : 182 ≤ i.op
  pub to : i.op ≤ 185
  pub no_cases : i.count ≡ 0

-- a call's row stands at such an instruction alone
abbrev pub CallsAreInvokes : Type 0
CallsAreInvokes = (P : Program) (m p next : ℕ) (b : Body) (i : Instr) (r : Row) → body_of P m ≡ Some b → instr_at P m p ≡ Some i → row_in P m p ≡ Some (next, r)
    → is_call r ≡ true
    → IsInvokeAt b.code p i
