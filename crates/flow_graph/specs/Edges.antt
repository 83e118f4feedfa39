-- The edges and exits of a method, told by its code and its exception table alone (JVM Specification SE 8, 2.6.4, 2.10, 4.7.3 and 6.5).
use Rattle.std.specs.Prelude.{◌≡◌, ◌↔◌, ℕ, ◌+◌, ◌*◌, ◌/◌, ◌%◌, ◌<◌, ◌≤◌, ◌==◌, ◌&&◌, ◌||◌, Bool, true, false, List, length, Contains, Result, Ok, Err}
use Rattle.opcodes.specs.declared.instruction.Instr.{Instr}
use Rattle.opcodes.specs.declared.instruction.DecodeFault.{DecodeFault}
use Rattle.opcodes.specs.declared.table.Kind.{Kind}
use Rattle.opcodes.specs.declared.table.Kind.TheVariants.{Return}
use Rattle.opcodes.specs.Instruction.{decoded}
use Rattle.opcodes.specs.Row as opcodes
use Rattle.opcodes.specs.Start.{IsStart}
use Rattle.opcodes.specs.Target as operands
use Rattle.method_flow.specs.declared.flow.HandlerRange.{HandlerRange}
use Rattle.method_flow.specs.Flow.{Coded}
use Rattle.method_flow.specs.Kinds.{LeadsByKind}
use Rattle.loop_nest.specs.Digraph.{Digraph, IsDigraph, Edge}
use Rattle.method_flow.specs.Graphs.{IsReachedEdge}
use Rattle.method_flow.specs.Nodes.{Node, At, RaiseAt, number_of, IsReached}
use Rattle.flow_graph.specs.Reach.{flag_at}
use Rattle.flow_graph.specs.Where.{CallsGoOn}

-- ---- instructions

-- this instruction of the code begins at the place
pub record IsInstruction (code : List ℕ) (p : ℕ) (instr : Instr) : Type 0 where
  pub start : IsStart code p
  pub is : decoded code p ≡ Ok instr

-- the instruction leads from its place to another without a raise
abbrev pub InstructionLeads : List ℕ → (place : ℕ) → Instr → ℕ → Type 0
InstructionLeads code p instr q = LeadsByKind (opcodes.row_of instr.op).kind (operands.targets_of code p instr) (p + instr.length) q

-- an instruction at the place p leads to the place q without a raise
pub record Leads (code : List ℕ) (p q : ℕ) : Type 0 where
  pub instr : Instr
  pub at : IsInstruction code p instr
  pub leads : InstructionLeads code p instr q

-- whether this is an instruction that may raise
abbrev pub raises_in : Result Instr DecodeFault → Bool
raises_in (Ok instr) = (opcodes.row_of instr.op).raises
raises_in (Err fault) = false

abbrev pub is_return : Kind → Bool
is_return Return = true
is_return kind = false

-- whether this is a return
abbrev pub returns_in : Result Instr DecodeFault → Bool
returns_in (Ok instr) = is_return (opcodes.row_of instr.op).kind
returns_in (Err fault) = false

-- an instruction of the code begins at the place, and may raise
pub record RaisesAt (code : List ℕ) (p : ℕ) : Type 0 where
  pub start : IsStart code p
  pub raises : raises_in (decoded code p) ≡ true

-- a range that covers the place p has its handler at q
pub record IsCaught (ranges : List HandlerRange) (p q : ℕ) : Type 0 where
  pub range : HandlerRange
  pub among : Contains ranges range
  pub from : range.start ≤ p
  pub to : p < range.end
  pub handler : range.handler ≡ q

-- ---- nodes

-- An instruction leads to its successors, where the calls there go on, and to its raise step, if it may raise; the raise step leads to each handler
-- that covers it.
abbrev pub CodeEdge : Coded → (goes : List Bool) → Node → Node → Type 0
CodeEdge k goes (At p) (At q) = Leads k.code p q × CallsGoOn k.calls goes p
CodeEdge k goes (At p) (RaiseAt q) = (q ≡ p) × RaisesAt k.code p
CodeEdge k goes (RaiseAt p) (At q) = RaisesAt k.code p × IsCaught k.ranges p q
CodeEdge k goes (RaiseAt p) (RaiseAt q) = ⊥

-- a return, or a raise step
abbrev pub CodeExit : List ℕ → Node → Type 0
CodeExit code (At p) = returns_in (decoded code p) ≡ true
CodeExit code (RaiseAt p) = Unit {0}

-- ---- numbers of nodes

-- the numbers of the nodes of such an edge
pub record IsNumberedEdge (IsEdgeIn : Node → Node → Type 0) (e : ℕ × ℕ) : Type 0 where
  pub source : Node
  pub target : Node
  pub edge : IsEdgeIn source target
  pub numbered : e ≡ (number_of source, number_of target)

-- whether control may leave at the node of this number
abbrev pub leaves_at : (code : List ℕ) → (number : ℕ) → Bool
leaves_at code u = (u % 2 == 1) || returns_in (decoded code (u / 2))

-- whether the node of this number is flagged, and control may leave there
abbrev pub exits_at : (code : List ℕ) → (flags : List Bool) → (number : ℕ) → Bool
exits_at code flags u = flag_at flags u && leaves_at code u

-- this number, where control may leave there
abbrev pub IsExitAt : (code : List ℕ) → (flags : List Bool) → (number : ℕ) → ℕ → Type 0
IsExitAt code flags u v = (exits_at code flags u ≡ true) × (v ≡ u)

-- these are just the edges of the code, by number
abbrev pub AreCodeEdges : Coded → (goes : List Bool) → List (ℕ × ℕ) → Type 0
AreCodeEdges k goes es = (e : ℕ × ℕ) → Contains es e ↔ IsNumberedEdge (CodeEdge k goes) e

-- an edge from the instruction at the place p to one at a place of which this holds, by number
pub record IsEdgeFrom (p : ℕ) (LeadsTo : ℕ → Type 0) (e : ℕ × ℕ) : Type 0 where
  pub target : ℕ
  pub leads : LeadsTo target
  pub is : e ≡ (2 * p, 2 * target)

-- such an edge where this is so
abbrev pub IsEdgeWhereOn : Bool → (p : ℕ) → (LeadsTo : ℕ → Type 0) → ℕ × ℕ → Type 0
IsEdgeWhereOn on p LeadsTo e = (on ≡ true) × IsEdgeFrom p LeadsTo e

-- an edge from an instruction to another where the calls go on, by number
pub record IsLeadEdge (k : Coded) (goes : List Bool) (e : ℕ × ℕ) : Type 0 where
  pub place : ℕ
  pub goes_on : CallsGoOn k.calls goes place
  pub edge : IsEdgeFrom place (Leads k.code place) e

-- ---- graphs

-- an exit of this number that is reached
pub record IsReachedCodeExit (k : Coded) (goes : List Bool) (u : ℕ) : Type 0 where
  pub node : Node
  pub reached : IsReached (CodeEdge k goes) node
  pub exit : CodeExit k.code node
  pub numbered : u ≡ number_of node

-- the graph by the edges of the code, on two numbers for each byte
pub record IsCodeGraph (k : Coded) (goes : List Bool) (g : Digraph) : Type 0 where
  pub digraph : IsDigraph g
  pub size : g.nodes ≡ 2 * length k.code
  pub edges : (u v : ℕ) → Edge g u v ↔ IsReachedEdge (CodeEdge k goes) u v
  pub exits : (u : ℕ) → Contains g.exits u ↔ IsReachedCodeExit k goes u
