-- What an analysis needs of a program, as one table: codes, the ranges of exception tables, and what invokes may run, without classes and types.
use Rattle.std.specs.Prelude.{◌≡◌, ◌↔◌, ℕ, ◌+◌, ◌^◌, ◌<◌, ◌≤◌, List, [], length, map, All, Contains, Ok, Some, IsSome, slice_get, slice_index_or}
use Rattle.std.specs.List.Sorted.{IsStrictlyIncreasing}
use Rattle.std.specs.Option.{IsSomeAnd}
use Rattle.opcodes.specs.declared.instruction.Instr.{Instr}
use Rattle.opcodes.specs.declared.table.Kind.TheVariants.{Invoke}
use Rattle.opcodes.specs.Instruction.{decoded}
use Rattle.opcodes.specs.Row as opcodes
use Rattle.opcodes.specs.Start.{IsStart}
use Rattle.opcodes.specs.Target as operands
use Rattle.bytecode_model.specs.Program.{Program, Handler, body_of}
use Rattle.bytecode_model.specs.Steps.{row_in}
use Rattle.method_flow.specs.declared.flow.HandlerRange.{HandlerRange}
use Rattle.method_flow.specs.declared.flow.Call.{Call}
use Rattle.method_flow.specs.Calls.{IsTarget}
use Rattle.method_flow.specs.Kinds.{LeadsByKind}

-- ---- the table

-- a method with code: its name in bounds files, its code, its exception table, what entries catch apart, and its invokes, rising by place
pub record Coded : Type 0 where
  pub name : List ℕ
  pub code : List ℕ
  pub ranges : List HandlerRange
  pub calls : List Call

-- The methods with code, by number, the lists of targets that their invokes name, and the method that is run.
pub record Flow : Type 0 where
  pub methods : List Coded
  pub targets : List (List ℕ)
  pub boot : ℕ

-- what an invoke may run
abbrev pub targets_of_call : Flow → Call → List ℕ
targets_of_call f c = slice_index_or f.targets c.targets []

-- ---- its form

-- the whole instruction at p leads by its opcode's kind and its operands to instructions of the code alone
pub record StaysInCode (code : List ℕ) (p : ℕ) : Type 0 where
  pub instr : Instr
  pub is : decoded code p ≡ Ok instr
  pub leads : (q : ℕ) → LeadsByKind (opcodes.row_of instr.op).kind (operands.targets_of code p instr) (p + instr.length) q → IsStart code q

-- a range ends within the code, and its handler is an instruction
pub record IsRangeOf (code : List ℕ) (r : HandlerRange) : Type 0 where
  pub end : r.end ≤ length code
  pub handler : IsStart code r.handler

-- an invoke begins at the place
pub record IsInvokeStart (code : List ℕ) (p : ℕ) : Type 0 where
  pub start : IsStart code p
  pub instr : Instr
  pub is : decoded code p ≡ Ok instr
  pub invokes : (opcodes.row_of instr.op).kind ≡ Invoke

abbrev pub places_of : List Call → List ℕ
places_of calls = map (λ c. c.place) calls

-- the code is whole instructions, control stays at them, and the calls are its invokes (JVM Specification SE 8, 4.7.3 and 4.9.1)
pub record IsCoded (k : Coded) : Type 0 where
  pub not_empty : 0 < length k.code
  pub short : length k.code < 65536
  pub instructions : (p : ℕ) → IsStart k.code p → StaysInCode k.code p
  pub few_ranges : length k.ranges < 65536
  pub ranges : All (IsRangeOf k.code) k.ranges
  pub rising : IsStrictlyIncreasing (places_of k.calls)
  pub calls : (p : ℕ) → Contains (places_of k.calls) p ↔ IsInvokeStart k.code p

-- each list of targets rises and names methods of the table, and each call names a list
pub record IsFlow (f : Flow) : Type 0 where
  pub few : length f.methods < 2 ^ 32
  pub boot : f.boot < length f.methods
  pub rising : All IsStrictlyIncreasing f.targets
  pub within : All (All (λ t. t < length f.methods)) f.targets
  pub lists : All (λ k. All (λ c. c.targets < length f.targets) k.calls) f.methods

-- ---- whose it is

-- an entry of an exception table, what it catches apart
abbrev pub range_of : Handler → HandlerRange
range_of h = record { start = h.start; end = h.end; handler = h.target }

-- the method's code and exception table are the program's, and each of its instructions has a row there
pub record IsCodedOf (P : Program) (m : ℕ) (k : Coded) : Type 0 where
  pub body : IsSomeAnd (body_of P m) (λ b. (b.code ≡ k.code) × (map range_of b.handlers ≡ k.ranges))
  pub rows : (p : ℕ) → IsStart k.code p → IsSome (row_in P m p)

-- The table is the program's: it has just the methods with code, and each invoke just the targets that it has there.
pub record IsFlowOf (P : Program) (f : Flow) : Type 0 where
  pub coded : (m : ℕ) → IsSome (body_of P m) ↔ (m < length f.methods)
  pub methods : (m : ℕ) (k : Coded) → slice_get f.methods m ≡ Some k → IsCodedOf P m k
  pub targets : (m : ℕ) (k : Coded) (c : Call) → slice_get f.methods m ≡ Some k → Contains k.calls c → (t : ℕ)
      → Contains (targets_of_call f c) t ↔ IsTarget P m c.place t
  pub boot : f.boot ≡ P.boot
