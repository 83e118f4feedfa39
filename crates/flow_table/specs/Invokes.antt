-- What invokes name (JVM Specification SE 8, 6.5.invokestatic, 6.5.invokespecial, 6.5.invokevirtual, 6.5.invokeinterface), and the numbers of the lists of
-- what they may run: first, by number, each method with code alone; then, by number, for each method those that are selected for it.
use Rattle.std.specs.Prelude.{◌≡◌, ℕ, ◌+◌, ◌==◌, ◌||◌, List, Option, Some, None, if◌then◌else◌}
use Rattle.std.specs.Option.{option_map, IsSomeAnd}
use Rattle.std.specs.List.{filter_map}
use Rattle.opcodes.specs.Start.{starts_of}
use Rattle.bytecode_model.specs.Lists.{onto}
use Rattle.bytecode_model.specs.Program.{Program, Operand, AMethod, body_of}
use Rattle.bytecode_model.specs.Rows as rows
use Rattle.bytecode_model.specs.Rows.{Row}
use Rattle.bytecode_model.specs.Steps.{row_in}
use Rattle.method_flow.specs.declared.flow.Call.{Call}
use Rattle.flow_table.specs.declared.invokes.Invoked.{Invoked}
use Rattle.flow_table.specs.declared.invokes.Invoked.TheVariants.{Fixed, Resolved}

-- the method has this code
abbrev pub IsCodeOf : Program → (method : ℕ) → (code : List ℕ) → Type 0
IsCodeOf P m code = IsSomeAnd (body_of P m) (λ b. b.code ≡ code)

-- what an instruction invokes, by its row: the method that runs, or the one for which methods are selected
abbrev pub invoked_by : Row → Option Invoked
invoked_by (rows.CallStatic m) = Some (Fixed m)
invoked_by (rows.CallSpecial named m) = Some (Fixed m)
invoked_by (rows.CallVirtual named m) = Some (Resolved m)
invoked_by (rows.CallInterface named m) = Some (Resolved m)
invoked_by r = None

abbrev pub invoked_at : Program → (method place : ℕ) → Option Invoked
invoked_at P m p = onto (row_in P m p) (λ x. invoked_by x.1)

-- the same by the opcode (182 to 185) and what the pool entry means
abbrev pub invoked_as : (op : ℕ) → Operand → Option Invoked
invoked_as op (AMethod named m) = if op == 182 || op == 185 then Some (Resolved m) else if op == 183 || op == 184 then Some (Fixed m) else None
invoked_as op o = None

-- the number of the list of what an invoke may run, in a program of so many methods with code
abbrev pub list_number : (coded : ℕ) → Invoked → ℕ
list_number coded (Fixed m) = m
list_number coded (Resolved m) = coded + m

abbrev pub call_of : (coded place : ℕ) → Invoked → Call
call_of coded p i = record { place = p; targets = list_number coded i }

-- the invoke at a place of a method
abbrev pub call_at : Program → (coded method place : ℕ) → Option Call
call_at P coded m p = option_map (call_of coded p) (invoked_at P m p)

-- the invokes of a method, by place
abbrev pub calls_in : Program → (coded method : ℕ) → (code : List ℕ) → List Call
calls_in P coded m code = filter_map (call_at P coded m) (starts_of code)
