-- What fields the row of an instruction reads and writes (JVM Specification SE 8, 6.5).
use Rattle.std.specs.Prelude.{ℕ, ◌==◌, if◌then◌else◌, Some, None}
use Rattle.std.specs.declared.option.Option.{Option}
use Rattle.lists.specs.Lists.{onto}
use Rattle.bytecode_model.specs.Program.{Program, Operand, AStatic, AField}
use Rattle.bytecode_model.specs.Rows as rows
use Rattle.bytecode_model.specs.Rows.{Row}
use Rattle.bytecode_model.specs.Steps.{row_in}
use Rattle.array_fields.specs.declared.rows.Field.{Field}
use Rattle.array_fields.specs.declared.rows.Field.TheVariants.{Static, Instance}

-- the fields that the row reads and writes
abbrev pub read_by : Row → Option Field
read_by (rows.GetStatic f) = Some (Static f)
read_by (rows.GetField named owner index) = Some (Instance owner index)
read_by r = None

abbrev pub put_by : Row → Option Field
put_by (rows.PutStatic f) = Some (Static f)
put_by (rows.PutField named owner index) = Some (Instance owner index)
put_by r = None

-- the same of the instruction at a place of a method
abbrev pub read_at : Program → (method place : ℕ) → Option Field
read_at P m p = onto (row_in P m p) (λ x. read_by x.1)

abbrev pub put_at : Program → (method place : ℕ) → Option Field
put_at P m p = onto (row_in P m p) (λ x. put_by x.1)

-- ---- by the opcode and what the instruction names

-- getstatic and getfield
abbrev pub read_as : (op : ℕ) → Operand → Option Field
read_as op (AStatic f) = if op == 178 then Some (Static f) else None
read_as op (AField named owner index) = if op == 180 then Some (Instance owner index) else None
read_as op o = None

-- putstatic and putfield
abbrev pub put_as : (op : ℕ) → Operand → Option Field
put_as op (AStatic f) = if op == 179 then Some (Static f) else None
put_as op (AField named owner index) = if op == 181 then Some (Instance owner index) else None
put_as op o = None
