-- What the row of an instruction pushes, reads and writes, as far as constants go (JVM Specification SE 8, 6.5).
use Rattle.std.specs.Prelude.{ℕ, ◌==◌, ◌&&◌, ◌||◌, nat_le, if◌then◌else◌, ℤ, pos, ◌-ℤ◌, Some, None}
use Rattle.std.specs.declared.option.Option.{Option}
use Rattle.lists.specs.Lists.{onto}
use Rattle.bytecode_model.specs.declared.Value.TheVariants.{Int}
use Rattle.bytecode_model.specs.Program.{Program, Operand, AnInt, AStatic}
use Rattle.bytecode_model.specs.Rows as rows
use Rattle.bytecode_model.specs.Rows.{Row}
use Rattle.bytecode_model.specs.Steps.{row_in}

-- the int constant that the row pushes, and the static fields that it reads and writes
abbrev pub pushed_by : Row → Option ℤ
pushed_by (rows.Push (Int c)) = Some c
pushed_by r = None

abbrev pub read_by : Row → Option ℕ
read_by (rows.GetStatic f) = Some f
read_by r = None

abbrev pub put_by : Row → Option ℕ
put_by (rows.PutStatic f) = Some f
put_by r = None

-- the same of the instruction at a place of a method
abbrev pub pushed_at : Program → (method place : ℕ) → Option ℤ
pushed_at P m p = onto (row_in P m p) (λ x. pushed_by x.1)

abbrev pub read_at : Program → (method place : ℕ) → Option ℕ
read_at P m p = onto (row_in P m p) (λ x. read_by x.1)

abbrev pub put_at : Program → (method place : ℕ) → Option ℕ
put_at P m p = onto (row_in P m p) (λ x. put_by x.1)

-- ---- by the opcode and what the instruction names

abbrev pub int_named : Operand → Option ℤ
int_named (AnInt n) = Some n
int_named o = None

abbrev pub static_named : Operand → Option ℕ
static_named (AStatic f) = Some f
static_named o = None

-- iconst_m1 to iconst_5, bipush and sipush, ldc and ldc_w
abbrev pub pushed_as : (op : ℕ) → (first : ℤ) → (named : Option ℤ) → Option ℤ
pushed_as op n named =
    if nat_le 2 op && nat_le op 8 then Some (pos op -ℤ pos 3)
    else if op == 16 || op == 17 then Some n
    else if op == 18 || op == 19 then named
    else None

-- getstatic and putstatic
abbrev pub read_as : (op : ℕ) → (named : Option ℕ) → Option ℕ
read_as op named = if op == 178 then named else None

abbrev pub put_as : (op : ℕ) → (named : Option ℕ) → Option ℕ
put_as op named = if op == 179 then named else None
