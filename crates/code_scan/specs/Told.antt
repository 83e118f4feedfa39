-- What is told of an instruction by its opcode and its operands (JVM Specification SE 8, 6.5).
use Rattle.std.specs.Prelude.{ℕ, ◌-◌, ◌==◌, ◌&&◌, ◌||◌, nat_le, nat_lt, if◌then◌else◌, ℤ, pos, ◌-ℤ◌, unsigned_abs}
use Rattle.opcodes.specs.declared.instruction.Instr.{Instr}
use Rattle.code_scan.specs.declared.rows.Comparison.{Comparison}
use Rattle.code_scan.specs.declared.rows.Comparison.TheVariants.{Equal, Unequal, Less, AtLeast, Greater, AtMost}
use Rattle.code_scan.specs.declared.rows.IntRow.{IntRow}
use Rattle.code_scan.specs.declared.rows.IntRow.TheVariants.{Push, PushEntry, Load, Store, StoreLong, StoreReference, Increment, BranchZero, BranchInts, Other}

-- constants (iconst_m1 to iconst_5, bipush, sipush, ldc, ldc_w)
abbrev pub pushed_by : (op : ℕ) → (first : ℤ) → IntRow
pushed_by op n =
    if nat_le 2 op && nat_le op 8 then Push (pos op -ℤ pos 3)
    else if op == 16 || op == 17 then Push n
    else if op == 18 || op == 19 then PushEntry
    else Other

-- loads of ints (iload, iload_0 to iload_3), and iinc
abbrev pub loaded_by : (op : ℕ) → (first second : ℤ) → IntRow
loaded_by op k n =
    if op == 21 then Load (unsigned_abs k)
    else if nat_le 26 op && nat_le op 29 then Load (op - 26)
    else if op == 132 then Increment (unsigned_abs k) n
    else Other

-- stores (istore, istore_0 to istore_3)
abbrev pub int_stored_by : (op : ℕ) → (first : ℤ) → IntRow
int_stored_by op k =
    if op == 54 then Store (unsigned_abs k)
    else if nat_le 59 op && nat_le op 62 then Store (op - 59)
    else Other

-- the same of longs and of references
abbrev pub stored_by : (op : ℕ) → (first : ℤ) → IntRow
stored_by op k =
    if op == 55 then StoreLong (unsigned_abs k)
    else if nat_le 63 op && nat_le op 66 then StoreLong (op - 63)
    else if op == 58 then StoreReference (unsigned_abs k)
    else if nat_le 75 op && nat_le op 78 then StoreReference (op - 75)
    else int_stored_by op k

-- the comparisons in the order of the opcodes
abbrev pub comparison_of : ℕ → Comparison
comparison_of n =
    if n == 0 then Equal
    else if n == 1 then Unequal
    else if n == 2 then Less
    else if n == 3 then AtLeast
    else if n == 4 then Greater
    else AtMost

-- branches (ifeq to ifle, if_icmpeq to if_icmple)
abbrev pub branched_by : (op : ℕ) → (first : ℤ) → IntRow
branched_by op o =
    if nat_le 153 op && nat_le op 158 then BranchZero (comparison_of (op - 153)) o
    else if nat_le 159 op && nat_le op 164 then BranchInts (comparison_of (op - 159)) o
    else Other

abbrev pub told_by : (op : ℕ) → (first second : ℤ) → IntRow
told_by op a b =
    if nat_lt op 21 then pushed_by op a
    else if nat_lt op 54 then loaded_by op a b
    else if nat_lt op 79 then stored_by op a
    else if nat_lt op 133 then loaded_by op a b
    else branched_by op a

abbrev pub told : Instr → IntRow
told i = told_by i.op i.first i.second
