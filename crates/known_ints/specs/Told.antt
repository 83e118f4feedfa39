-- What is told of an instruction by its opcode and its operand (JVM Specification SE 8, 6.5).
use Rattle.std.specs.Prelude.{ℕ, ◌-◌, ◌==◌, ◌&&◌, ◌||◌, nat_le, nat_lt, if◌then◌else◌, ℤ, unsigned_abs}
use Rattle.known_ints.specs.declared.rows.Arithmetic.TheVariants as does
use Rattle.known_ints.specs.declared.rows.ValueRow.{ValueRow}
use Rattle.known_ints.specs.declared.rows.ValueRow.TheVariants.{Push, LoadReference, ReadStatic, ReadField, Copy, Compute, NewArray, Length, StoreNumber}
use Rattle.known_ints.specs.declared.rows.ValueRow.TheVariants.{Other}

-- loads of references (aload, aload_0 to aload_3)
abbrev pub loaded_by : (op : ℕ) → (first : ℤ) → ValueRow
loaded_by op k =
    if op == 25 then LoadReference (unsigned_abs k)
    else if nat_le 42 op && nat_le op 45 then LoadReference (op - 42)
    else Other

-- iadd, isub, imul, idiv, irem
abbrev pub computed_by : (op : ℕ) → ValueRow
computed_by op =
    if op == 96 then Compute does.Sum
    else if op == 100 then Compute does.Difference
    else if op == 104 then Compute does.Product
    else if op == 108 then Compute does.Quotient
    else if op == 112 then Compute does.Remainder
    else Other

-- ishl, ishr, iushr, iand, ior, ixor
abbrev pub bits_by : (op : ℕ) → ValueRow
bits_by op =
    if op == 120 then Compute does.ShiftLeft
    else if op == 122 then Compute does.ShiftRight
    else if op == 124 then Compute does.ShiftRightUnsigned
    else if op == 126 then Compute does.And
    else if op == 128 then Compute does.Or
    else if op == 130 then Compute does.ExclusiveOr
    else Other

-- getstatic and getfield
abbrev pub read_by : (op : ℕ) → ValueRow
read_by op =
    if op == 178 then ReadStatic
    else if op == 180 then ReadField
    else Other

-- newarray, anewarray, arraylength, and stores of numbers into arrays
abbrev pub array_by : (op : ℕ) → ValueRow
array_by op =
    if op == 188 || op == 189 then NewArray
    else if op == 190 then Length
    else if op == 79 || op == 80 || nat_le 84 op && nat_le op 86 then StoreNumber
    else Other

abbrev pub value_by : (op : ℕ) → (first : ℤ) → ValueRow
value_by op k =
    if nat_le 1 op && nat_le op 20 then Push
    else if nat_lt op 46 then loaded_by op k
    else if op == 89 then Copy
    else if nat_le 96 op && nat_le op 112 then computed_by op
    else if nat_le 120 op && nat_le op 130 then bits_by op
    else if nat_le 178 op && nat_le op 180 then read_by op
    else array_by op
