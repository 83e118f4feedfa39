-- The instructions (JVM Specification SE 8, 6.5), in the order and the families of chapter 7: the row of each by its mnemonic, its form and what it names.
-- What stands behind `wide` (6.5.wide) has the row of its own opcode.
use Rattle.std.specs.Prelude.{ℕ, ◌==◌, Bool, true, false, ℤ, pos, negsuc, List, [], ◌∷◌, ◌++◌, Option, Some, None, codes, if◌then◌else◌, bit_and, bit_or}
use Rattle.std.specs.Prelude.{bit_xor}
use Rattle.std.specs.List.{list_any}
use Rattle.std.specs.Int.{w8, w16, w32, w64}
use Rattle.opcodes.specs.declared.instruction.Instr.{Instr}
use Rattle.opcodes.specs.Target.{cases_of}
use Rattle.bytecode_model.specs.declared.Value.TheVariants.{Int, Long, Ref, Null}
use Rattle.bytecode_model.specs.Lists.{onto, natural}
use Rattle.bytecode_model.specs.Types.{NumberType, IntType, LongType, Kind, OfClass, Numbers, References, t_boolean, t_char, t_byte, t_short, t_int, t_long}
use Rattle.bytecode_model.specs.Program.{Operand, AnInt, ALong, AString, AStatic, AField, AMethod, AType}
use Rattle.bytecode_model.specs.Numbers.{sum, difference, product, negated, quotient, remainder, bitwise, shifted_left, shifted_right, shifted_right_unsigned}
use Rattle.bytecode_model.specs.Numbers.{compared, unchanged, narrowed, as_char, is_equal, is_unequal, is_less, is_at_least, is_greater, is_at_most}
use Rattle.bytecode_model.specs.Rows as rows
use Rattle.bytecode_model.specs.Rows.{Row, Zero, One, Two, Drop, Copy, Swap}

-- an opcode with its mnemonic, and its row by the code, the instruction and what its pool entry means; none where these aren't of the form that it needs
pub record Meaning : Type 0 where
  pub opcode : ℕ
  pub mnemonic : List ℕ
  pub row : (code : List ℕ) → Instr → Operand → Option Row

abbrev pub means : ℕ → List ℕ → (List ℕ → Instr → Operand → Option Row) → Meaning
means opcode mnemonic row = record { opcode = opcode; mnemonic = mnemonic; row = row }

-- ---- what a row takes of the instruction

-- nothing
abbrev pub always : Row → List ℕ → Instr → Operand → Option Row
always r code i o = Some r

-- the constant that stands in it
abbrev pub immediate : List ℕ → Instr → Operand → Option Row
immediate code i o = Some (rows.Push (Int i.first))

-- an int or a string of the pool
abbrev pub constant : List ℕ → Instr → Operand → Option Row
constant code i (AnInt n) = Some (rows.Push (Int n))
constant code i (AString p) = Some (rows.Push (Ref p))
constant code i o = None

-- a long of the pool
abbrev pub long_constant : List ℕ → Instr → Operand → Option Row
long_constant code i (ALong n) = Some (rows.Push (Long n))
long_constant code i o = None

-- the index of a local variable
abbrev pub by_local : (ℕ → Row) → List ℕ → Instr → Operand → Option Row
by_local r code i o = onto (natural i.first) (λ k. Some (r k))

-- the index of a local variable and a number
abbrev pub increment : List ℕ → Instr → Operand → Option Row
increment code i o = onto (natural i.first) (λ k. Some (rows.Increment k i.second))

-- the offset of a branch
abbrev pub by_offset : (ℤ → Row) → List ℕ → Instr → Operand → Option Row
by_offset r code i o = Some (r i.first)

-- the default offset and the cases of a switch
abbrev pub switch : List ℕ → Instr → Operand → Option Row
switch code i o = Some (rows.Switch i.first (cases_of code i))

-- the same, where the number of pairs isn't negative (6.5.lookupswitch)
abbrev pub lookup_switch : List ℕ → Instr → Operand → Option Row
lookup_switch code i o = onto (natural i.second) (λ pairs. switch code i o)

-- a static field
abbrev pub by_static : (ℕ → Row) → List ℕ → Instr → Operand → Option Row
by_static r code i (AStatic f) = Some (r f)
by_static r code i o = None

-- an instance field
abbrev pub by_field : (ℕ → ℕ → ℕ → Row) → List ℕ → Instr → Operand → Option Row
by_field r code i (AField named owner k) = Some (r named owner k)
by_field r code i o = None

-- a method
abbrev pub by_method : (ℕ → ℕ → Row) → List ℕ → Instr → Operand → Option Row
by_method r code i (AMethod named m) = Some (r named m)
by_method r code i o = None

-- a class or an array type
abbrev pub by_type : (Kind → Row) → List ℕ → Instr → Operand → Option Row
by_type r code i (AType k) = Some (r k)
by_type r code i o = None

-- a class
abbrev pub by_class : (ℕ → Row) → List ℕ → Instr → Operand → Option Row
by_class r code i (AType (OfClass c)) = Some (r c)
by_class r code i o = None

-- the array type code of numbers that there are
abbrev pub by_code : (ℕ → Row) → List ℕ → Instr → Operand → Option Row
by_code r code i o =
    onto (natural i.first) (λ a. if list_any (λ c. c == a) (t_boolean ∷ t_char ∷ t_byte ∷ t_short ∷ t_int ∷ t_long ∷ []) then Some (r a) else None)

-- ---- rows of numbers; the second operand, which is on top, comes first

abbrev pub of_int : NumberType → (ℤ → ℤ) → Row
of_int given f = rows.Compute (IntType ∷ []) given (λ x. Some (f x))

abbrev pub of_long : NumberType → (ℤ → ℤ) → Row
of_long given f = rows.Compute (LongType ∷ []) given (λ x. Some (f x))

abbrev pub of_ints : (ℤ → ℤ → ℤ) → Row
of_ints f = rows.Compute (IntType ∷ IntType ∷ []) IntType (λ y x. Some (f y x))

abbrev pub of_longs : NumberType → (ℤ → ℤ → ℤ) → Row
of_longs given f = rows.Compute (LongType ∷ LongType ∷ []) given (λ y x. Some (f y x))

-- where the divisor isn't zero
abbrev pub divided : (ℤ → ℤ → Option ℤ) → Row
divided f = rows.Compute (IntType ∷ IntType ∷ []) IntType f

-- a long by an int
abbrev pub shift : (ℤ → ℤ → ℤ) → Row
shift f = rows.Compute (IntType ∷ LongType ∷ []) LongType (λ n x. Some (f n x))

-- a comparison with zero, and of two ints
abbrev pub if_zero : (ℤ → ℤ → Bool) → List ℕ → Instr → Operand → Option Row
if_zero test = by_offset (rows.Branch (IntType ∷ []) (λ x. test (pos 0) x))

abbrev pub if_ints : (ℤ → ℤ → Bool) → List ℕ → Instr → Operand → Option Row
if_ints test = by_offset (rows.Branch (IntType ∷ IntType ∷ []) (λ y x. test y x))

-- ---- the instructions

-- constants
abbrev pub constants : List Meaning
constants =
    means 0 (codes "nop") (always rows.Nothing)
    ∷ means 1 (codes "aconst_null") (always (rows.Push Null))
    ∷ means 2 (codes "iconst_m1") (always (rows.Push (Int (negsuc 0))))
    ∷ means 3 (codes "iconst_0") (always (rows.Push (Int (pos 0))))
    ∷ means 4 (codes "iconst_1") (always (rows.Push (Int (pos 1))))
    ∷ means 5 (codes "iconst_2") (always (rows.Push (Int (pos 2))))
    ∷ means 6 (codes "iconst_3") (always (rows.Push (Int (pos 3))))
    ∷ means 7 (codes "iconst_4") (always (rows.Push (Int (pos 4))))
    ∷ means 8 (codes "iconst_5") (always (rows.Push (Int (pos 5))))
    ∷ means 9 (codes "lconst_0") (always (rows.Push (Long (pos 0))))
    ∷ means 10 (codes "lconst_1") (always (rows.Push (Long (pos 1))))
    ∷ means 16 (codes "bipush") immediate
    ∷ means 17 (codes "sipush") immediate
    ∷ means 18 (codes "ldc") constant
    ∷ means 19 (codes "ldc_w") constant
    ∷ means 20 (codes "ldc2_w") long_constant
    ∷ []

-- loads of local variables and of array elements
abbrev pub loads : List Meaning
loads =
    means 21 (codes "iload") (by_local (rows.Load (Numbers IntType)))
    ∷ means 22 (codes "lload") (by_local (rows.Load (Numbers LongType)))
    ∷ means 25 (codes "aload") (by_local (rows.Load References))
    ∷ means 26 (codes "iload_0") (always (rows.Load (Numbers IntType) 0))
    ∷ means 27 (codes "iload_1") (always (rows.Load (Numbers IntType) 1))
    ∷ means 28 (codes "iload_2") (always (rows.Load (Numbers IntType) 2))
    ∷ means 29 (codes "iload_3") (always (rows.Load (Numbers IntType) 3))
    ∷ means 30 (codes "lload_0") (always (rows.Load (Numbers LongType) 0))
    ∷ means 31 (codes "lload_1") (always (rows.Load (Numbers LongType) 1))
    ∷ means 32 (codes "lload_2") (always (rows.Load (Numbers LongType) 2))
    ∷ means 33 (codes "lload_3") (always (rows.Load (Numbers LongType) 3))
    ∷ means 42 (codes "aload_0") (always (rows.Load References 0))
    ∷ means 43 (codes "aload_1") (always (rows.Load References 1))
    ∷ means 44 (codes "aload_2") (always (rows.Load References 2))
    ∷ means 45 (codes "aload_3") (always (rows.Load References 3))
    ∷ means 46 (codes "iaload") (always (rows.LoadNumber IntType (t_int ∷ [])))
    ∷ means 47 (codes "laload") (always (rows.LoadNumber LongType (t_long ∷ [])))
    ∷ means 50 (codes "aaload") (always rows.LoadReference)
    ∷ means 51 (codes "baload") (always (rows.LoadNumber IntType (t_byte ∷ t_boolean ∷ [])))
    ∷ means 52 (codes "caload") (always (rows.LoadNumber IntType (t_char ∷ [])))
    ∷ means 53 (codes "saload") (always (rows.LoadNumber IntType (t_short ∷ [])))
    ∷ []

-- stores into local variables and array elements; an array of bytes or booleans keeps eight bits, one of chars or shorts sixteen
abbrev pub stores : List Meaning
stores =
    means 54 (codes "istore") (by_local (rows.Store (Numbers IntType)))
    ∷ means 55 (codes "lstore") (by_local (rows.Store (Numbers LongType)))
    ∷ means 58 (codes "astore") (by_local (rows.Store References))
    ∷ means 59 (codes "istore_0") (always (rows.Store (Numbers IntType) 0))
    ∷ means 60 (codes "istore_1") (always (rows.Store (Numbers IntType) 1))
    ∷ means 61 (codes "istore_2") (always (rows.Store (Numbers IntType) 2))
    ∷ means 62 (codes "istore_3") (always (rows.Store (Numbers IntType) 3))
    ∷ means 63 (codes "lstore_0") (always (rows.Store (Numbers LongType) 0))
    ∷ means 64 (codes "lstore_1") (always (rows.Store (Numbers LongType) 1))
    ∷ means 65 (codes "lstore_2") (always (rows.Store (Numbers LongType) 2))
    ∷ means 66 (codes "lstore_3") (always (rows.Store (Numbers LongType) 3))
    ∷ means 75 (codes "astore_0") (always (rows.Store References 0))
    ∷ means 76 (codes "astore_1") (always (rows.Store References 1))
    ∷ means 77 (codes "astore_2") (always (rows.Store References 2))
    ∷ means 78 (codes "astore_3") (always (rows.Store References 3))
    ∷ means 79 (codes "iastore") (always (rows.StoreNumber IntType (t_int ∷ []) unchanged))
    ∷ means 80 (codes "lastore") (always (rows.StoreNumber LongType (t_long ∷ []) unchanged))
    ∷ means 83 (codes "aastore") (always rows.StoreReference)
    ∷ means 84 (codes "bastore") (always (rows.StoreNumber IntType (t_byte ∷ t_boolean ∷ []) (narrowed w8)))
    ∷ means 85 (codes "castore") (always (rows.StoreNumber IntType (t_char ∷ []) as_char))
    ∷ means 86 (codes "sastore") (always (rows.StoreNumber IntType (t_short ∷ []) (narrowed w16)))
    ∷ []

-- the operand stack, by words
abbrev pub stack : List Meaning
stack =
    means 87 (codes "pop") (always (rows.Shuffle Drop One Zero))
    ∷ means 88 (codes "pop2") (always (rows.Shuffle Drop Two Zero))
    ∷ means 89 (codes "dup") (always (rows.Shuffle Copy One Zero))
    ∷ means 90 (codes "dup_x1") (always (rows.Shuffle Copy One One))
    ∷ means 91 (codes "dup_x2") (always (rows.Shuffle Copy One Two))
    ∷ means 92 (codes "dup2") (always (rows.Shuffle Copy Two Zero))
    ∷ means 93 (codes "dup2_x1") (always (rows.Shuffle Copy Two One))
    ∷ means 94 (codes "dup2_x2") (always (rows.Shuffle Copy Two Two))
    ∷ means 95 (codes "swap") (always (rows.Shuffle Swap One One))
    ∷ []

-- arithmetic
abbrev pub math : List Meaning
math =
    means 96 (codes "iadd") (always (of_ints sum))
    ∷ means 97 (codes "ladd") (always (of_longs LongType sum))
    ∷ means 100 (codes "isub") (always (of_ints difference))
    ∷ means 101 (codes "lsub") (always (of_longs LongType difference))
    ∷ means 104 (codes "imul") (always (of_ints product))
    ∷ means 108 (codes "idiv") (always (divided quotient))
    ∷ means 112 (codes "irem") (always (divided remainder))
    ∷ means 116 (codes "ineg") (always (of_int IntType negated))
    ∷ means 117 (codes "lneg") (always (of_long LongType negated))
    ∷ means 120 (codes "ishl") (always (of_ints (shifted_left 32)))
    ∷ means 121 (codes "lshl") (always (shift (shifted_left 64)))
    ∷ means 122 (codes "ishr") (always (of_ints (shifted_right 32)))
    ∷ means 123 (codes "lshr") (always (shift (shifted_right 64)))
    ∷ means 124 (codes "iushr") (always (of_ints (shifted_right_unsigned w32 32)))
    ∷ means 125 (codes "lushr") (always (shift (shifted_right_unsigned w64 64)))
    ∷ means 126 (codes "iand") (always (of_ints (bitwise w32 bit_and)))
    ∷ means 127 (codes "land") (always (of_longs LongType (bitwise w64 bit_and)))
    ∷ means 128 (codes "ior") (always (of_ints (bitwise w32 bit_or)))
    ∷ means 129 (codes "lor") (always (of_longs LongType (bitwise w64 bit_or)))
    ∷ means 130 (codes "ixor") (always (of_ints (bitwise w32 bit_xor)))
    ∷ means 131 (codes "lxor") (always (of_longs LongType (bitwise w64 bit_xor)))
    ∷ means 132 (codes "iinc") increment
    ∷ []

-- conversions
abbrev pub conversions : List Meaning
conversions =
    means 133 (codes "i2l") (always (of_int LongType unchanged))
    ∷ means 136 (codes "l2i") (always (of_long IntType unchanged))
    ∷ means 145 (codes "i2b") (always (of_int IntType (narrowed w8)))
    ∷ means 146 (codes "i2c") (always (of_int IntType as_char))
    ∷ means 147 (codes "i2s") (always (of_int IntType (narrowed w16)))
    ∷ []

-- comparisons and conditional branches
abbrev pub comparisons : List Meaning
comparisons =
    means 148 (codes "lcmp") (always (of_longs IntType compared))
    ∷ means 153 (codes "ifeq") (if_zero is_equal)
    ∷ means 154 (codes "ifne") (if_zero is_unequal)
    ∷ means 155 (codes "iflt") (if_zero is_less)
    ∷ means 156 (codes "ifge") (if_zero is_at_least)
    ∷ means 157 (codes "ifgt") (if_zero is_greater)
    ∷ means 158 (codes "ifle") (if_zero is_at_most)
    ∷ means 159 (codes "if_icmpeq") (if_ints is_equal)
    ∷ means 160 (codes "if_icmpne") (if_ints is_unequal)
    ∷ means 161 (codes "if_icmplt") (if_ints is_less)
    ∷ means 162 (codes "if_icmpge") (if_ints is_at_least)
    ∷ means 163 (codes "if_icmpgt") (if_ints is_greater)
    ∷ means 164 (codes "if_icmple") (if_ints is_at_most)
    ∷ means 165 (codes "if_acmpeq") (by_offset (rows.BranchSame true))
    ∷ means 166 (codes "if_acmpne") (by_offset (rows.BranchSame false))
    ∷ []

-- jumps, switches and returns
abbrev pub control : List Meaning
control =
    means 167 (codes "goto") (by_offset rows.Jump)
    ∷ means 170 (codes "tableswitch") switch
    ∷ means 171 (codes "lookupswitch") lookup_switch
    ∷ means 172 (codes "ireturn") (always (rows.Return (Some (Numbers IntType))))
    ∷ means 173 (codes "lreturn") (always (rows.Return (Some (Numbers LongType))))
    ∷ means 176 (codes "areturn") (always (rows.Return (Some References)))
    ∷ means 177 (codes "return") (always (rows.Return None))
    ∷ []

-- fields, methods, objects and arrays
abbrev pub references : List Meaning
references =
    means 178 (codes "getstatic") (by_static rows.GetStatic)
    ∷ means 179 (codes "putstatic") (by_static rows.PutStatic)
    ∷ means 180 (codes "getfield") (by_field rows.GetField)
    ∷ means 181 (codes "putfield") (by_field rows.PutField)
    ∷ means 182 (codes "invokevirtual") (by_method rows.CallVirtual)
    ∷ means 183 (codes "invokespecial") (by_method rows.CallSpecial)
    ∷ means 184 (codes "invokestatic") (by_method (λ named m. rows.CallStatic m))
    ∷ means 185 (codes "invokeinterface") (by_method rows.CallInterface)
    ∷ means 187 (codes "new") (by_class rows.New)
    ∷ means 188 (codes "newarray") (by_code rows.NewNumbers)
    ∷ means 189 (codes "anewarray") (by_type rows.NewReferences)
    ∷ means 190 (codes "arraylength") (always rows.Length)
    ∷ means 191 (codes "athrow") (always rows.Throw)
    ∷ means 192 (codes "checkcast") (by_type rows.Cast)
    ∷ means 193 (codes "instanceof") (by_type rows.Test)
    ∷ means 194 (codes "monitorenter") (always rows.Monitor)
    ∷ means 195 (codes "monitorexit") (always rows.Monitor)
    ∷ []

-- null tests and the long jump; `wide` has no row of its own
abbrev pub extended : List Meaning
extended =
    means 198 (codes "ifnull") (by_offset (rows.BranchNull true))
    ∷ means 199 (codes "ifnonnull") (by_offset (rows.BranchNull false))
    ∷ means 200 (codes "goto_w") (by_offset rows.Jump)
    ∷ []

-- the reserved opcodes (6.2), here the input and the output of a byte
abbrev pub reserved : List Meaning
reserved =
    means 254 (codes "impdep1") (always rows.Read)
    ∷ means 255 (codes "impdep2") (always rows.Write)
    ∷ []

-- all of them
abbrev pub instructions : List Meaning
instructions = constants ++ loads ++ stores ++ stack ++ math ++ conversions ++ comparisons ++ control ++ references ++ extended ++ reserved

-- the row by the first instruction of the list with this opcode
abbrev pub row_among : List Meaning → (code : List ℕ) → Instr → Operand → Option Row
row_among [] code i o = None
row_among (m ∷ ms) code i o = if m.opcode == i.op then m.row code i o else row_among ms code i o

-- the row of an instruction
unfoldable pub row_of : (code : List ℕ) → Instr → Operand → Option Row
row_of code i o = row_among instructions code i o
