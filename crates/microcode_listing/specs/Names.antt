-- The names of the operations by their codes, and of the rows in the order of their addresses.
use Rattle.std.specs.Prelude.{ℕ, ◌==◌, List, [], ◌∷◌, codes, Option, slice_get, slice_index_or, position, unwrap_or}
use Rattle.microcode.specs.declared.TheConstants.{ROWS}

abbrev pub operation_names : List (List ℕ)
operation_names =
    codes "nop" ∷ codes "pop" ∷ codes "dup" ∷ codes "add" ∷ codes "sub" ∷ codes "and" ∷ codes "or"
    ∷ codes "xor" ∷ codes "shl" ∷ codes "shr" ∷ codes "ushr" ∷ codes "mul" ∷ codes "slt" ∷ codes "sltu"
    ∷ codes "ldo" ∷ codes "ldo8" ∷ codes "ldo16" ∷ codes "ldl" ∷ codes "stl" ∷ codes "ld0" ∷ codes "ld1"
    ∷ codes "ld2" ∷ codes "ld3" ∷ codes "st0" ∷ codes "st1" ∷ codes "st2" ∷ codes "st3" ∷ codes "ldvp"
    ∷ codes "stvp" ∷ codes "ldsp" ∷ codes "stsp" ∷ codes "ldjpc" ∷ codes "stjpc" ∷ codes "star" ∷ codes "ldmi"
    ∷ codes "stmi" ∷ codes "stmra" ∷ codes "stmwa" ∷ codes "stmwd" ∷ codes "wait" ∷ codes "ldmrd"
    ∷ codes "stbc" ∷ codes "jbr" ∷ codes "jbg" ∷ codes "ldin" ∷ codes "stout" ∷ codes "hltb" ∷ codes "hltu" ∷ []

abbrev pub row_names : List (List ℕ)
row_names =
    codes "NOP" ∷ codes "ICONST_M1" ∷ codes "ICONST_0" ∷ codes "ICONST_1" ∷ codes "ICONST_2"
    ∷ codes "ICONST_3" ∷ codes "ICONST_4" ∷ codes "ICONST_5" ∷ codes "LCONST_0" ∷ codes "LCONST_1"
    ∷ codes "BIPUSH" ∷ codes "SIPUSH" ∷ codes "LDC" ∷ codes "LDC_W" ∷ codes "LDC2_W" ∷ codes "ILOAD_0"
    ∷ codes "ILOAD_1" ∷ codes "ILOAD_2" ∷ codes "ILOAD_3" ∷ codes "ISTORE_0" ∷ codes "ISTORE_1"
    ∷ codes "ISTORE_2" ∷ codes "ISTORE_3" ∷ codes "ILOAD" ∷ codes "ISTORE" ∷ codes "LLOAD_0" ∷ codes "LLOAD_1"
    ∷ codes "LLOAD_2" ∷ codes "LLOAD_3" ∷ codes "LSTORE_0" ∷ codes "LSTORE_1" ∷ codes "LSTORE_2"
    ∷ codes "LSTORE_3" ∷ codes "LLOAD" ∷ codes "LSTORE" ∷ codes "IINC" ∷ codes "WIDE" ∷ codes "WIDE_LOAD"
    ∷ codes "WIDE_IINC" ∷ codes "WIDE_LLOAD" ∷ codes "WIDE_LSTORE" ∷ codes "POP" ∷ codes "POP2" ∷ codes "DUP"
    ∷ codes "DUP_X1" ∷ codes "DUP_X2" ∷ codes "DUP2" ∷ codes "DUP2_X1" ∷ codes "DUP2_X2" ∷ codes "SWAP"
    ∷ codes "IADD" ∷ codes "ISUB" ∷ codes "IMUL" ∷ codes "IAND" ∷ codes "IOR" ∷ codes "IXOR" ∷ codes "ISHL"
    ∷ codes "ISHR" ∷ codes "IUSHR" ∷ codes "INEG" ∷ codes "I2B" ∷ codes "I2C" ∷ codes "I2S" ∷ codes "IDIV"
    ∷ codes "IREM" ∷ codes "DIVIDE" ∷ codes "DIVIDE_TURN" ∷ codes "DIVIDE_SIGNS" ∷ codes "LADD" ∷ codes "LSUB"
    ∷ codes "LNEG" ∷ codes "LAND" ∷ codes "LOR" ∷ codes "LXOR" ∷ codes "LSHL" ∷ codes "LSHL_HIGH"
    ∷ codes "LSHR" ∷ codes "LSHR_HIGH" ∷ codes "LUSHR" ∷ codes "LUSHR_HIGH" ∷ codes "I2L" ∷ codes "L2I"
    ∷ codes "LCMP" ∷ codes "IFEQ" ∷ codes "IF_ICMPEQ" ∷ codes "GOTO" ∷ codes "GOTO_W" ∷ codes "TABLESWITCH"
    ∷ codes "TABLE_JUMP" ∷ codes "LOOKUPSWITCH" ∷ codes "LOOKUP_TURN" ∷ codes "LOOKUP_HIT"
    ∷ codes "LOOKUP_JUMP" ∷ codes "IALOAD" ∷ codes "LALOAD" ∷ codes "BASTORE" ∷ codes "CASTORE"
    ∷ codes "SASTORE" ∷ codes "IASTORE" ∷ codes "STORE_ELEMENT" ∷ codes "LASTORE" ∷ codes "AASTORE"
    ∷ codes "STORE_REFERENCE" ∷ codes "ARRAYLENGTH" ∷ codes "GETSTATIC" ∷ codes "PUTSTATIC"
    ∷ codes "PUTSTATIC_WORD" ∷ codes "GETFIELD" ∷ codes "FIELD_LOADED" ∷ codes "PUTFIELD"
    ∷ codes "PUTFIELD_WORD" ∷ codes "NEW" ∷ codes "NEWARRAY" ∷ codes "NEWARRAY_LONG" ∷ codes "NEWARRAY_SIZED"
    ∷ codes "ANEWARRAY" ∷ codes "ALLOCATE_ARRAY" ∷ codes "CHECKCAST" ∷ codes "CAST_PASSES"
    ∷ codes "INSTANCEOF" ∷ codes "INSTANCEOF_NULL" ∷ codes "MONITORENTER" ∷ codes "INVOKEVIRTUAL"
    ∷ codes "INVOKEINTERFACE" ∷ codes "INVOKESPECIAL" ∷ codes "INVOKESTATIC" ∷ codes "INVOKE" ∷ codes "RETURN"
    ∷ codes "IRETURN" ∷ codes "LRETURN" ∷ codes "IMPDEP1" ∷ codes "IMPDEP2" ∷ codes "ATHROW"
    ∷ codes "RAISE_ARITHMETIC" ∷ codes "RAISE_INDEX" ∷ codes "RAISE_STORE" ∷ codes "RAISE_CAST"
    ∷ codes "RAISE_CHANGE" ∷ codes "RAISE_SIZE" ∷ codes "RAISE_NULL" ∷ codes "RAISE_MEMORY"
    ∷ codes "RAISE_OVERFLOW" ∷ codes "RAISE_OBJECT" ∷ codes "RAISE" ∷ codes "HANDLER_TURN"
    ∷ codes "HANDLER_NEXT" ∷ codes "HANDLER_FOUND" ∷ codes "DROP_FRAME" ∷ []

-- the name of the operation of a code; there are 48
unfoldable pub operation_text : (code : ℕ) → List ℕ
operation_text code = slice_index_or operation_names code []

-- which row begins at an address; there are 148
unfoldable pub row_number : (address : ℕ) → ℕ
row_number address = unwrap_or (position (λ row. row.0 == address) ROWS) 148

-- the name of the row that begins at an address, if one does
unfoldable pub row_text : (address : ℕ) → Option (List ℕ)
row_text address = slice_get row_names (row_number address)
