-- The opcodes: JVM Specification SE 8, 6.5 and 6.2, in the order of their numbers.
use Rattle.std.specs.Prelude.{ℕ, ◌==◌, Bool, true, false, List, [], ◌∷◌, codes, if◌then◌else◌}
use Rattle.opcodes.specs.declared.table.Kind.{Kind}
use Rattle.opcodes.specs.declared.table.Kind.TheVariants.{Plain, Branch, Jump, Switch, Return, Throw, Invoke}
use Rattle.opcodes.specs.Form.{Form, NotAnOpcode, TableSwitch, LookupSwitch, Wide, nothing, unsigned_byte, unsigned_short, signed_byte, signed_short, branch}
use Rattle.opcodes.specs.Form.{wide_branch, local, increment, dimensions, interface_call, dynamic_call}

-- What is said of an opcode: its number, its mnemonic, the form of its operands, where control goes after it, whether it may raise, and whether this machine
-- runs it. It runs no floats and doubles, and leaves out lmul, ldiv, lrem, jsr, ret, invokedynamic, multianewarray, jsr_w and breakpoint; wide is no
-- instruction of its own, but the beginning of one.
pub record OpcodeRow : Type 0 where
  pub number : ℕ
  pub mnemonic : List ℕ
  pub form : Form
  pub kind : Kind
  pub raises : Bool
  pub supported : Bool

abbrev pub row : ℕ → List ℕ → Form → Kind → (raises supported : Bool) → OpcodeRow
row number mnemonic form kind raises supported = record {
  number = number;
  mnemonic = mnemonic;
  form = form;
  kind = kind;
  raises = raises;
  supported
      = supported;
}

-- what is said of a byte that is no opcode
abbrev pub no_row : ℕ → OpcodeRow
no_row byte = row byte (codes "none") NotAnOpcode Plain false false

-- the row with a number, among some rows
abbrev pub find_row : ℕ → List OpcodeRow → OpcodeRow
find_row byte [] = no_row byte
find_row byte (first ∷ others) = if first.number == byte then first else find_row byte others

abbrev pub rows : List OpcodeRow
rows =
    row 0 (codes "nop") nothing Plain false true
    ∷ row 1 (codes "aconst_null") nothing Plain false true
    ∷ row 2 (codes "iconst_m1") nothing Plain false true
    ∷ row 3 (codes "iconst_0") nothing Plain false true
    ∷ row 4 (codes "iconst_1") nothing Plain false true
    ∷ row 5 (codes "iconst_2") nothing Plain false true
    ∷ row 6 (codes "iconst_3") nothing Plain false true
    ∷ row 7 (codes "iconst_4") nothing Plain false true
    ∷ row 8 (codes "iconst_5") nothing Plain false true
    ∷ row 9 (codes "lconst_0") nothing Plain false true
    ∷ row 10 (codes "lconst_1") nothing Plain false true
    ∷ row 11 (codes "fconst_0") nothing Plain false false
    ∷ row 12 (codes "fconst_1") nothing Plain false false
    ∷ row 13 (codes "fconst_2") nothing Plain false false
    ∷ row 14 (codes "dconst_0") nothing Plain false false
    ∷ row 15 (codes "dconst_1") nothing Plain false false
    ∷ row 16 (codes "bipush") signed_byte Plain false true
    ∷ row 17 (codes "sipush") signed_short Plain false true
    ∷ row 18 (codes "ldc") unsigned_byte Plain false true
    ∷ row 19 (codes "ldc_w") unsigned_short Plain false true
    ∷ row 20 (codes "ldc2_w") unsigned_short Plain false true
    ∷ row 21 (codes "iload") local Plain false true
    ∷ row 22 (codes "lload") local Plain false true
    ∷ row 23 (codes "fload") local Plain false false
    ∷ row 24 (codes "dload") local Plain false false
    ∷ row 25 (codes "aload") local Plain false true
    ∷ row 26 (codes "iload_0") nothing Plain false true
    ∷ row 27 (codes "iload_1") nothing Plain false true
    ∷ row 28 (codes "iload_2") nothing Plain false true
    ∷ row 29 (codes "iload_3") nothing Plain false true
    ∷ row 30 (codes "lload_0") nothing Plain false true
    ∷ row 31 (codes "lload_1") nothing Plain false true
    ∷ row 32 (codes "lload_2") nothing Plain false true
    ∷ row 33 (codes "lload_3") nothing Plain false true
    ∷ row 34 (codes "fload_0") nothing Plain false false
    ∷ row 35 (codes "fload_1") nothing Plain false false
    ∷ row 36 (codes "fload_2") nothing Plain false false
    ∷ row 37 (codes "fload_3") nothing Plain false false
    ∷ row 38 (codes "dload_0") nothing Plain false false
    ∷ row 39 (codes "dload_1") nothing Plain false false
    ∷ row 40 (codes "dload_2") nothing Plain false false
    ∷ row 41 (codes "dload_3") nothing Plain false false
    ∷ row 42 (codes "aload_0") nothing Plain false true
    ∷ row 43 (codes "aload_1") nothing Plain false true
    ∷ row 44 (codes "aload_2") nothing Plain false true
    ∷ row 45 (codes "aload_3") nothing Plain false true
    ∷ row 46 (codes "iaload") nothing Plain true true
    ∷ row 47 (codes "laload") nothing Plain true true
    ∷ row 48 (codes "faload") nothing Plain false false
    ∷ row 49 (codes "daload") nothing Plain false false
    ∷ row 50 (codes "aaload") nothing Plain true true
    ∷ row 51 (codes "baload") nothing Plain true true
    ∷ row 52 (codes "caload") nothing Plain true true
    ∷ row 53 (codes "saload") nothing Plain true true
    ∷ row 54 (codes "istore") local Plain false true
    ∷ row 55 (codes "lstore") local Plain false true
    ∷ row 56 (codes "fstore") local Plain false false
    ∷ row 57 (codes "dstore") local Plain false false
    ∷ row 58 (codes "astore") local Plain false true
    ∷ row 59 (codes "istore_0") nothing Plain false true
    ∷ row 60 (codes "istore_1") nothing Plain false true
    ∷ row 61 (codes "istore_2") nothing Plain false true
    ∷ row 62 (codes "istore_3") nothing Plain false true
    ∷ row 63 (codes "lstore_0") nothing Plain false true
    ∷ row 64 (codes "lstore_1") nothing Plain false true
    ∷ row 65 (codes "lstore_2") nothing Plain false true
    ∷ row 66 (codes "lstore_3") nothing Plain false true
    ∷ row 67 (codes "fstore_0") nothing Plain false false
    ∷ row 68 (codes "fstore_1") nothing Plain false false
    ∷ row 69 (codes "fstore_2") nothing Plain false false
    ∷ row 70 (codes "fstore_3") nothing Plain false false
    ∷ row 71 (codes "dstore_0") nothing Plain false false
    ∷ row 72 (codes "dstore_1") nothing Plain false false
    ∷ row 73 (codes "dstore_2") nothing Plain false false
    ∷ row 74 (codes "dstore_3") nothing Plain false false
    ∷ row 75 (codes "astore_0") nothing Plain false true
    ∷ row 76 (codes "astore_1") nothing Plain false true
    ∷ row 77 (codes "astore_2") nothing Plain false true
    ∷ row 78 (codes "astore_3") nothing Plain false true
    ∷ row 79 (codes "iastore") nothing Plain true true
    ∷ row 80 (codes "lastore") nothing Plain true true
    ∷ row 81 (codes "fastore") nothing Plain false false
    ∷ row 82 (codes "dastore") nothing Plain false false
    ∷ row 83 (codes "aastore") nothing Plain true true
    ∷ row 84 (codes "bastore") nothing Plain true true
    ∷ row 85 (codes "castore") nothing Plain true true
    ∷ row 86 (codes "sastore") nothing Plain true true
    ∷ row 87 (codes "pop") nothing Plain false true
    ∷ row 88 (codes "pop2") nothing Plain false true
    ∷ row 89 (codes "dup") nothing Plain false true
    ∷ row 90 (codes "dup_x1") nothing Plain false true
    ∷ row 91 (codes "dup_x2") nothing Plain false true
    ∷ row 92 (codes "dup2") nothing Plain false true
    ∷ row 93 (codes "dup2_x1") nothing Plain false true
    ∷ row 94 (codes "dup2_x2") nothing Plain false true
    ∷ row 95 (codes "swap") nothing Plain false true
    ∷ row 96 (codes "iadd") nothing Plain false true
    ∷ row 97 (codes "ladd") nothing Plain false true
    ∷ row 98 (codes "fadd") nothing Plain false false
    ∷ row 99 (codes "dadd") nothing Plain false false
    ∷ row 100 (codes "isub") nothing Plain false true
    ∷ row 101 (codes "lsub") nothing Plain false true
    ∷ row 102 (codes "fsub") nothing Plain false false
    ∷ row 103 (codes "dsub") nothing Plain false false
    ∷ row 104 (codes "imul") nothing Plain false true
    ∷ row 105 (codes "lmul") nothing Plain false false
    ∷ row 106 (codes "fmul") nothing Plain false false
    ∷ row 107 (codes "dmul") nothing Plain false false
    ∷ row 108 (codes "idiv") nothing Plain true true
    ∷ row 109 (codes "ldiv") nothing Plain false false
    ∷ row 110 (codes "fdiv") nothing Plain false false
    ∷ row 111 (codes "ddiv") nothing Plain false false
    ∷ row 112 (codes "irem") nothing Plain true true
    ∷ row 113 (codes "lrem") nothing Plain false false
    ∷ row 114 (codes "frem") nothing Plain false false
    ∷ row 115 (codes "drem") nothing Plain false false
    ∷ row 116 (codes "ineg") nothing Plain false true
    ∷ row 117 (codes "lneg") nothing Plain false true
    ∷ row 118 (codes "fneg") nothing Plain false false
    ∷ row 119 (codes "dneg") nothing Plain false false
    ∷ row 120 (codes "ishl") nothing Plain false true
    ∷ row 121 (codes "lshl") nothing Plain false true
    ∷ row 122 (codes "ishr") nothing Plain false true
    ∷ row 123 (codes "lshr") nothing Plain false true
    ∷ row 124 (codes "iushr") nothing Plain false true
    ∷ row 125 (codes "lushr") nothing Plain false true
    ∷ row 126 (codes "iand") nothing Plain false true
    ∷ row 127 (codes "land") nothing Plain false true
    ∷ row 128 (codes "ior") nothing Plain false true
    ∷ row 129 (codes "lor") nothing Plain false true
    ∷ row 130 (codes "ixor") nothing Plain false true
    ∷ row 131 (codes "lxor") nothing Plain false true
    ∷ row 132 (codes "iinc") increment Plain false true
    ∷ row 133 (codes "i2l") nothing Plain false true
    ∷ row 134 (codes "i2f") nothing Plain false false
    ∷ row 135 (codes "i2d") nothing Plain false false
    ∷ row 136 (codes "l2i") nothing Plain false true
    ∷ row 137 (codes "l2f") nothing Plain false false
    ∷ row 138 (codes "l2d") nothing Plain false false
    ∷ row 139 (codes "f2i") nothing Plain false false
    ∷ row 140 (codes "f2l") nothing Plain false false
    ∷ row 141 (codes "f2d") nothing Plain false false
    ∷ row 142 (codes "d2i") nothing Plain false false
    ∷ row 143 (codes "d2l") nothing Plain false false
    ∷ row 144 (codes "d2f") nothing Plain false false
    ∷ row 145 (codes "i2b") nothing Plain false true
    ∷ row 146 (codes "i2c") nothing Plain false true
    ∷ row 147 (codes "i2s") nothing Plain false true
    ∷ row 148 (codes "lcmp") nothing Plain false true
    ∷ row 149 (codes "fcmpl") nothing Plain false false
    ∷ row 150 (codes "fcmpg") nothing Plain false false
    ∷ row 151 (codes "dcmpl") nothing Plain false false
    ∷ row 152 (codes "dcmpg") nothing Plain false false
    ∷ row 153 (codes "ifeq") branch Branch false true
    ∷ row 154 (codes "ifne") branch Branch false true
    ∷ row 155 (codes "iflt") branch Branch false true
    ∷ row 156 (codes "ifge") branch Branch false true
    ∷ row 157 (codes "ifgt") branch Branch false true
    ∷ row 158 (codes "ifle") branch Branch false true
    ∷ row 159 (codes "if_icmpeq") branch Branch false true
    ∷ row 160 (codes "if_icmpne") branch Branch false true
    ∷ row 161 (codes "if_icmplt") branch Branch false true
    ∷ row 162 (codes "if_icmpge") branch Branch false true
    ∷ row 163 (codes "if_icmpgt") branch Branch false true
    ∷ row 164 (codes "if_icmple") branch Branch false true
    ∷ row 165 (codes "if_acmpeq") branch Branch false true
    ∷ row 166 (codes "if_acmpne") branch Branch false true
    ∷ row 167 (codes "goto") branch Jump false true
    ∷ row 168 (codes "jsr") branch Jump false false
    ∷ row 169 (codes "ret") local Jump false false
    ∷ row 170 (codes "tableswitch") TableSwitch Switch false true
    ∷ row 171 (codes "lookupswitch") LookupSwitch Switch false true
    ∷ row 172 (codes "ireturn") nothing Return false true
    ∷ row 173 (codes "lreturn") nothing Return false true
    ∷ row 174 (codes "freturn") nothing Return false false
    ∷ row 175 (codes "dreturn") nothing Return false false
    ∷ row 176 (codes "areturn") nothing Return false true
    ∷ row 177 (codes "return") nothing Return false true
    ∷ row 178 (codes "getstatic") unsigned_short Plain false true
    ∷ row 179 (codes "putstatic") unsigned_short Plain false true
    ∷ row 180 (codes "getfield") unsigned_short Plain true true
    ∷ row 181 (codes "putfield") unsigned_short Plain true true
    ∷ row 182 (codes "invokevirtual") unsigned_short Invoke true true
    ∷ row 183 (codes "invokespecial") unsigned_short Invoke true true
    ∷ row 184 (codes "invokestatic") unsigned_short Invoke true true
    ∷ row 185 (codes "invokeinterface") interface_call Invoke true true
    ∷ row 186 (codes "invokedynamic") dynamic_call Invoke false false
    ∷ row 187 (codes "new") unsigned_short Plain true true
    ∷ row 188 (codes "newarray") unsigned_byte Plain true true
    ∷ row 189 (codes "anewarray") unsigned_short Plain true true
    ∷ row 190 (codes "arraylength") nothing Plain true true
    ∷ row 191 (codes "athrow") nothing Throw true true
    ∷ row 192 (codes "checkcast") unsigned_short Plain true true
    ∷ row 193 (codes "instanceof") unsigned_short Plain false true
    ∷ row 194 (codes "monitorenter") nothing Plain true true
    ∷ row 195 (codes "monitorexit") nothing Plain true true
    ∷ row 196 (codes "wide") Wide Plain false false
    ∷ row 197 (codes "multianewarray") dimensions Plain false false
    ∷ row 198 (codes "ifnull") branch Branch false true
    ∷ row 199 (codes "ifnonnull") branch Branch false true
    ∷ row 200 (codes "goto_w") wide_branch Jump false true
    ∷ row 201 (codes "jsr_w") wide_branch Jump false false
    ∷ row 202 (codes "breakpoint") nothing Plain false false
    ∷ row 254 (codes "impdep1") nothing Plain false true
    ∷ row 255 (codes "impdep2") nothing Plain false true
    ∷ []

-- the row of an opcode
unfoldable pub row_of : ℕ → OpcodeRow
row_of byte = find_row byte rows
