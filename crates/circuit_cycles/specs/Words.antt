-- What a word of the ROM says.
use Rattle.std.specs.Prelude.{ℕ, ◌+◌, ◌/◌, ◌%◌, ◌^◌, Bool, true, false, ◌==◌, ◌&&◌, ◌||◌, not, nat_lt, if◌then◌else◌}
use Rattle.microcode.specs.declared.isa.operation.Operation.{Operation}
use Rattle.microcode.specs.declared.isa.operation.Operation.TheVariants.{Nop, Dup, Add, Sub, And, Or, Xor, Shl, Shr, Ushr, Mul, Slt, Sltu, Ldo, Ldo8, Ldo16}
use Rattle.microcode.specs.declared.isa.operation.Operation.TheVariants.{Ldl, Stl, Ld0, Ld1, Ld2, Ld3, St0, St1, St2, St3, Ldvp, Ldsp, Ldjpc}
use Rattle.microcode.specs.declared.isa.operation.Operation.TheVariants.{Ldmi, Stmi, Wait, Ldmrd, Jbg, Ldin, Hltb}
use Rattle.microcode.specs.declared.isa.operation.Operation.TheVariants.{Hltu}
use Rattle.microcode.specs.Isa.Operations.{operation_of}

-- the codes of some operations
abbrev pub add : ℕ
add = 3

abbrev pub stvp : ℕ
stvp = 28

abbrev pub stsp : ℕ
stsp = 30

abbrev pub stjpc : ℕ
stjpc = 32

abbrev pub star : ℕ
star = 33

abbrev pub stmra : ℕ
stmra = 36

abbrev pub stmwa : ℕ
stmwa = 37

abbrev pub stmwd : ℕ
stmwd = 38

abbrev pub wait : ℕ
wait = 39

abbrev pub stbc : ℕ
stbc = 41

abbrev pub jbr : ℕ
jbr = 42

abbrev pub jbg : ℕ
jbg = 43

abbrev pub ldin : ℕ
ldin = 44

abbrev pub stout : ℕ
stout = 45

abbrev pub hltb : ℕ
hltb = 46

abbrev pub hltu : ℕ
hltu = 47

abbrev pub bits_of : ℕ → ℕ
bits_of word = word % 2 ^ 14

abbrev pub has_opd : ℕ → Bool
has_opd word = word / 2 ^ 14 % 2 == 1

abbrev pub has_nxt : ℕ → Bool
has_nxt word = word / 2 ^ 15 % 2 == 1

abbrev pub is_plain : ℕ → Bool
is_plain word = nat_lt (bits_of word) (2 ^ 6)

abbrev pub is : (code word : ℕ) → Bool
is code word = bits_of word == code

-- a word with a number, from this one on: `stm`, `ldm` or `ldi`
abbrev pub has_number : (first word : ℕ) → Bool
has_number first word = bits_of word / 2 ^ 5 == first / 2 ^ 5

abbrev pub is_stm : ℕ → Bool
is_stm word = has_number 0x0100 word

abbrev pub is_ldm : ℕ → Bool
is_ldm word = has_number 0x0120 word

abbrev pub is_ldi : ℕ → Bool
is_ldi word = has_number 0x0140 word

-- a branch, from this word on: `bz`, `bnz` or `jmp`
abbrev pub has_target : (first word : ℕ) → Bool
has_target first word = bits_of word / 2 ^ 11 == first / 2 ^ 11

abbrev pub is_bz : ℕ → Bool
is_bz word = has_target 0x0800 word

abbrev pub is_bnz : ℕ → Bool
is_bnz word = has_target 0x1000 word

abbrev pub is_jmp : ℕ → Bool
is_jmp word = has_target 0x1800 word

-- what an operation does to the stack of operands
abbrev pub pushes_plain : Operation → Bool
pushes_plain Dup = true
pushes_plain Ldo = true
pushes_plain Ldo8 = true
pushes_plain Ldo16 = true
pushes_plain Ldl = true
pushes_plain Ld0 = true
pushes_plain Ld1 = true
pushes_plain Ld2 = true
pushes_plain Ld3 = true
pushes_plain Ldvp = true
pushes_plain Ldsp = true
pushes_plain Ldjpc = true
pushes_plain Ldmi = true
pushes_plain Ldmrd = true
pushes_plain Ldin = true
pushes_plain _ = false

abbrev pub keeps_plain : Operation → Bool
keeps_plain Nop = true
keeps_plain Wait = true
keeps_plain Jbg = true
keeps_plain Hltb = true
keeps_plain Hltu = true
keeps_plain _ = false

abbrev pub stores_plain : Operation → Bool
stores_plain Stl = true
stores_plain St0 = true
stores_plain St1 = true
stores_plain St2 = true
stores_plain St3 = true
stores_plain Stmi = true
stores_plain _ = false

abbrev pub is_binary : Operation → Bool
is_binary Add = true
is_binary Sub = true
is_binary And = true
is_binary Or = true
is_binary Xor = true
is_binary Shl = true
is_binary Shr = true
is_binary Ushr = true
is_binary Mul = true
is_binary Slt = true
is_binary Sltu = true
is_binary _ = false

-- the operation of a word that has one
abbrev pub operation_in : ℕ → Operation
operation_in word = operation_of (bits_of word)

abbrev pub pushes_word : ℕ → Bool
pushes_word word = is_plain word && pushes_plain (operation_in word) || is_ldm word || is_ldi word

abbrev pub pops_word : ℕ → Bool
pops_word word =
    is_plain word && not (pushes_plain (operation_in word)) && not (keeps_plain (operation_in word)) || is_stm word || is_bz word || is_bnz word

-- the on-chip place that an operation loads or stores, where these are VP, AR and the operand
abbrev pub plain_place : Operation → (n vp ar operand : ℕ) → ℕ
plain_place Ldl n vp ar operand = (vp + operand) % n
plain_place Stl n vp ar operand = (vp + operand) % n
plain_place Ldmi n vp ar operand = ar
plain_place Stmi n vp ar operand = ar
plain_place Ld1 n vp ar operand = (vp + 1) % n
plain_place St1 n vp ar operand = (vp + 1) % n
plain_place Ld2 n vp ar operand = (vp + 2) % n
plain_place St2 n vp ar operand = (vp + 2) % n
plain_place Ld3 n vp ar operand = (vp + 3) % n
plain_place St3 n vp ar operand = (vp + 3) % n
plain_place _ n vp ar operand = vp

abbrev pub place_of : (n word vp ar operand : ℕ) → ℕ
place_of n word vp ar operand =
    if is_ldi word then 32 + word % 2 ^ 5
    else if is_stm word || is_ldm word then word % 2 ^ 5
    else plain_place (operation_in word) n vp ar operand

-- `stjpc nxt` takes its byte at the place that it pops
abbrev pub takes_at_a : ℕ → Bool
takes_at_a word = is stjpc word && has_nxt word
