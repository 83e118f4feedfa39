-- Microinstructions and the words that spell them.
use Rattle.std.specs.Prelude.{◌≡◌, ℕ, ◌<◌, ◌+◌, ◌-◌, ◌*◌, ◌/◌, ◌%◌, ◌^◌, Bool, true, false, ◌==◌, ◌||◌, nat_lt, if◌then◌else◌, Some, None}
use Rattle.std.specs.declared.option.Option.{Option}
use Rattle.microcode.specs.declared.isa.Body.{Body}
use Rattle.microcode.specs.declared.isa.Body.TheVariants.{Plain, Stm, Ldm, Ldi, Bz, Bnz, Jmp}
use Rattle.microcode.specs.declared.isa.Micro.{Micro}

-- a branch carries neither flag
pub record IsUnflagged (m : Micro) : Type 0 where
  pub opd : m.opd ≡ false
  pub nxt : m.nxt ≡ false

-- the numbers of a microinstruction are in range
abbrev pub HasRange : Body → Micro → Type 0
HasRange (Plain code) m = code < 48
HasRange (Stm place) m = place < 32
HasRange (Ldm place) m = place < 32
HasRange (Ldi number) m = number < 32
HasRange (Bz to) m = (to < 2048) × IsUnflagged m
HasRange (Bnz to) m = (to < 2048) × IsUnflagged m
HasRange (Jmp to) m = (to < 2048) × IsUnflagged m

-- a microinstruction that the core has
abbrev pub IsMicro : Micro → Type 0
IsMicro m = HasRange m.body m

-- the low 14 bits of a body's word
abbrev pub bits_of : Body → ℕ
bits_of (Plain code) = code
bits_of (Stm place) = 0x0100 + place
bits_of (Ldm place) = 0x0120 + place
bits_of (Ldi number) = 0x0140 + number
bits_of (Bz to) = 0x0800 + to
bits_of (Bnz to) = 0x1000 + to
bits_of (Jmp to) = 0x1800 + to

abbrev pub bit : Bool → ℕ
bit true = 1
bit false = 0

-- the word that spells a microinstruction
abbrev pub word_of : Micro → ℕ
word_of m = bit m.nxt * 2 ^ 15 + bit m.opd * 2 ^ 14 + bits_of m.body

-- the word spells this microinstruction
pub record Spells (word : ℕ) (m : Micro) : Type 0 where
  pub micro : IsMicro m
  pub spelling : word ≡ word_of m

-- The body of the low 14 bits of a word, which has a flag or none.
abbrev pub body_of : ℕ → Bool → Option Body
body_of bits flagged =
    if nat_lt bits 0x0030 then Some (Plain bits)
    else if nat_lt bits 0x0100 then None
    else if nat_lt bits 0x0120 then Some (Stm (bits - 0x0100))
    else if nat_lt bits 0x0140 then Some (Ldm (bits - 0x0120))
    else if nat_lt bits 0x0160 then Some (Ldi (bits - 0x0140))
    else if nat_lt bits 0x0800 || flagged then None
    else if nat_lt bits 0x1000 then Some (Bz (bits - 0x0800))
    else if nat_lt bits 0x1800 then Some (Bnz (bits - 0x1000))
    else if nat_lt bits 0x2000 then Some (Jmp (bits - 0x1800))
    else None

abbrev pub with_flags : Bool → Bool → Option Body → Option Micro
with_flags opd nxt None = None
with_flags opd nxt (Some body) = Some (record { body = body; opd = opd; nxt = nxt })

-- The microinstruction that a word spells, if it spells one. By the clauses of `encode` and `decode` it is the inverse of `word_of`.
abbrev pub micro_of : ℕ → Option Micro
micro_of word =
    let nxt = word / 2 ^ 15 == 1 in
    let opd = word / 2 ^ 14 % 2 == 1 in
    with_flags opd nxt (body_of (word % 2 ^ 14) (opd || nxt))
