-- When no instruction begins at a place: JVM Specification SE 8, 6.2 and 6.5.
use Rattle.std.specs.Prelude.{◌≡◌, ℕ, ◌+◌, ◌<◌, Bool, not, ◌&&◌, ◌||◌, ◌==◌, nat_lt, nat_le, List, ◌++◌, length, IsTrue, IsOk, ◌⊎◌}
use Rattle.opcodes.specs.Bytes.{u1}
use Rattle.opcodes.specs.Instruction.{decoded}

-- no opcode has this number: only those up to 202, and 254 and 255, are assigned
abbrev pub is_unassigned : ℕ → Bool
is_unassigned byte = nat_lt 202 byte && nat_lt byte 254

-- the opcodes that may stand behind `wide`: the loads and stores by index, `iinc` and `ret`
abbrev pub may_be_wide : ℕ → Bool
may_be_wide byte = (nat_le 21 byte && nat_le byte 25) || (nat_le 54 byte && nat_le byte 58) || byte == 132 || byte == 169

-- the byte is the one at pc and has no opcode, or it is the one behind the `wide` (196) at pc and may not stand there
abbrev pub IsNoOpcodeAt : List ℕ → ℕ → ℕ → Type 0
IsNoOpcodeAt code pc byte =
    ((byte ≡ u1 code pc) × IsTrue (is_unassigned byte))
    ⊎ ((u1 code pc ≡ 196) × (pc + 1 < length code) × (byte ≡ u1 code (pc + 1)) × IsTrue (not (may_be_wide byte)))

-- a whole instruction begins at pc
abbrev pub IsWholeAt : List ℕ → ℕ → Type 0
IsWholeAt code pc = IsOk (decoded code pc)

-- the bytes from pc on are the front of an instruction that passes the end: with more bytes behind them it is whole
pub record PassesEnd (code : List ℕ) (pc : ℕ) : Type 0 where
  pub more : List ℕ
  pub completed : IsWholeAt (code ++ more) pc
  pub cut_off : IsWholeAt code pc → ⊥
