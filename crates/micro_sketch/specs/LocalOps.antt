-- Opcodes that load a local or store into one (JVM Specification SE 8, chapter 6).
use Rattle.std.specs.Prelude.{ℕ, ◌+◌, ◌%◌, ◌^◌, ◌<◌}
use Rattle.jop_core.specs.Operations.{sign_extended8}
use Rattle.micro_sketch.specs.Sketch.{Sketch, abyte}
use Rattle.micro_sketch.specs.Row.{Effect, unchanged}
use Rattle.micro_sketch.specs.Operand.{byte_operand, past, behind, local, with_local, loads, stores, loads_long, stores_long, HasLocal, HasLong}

pub data LocalOp : Type 0 where
  Iload : LocalOp
  Lload : LocalOp
  Aload : LocalOp
  Iload0 : LocalOp
  Iload1 : LocalOp
  Iload2 : LocalOp
  Iload3 : LocalOp
  Lload0 : LocalOp
  Lload1 : LocalOp
  Lload2 : LocalOp
  Lload3 : LocalOp
  Aload0 : LocalOp
  Aload1 : LocalOp
  Aload2 : LocalOp
  Aload3 : LocalOp
  Istore : LocalOp
  Lstore : LocalOp
  Astore : LocalOp
  Istore0 : LocalOp
  Istore1 : LocalOp
  Istore2 : LocalOp
  Istore3 : LocalOp
  Lstore0 : LocalOp
  Lstore1 : LocalOp
  Lstore2 : LocalOp
  Lstore3 : LocalOp
  Astore0 : LocalOp
  Astore1 : LocalOp
  Astore2 : LocalOp
  Astore3 : LocalOp
  Iinc : LocalOp

abbrev pub local_code : LocalOp → ℕ
local_code Iload = 21
local_code Lload = 22
local_code Aload = 25
local_code Iload0 = 26
local_code Iload1 = 27
local_code Iload2 = 28
local_code Iload3 = 29
local_code Lload0 = 30
local_code Lload1 = 31
local_code Lload2 = 32
local_code Lload3 = 33
local_code Aload0 = 42
local_code Aload1 = 43
local_code Aload2 = 44
local_code Aload3 = 45
local_code Istore = 54
local_code Lstore = 55
local_code Astore = 58
local_code Istore0 = 59
local_code Istore1 = 60
local_code Istore2 = 61
local_code Istore3 = 62
local_code Lstore0 = 63
local_code Lstore1 = 64
local_code Lstore2 = 65
local_code Lstore3 = 66
local_code Astore0 = 75
local_code Astore1 = 76
local_code Astore2 = 77
local_code Astore3 = 78
local_code Iinc = 132

-- the number that iinc adds, which is its second byte
abbrev pub increment : Sketch → ℕ
increment x = sign_extended8 (abyte (past 1 x))

abbrev pub local_effect : LocalOp → Sketch → Effect
local_effect Iload x = behind 1 x (loads (byte_operand x) x)
local_effect Lload x = behind 1 x (loads_long (byte_operand x) x)
local_effect Aload x = behind 1 x (loads (byte_operand x) x)
local_effect Iload0 x = loads 0 x
local_effect Iload1 x = loads 1 x
local_effect Iload2 x = loads 2 x
local_effect Iload3 x = loads 3 x
local_effect Lload0 x = loads_long 0 x
local_effect Lload1 x = loads_long 1 x
local_effect Lload2 x = loads_long 2 x
local_effect Lload3 x = loads_long 3 x
local_effect Aload0 x = loads 0 x
local_effect Aload1 x = loads 1 x
local_effect Aload2 x = loads 2 x
local_effect Aload3 x = loads 3 x
local_effect Istore x = behind 1 x (stores (byte_operand x) x)
local_effect Lstore x = behind 1 x (stores_long (byte_operand x) x)
local_effect Astore x = behind 1 x (stores (byte_operand x) x)
local_effect Istore0 x = stores 0 x
local_effect Istore1 x = stores 1 x
local_effect Istore2 x = stores 2 x
local_effect Istore3 x = stores 3 x
local_effect Lstore0 x = stores_long 0 x
local_effect Lstore1 x = stores_long 1 x
local_effect Lstore2 x = stores_long 2 x
local_effect Lstore3 x = stores_long 3 x
local_effect Astore0 x = stores 0 x
local_effect Astore1 x = stores 1 x
local_effect Astore2 x = stores 2 x
local_effect Astore3 x = stores 3 x
local_effect Iinc x = let k = byte_operand x in behind 2 x (record (unchanged x) { deep = with_local k ((local x k + increment x) % 2 ^ 32) x })

-- what an opcode needs beyond room on the stack: its local
abbrev pub local_ready : LocalOp → Sketch → Type 0
local_ready Iload x = HasLocal (byte_operand x) x
local_ready Lload x = HasLong (byte_operand x) x
local_ready Aload x = HasLocal (byte_operand x) x
local_ready Iload0 x = HasLocal 0 x
local_ready Iload1 x = HasLocal 1 x
local_ready Iload2 x = HasLocal 2 x
local_ready Iload3 x = HasLocal 3 x
local_ready Lload0 x = HasLong 0 x
local_ready Lload1 x = HasLong 1 x
local_ready Lload2 x = HasLong 2 x
local_ready Lload3 x = HasLong 3 x
local_ready Aload0 x = HasLocal 0 x
local_ready Aload1 x = HasLocal 1 x
local_ready Aload2 x = HasLocal 2 x
local_ready Aload3 x = HasLocal 3 x
local_ready Istore x = HasLocal (byte_operand x) x
local_ready Lstore x = HasLong (byte_operand x) x
local_ready Astore x = HasLocal (byte_operand x) x
local_ready Istore0 x = HasLocal 0 x
local_ready Istore1 x = HasLocal 1 x
local_ready Istore2 x = HasLocal 2 x
local_ready Istore3 x = HasLocal 3 x
local_ready Lstore0 x = HasLong 0 x
local_ready Lstore1 x = HasLong 1 x
local_ready Lstore2 x = HasLong 2 x
local_ready Lstore3 x = HasLong 3 x
local_ready Astore0 x = HasLocal 0 x
local_ready Astore1 x = HasLocal 1 x
local_ready Astore2 x = HasLocal 2 x
local_ready Astore3 x = HasLocal 3 x
local_ready Iinc x = HasLocal (byte_operand x) x × (x.vp + byte_operand x < 2 ^ 32)
