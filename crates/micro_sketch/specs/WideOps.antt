-- Opcodes under wide (JVM Specification SE 8, 6.5 wide): the byte behind it is the opcode, then come two bytes of a local's number.
use Rattle.std.specs.Prelude.{ℕ, ◌≡◌, ◌+◌, ◌%◌, ◌^◌, ◌<◌}
use Rattle.jop_core.specs.Operations.{sign_extended16}
use Rattle.micro_sketch.specs.Sketch.{Sketch}
use Rattle.micro_sketch.specs.Row.{Effect, unchanged}
use Rattle.micro_sketch.specs.Operand.{byte_operand, two_byte_operand, past, behind, local, with_local, loads, stores, loads_long, stores_long, HasLocal}
use Rattle.micro_sketch.specs.Operand.{HasLong}

pub data WideOp : Type 0 where
  WideIload : WideOp
  WideLload : WideOp
  WideAload : WideOp
  WideIstore : WideOp
  WideLstore : WideOp
  WideAstore : WideOp
  WideIinc : WideOp

-- the opcode under it
abbrev pub under_code : WideOp → ℕ
under_code WideIload = 21
under_code WideLload = 22
under_code WideAload = 25
under_code WideIstore = 54
under_code WideLstore = 55
under_code WideAstore = 58
under_code WideIinc = 132

-- the number of the local, and that which iinc adds
abbrev pub wide_index : Sketch → ℕ
wide_index x = two_byte_operand (past 1 x)

abbrev pub wide_increment : Sketch → ℕ
wide_increment x = sign_extended16 (two_byte_operand (past 3 x))

abbrev pub wide_effect : WideOp → Sketch → Effect
wide_effect WideIload x = behind 3 x (loads (wide_index x) x)
wide_effect WideLload x = behind 3 x (loads_long (wide_index x) x)
wide_effect WideAload x = behind 3 x (loads (wide_index x) x)
wide_effect WideIstore x = behind 3 x (stores (wide_index x) x)
wide_effect WideLstore x = behind 3 x (stores_long (wide_index x) x)
wide_effect WideAstore x = behind 3 x (stores (wide_index x) x)
wide_effect WideIinc x = let k = wide_index x in behind 5 x (record (unchanged x) { deep = with_local k ((local x k + wide_increment x) % 2 ^ 32) x })

-- it stands behind wide, and its local is there, whose place is that of a word
pub record HasWide (op : WideOp) (x : Sketch) : Type 0 where
  pub under : byte_operand x ≡ under_code op
  pub inside : HasLocal (wide_index x) x
  pub word : x.vp + wide_index x < 2 ^ 32

pub record HasWideLong (op : WideOp) (x : Sketch) : Type 0 where
  pub under : byte_operand x ≡ under_code op
  pub long : HasLong (wide_index x) x

abbrev pub wide_ready : WideOp → Sketch → Type 0
wide_ready WideLload x = HasWideLong WideLload x
wide_ready WideLstore x = HasWideLong WideLstore x
wide_ready op x = HasWide op x
