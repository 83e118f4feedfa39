-- The rows of the opcodes of devices, by computing on the sketch.
use Rattle.std.proofs.Common.{true, [], refl}
use Rattle.micro_sketch.specs.Sketch.{Sketch}
use Rattle.micro_sketch.specs.Rows.{Makes, makes, entered}
use Rattle.opcode_steps.specs.Devices.Opcodes.{DeviceOp, Impdep1, Impdep2, code_of, effect}

pub row_of : (op : DeviceOp) (x : Sketch) → Makes (effect op (entered (code_of op) x)) (entered (code_of op) x)
row_of Impdep1 x = makes 0 [] (effect Impdep1 (entered 254 x)) (entered 254 x) true refl refl
row_of Impdep2 x = makes 0 [] (effect Impdep2 (entered 255 x)) (entered 255 x) true refl refl
