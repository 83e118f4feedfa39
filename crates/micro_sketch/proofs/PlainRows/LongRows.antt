-- The row of each opcode of longs.
use Rattle.micro_sketch.specs.Sketch.{Sketch}
use Rattle.micro_sketch.specs.Rows.{entered}
use Rattle.micro_sketch.specs.LongOps.{LongOp, Ladd, Lsub, Lneg, Lshl, Lshr, Lushr, Land, Lor, Lxor, I2l, L2i, Lcmp, long_code, long_effect, long_ready}
use Rattle.micro_sketch.proofs.PlainRows.Shaping.{Row}
use Rattle.micro_sketch.proofs.PlainRows.Longs.{ladd, lsub, lneg, i2l, lcmp, land, lor, lxor, l2i}
use Rattle.micro_sketch.proofs.PlainRows.ShiftRows.{lshl, lshr, lushr}

-- x and how it stands at the opcode's entry are ready
pub long_row : (op : LongOp) (x : Sketch) → long_ready op x → long_ready op (entered (long_code op) x) → Row (long_code op) (long_effect op) x
long_row Ladd x ready entered = ladd x entered ready.four
long_row Lsub x ready entered = lsub x entered ready.four
long_row Lneg x ready entered = lneg x ready.0 ready.1
long_row Lshl x ready entered = lshl x entered
long_row Lshr x ready entered = lshr x entered
long_row Lushr x ready entered = lushr x entered
long_row Land x ready entered = land x
long_row Lor x ready entered = lor x
long_row Lxor x ready entered = lxor x
long_row I2l x ready entered = i2l x ready
long_row L2i x ready entered = l2i x
long_row Lcmp x ready entered = lcmp x entered ready.four
