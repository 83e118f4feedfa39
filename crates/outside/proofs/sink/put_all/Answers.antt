use Rattle.std.proofs.Common.{arith}
use Rattle.outside.specs.Growing.{Grew-trans}
use Rattle.outside.proofs.Told.{take_rest}
use Rattle.outside.proofs.sink.put_all.Goals as goal

pub loop-at-preserved : goal.loop-at-preserved
loop-at-preserved g c = record {
  within = omega (arith, c.in_ok-at.ensures.bound);
  told = Grew-trans _ _ _ _ _ _ c.loop-at.invariant.told c.in_ok-at.ensures.told (take_rest c.args.bytes.now c.loop-at.at c.in_ok-at.field-0);
  later = omega (arith, c.in_ok-at.ensures.cause.later);
}
