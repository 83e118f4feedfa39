use Rattle.std.proofs.Common.{arith}
use Rattle.std.proofs.lemmas.List.{length-set}
use Rattle.verifier_types.specs.declared.types.VarType.TheVariants.{Top}
use Rattle.verifier_types.proofs.OperandLemmas.{map_more}
use Rattle.verifier_types.proofs.slices.substitute.Goals as goal

pub loop-i-preserved : goal.loop-i-preserved
loop-i-preserved c = (
  omega (arith, length-set c.loop-i.types c.loop-i.i c.substituted.result, c.loop-i.invariant.0),
  map_more c.args.old c.args.new c.args.types.now c.loop-i.types c.loop-i.i c.substituted.result Top c.loop-i-test.true c.loop-i.invariant.0 c.loop-i.invariant.1 c.substituted.ensures,
)
