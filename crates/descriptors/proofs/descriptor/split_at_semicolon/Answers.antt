use Rattle.descriptors.specs.Parsing.{split_in}
use Rattle.descriptors.proofs.TypeLemmas.{split_found, split_more, split_none}
use Rattle.descriptors.proofs.descriptor.split_at_semicolon.Goals as goal

pub returns-then-unit-eq-END_OF_CLASS : goal.returns-then-unit-eq-END_OF_CLASS
returns-then-unit-eq-END_OF_CLASS c = split_found c.args.units.now c.loop-i.i (split_in c.args.units.now) c.loop-i-test.true c.if-unit-eq-END_OF_CLASS.true c.loop-i.invariant

pub loop-i-preserved : goal.loop-i-preserved
loop-i-preserved c = split_more c.args.units.now c.loop-i.i (split_in c.args.units.now) c.loop-i-test.true c.if-unit-eq-END_OF_CLASS.false c.loop-i.invariant

pub returns : goal.returns
returns c = split_none c.args.units.now c.loop-i.i (split_in c.args.units.now) c.loop-i-test.false c.loop-i.invariant
