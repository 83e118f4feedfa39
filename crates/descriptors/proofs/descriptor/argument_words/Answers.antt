use Rattle.descriptors.proofs.TypeLemmas.{words_counted}
use Rattle.descriptors.proofs.descriptor.argument_words.Goals as goal

pub returns : goal.returns
returns c = words_counted c.loop-t.words c.loop-t.t-index c.args.types.now c.loop-t-test.false c.loop-t.invariant.0 c.loop-t.invariant.1
