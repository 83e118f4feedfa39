use Rattle.verifier_types.proofs.NumberLemmas.{grown_twice, numbers_more}
use Rattle.verifier_types.proofs.local_lists.numbers_of.Goals as goal

pub loop-item-preserved : goal.loop-item-preserved
loop-item-preserved c = record {
  more = grown_twice c.args.types.now.keys c.loop-item.types.keys c.number_of.new.types.keys c.loop-item.invariant.more c.number_of.ensures.more;
  numbers = numbers_more c.loop-item.types.keys c.number_of.new.types.keys c.args.locals.now c.loop-item.item-index c.in_ok-number.number c.loop-item.numbers.items c.push.new.self.items
      c.number_of.ensures.more c.loop-item-test.true c.loop-item.invariant.numbers c.in_ok-number.ensures.number c.in_ok-push.ensures.items;
}
