use Rattle.number_sets.proofs.Inserting.{search_more}
use Rattle.number_sets.proofs.number_set.NumberSet.insert_all.Goals as goal

pub loop-number-preserved : goal.loop-number-preserved
loop-number-preserved c =
    search_more c.args.self.now c.args.numbers.now c.loop-number.self c.insert.new.self c.loop-number.number-index c.loop-number-test.true c.loop-number.invariant c.in_ok-insert.ensures
