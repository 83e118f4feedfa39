use Rattle.std.proofs.Common.{arith}
use Rattle.resolved_program.proofs.InstanceLemmas.{counts_long, count_read}
use Rattle.resolved_program.proofs.instances.Instances.count.Goals as goal

pub index-requires : goal.index-requires
index-requires c = let long = counts_long c.args.classes.now c.args.self.now.counts.items c.requires.counts in omega (arith, long)

pub returns : goal.returns
returns c = count_read c.args.classes.now c.args.self.now.counts.items c.requires.counts c.args.class c.requires.class c.index.result.now c.index.ensures
