use Rattle.std.proofs.Common.{length, ap, arith}
use Rattle.resolved_program.proofs.InstanceLemmas.{own_long, own_read, counts_long, count_read, count_step}
use Rattle.resolved_program.proofs.instances.Instances.above.Goals as goal

pub index-requires : goal.index-requires
index-requires c = let long = counts_long c.args.classes.now c.args.self.now.counts.items c.requires.counts in omega (arith, long)

pub index-requires-2 : goal.index-requires-2
index-requires-2 c = let long = own_long c.args.classes.now c.args.self.now.own.items c.requires.own in omega (arith, long)

pub overflow_sub-result : goal.overflow_sub-result
overflow_sub-result c =
    let cs = c.args.classes.now in
    let class = c.args.class in
    let own = ap length (own_read cs c.args.self.now.own.items c.requires.own class c.requires.class c.index-2.result.now c.index-2.ensures) in
    let all = count_read cs c.args.self.now.counts.items c.requires.counts class c.requires.class c.index.result.now c.index.ensures in
    let step = count_step cs (c.superclasses_stand_above.ensures cs c.is_without_cycle.ensures) class in
    omega (arith, own, all, step, c.count.ensures)

pub returns-clause-above : goal.returns-clause-above
returns-clause-above c =
    let cs = c.args.classes.now in
    let class = c.args.class in
    let own = ap length (own_read cs c.args.self.now.own.items c.requires.own class c.requires.class c.index-2.result.now c.index-2.ensures) in
    let all = count_read cs c.args.self.now.counts.items c.requires.counts class c.requires.class c.index.result.now c.index.ensures in
    let step = count_step cs (c.superclasses_stand_above.ensures cs c.is_without_cycle.ensures) class in
    omega (arith, own, all, step, c.count.ensures)

pub returns-clause-small : goal.returns-clause-small
returns-clause-small c =
    let cs = c.args.classes.now in
    let class = c.args.class in
    let own = ap length (own_read cs c.args.self.now.own.items c.requires.own class c.requires.class c.index-2.result.now c.index-2.ensures) in
    let all = count_read cs c.args.self.now.counts.items c.requires.counts class c.requires.class c.index.result.now c.index.ensures in
    let step = count_step cs (c.superclasses_stand_above.ensures cs c.is_without_cycle.ensures) class in
    omega (arith, own, all, step, c.count.ensures)
