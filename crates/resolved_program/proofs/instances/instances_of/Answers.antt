use Rattle.resolved_program.proofs.InstanceLemmas.{counts_more}
use Rattle.resolved_program.proofs.instances.instances_of.Goals as goal

pub loop-class-preserved : goal.loop-class-preserved
loop-class-preserved c =
    counts_more c.args.classes.now c.loop-class.class c.loop-class.counts.items c.push.new.self.items c.in_ok-instance_count.field-0
    c.loop-class.invariant c.in_ok-push.ensures.items c.in_ok-instance_count.ensures
