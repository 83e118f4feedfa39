use Rattle.std.proofs.Common.{◌&&◌, sym, ap}
use Rattle.class_rules.specs.Tests.{are_distinct}
use Rattle.class_rules.proofs.DistinctLemmas.{all_fresh, distinct_step}
use Rattle.class_rules.proofs.distinct.are_distinct.Goals as goal

pub loop-rest-init : goal.loop-rest-init
loop-rest-init c = ap (λ v. v && are_distinct c.args.pool.now c.args.members.now) (sym (all_fresh c.new-seen.result c.args.numbers.now c.args.members.now c.new-seen.ensures.empty))

pub loop-rest-preserved : goal.loop-rest-preserved
loop-rest-preserved c =
    distinct_step c.args.pool.now c.args.numbers.now c.loop-rest.seen c.insert.new.self c.loop-rest.rest.now c.m-item.result c.key_of.result c.in_ok-insert.field-0 (are_distinct c.args.pool.now c.args.members.now) c.requires
    c.in-len1-up.len_at_least c.m-item.is c.key_of.ensures c.if-not-branch.false c.in_ok-insert.ensures.added c.in_ok-insert.ensures.updates.0 c.loop-rest.invariant
