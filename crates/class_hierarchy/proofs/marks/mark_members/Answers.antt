use Rattle.std.proofs.Common.{ℕ}
use Rattle.class_hierarchy.proofs.Marking.{more_more, more_set, own_set, members_more, members_all}
use Rattle.class_hierarchy.proofs.marks.mark_members.Goals as goal

pub loop-member-preserved : goal.loop-member-preserved
loop-member-preserved c =
    let old = c.loop-member.marks in
    let new = c.set.new.self in
    let pair : ℕ × ℕ = (c.symbol-name.result, c.symbol-descriptor.result) in
    let more = more_set old new pair c.args.class c.set.ensures.columns c.in_ok-set.ensures.set in (
      more_more c.args.marks.now old new c.loop-member.invariant.0 more,
      members_more c.args.classes.now c.args.class c.args.members.now c.loop-member.member-index c.member-item.result c.symbol-name.result c.symbol-descriptor.result old new c.loop-member-test.true c.member-item.is
          c.symbol-name.ensures c.symbol-descriptor.ensures more (own_set old new pair c.args.class c.in_ok-set.ensures.set) c.loop-member.invariant.1,
    )

pub returns-clause-marked : goal.returns-clause-marked
returns-clause-marked c =
    members_all c.args.classes.now c.args.class c.args.members.now c.loop-member.member-index c.loop-member.marks c.loop-member-test.false c.loop-member.invariant.1
