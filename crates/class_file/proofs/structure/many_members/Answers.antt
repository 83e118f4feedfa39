use Rattle.std.proofs.lemmas.Result.{err_from_is_err_and}
use Rattle.class_file.specs.InsideReading.{many_in, member_in}
use Rattle.class_file.proofs.ManyLemmas.{goes_on, stops, is_done}
use Rattle.class_file.proofs.structure.many_members.Goals as goal

pub returns-in_err-member : goal.returns-in_err-member
returns-in_err-member c =
    let p = err_from_is_err_and c.from_residual.result c.from_residual.ensures.1 in
    rw (p.1, p.2) (stops (member_in c.args.owner c.args.pool.now) c.in_err-member.field-0.0 c.loop.members.items c.args.count c.loop.counter c.loop.rest.now (many_in (member_in c.args.owner c.args.pool.now) c.args.count c.args.bytes.now) c.loop-test.true c.in_err-member.ensures c.loop.invariant)

pub loop-preserved : goal.loop-preserved
loop-preserved c = rw c.in_ok-push.ensures.items (goes_on (member_in c.args.owner c.args.pool.now) c.loop.members.items c.args.count c.loop.counter c.loop.rest.now c.in_ok-member.member c.in_ok-member.after.now (many_in (member_in c.args.owner c.args.pool.now) c.args.count c.args.bytes.now) c.loop-test.true c.in_ok-member.ensures c.loop.invariant)

pub returns : goal.returns
returns c = is_done (member_in c.args.owner c.args.pool.now) c.loop.members.items c.args.count c.loop.counter c.loop.rest.now (many_in (member_in c.args.owner c.args.pool.now) c.args.count c.args.bytes.now) c.loop-test.false c.loop.invariant
