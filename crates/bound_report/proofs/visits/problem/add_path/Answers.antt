use Rattle.std.proofs.Common.{refl, arith}
use Rattle.bound_report.proofs.VisitsLemmas.PathLemmas.{adding_first, adding_next, still_old, place_before}
use Rattle.bound_report.proofs.visits.problem.add_path.Goals as goal

pub bounds-visits-u : goal.bounds-visits-u
bounds-visits-u g c = let lt = c.requires.1.1.1.0 c.args.end c.requires.1.1.1.1.1.0 in let long = c.requires.1.1.1.1.1.1.1.0 in omega arith

pub bounds-visits-u-2 : goal.bounds-visits-u-2
bounds-visits-u-2 g c = let lt = c.requires.1.1.1.0 c.args.end c.requires.1.1.1.1.1.0 in let long = c.requires.1.1.1.1.1.1.1.0 in omega arith

pub loop-u-init : goal.loop-u-init
loop-u-init g c =
    let lt = c.requires.1.1.1.0 c.args.end c.requires.1.1.1.1.1.0 in
    let long = c.requires.1.1.1.1.1.1.1.0 in
    adding_first c.args.q.now c.requires.0 c.args.dist.now g.inside c.args.start c.args.end c.args.count c.args.visits.now _ c.requires.1.1.1.1.1.0 c.requires.1.1.1.1.1.1.0 (omega arith) refl

pub before-requires : goal.before-requires
before-requires g c =
    let inv = c.loop-u.invariant in
    (c.requires.0, (c.requires.1.0, (c.requires.1.1.0, (c.requires.1.1.1.0 c.loop-u.u inv.here, (c.requires.1.1.1.1.0 c.loop-u.u inv.here c.loop-u-test.true, inv.low)))))

pub bounds-visits-u-in-loop-u : goal.bounds-visits-u-in-loop-u
bounds-visits-u-in-loop-u g c =
    let inv = c.loop-u.invariant in
    let there = (c.requires.1.1.1.1.0 c.loop-u.u inv.here c.loop-u-test.true).all_inside c.in-Some.source c.in-Some.ensures.found.0 in
    let lt = c.requires.1.1.1.0 c.in-Some.source there in
    let long = inv.long in
    let all = c.requires.1.1.1.1.1.1.1.0 in
    omega arith

pub overflow_add-visits-in-loop-u : goal.overflow_add-visits-in-loop-u
overflow_add-visits-in-loop-u g c =
    let old = still_old c.args.q.now c.requires.0 c.args.dist.now g.inside c.args.start c.args.end c.args.count c.args.visits.now c.loop-u.visits c.loop-u.u c.in-Some.source c.loop-u.invariant c.in-Some.ensures.found.0 in
    let room = c.requires.1.1.1.1.1.1.1.1 c.in-Some.source in
    omega arith

pub bounds-visits-u-in-loop-u-2 : goal.bounds-visits-u-in-loop-u-2
bounds-visits-u-in-loop-u-2 g c =
    let inv = c.loop-u.invariant in
    let there = (c.requires.1.1.1.1.0 c.loop-u.u inv.here c.loop-u-test.true).all_inside c.in-Some.source c.in-Some.ensures.found.0 in
    let lt = c.requires.1.1.1.0 c.in-Some.source there in
    let long = inv.long in
    let all = c.requires.1.1.1.1.1.1.1.0 in
    omega arith

pub loop-u-smaller : goal.loop-u-smaller
loop-u-smaller g c = place_before c.args.q.now c.requires.0 c.loop-u.u c.in-Some.source c.in-Some.ensures.found.0

pub loop-u-preserved : goal.loop-u-preserved
loop-u-preserved g c =
    let inv = c.loop-u.invariant in
    let there = (c.requires.1.1.1.1.0 c.loop-u.u inv.here c.loop-u-test.true).all_inside c.in-Some.source c.in-Some.ensures.found.0 in
    let lt = c.requires.1.1.1.0 c.in-Some.source there in
    let long = inv.long in
    let all = c.requires.1.1.1.1.1.1.1.0 in
    adding_next c.args.q.now c.requires.0 c.args.dist.now g.inside c.args.start c.args.end c.args.count c.args.visits.now c.loop-u.visits c.loop-u.u c.in-Some.source inv c.in-Some.ensures.found.0
    _ there c.loop-u-test.true c.in-Some.ensures.found.1 (omega arith) refl
