use Rattle.std.proofs.Common.{ℕ, List, length, get_or, ap, arith}
use Rattle.flow_graph.specs.Reach.{flag_at}
use Rattle.flow_graph.proofs.Growing.{grows_more}
use Rattle.flow_graph.proofs.Noting.{IsStartEdge, all_starts, start_at, where_on}
use Rattle.flow_graph.proofs.edges.add_going_on.Goals as goal

pub bounds-flags-pc : goal.bounds-flags-pc
bounds-flags-pc c =
    let code = c.args.m.now.code in
    let p = get_or c.args.starts.now c.loop-pc.pc-index 0 in
    let below = (c.starts_follow_one_another.ensures code).within_code p (start_at code c.args.starts.now c.loop-pc.pc-index c.requires.starts c.loop-pc-test.true) in
    let long = c.requires.flags.long in
    omega arith

pub add_where-requires : goal.add_where-requires
add_where-requires c = start_at c.args.m.now.code c.args.starts.now c.loop-pc.pc-index c.requires.starts c.loop-pc-test.true

pub loop-pc-preserved : goal.loop-pc-preserved
loop-pc-preserved c =
    let k = c.args.m.now in
    let goes = c.args.goes.now in
    let flags = c.args.flags.now in
    let starts = c.args.starts.now in
    let i = c.loop-pc.pc-index in
    let p = get_or starts i 0 in
    let lt = c.loop-pc-test.true in
    let long = ap length c.requires.starts in
    let below = (c.starts_follow_one_another.ensures k.code).within_code p (start_at k.code starts i c.requires.starts lt) in
    grows_more c.args.edges.now.items c.loop-pc.edges.items c.add_where.new.edges.items (IsStartEdge k goes) i c.loop-pc.invariant
    (where_on c.loop-pc.edges.items c.add_where.new.edges.items k goes flags i p (flag_at flags p) (omega arith) (ap (λ (xs : List ℕ). get_or xs i 0) c.requires.starts) (c.requires.flags.each p below) c.in_ok-add_where.ensures)

pub returns : goal.returns
returns c =
    let past = c.loop-pc-test.false in
    let long = ap length c.requires.starts in
    all_starts c.args.edges.now.items c.loop-pc.edges.items c.args.m.now c.args.goes.now c.loop-pc.pc-index (omega arith) c.loop-pc.invariant
