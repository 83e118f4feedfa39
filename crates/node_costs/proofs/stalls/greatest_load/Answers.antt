use Rattle.std.proofs.Common.{◌≡◌, max, length, arith}
use Rattle.node_costs.proofs.Loading.{greatest_first, greatest_next, greatest_at}
use Rattle.node_costs.proofs.stalls.greatest_load.Goals as goal

pub loop-m-init : goal.loop-m-init
loop-m-init c =
    record {
      is = greatest_first c.args.read c.args.f.now.methods c.load_at-greatest.result c.load_at-greatest.ensures.load;
      small = c.load_at-greatest.ensures.small;
    }

pub loop-m-preserved : goal.loop-m-preserved
loop-m-preserved c =
    let top = c.max-greatest.ensures in
    let same : c.max-greatest.result ≡ max c.load_at.result c.loop-m.greatest = omega arith in
    let next = c.load_at.ensures.small in
    let so_far = c.loop-m.invariant.small in
    record {
      is = greatest_next c.args.read c.args.f.now.methods c.loop-m.m c.loop-m.greatest c.load_at.result c.max-greatest.result c.loop-m.invariant.is c.load_at.ensures.load same;
      small = omega arith;
    }

pub returns-clause-greatest : goal.returns-clause-greatest
returns-clause-greatest c =
    let past = c.loop-m-test.false in
    let end = c.loop-m.auto.m-end in
    let count = c.method_count-m-end.ensures.count in
    let some = c.boot.ensures.form.boot in
    let all : c.loop-m.m ≡ length c.args.f.now.methods = omega arith in
    greatest_at c.args.f.now c.args.read c.loop-m.greatest c.loop-m.m all c.loop-m.invariant.is
