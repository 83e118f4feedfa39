use Rattle.std.proofs.Common.{length, arith}
use Rattle.node_costs.proofs.Loading.{few_members, loads_at}
use Rattle.node_costs.proofs.stalls.loads.Goals as goal

pub overflow_add-cycles : goal.overflow_add-cycles
overflow_add-cycles c =
    let few = few_members c.args.methods.now (length c.args.f.now.methods) c.requires.within c.requires.distinct in
    let count = c.method_count.ensures.form.few in
    let so_far = c.loop-m.invariant.small in
    let next = c.load_at-cycles.ensures.small in
    let lt = c.loop-m-test.true in
    omega arith

pub returns-clause-of_program : goal.returns-clause-of_program
returns-clause-of_program c =
    loads_at c.args.f.now c.args.read c.args.methods.now c.loop-m.m-index c.loop-m.cycles c.loop-m-test.false c.loop-m.invariant.cycles c.requires.within
