use Rattle.std.proofs.Common.{◌<◌, length, sym, ◌∙◌, subst}
use Rattle.netlist.proofs.Wires.{wire_in, wires_so_far, no_wires, all_wires}
use Rattle.netlist.proofs.checks.are_wires.Goals as goal

pub loop-k-init : goal.loop-k-init
loop-k-init c = tt

pub returns-then-not-is_expression : goal.returns-then-not-is_expression
returns-then-not-is_expression c =
    let lt = subst (λ l. c.loop-k.k < length l) c.as_slice-k-end.ensures c.loop-k-test.true in
    no_wires c.args.n.now (λ a. sym c.if-not-is_expression.true
    ∙ c.is_expression.ensures.1 (wire_in c.args.n.now c.as_slice.result.now c.loop-k.k c.index-as_slice-k.result c.as_slice.ensures c.index-as_slice-k.is lt a))

pub loop-k-preserved : goal.loop-k-preserved
loop-k-preserved c =
    let lt = subst (λ l. c.loop-k.k < length l) c.as_slice-k-end.ensures c.loop-k-test.true in
    wires_so_far c.args.n.now c.as_slice.result.now c.loop-k.k c.index-as_slice-k.result c.as_slice.ensures c.index-as_slice-k.is lt c.loop-k.invariant
    (c.is_expression.ensures.0 c.if-not-is_expression.false)

pub returns : goal.returns
returns c = all_wires c.args.n.now c.as_slice-k-end.result.now c.loop-k.k c.as_slice-k-end.ensures c.loop-k-test.false c.loop-k.auto.k-end c.loop-k.invariant
