use Rattle.std.proofs.Common.{get_or, sym, ◌∙◌, arith}
use Rattle.std.proofs.lemmas.List.Elements.{Contains-get_or}
use Rattle.bound_finder.proofs.CallNodes.{call_found, none_found}
use Rattle.bound_finder.proofs.charges.has_call.Goals as goal

pub returns-then-is_flagged : goal.returns-then-is_flagged
returns-then-is_flagged c = λ calls are.
    let members = c.args.members.now in
    let i = c.loop-u.u-index in
    call_found calls c.args.call_nodes.now members (get_or members i 0) are (Contains-get_or members i 0 c.loop-u-test.true) (sym c.is_flagged.ensures ∙ c.if-is_flagged.true)

pub returns : goal.returns
returns c = λ calls are. let past = c.loop-u-test.false in none_found calls c.args.call_nodes.now c.args.members.now are (λ i lt. c.loop-u.invariant i (omega arith))
