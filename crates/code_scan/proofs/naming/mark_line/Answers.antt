use Rattle.std.proofs.Common.{sym, arith}
use Rattle.code_scan.proofs.Marking.{named_inside}
use Rattle.code_scan.proofs.naming.mark_line.Goals as goal

pub decode-requires-clause-inside : goal.decode-requires-clause-inside
decode-requires-clause-inside c = (c.starts_follow_one_another.ensures c.args.code.now).within_code c.args.pc c.requires.start

pub mark_targets-requires-clause-inside : goal.mark_targets-requires-clause-inside
mark_targets-requires-clause-inside c = λ q has.
    let code = c.args.code.now in
    let p = c.args.pc in
    let i = c.in-Ok.instr in
    let fits = c.targets_fit_the_kind.ensures code p i (omega arith) in
    let start = named_inside code p q i fits c.requires.stays (sym c.in-Ok.ensures.exact) has in
    let below = (c.starts_follow_one_another.ensures code).within_code q start in
    let long = c.requires.long in
    omega arith
