use Rattle.std.proofs.Common.{List, set, ap, arith}
use Rattle.method_bounds.specs.declared.causes.Leasts.{Leasts}
use Rattle.method_bounds.proofs.Leasts.{found_more}
use Rattle.method_bounds.proofs.causes.find.Goals as goal

pub returns-clause-leasts : goal.returns-clause-leasts
returns-clause-leasts c = λ P done flow behind was.
    let m = c.args.m in
    let x = c.in_ok-leasts.leasts in
    let one = c.in_ok-leasts.ensures.leasts P flow was.lists (λ t runs. was.methods t (behind t runs)) in
    found_more c.args.f.now c.args.loops.now P done m c.args.found.now _ x (omega arith) was one.0 (ap (λ (xs : List Leasts). set xs m x) c.in_ok-leasts.ensures.methods) one.1
