use Rattle.std.proofs.Common.{◌≤◌, ◌++◌, ℕ, List, sym, ap, ◌∙◌, arith}
use Rattle.work_gen.specs.Work.{bound_line}
use Rattle.work_gen.proofs.Numbers.{flat_next}
use Rattle.work_gen.proofs.bounds.work_bounds.Goals as goal

pub loop-k-preserved : goal.loop-k-preserved
loop-k-preserved c =
    let some : 1 ≤ c.loop-k.k = omega arith in
    c.in_ok-put_bound.ensures ∙ (ap (λ (text : List ℕ). text ++ bound_line c.loop-k.k) c.loop-k.invariant ∙ sym (flat_next bound_line c.loop-k.k some))
