use Rattle.std.proofs.Common.{◌≤◌, ◌++◌, List, sym, ap₂, ◌∙◌, arith}
use Rattle.class_making.specs.declared.plan.Piece.{Piece}
use Rattle.work_gen.specs.Work.{call_of, is_called}
use Rattle.work_gen.proofs.Numbers.{filtered_next}
use Rattle.work_gen.proofs.main_method.calls.Goals as goal

pub loop-k-preserved : goal.loop-k-preserved
loop-k-preserved c =
    let some : 1 ≤ c.loop-k.k = omega arith in
    c.in_ok-append.ensures.items ∙ (ap₂ (λ (xs ys : List Piece). xs ++ ys) c.loop-k.invariant c.in_ok-call_from_main.ensures ∙ sym (filtered_next call_of (is_called c.args.n) c.loop-k.k some))
