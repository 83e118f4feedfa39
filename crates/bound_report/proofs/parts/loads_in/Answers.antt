use Rattle.std.proofs.Common.{◌≡◌, ℕ, ◌*◌, ◌^◌, ◌<◌, List, sum_by, subst}
use Rattle.bound_report.specs.declared.counts.NodeCount.{NodeCount}
use Rattle.bound_report.specs.Report.{products}
use Rattle.bound_report.proofs.Rowing.{loads_are}
use Rattle.bound_report.proofs.parts.loads_in.Goals as goal

pub returns : goal.returns
returns c = λ small.
    let k = c.args.k.now in
    let E : List ℕ → List ℕ → Type 0 = λ xs ys. products xs ys < 2 ^ 128 → c.entry_loads.result ≡ products xs ys in
    let N : List NodeCount → Type 0 = λ cs. sum_by (λ x. x.visits * x.loads) cs < 2 ^ 128 → c.call_loads.result ≡ sum_by (λ x. x.visits * x.loads) cs in
    let first : E k.entered.items k.fees.items = subst (λ (ys : List ℕ). E k.entered.items ys) c.deref-2.ensures.value (subst (λ (xs : List ℕ). E xs c.deref-2.result.now) c.deref.ensures.value c.entry_loads.ensures) in
    let second : N k.nodes.items = subst N c.deref-3.ensures.value c.call_loads.ensures in
    loads_are k.times (products k.entered.items k.fees.items) (sum_by (λ x. x.visits * x.loads) k.nodes.items) c.entry_loads.result c.call_loads.result c.sum-once.result c.product.result small first second c.sum-once.ensures c.product.ensures
