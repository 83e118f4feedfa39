use Rattle.std.proofs.Common.{◌≡◌, ◌<◌, ℕ, List, length, All, Contains, None, Some, Option, sym, ◌∙◌, subst, arith}
use Rattle.std.specs.Prelude.{IfNone}
use Rattle.std.proofs.lemmas.List.{get_or_default}
use Rattle.path_solver.specs.Distances.{sources_at}
use Rattle.path_solver.proofs.Orderly.{orderly}
use Rattle.bound_report.specs.Visits.Paths.{fee_of}
use Rattle.bound_report.proofs.VisitsLemmas.Tight.{tight_before}
use Rattle.bound_report.proofs.visits.problem.before.Goals as goal

if_none : {A P Q : Type 0} (o : Option A) → (P → Q) → IfNone o P → IfNone o Q
if_none None f p = f p
if_none (Some x) f p = tt

pub costing-requires-clause-within : goal.costing-requires-clause-within
costing-requires-clause-within g c =
    let q = c.args.q.now in
    let m = c.requires.0.measured in
    let o = orderly q.g.now q.nest.now q.found.now.listed.items q.found.now.topology m.setting.digraph m.setting.reaching m.setting.topology in
    let all : All (λ v. v < q.g.now.nodes) (sources_at q.found.now.topology.forward c.args.u) = o.forward_within c.args.u in
    let P : ℕ → Type 0 = λ n. All (λ v. v < n) (sources_at q.found.now.topology.forward c.args.u) in
    let Q : List ℕ → Type 0 = λ us. All (λ v. v < length q.costs.now) us in
    subst Q (sym c.of.ensures) (subst P (sym m.costs_long) all)

pub returns-clause-none : goal.returns-clause-none
returns-clause-none g c =
    let q = c.args.q.now in
    let m = c.requires.0.measured in
    let t = tight_before q c.args.dist.now g.inside c.args.u c.requires.1.1.1.1.0 c.requires.1.1.1.1.1 in
    let fee_long = m.loop_costs.fees_long in
    let costs_long = m.costs_long in
    let within = c.requires.1.1.1.0 in
    let fee : c.index.result.now ≡ fee_of q c.args.u = c.index.ensures ∙ get_or_default q.found.now.fees.items c.args.u c.index.result.now 0 (omega arith) in
    let P : List ℕ → Type 0 = λ us. Contains us t.0 in
    let there = subst P (sym c.of.ensures) t.1 in
    let tight = t.2 in
    if_none c.costing.result (λ none. none t.0 there (omega arith)) c.costing.ensures.none
