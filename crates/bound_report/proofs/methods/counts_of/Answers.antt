use Rattle.std.proofs.Common.{ℕ, List, Vec, Global, sym, ap, ap₂, ◌∙◌, subst, inl, inr}
use Rattle.std.proofs.lemmas.Result.{err_from_is_err_and}
use Rattle.path_solver.specs.Regions.{charged}
use Rattle.bound_finder.specs.Ready.{IsWantOfMemory}
use Rattle.bound_report.specs.declared.counts.NodeCount.{NodeCount}
use Rattle.bound_report.specs.Nodes.{AreNodesOf}
use Rattle.bound_report.proofs.methods.counts_of.Goals as goal

pub returns-in-Ok-nodes_of-clause-counts : goal.returns-in-Ok-nodes_of-clause-counts
returns-in-Ok-nodes_of-clause-counts c =
    let set = c.args.task.now in
    let table = c.args.table.now in
    let m = c.args.m in
    let p = c.args.p.now in
    let k = c.form_of.ensures.coded in
    let w = c.in_ok-walk.walk in
    let V : List ℕ → Type 0 = λ vs. AreNodesOf set m table p vs c.in-Ok-nodes_of.nodes.items in
    let N : List NodeCount → Type 0 = λ ns. AreNodesOf set m table p w.visits.items ns in
    let same = ap (λ (v : Vec NodeCount Global). v.items) c.joined.ensures.nodes in
    let nodes = subst N (sym same) (subst V c.deref-4.ensures.value c.in-Ok-nodes_of.ensures) in
    record {
      method = c.joined.ensures.method;
      times = c.joined.ensures.times;
      counts = λ P of.
          c.counts_are_of_walks.ensures P set table m k.0 p w c.joined.result
          (record { waits = c.form_of.ensures.setting; flow = of; at = k.1; coded = k.2; limited = c.requires.limited; settled = c.requires.settled P of; shape = c.requires.shape; prepared = c.requires.prepared P of }) c.in_ok-walk.ensures.counts c.joined.ensures.method
          nodes (ap (λ (v : Vec ℕ Global). v.items) c.joined.ensures.entered)
          (ap (λ (v : Vec ℕ Global). v.items) c.joined.ensures.fees ∙ (c.in-Ok.ensures ∙ ap₂ charged c.deref.ensures.value c.deref-2.ensures.value));
    }

pub returns-in_err-walk-clause-cause : goal.returns-in_err-walk-clause-cause
returns-in_err-walk-clause-cause c =
    let e = err_from_is_err_and c.from_residual.result c.from_residual.ensures.1 in
    rw (e.1, e.2) (λ P of.
    let k = c.form_of.ensures.coded in
    elim c.in_err-walk.ensures.cause [
      | inl none ↦ subst IsWantOfMemory (sym none) tt
      | inr w ↦
          absurd (c.settled_are_walked.ensures P c.args.task.now c.args.table.now c.args.m k.0 c.args.p.now
          (record { waits = c.form_of.ensures.setting; flow = of; at = k.1; coded = k.2; limited = c.requires.limited; settled = c.requires.settled P of; shape = c.requires.shape; prepared = c.requires.prepared P of }) w)
    ])
