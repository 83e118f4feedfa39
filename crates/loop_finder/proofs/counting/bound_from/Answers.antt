use Rattle.std.proofs.Common.{◌≡◌, ℕ, List, sym, ap, ◌∙◌, subst}
use Rattle.std.proofs.lemmas.Result.{IfOk-weaker}
use Rattle.loop_nest.specs.Digraph.{Digraph}
use Rattle.loop_acts.specs.declared.effects.Act.{Act}
use Rattle.loop_finder.specs.Setting.{AreWritesBefore}
use Rattle.loop_finder.specs.declared.body.Beginnings.{Beginnings}
use Rattle.loop_acts.specs.Writing.{AreWriters}
use Rattle.loop_finder.specs.Counting.{AreBeforeBy, Body}
use Rattle.loop_finder.proofs.counting.bound_from.Goals as goal

pub least_by_writes-requires-clause-writers : goal.least_by_writes-requires-clause-writers
least_by_writes-requires-clause-writers c =
    let b = c.args.body.now in
    let found = c.in_ok-writers.writers.items in
    let acts : c.deref.result.now ≡ b.acts = c.deref.ensures.value ∙ ap (λ (x : Body). x.acts) c.body.view_is in
    subst (λ (us : List ℕ). AreWriters b.acts us found) c.nodes.ensures (subst (λ (xs : List Act). AreWriters xs c.nodes.result.now found) acts c.in_ok-writers.ensures)

pub returns : goal.returns
returns c =
    let b = c.args.body.now in
    let graph = ap (λ (x : Body). x.graph) c.body.view_is in
    let acts : c.deref-2.result.now ≡ b.acts = c.deref-2.ensures.value ∙ ap (λ (x : Body). x.acts) c.body.view_is in
    let places = c.in_ok-before.before.items in
    let writes =
    subst (λ (xs : List Act). AreWritesBefore xs b.graph c.args.entry places) acts
    (subst (λ (d : Digraph). AreWritesBefore c.deref-2.result.now d c.args.entry places) graph c.in_ok-before.ensures) in
    let h = c.args.marks.now.header in
    IfOk-weaker c.least_by_writes.result _ _
    (λ n least marks only.
    least marks (subst (λ (x : Beginnings). AreBeforeBy x b.acts b.graph h places) (sym c.requires.stored) (record { entry = c.args.entry; only = only; writes = writes })))
    c.least_by_writes.ensures
