use Rattle.std.proofs.Common.{◌≡◌, ℕ, List, sym, ap, ◌∙◌, subst}
use Rattle.std.proofs.lemmas.Result.{IfOk-weaker}
use Rattle.loop_acts.specs.declared.effects.Act.{Act}
use Rattle.loop_acts.specs.Writing.{AreWriters}
use Rattle.loop_finder.specs.Counting.{AreBefore, Body}
use Rattle.loop_finder.proofs.counting.bound_listed.Goals as goal

pub least_by_writes-requires-clause-writers : goal.least_by_writes-requires-clause-writers
least_by_writes-requires-clause-writers c =
    let b = c.args.body.now in
    let found = c.in_ok-writers.writers.items in
    let acts : c.deref.result.now ≡ b.acts = c.deref.ensures.value ∙ ap (λ (x : Body). x.acts) c.body.view_is in
    subst (λ (us : List ℕ). AreWriters b.acts us found) c.nodes.ensures (subst (λ (xs : List Act). AreWriters xs c.nodes.result.now found) acts c.in_ok-writers.ensures)

pub returns : goal.returns
returns c =
    let b = c.args.body.now in
    let h = c.args.marks.now.header in
    let before = subst (λ (ps : List ℕ). AreBefore b h ps) (sym c.new-before.ensures.items) c.requires.listed in
    IfOk-weaker c.least_by_writes.result _ _ (λ n least marks. least marks before) c.least_by_writes.ensures
