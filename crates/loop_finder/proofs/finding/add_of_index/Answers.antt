use Rattle.std.proofs.Common.{◌≡◌, ℕ, ◌<◌, List, length, get_or, All, sym, ap, ◌∙◌, subst}
use Rattle.std.specs.Prelude.{slice_index}
use Rattle.std.proofs.lemmas.Result.{on_ok_weaker}
use Rattle.loop_nest.specs.Digraph.{IsDigraph}
use Rattle.loop_nest.specs.Nest.{NaturalLoop, header_at}
use Rattle.loop_acts.specs.declared.effects.Act.{Act}
use Rattle.loop_finder.specs.Beginning.{AddsBeginnings, IsSteppedAt}
use Rattle.loop_acts.specs.Writing.{IsIdle}
use Rattle.loop_finder.specs.Counting.{Body, IsOnlyStep}
use Rattle.loop_marks.proofs.Marked.{members_low}
use Rattle.loop_finder.proofs.Adding.{adds_none}
use Rattle.loop_finder.proofs.Idle.{head, no_step}
use Rattle.loop_finder.proofs.Nests.{heads_below, members_below, nodes_below}
use Rattle.loop_finder.proofs.finding.add_of_index.Goals as goal

pub are_idle-requires : goal.are_idle-requires
are_idle-requires c =
    let g = c.args.body.now.graph in
    let nodes = c.args.nodes.now in
    let ls = c.args.nest.now in
    let l = c.index-loops-index.result in
    let is : l ≡ get_or ls c.args.index l = c.index-loops-index.is ∙ ap (λ (xs : List NaturalLoop). get_or xs c.args.index l) c.loops.ensures in
    let wf = subst IsDigraph (ap (λ (b : Body). b.graph) c.body.view_is) c.nodes.ensures.valid in
    subst (λ (us : List ℕ). All (λ u. u < length nodes) us) (sym c.members.ensures) (members_low nodes ls l c.args.index c.requires.index is (members_below g nodes ls wf c.requires.nest))

pub marks_of-requires : goal.marks_of-requires
marks_of-requires c =
    let g = c.args.body.now.graph in
    let graph : c.body.inside.routes ≡ g = ap (λ (b : Body). b.graph) c.body.view_is in
    let wf = subst IsDigraph graph c.nodes.ensures.valid in
    record {
      index = c.requires.index;
      within = members_below g c.args.nodes.now c.args.nest.now wf c.requires.nest;
      headers = heads_below g c.args.nodes.now c.args.nest.now wf c.requires.nest;
    }

pub add_of_loop-requires : goal.add_of_loop-requires
add_of_loop-requires c =
    let g = c.args.body.now.graph in
    let graph : c.body.inside.routes ≡ g = ap (λ (b : Body). b.graph) c.body.view_is in
    let wf = subst IsDigraph graph c.nodes.ensures.valid in
    c.in_ok-marks.ensures.sized g (nodes_below g c.args.nodes.now c.args.nest.now wf c.requires.nest)

pub returns-then-are_idle : goal.returns-then-are_idle
returns-then-are_idle c P known m d of moved nest =
    let b = c.args.body.now in
    let node = slice_index c.args.nodes.now in
    let ls = c.args.nest.now in
    let i = c.args.index in
    let l = c.index-loops-index.result in
    let is : l ≡ get_or ls i l = c.index-loops-index.is ∙ ap (λ (xs : List NaturalLoop). get_or xs i l) c.loops.ensures in
    let acts : c.deref.result.now ≡ b.acts = c.deref.ensures.value ∙ ap (λ (x : Body). x.acts) c.body.view_is in
    let idle =
    subst (λ (us : List ℕ). All (λ u. IsIdle b.acts (node u)) us) c.members.ensures
    (subst (λ (xs : List Act). All (λ u. IsIdle xs (node u)) c.members.result.now) acts (c.are_idle.ensures c.if-are_idle.true)) in
    let top = head b d node moved ls nest l i c.requires.index is idle in
    adds_none P known m b.graph (node (header_at ls i)) (λ k. (u : ℕ) × IsSteppedAt b (node (header_at ls i)) k u) c.args.found.now.items
    (λ k s. no_step b d node moved ls nest l i c.requires.index is idle k s.1.0 s.1.1 (subst (λ (z : ℕ). IsOnlyStep b z k s.1.0 s.1.1) (sym top) s.1.3))

pub returns : goal.returns
returns c =
    let b = c.args.body.now in
    on_ok_weaker c.add_of_loop.result
    (λ a P known m d of moved nest.
    let k = c.in_ok-marks.ensures.marks b.graph d moved nest in
    subst (λ (z : ℕ). AddsBeginnings P known m b.graph z (λ i. (u : ℕ) × IsSteppedAt b z i u) c.args.found.now.items c.add_of_loop.new.found.items) k.header (a P known m of k.marks))
    c.add_of_loop.ensures
