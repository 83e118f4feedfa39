use Rattle.std.proofs.Common.{◌≡◌, ℕ, ◌<◌, List, length, get_or, All, sym, ap, ◌∙◌, subst}
use Rattle.std.specs.Prelude.{slice_index}
use Rattle.loop_nest.specs.Digraph.{IsDigraph}
use Rattle.loop_nest.specs.Nest.{NaturalLoop}
use Rattle.loop_acts.specs.declared.effects.Act.{Act}
use Rattle.loop_acts.specs.Writing.{IsIdle}
use Rattle.loop_finder.specs.Counting.{Body}
use Rattle.loop_marks.proofs.Marked.{members_low}
use Rattle.loop_finder.proofs.Nests.{members_below}
use Rattle.loop_finder.proofs.Idle.{idle_loop}
use Rattle.loop_finder.proofs.finding.bound_of_loop.Goals as goal

pub are_idle-requires : goal.are_idle-requires
are_idle-requires c =
    let g = c.args.body.now.graph in
    let nodes = c.args.nodes.now in
    let ls = c.args.nest.now in
    let l = c.index-loops-index.result in
    let is : l ≡ get_or ls c.args.index l = c.index-loops-index.is ∙ ap (λ (xs : List NaturalLoop). get_or xs c.args.index l) c.loops.ensures in
    let wf = subst IsDigraph (ap (λ (b : Body). b.graph) c.body.view_is) c.nodes.ensures.valid in
    subst (λ (us : List ℕ). All (λ u. u < length nodes) us) (sym c.members.ensures) (members_low nodes ls l c.args.index c.requires.index is (members_below g nodes ls wf c.requires.nest))

pub returns-then-are_idle : goal.returns-then-are_idle
returns-then-are_idle c d moved nest =
    let b = c.args.body.now in
    let node = slice_index c.args.nodes.now in
    let ls = c.args.nest.now in
    let l = c.index-loops-index.result in
    let is : l ≡ get_or ls c.args.index l = c.index-loops-index.is ∙ ap (λ (xs : List NaturalLoop). get_or xs c.args.index l) c.loops.ensures in
    let acts : c.deref.result.now ≡ b.acts = c.deref.ensures.value ∙ ap (λ (x : Body). x.acts) c.body.view_is in
    let idle =
    subst (λ (us : List ℕ). All (λ u. IsIdle b.acts (node u)) us) c.members.ensures
    (subst (λ (xs : List Act). All (λ u. IsIdle xs (node u)) c.members.result.now) acts (c.are_idle.ensures c.if-are_idle.true)) in
    idle_loop b d node moved ls nest l c.args.index c.requires.index is idle
