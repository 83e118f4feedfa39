use Rattle.std.proofs.Common.{◌≡◌, ℕ, ◌<◌, ◌≤◌, ◌∷◌, [], ◌++◌, List, length, get_or, take, Contains, sym, ap, ◌∙◌, subst, arith}
use Rattle.std.proofs.lemmas.List.{take_all, take_more}
use Rattle.std.proofs.lemmas.List.Elements.{Contains-get_or}
use Rattle.loop_nest.specs.Digraph.{Digraph, Edge, sources_of}
use Rattle.loop_nest.proofs.Searching.{from_sources}
use Rattle.loop_finder.specs.Counting.{Body}
use Rattle.loop_finder.specs.Beginning.{IsKnownBeginning}
use Rattle.loop_finder.proofs.beginning.by_sources.Goals as goal

pub loop-node-init : goal.loop-node-init
loop-node-init c P known m of are k d lt = absurd (let bad : ⊥ = omega arith in bad)

pub loop-node-preserved : goal.loop-node-preserved
loop-node-preserved c P known m of are =
    let g = c.args.body.now.graph in
    let h = c.args.marks.now.header in
    let local = c.args.local in
    let xs = c.sources-node-items.result.now in
    let ys = sources_of g.edges h in
    let i = c.loop-node.node-index in
    let new = c.in_ok-so_far.so_far in
    let graph : c.body.inside.routes ≡ g = ap (λ (x : Body). x.graph) c.body.view_is in
    let is : xs ≡ ys = c.sources-node-items.ensures.sources ∙ (ap (λ (d : Digraph). sources_of d.edges c.header.result) graph ∙ ap (λ (v : ℕ). sources_of g.edges v) c.header.ensures) in
    let lt : i < length ys = subst (λ (us : List ℕ). i < length us) is c.loop-node-test.true in
    let edge : Edge g (get_or xs i 0) h = from_sources g.edges (get_or xs i 0) h (subst (λ (us : List ℕ). Contains us (get_or xs i 0)) is (Contains-get_or xs i 0 c.loop-node-test.true)) in
    let more = c.in_ok-so_far.ensures P known m (take i ys) of are edge (c.loop-node.invariant P known m of are) in
    subst (λ (us : List ℕ). IsKnownBeginning P known m g h local us new) (sym (take_more ys i 0 lt))
    (subst (λ (us : List ℕ). IsKnownBeginning P known m g h local (take i ys ++ get_or us i 0 ∷ []) new) is more)

pub returns : goal.returns
returns c P known m of are =
    let g = c.args.body.now.graph in
    let h = c.args.marks.now.header in
    let xs = c.sources-node-items.result.now in
    let ys = sources_of g.edges h in
    let i = c.loop-node.node-index in
    let graph : c.body.inside.routes ≡ g = ap (λ (x : Body). x.graph) c.body.view_is in
    let is : xs ≡ ys = c.sources-node-items.ensures.sources ∙ (ap (λ (d : Digraph). sources_of d.edges c.header.result) graph ∙ ap (λ (v : ℕ). sources_of g.edges v) c.header.ensures) in
    let done : length ys ≤ i = subst (λ (us : List ℕ). length us ≤ i) is c.loop-node-test.false in
    subst (λ (us : List ℕ). IsKnownBeginning P known m g h c.args.local us c.loop-node.so_far) (take_all i ys done) (c.loop-node.invariant P known m of are)
