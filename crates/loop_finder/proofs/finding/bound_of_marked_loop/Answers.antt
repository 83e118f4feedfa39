use Rattle.std.proofs.Common.{◌≡◌, ℕ, ◌*◌, ◌/◌, Option, ap, ◌∙◌, subst, arith}
use Rattle.std.specs.Prelude.{slice_index}
use Rattle.section_check.specs.Least.{IsLeast}
use Rattle.loop_nest.specs.Digraph.{IsDigraph}
use Rattle.loop_finder.specs.Counting.{Body, Counts}
use Rattle.loop_finder.proofs.Nests.{heads_below, members_below, nodes_below, odd_header, no_bound, one_bound}
use Rattle.loop_finder.proofs.finding.bound_of_marked_loop.Goals as goal

pub marks_of-requires : goal.marks_of-requires
marks_of-requires c =
    let g = c.args.body.now.graph in
    let graph : c.body.inside.routes ≡ g = ap (λ (b : Body). b.graph) c.body.view_is in
    let wf = subst IsDigraph graph c.nodes.ensures.valid in
    record {
      index = c.requires.index;
      within = members_below g c.args.nodes.now c.args.nest.now wf c.requires.nest;
      headers = heads_below g c.args.nodes.now c.args.nest.now wf c.requires.nest;
    }

pub bound_of-requires : goal.bound_of-requires
bound_of-requires c =
    let g = c.args.body.now.graph in
    let graph : c.body.inside.routes ≡ g = ap (λ (b : Body). b.graph) c.body.view_is in
    let wf = subst IsDigraph graph c.nodes.ensures.valid in
    c.in_ok-marks.ensures.sized g (nodes_below g c.args.nodes.now c.args.nest.now wf c.requires.nest)

pub returns-then-header-eq1 : goal.returns-then-header-eq1
returns-then-header-eq1 c d moved nest =
    let b = c.args.body.now in
    let m = c.in_ok-marks.ensures.marks b.graph d moved nest in
    odd_header b (slice_index c.args.nodes.now) c.args.nest.now c.args.index c.header.result (c.header.ensures ∙ m.header) c.if-header-eq1.true

pub returns-in-Some : goal.returns-in-Some
returns-in-Some c d moved nest =
    let b = c.args.body.now in
    let m = c.in_ok-marks.ensures.marks b.graph d moved nest in
    let h = c.in_ok-marks.marks.header in
    let least = subst (λ (o : Option ℕ). IsLeast (Counts b h) o) c.in-Some.is (c.in_ok-bound.ensures m.marks) in
    let first = c.header.ensures in
    let second = c.header-place.ensures in
    let odd = c.if-header-eq1.false in
    let even : h ≡ 2 * (c.header-place.result / 2) = omega arith in
    one_bound b (slice_index c.args.nodes.now) c.args.nest.now c.args.index h m.header (c.header-place.result / 2) c.in-Some.bound even least

pub returns : goal.returns
returns c d moved nest =
    let b = c.args.body.now in
    let m = c.in_ok-marks.ensures.marks b.graph d moved nest in
    let h = c.in_ok-marks.marks.header in
    let none = subst (λ (o : Option ℕ). IsLeast (Counts b h) o) c.in-None.is (c.in_ok-bound.ensures m.marks) in
    no_bound b (slice_index c.args.nodes.now) c.args.nest.now c.args.index h m.header none
