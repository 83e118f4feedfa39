use Rattle.std.proofs.Common.{◌<◌, All, ◌∙◌, sym, subst}
use Rattle.loop_nest.specs.Digraph.{Digraph}
use Rattle.loop_marks.proofs.Turning.{sources_below}
use Rattle.loop_marks.proofs.routing.Routes.sources.Goals as goal

pub returns-clause-within : goal.returns-clause-within
returns-clause-within c =
    let g = c.self.inside.graph in
    let v = c.args.node in
    let us = c.of.result.now in
    let below : v < g.nodes = subst (λ (d : Digraph). v < d.nodes) (sym c.self.view_is) c.requires in
    subst (λ (d : Digraph). All (λ u. u < d.nodes) us) c.self.view_is (sources_below g c.self.invariant.valid v us (c.of.ensures ∙ c.self.invariant.sources.each v below))
