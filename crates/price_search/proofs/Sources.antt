-- The sources of edges that a pass over a graph has are told for each of its nodes.
use Rattle.std.proofs.Common.{◌≡◌, ℕ, List, length, Option, Some, subst}
use Rattle.std.specs.Prelude.{IfSome}
use Rattle.loop_nest.specs.Digraph.{Digraph}
use Rattle.loop_nest.specs.Nest.{NaturalLoop}
use Rattle.path_solver.specs.declared.pass.Pass.{Pass}
use Rattle.path_solver.specs.Problem.{IsMeasured}

module _ (g : Digraph) (loops : List NaturalLoop) (costs bounds loads : List ℕ) (o : Option Pass) (f : Pass) (is : o ≡ Some f) where
  abbrev Measured : Pass → Type 0
  Measured s = IsMeasured g loops s.listed.items s.topology costs bounds loads s.iteration_costs.items s.fees.items s.dist.items

  measured : IfSome o Measured → Measured f
  measured h = subst (λ (v : Option Pass). IfSome v Measured) is h

  pub forward_long : IfSome o Measured → length f.topology.forward ≡ g.nodes
  forward_long h = (measured h).setting.topology.forward_sources.long

  pub back_long : IfSome o Measured → length f.topology.back ≡ g.nodes
  back_long h = (measured h).setting.topology.back_sources.long
