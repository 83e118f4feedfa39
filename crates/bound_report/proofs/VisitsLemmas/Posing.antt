-- What a pass finds poses the problem of its counts, and tells whether walks exceed 64 bits.
use Rattle.std.proofs.Common.{◌≡◌, ℕ, ◌^◌, ◌<◌, ◌≤◌, List, Option, Some, IfSome, subst, arith}
use Rattle.loop_nest.specs.Digraph.{Digraph}
use Rattle.loop_nest.specs.Nest.{NaturalLoop}
use Rattle.section_check.specs.Bounded.{BoundedLoop, IsGreatest}
use Rattle.path_solver.specs.declared.pass.Pass.{Pass}
use Rattle.path_solver.specs.Longest.{bounded_loops, WalkExceeds, WalksAreTooLarge}
use Rattle.path_solver.specs.Longest.WalksAreTooLarge.{walk}
use Rattle.path_solver.specs.Pass.{IsPass}
use Rattle.path_solver.specs.Problem.{IsMeasured}
use Rattle.path_solver.proofs.Solutions.{pass_of, walk_exceeds, greatest}
use Rattle.bound_report.specs.declared.visits.problem.Problem.{Problem}
use Rattle.bound_report.specs.Visits.Paths.{IsPosed}

-- what the pass was found to measure
pub measured_of : (g : Digraph) (loops : List NaturalLoop) (costs bounds loads : List ℕ) (o : Option Pass) (f : Pass) → o ≡ Some f
    → IfSome o (λ s. IsMeasured g loops s.listed.items s.topology costs bounds loads s.iteration_costs.items s.fees.items s.dist.items)
    → IsMeasured g loops f.listed.items f.topology costs bounds loads f.iteration_costs.items f.fees.items f.dist.items
measured_of g loops costs bounds loads o f is h =
    let P : Option Pass → Type 0 = λ v. IfSome v (λ s. IsMeasured g loops s.listed.items s.topology costs bounds loads s.iteration_costs.items s.fees.items s.dist.items) in
    subst P is h

pub posed_by : (q : Problem)
    → IsPass q.g.now q.nest.now q.costs.now q.bounds.now q.loads.now q.found.now.listed.items q.found.now.iteration_costs.items q.found.now.dist.items q.found.now.value q.found.now.turns_exceed
    → IsMeasured q.g.now q.nest.now q.found.now.listed.items q.found.now.topology q.costs.now q.bounds.now q.loads.now q.found.now.iteration_costs.items q.found.now.fees.items q.found.now.dist.items
    → q.found.now.value < 2 ^ 64 → q.g.now.nodes < 2 ^ 32 → IsPosed q
posed_by q pass measured small few = record { measured = measured; entry = pass.entry; most = pass.most; small = small; few = few }

-- where the greatest walk costs less, none exceeds 64 bits
pub none_exceeds : (g : Digraph) (costs : List ℕ) (loops : List BoundedLoop) (value : ℕ) → IsGreatest g costs loops value → value < 2 ^ 64 → ¬ WalkExceeds g costs loops
none_exceeds g costs loops value best small over =
    let most = best.greatest over.walk over.bounded in
    let more = over.exceeds in
    absurd (omega arith)

pub no_walk_exceeds : (g : Digraph) (costs : List ℕ) (loops : List BoundedLoop) → ¬ WalksAreTooLarge g costs loops → ¬ WalkExceeds g costs loops
no_walk_exceeds g costs loops fits over = fits (walk over)

-- what a pass was found to show of walks
module _ (g : Digraph) (loops : List NaturalLoop) (costs bounds loads : List ℕ) (o : Option Pass) (f : Pass) (is : o ≡ Some f)
    (h : IfSome o (λ s. IsPass g loops costs bounds loads s.listed.items s.iteration_costs.items s.dist.items s.value s.turns_exceed)) where
  pub pass_is : IsPass g loops costs bounds loads f.listed.items f.iteration_costs.items f.dist.items f.value f.turns_exceed
  pass_is = pass_of g loops costs bounds loads o f is h

  pub found_exceeds : 2 ^ 64 ≤ f.value → WalkExceeds g costs (bounded_loops loops bounds loads)
  found_exceeds = walk_exceeds g loops costs bounds loads f.listed.items f.iteration_costs.items f.dist.items f.value f.turns_exceed pass_is

  pub found_greatest : f.value < 2 ^ 64 → IsGreatest g costs (bounded_loops loops bounds loads) f.value
  found_greatest = greatest g loops costs bounds loads f.listed.items f.iteration_costs.items f.dist.items f.value f.turns_exceed pass_is

  pub found_fits : f.value < 2 ^ 64 → ¬ WalkExceeds g costs (bounded_loops loops bounds loads)
  found_fits small = none_exceeds g costs (bounded_loops loops bounds loads) f.value (found_greatest small) small
