-- Iterations of a method's loops are too large together under a family of numbers only where its walks are found to be large.
use Rattle.std.proofs.Common.{ℕ, List, refl, sym, subst}
use Rattle.std.specs.Prelude.{IsTrue}
use Rattle.section_check.specs.Bounded.{BoundedLoop}
use Rattle.path_solver.specs.Longest.{IterationsExceed}
use Rattle.path_solver.specs.Longest.WalksAreTooLarge.{iterations as iterations_large}
use Rattle.bytecode_model.specs.Program.{Program}
use Rattle.method_flow.specs.Keeping.{BoundOf}
use Rattle.method_flow.specs.declared.timing.Timing.{Timing}
use Rattle.bound_rules.specs.Laws.{AgreeOnLive}
use Rattle.compact_walks.specs.Limited.{AreSmallAt}
use Rattle.compact_walks.specs.Solving.{loops_of}
use Rattle.bound_finder.specs.declared.known.Known.{Known}
use Rattle.bound_finder.specs.declared.prepared.Prepared.{Prepared}
use Rattle.bound_finder.specs.declared.fit.Fit.{Fit}
use Rattle.bound_finder.specs.declared.found.Walked.{Walked}
use Rattle.bound_finder.specs.declared.found.Walked.TheVariants.{Never, Shown, Large}
use Rattle.bound_finder.specs.Prepared.{node_of, IsPreparedFor}
use Rattle.bound_finder.specs.Found.{costs_of, problem_of, IsWalked, found_by}
use Rattle.bound_finder.proofs.Measuring.{AreWalkLaws, OwnAreSmall, fees_in, loops_in, is_moved, live_nest, loops_are, moved_costs, exit_from_entry}
use Rattle.bound_finder.proofs.Valuing.{AreLimitedOf, agree}

module _ (laws : AreWalkLaws) (P : Program) (t : Timing) (bound_of : BoundOf) (table : List Known) (m : ℕ) (p : Prepared) (h : IsPreparedFor P t bound_of table m p) (small : OwnAreSmall P t m) where
  abbrev loops : List BoundedLoop
  loops = loops_in laws P t bound_of table m p h small

  -- iterations that are too large together are so under costs that agree
  told : (a b : List ℕ) → AgreeOnLive P m a b → IterationsExceed h.graph a loops → IterationsExceed h.graph b loops
  told a b same over =
      let are = loops_are laws P t bound_of table m p h small in
      let flow = live_nest laws P t bound_of table m p h small in
      let fees = fees_in laws P t bound_of table m p h small in
      subst (λ (ls : List BoundedLoop). IterationsExceed h.graph b ls) are (laws.iterations_told P bound_of m flow a b fees same (subst (λ (ls : List BoundedLoop). IterationsExceed h.graph a ls) (sym are) over))

  module _ (costs : List ℕ) (are : AreLimitedOf laws P t bound_of table m p h small costs) (few : AreSmallAt p.shape.nodes p.costs.items) where
    pub iterations_in : IterationsExceed h.graph costs loops → IterationsExceed p.shape.graph (costs_of p) (loops_of (problem_of p))
    iterations_in over =
        let own = told costs p.costs.items (λ u reached. sym (agree laws P t bound_of table m p h small costs are few u reached)) over in
        (laws.iterations h.graph p.shape.graph (node_of p.shape) (is_moved laws P t bound_of table m p h small) p.shape.nest h.shape.nest p.bounds.items (fees_in laws P t bound_of table m p h small) (costs_of p) p.costs.items (moved_costs laws P t bound_of table m p h small)).1 own

    pub iterations_out : IterationsExceed p.shape.graph (costs_of p) (loops_of (problem_of p)) → IterationsExceed h.graph costs loops
    iterations_out over =
        let out = (laws.iterations h.graph p.shape.graph (node_of p.shape) (is_moved laws P t bound_of table m p h small) p.shape.nest h.shape.nest p.bounds.items (fees_in laws P t bound_of table m p h small) (costs_of p) p.costs.items (moved_costs laws P t bound_of table m p h small)).0 over in
        told p.costs.items costs (agree laws P t bound_of table m p h small costs are few) out

  -- where they are, it is found
  pub exceeding_is_found : (costs : List ℕ) → AreLimitedOf laws P t bound_of table m p h small costs → (fit : Fit) (w : Walked) → IsWalked p w → IterationsExceed h.graph costs loops → IsTrue (found_by m fit w).known.too_large
  exceeding_is_found costs are fit Never never over = let inside = iterations_in costs are never.0 over in absurd (never.1 (exit_from_entry laws P t bound_of table m p h small inside.node inside.reaches))
  exceeding_is_found costs are fit (Shown n s) shown over = absurd (shown.shown.small (iterations_large (iterations_in costs are shown.small over)))
  exceeding_is_found costs are fit (Large n) large over = refl
