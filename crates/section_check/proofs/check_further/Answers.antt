use Rattle.std.proofs.Common.{ℕ, ◌≤◌, Option, MatchOption, refl, sym, subst}
use Rattle.section_check.specs.Bounded.{cost_of}
use Rattle.section_check.specs.Section.{priced}
use Rattle.section_check.specs.Placing.IsMisplaced.{exceeds_limit}
use Rattle.section_check.specs.Laws.{loops_of}
use Rattle.section_check.proofs.Sound.{sound}
use Rattle.section_check.proofs.Bounding.{value_bounds}
use Rattle.section_check.proofs.check_further.Goals as goal

pub value-requires-clause-limit : goal.value-requires-clause-limit
value-requires-clause-limit c = λ exceeds. c.in_default.ensures 0 (exceeds_limit refl exceeds)

pub returns-clause-bounds : goal.returns-clause-bounds
returns-clause-bounds c =
    let g = c.args.g.now in
    let s = c.args.s.now in
    let costs = c.args.costs.now in
    let bounds = c.args.bounds.now in
    let loads = c.args.loads.now in
    λ ns walk.
    let P : Option ℕ → Type 0 = λ o. MatchOption o ⊥ (λ most. cost_of costs (loops_of s bounds loads) ns ≤ most) in
    subst P (sym c.value.ensures)
    (value_bounds g costs s (priced s.loops bounds loads) (sound g s bounds loads c.in_default.ensures) c.in_default-failing_edge.ensures c.in_default-failing_exit.ensures ns walk)
