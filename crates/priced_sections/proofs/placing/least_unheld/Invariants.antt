use Rattle.section_check.specs.Least.{IsLeast}
use Rattle.priced_sections.specs.Views.{plain_in}
use Rattle.priced_sections.proofs.Unheld.{IsUnheldBelow}
use Rattle.priced_sections.proofs.placing.least_unheld.Given as goal

abbrev pub invariant-loop-fact : goal.invariant-loop-fact
invariant-loop-fact l = IsLeast (IsUnheldBelow (plain_in l.q) l.q.facts.now l.fact-index) l.least
