use Rattle.std.proofs.Common.{◌≤◌, length, take}
use Rattle.priced_sections.proofs.Adding.{CreditsAdded}
use Rattle.priced_sections.proofs.tables.add_credits.Given as goal

abbrev pub invariant-loop-fact : goal.invariant-loop-fact
invariant-loop-fact l = CreditsAdded (take l.fact-index l.facts) l.fact-index l.fn.credits l.credits × (l.fact-index ≤ length l.facts)
