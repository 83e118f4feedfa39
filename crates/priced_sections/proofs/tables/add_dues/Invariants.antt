use Rattle.std.proofs.Common.{◌≤◌, length, take}
use Rattle.priced_sections.proofs.Adding.{DuesAdded}
use Rattle.priced_sections.proofs.tables.add_dues.Given as goal

abbrev pub invariant-loop-fact : goal.invariant-loop-fact
invariant-loop-fact l = DuesAdded l.loops (take l.fact-index l.facts) l.fact-index l.fn.fees l.fees × (l.fact-index ≤ length l.facts)
