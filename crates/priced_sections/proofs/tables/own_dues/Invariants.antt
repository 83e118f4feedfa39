use Rattle.std.proofs.Common.{◌≡◌, ◌*◌, ◌^◌, ◌≤◌, length, take}
use Rattle.priced_sections.specs.Prices.{own_due}
use Rattle.priced_sections.proofs.tables.own_dues.Given as goal

abbrev pub invariant-loop-fact : goal.invariant-loop-fact
invariant-loop-fact l = (l.due ≡ own_due (take l.fact-index l.facts)) × (l.due ≤ l.fact-index * 2 ^ 96) × (l.fact-index ≤ length l.facts)
