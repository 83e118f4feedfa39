use Rattle.priced_sections.proofs.Fees.{PlainBelow}
use Rattle.priced_sections.proofs.tables.plain_fees.Given as goal

abbrev pub invariant-loop-i : goal.invariant-loop-i
invariant-loop-i l = PlainBelow l.loops l.bounds l.loads l.i l.fees.items
