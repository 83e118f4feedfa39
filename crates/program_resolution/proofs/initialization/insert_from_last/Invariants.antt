use Rattle.std.proofs.Common.{◌≡◌, ◌≤◌, length, drop, reverse}
use Rattle.std.specs.Prelude.{nat_eq}
use Rattle.program_tables.specs.Lists.{with_items}
use Rattle.program_resolution.proofs.initialization.insert_from_last.Given as goal

abbrev pub invariant-loop-i : goal.invariant-loop-i
invariant-loop-i l = (l.i ≤ length l.chain) × (l.order ≡ with_items nat_eq l.fn.order (reverse (drop l.i l.chain)))

abbrev pub decreases-loop-i : goal.decreases-loop-i
decreases-loop-i l = l.i
