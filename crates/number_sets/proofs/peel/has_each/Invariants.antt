use Rattle.std.proofs.Common.{ℕ, take}
use Rattle.std.specs.Prelude.{IsTrue}
use Rattle.lists.specs.Numbers.{is_among}
use Rattle.number_sets.proofs.peel.has_each.Given as goal

abbrev pub invariant-loop-number : goal.invariant-loop-number
invariant-loop-number l = (d : ℕ) → IsTrue (is_among (take l.number-index l.numbers) d) → IsTrue (is_among l.order d)
