use Rattle.std.proofs.Common.{take}
use Rattle.fact_checker.specs.RootTable.{AreRootFacts}
use Rattle.fact_checker.proofs.root_table.root_table.Given as goal

abbrev pub invariant-loop-price : goal.invariant-loop-price
invariant-loop-price l = AreRootFacts (record { facts = l.index; root = l.root; root_prices = take l.price-index l.prices }) l.methods l.table.items
