-- The worked netlists, by computing.
use Rattle.std.proofs.Common.{refl}
use Rattle.netlist.specs.Examples.{ExpressionRows, CounterRows, RamRows}

pub expression_rows : ExpressionRows
expression_rows = (refl, refl, refl, refl, refl, refl, refl, refl, refl, refl, refl, refl, refl, refl, refl, refl, refl, refl, refl, refl, refl, refl)

pub counter_rows : CounterRows
counter_rows = (refl, refl, refl, refl)

pub ram_rows : RamRows
ram_rows = (refl, refl, refl, refl, refl, refl, refl, refl)
