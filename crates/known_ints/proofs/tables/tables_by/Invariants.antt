use Rattle.bytecode_model.specs.Program.{Program}
use Rattle.loop_rules.specs.Further.Known.{Known}
use Rattle.known_ints.specs.Tables.{AreTablesBelow, AreTold}
use Rattle.known_ints.proofs.tables.tables_by.Given as goal

-- so of the first methods
abbrev pub invariant-loop-number : goal.invariant-loop-number
invariant-loop-number l = (P : Program) (known : Known) → AreTold P known l.f l.s l.arrays → AreTablesBelow P known l.number l.tables.items
