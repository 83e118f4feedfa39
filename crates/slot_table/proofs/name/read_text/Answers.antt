use Rattle.std.proofs.Common.{arith}
use Rattle.slot_table.proofs.NameLemmas.{text_given, text_refused}
use Rattle.slot_table.proofs.name.read_text.Goals as goal

pub returns-clause-text : goal.returns-clause-text
returns-clause-text c = text_given c.args.bytes.now c.units_of.result (λ i. omega (arith, c.type_inv.bytes i)) (omega arith) c.units_of.ensures

pub returns-clause-bad : goal.returns-clause-bad
returns-clause-bad c = text_refused c.args.bytes.now c.units_of.result c.units_of.ensures
