-- The entries are the rows, by computation.
use Rattle.std.proofs.Common.{rules}
use Rattle.opcodes.specs.Row.{row_of}
use Rattle.opcodes.proofs.TableLemmas.{entry_at}
use Rattle.opcodes.proofs.table.entry_of.Goals as goal

pub returns : goal.returns
unfolding row_of
returns c = search (rules, entry_at)
