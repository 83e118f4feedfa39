-- The lengths are those of the rows, by computation.
use Rattle.std.proofs.Common.{rules}
use Rattle.opcodes.specs.Row.{row_of}
use Rattle.opcodes.proofs.TableLemmas.{length_at}
use Rattle.opcodes.proofs.table.fixed_length.Goals as goal

pub returns : goal.returns
unfolding row_of
returns c = search (rules, length_at)
