use Rattle.std.proofs.Common.{◌+◌, ◌/◌}
use Rattle.number_sets.proofs.BitsLemmas.Tables.{none_set}
use Rattle.number_sets.proofs.bits.rows.BitRows.new.Goals as goal

pub returns-clause-none : goal.returns-clause-none
returns-clause-none c = none_set (record { width = c.args.least / 64 + 1; starts = c.new.result.entries; words = c.new-2.result.items }) c.new.ensures.empty
