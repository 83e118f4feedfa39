use Rattle.report_lines.specs.Told.{source_told}
use Rattle.report_lines.proofs.OrderLemmas.{are_entries}
use Rattle.report_lines.proofs.entries.entries_of.Goals as goal

pub returns : goal.returns
returns c =
    are_entries (source_told c.args.methods.now) c.args.rows.now c.in_ok-entries.entries.items c.sort_entries.new.entries.items
    c.in_ok-entries.ensures.joined c.in_ok-entries.ensures.distinct c.sort_entries.ensures.permutation c.sort_entries.ensures.sorted
