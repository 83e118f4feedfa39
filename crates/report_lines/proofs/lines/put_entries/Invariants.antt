use Rattle.std.proofs.Common.{◌≡◌, ◌++◌, take}
use Rattle.std.specs.Prelude.{flat_map}
use Rattle.report_lines.specs.Text.{entry_line}
use Rattle.report_lines.specs.Told.{name_told, source_told}
use Rattle.report_lines.proofs.lines.put_entries.Given as goal

abbrev pub invariant-loop-entry : goal.invariant-loop-entry
invariant-loop-entry l = l.text.items ≡ l.initial.text.items ++ flat_map (entry_line (source_told l.methods) (name_told l.methods) l.bound) (take l.entry-index l.entries)
