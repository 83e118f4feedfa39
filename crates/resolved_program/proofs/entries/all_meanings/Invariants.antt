use Rattle.std.proofs.Common.{◌≡◌, map}
use Rattle.std.specs.List.{range_with_len}
use Rattle.program_tables.specs.Entries.{meanings_by, meanings_seen}
use Rattle.resolved_program.proofs.entries.all_meanings.Given as goal

abbrev pub invariant-loop-current : goal.invariant-loop-current
invariant-loop-current l = map meanings_seen l.made.items ≡ map (meanings_by l.tables.classes.now) (range_with_len 0 l.current)
