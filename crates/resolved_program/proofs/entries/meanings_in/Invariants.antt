use Rattle.std.proofs.Common.{◌≡◌}
use Rattle.program_tables.specs.Entries.{meanings_seen}
use Rattle.program_tables.proofs.TableLemmas.{first_meanings}
use Rattle.resolved_program.proofs.entries.meanings_in.Given as goal

abbrev pub invariant-loop-place : goal.invariant-loop-place
invariant-loop-place l = meanings_seen l.made.items ≡ first_meanings l.tables.classes.now l.current l.class l.place
