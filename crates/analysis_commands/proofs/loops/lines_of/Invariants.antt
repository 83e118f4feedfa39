use Rattle.std.proofs.Common.{◌≡◌, take}
use Rattle.std.specs.Prelude.{flat_map}
use Rattle.analysis_commands.specs.Answers.{table_name}
use Rattle.analysis_commands.specs.Loops.{found_line}
use Rattle.analysis_commands.proofs.loops.lines_of.Given as goal

abbrev pub invariant-loop-one : goal.invariant-loop-one
invariant-loop-one l = l.text.items ≡ flat_map (found_line (table_name l.flow) l.flow.boot) (take l.one-index l.found)
