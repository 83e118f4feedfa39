use Rattle.std.proofs.Common.{◌≡◌, map, take}
use Rattle.answer_lines.specs.AnalysisLines.{names_text}
use Rattle.analysis_commands.specs.Answers.{table_name}
use Rattle.analysis_commands.proofs.subjects.names_text.Given as goal

abbrev pub invariant-loop-m : goal.invariant-loop-m
invariant-loop-m l = l.out.items ≡ names_text (map (table_name l.flow) (take l.m-index l.methods))
