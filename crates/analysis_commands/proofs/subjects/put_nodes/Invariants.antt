use Rattle.std.proofs.Common.{◌≡◌, ◌++◌, take}
use Rattle.answer_lines.specs.AnalysisLines.{nodes_text}
use Rattle.analysis_commands.proofs.subjects.put_nodes.Given as goal

abbrev pub invariant-loop-node : goal.invariant-loop-node
invariant-loop-node l = l.out.items ≡ l.initial.out.items ++ nodes_text (take l.node-index l.nodes)
