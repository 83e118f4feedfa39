use Rattle.std.proofs.Common.{take}
use Rattle.ask_commands.specs.Shapes.{AreLinesOfShapes}
use Rattle.ask_commands.proofs.shapes.lines_in.Given as goal

abbrev pub invariant-loop-shape : goal.invariant-loop-shape
invariant-loop-shape l = AreLinesOfShapes l.program l.settings l.bounds l.name (take l.shape-index l.shapes) l.text.items
