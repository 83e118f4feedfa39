use Rattle.std.proofs.Common.{◌≡◌, ◌++◌, map, take}
use Rattle.ask_commands.specs.Shapes.{shape_with}
use Rattle.ask_commands.proofs.shapes.push_shapes.Given as goal

abbrev pub invariant-loop-blocks : goal.invariant-loop-blocks
invariant-loop-blocks l = l.shapes.items ≡ l.initial.shapes.items ++ map (shape_with l.block_words) (take l.blocks-index l.counts)
