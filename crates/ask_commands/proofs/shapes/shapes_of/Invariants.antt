use Rattle.std.proofs.Common.{◌≡◌, map, take}
use Rattle.std.specs.Prelude.{flat_map}
use Rattle.ask_commands.specs.Shapes.{shape_with}
use Rattle.ask_commands.proofs.shapes.shapes_of.Given as goal

abbrev pub invariant-loop-size : goal.invariant-loop-size
invariant-loop-size l = l.made.items ≡ flat_map (λ size. map (shape_with size) l.counts) (take l.size-index l.sizes)
