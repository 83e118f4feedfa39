use Rattle.std.proofs.Common.{List, All, subst, sym, ◌∙◌}
use Rattle.ask_commands.specs.declared.shapes.Shape.{Shape}
use Rattle.ask_commands.specs.Shapes.{IsSettingsShape}
use Rattle.ask_commands.proofs.Shaping.{in_range}
use Rattle.ask_commands.proofs.shapes.bound_shapes.Goals as goal

pub lines_in-requires-clause-shapes : goal.lines_in-requires-clause-shapes
lines_in-requires-clause-shapes c = subst (λ (shapes : List Shape). All IsSettingsShape shapes) (sym (c.deref.ensures.value ∙ c.in-Ok.ensures)) in_range
