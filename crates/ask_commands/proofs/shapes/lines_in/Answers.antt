use Rattle.std.proofs.Common.{ℕ, List, ◌++◌, ap, ◌∙◌}
use Rattle.ask_commands.proofs.Shaping.{longer}
use Rattle.ask_commands.proofs.shapes.lines_in.Goals as goal

pub loop-shape-preserved : goal.loop-shape-preserved
loop-shape-preserved c =
    let put = c.in_ok-append.ensures.put ∙ ap (λ (line : List ℕ). c.loop-shape.text.items ++ line) c.deref.ensures.value in
    longer c.args.program.now c.args.settings.now c.args.bounds.now c.args.name.now c.args.shapes.now c.loop-shape.shape-index _ c.loop-shape.text.items c.in_ok-line.line.items c.append.new.text.items c.loop-shape-test.true c.loop-shape.invariant c.in_ok-line.ensures.line put
