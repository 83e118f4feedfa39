use Rattle.ask_commands.proofs.Shaping.{line_ok, refused_by}
use Rattle.ask_commands.proofs.shapes.line_in.Goals as goal

pub returns-in-Ok-clause-line : goal.returns-in-Ok-clause-line
returns-in-Ok-clause-line c =
    line_ok c.args.program.now c.args.settings.now c.args.bounds.now c.args.name.now c.args.shape c.with_shape-shaped.result c.in-Ok.bound c.line_of.result c.with_shape-shaped.ensures.exact c.in-Ok.ensures.bound c.line_of.ensures.line

pub returns-in-Err-clause-refused : goal.returns-in-Err-clause-refused
returns-in-Err-clause-refused c =
    refused_by c.args.program.now c.args.settings.now c.args.bounds.now c.args.name.now c.args.shape c.with_shape-shaped.result c.requires.shape c.with_shape-shaped.ensures.exact c.in-Err.refusal c.in-Err.ensures.other c.in-Err.ensures.refused
