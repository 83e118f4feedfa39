use Rattle.std.proofs.Common.{arith}
use Rattle.method_bounds.specs.declared.answer.BoundAnswer.TheVariants.{Cycles}
use Rattle.method_bounds.specs.Lines.{name_in}
use Rattle.method_bounds.proofs.Texts.{next_line, all_lines}
use Rattle.method_bounds.proofs.lines.lines_of.Goals as goal

pub loop-m-preserved : goal.loop-m-preserved
loop-m-preserved c =
    let f = c.args.f.now in
    next_line f.boot (name_in f) c.args.answers.now c.loop-m.m (Cycles 0) c.loop-m.text.items c.put_line.new.text.items (omega arith) c.loop-m.invariant c.in_ok-put_line.ensures

pub returns : goal.returns
returns c =
    let f = c.args.f.now in
    all_lines f.boot (name_in f) c.args.answers.now c.loop-m.m c.loop-m.text.items (omega arith) c.loop-m.invariant
