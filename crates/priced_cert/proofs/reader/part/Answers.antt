use Rattle.std.proofs.Common.{arith, rules}
use Rattle.ascii_text.specs.Line.{lines_of}
use Rattle.priced_cert.proofs.LoopLemmas.{parted_few, parted_more}
use Rattle.priced_cert.proofs.reader.part.Goals as goal

pub overflow_add-next : goal.overflow_add-next
overflow_add-next c =
    let few = parted_few c.args.text.now c.loop-line.next c.loop-line.line-iterator c.next.new.self c.in-Some.line.now c.loop-line.parting c.loop-line.invariant c.in-Some.ensures.steps in
    omega arith

pub loop-line-preserved : goal.loop-line-preserved
loop-line-preserved c =
    parted_more (lines_of c.args.text.now) c.loop-line.next c.loop-line.line-iterator c.next.new.self c.in-Some.line.now c.loop-line.parting c.take.new.self c.in_ok-take.field-0 c.loop-line.invariant
    c.in-Some.ensures.steps c.in_ok-take.ensures (search rules)
