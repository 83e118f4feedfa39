use Rattle.std.proofs.Common.{arith}
use Rattle.image_file.proofs.Sequences.{files_more, too_few, decided}
use Rattle.image_file.proofs.linked.reading.are_files.Goals as goal

pub returns-in_default : goal.returns-in_default
returns-in_default c =
    (λ no. absurd (let contradiction = no in cc), λ all. absurd (too_few c.loop.counter c.args.count c.args.bytes.now c.loop.rest.now c.loop-test.true c.loop.invariant c.in_default.ensures all))

pub loop-preserved : goal.loop-preserved
loop-preserved c = files_more c.loop.counter c.in-Some.field-0-0.now c.args.bytes.now c.loop.rest.now c.in-Some.after.now c.loop.invariant c.in-Some.ensures

pub returns : goal.returns
returns c = decided c.loop.counter c.args.count c.args.bytes.now c.loop.rest.now c.is_empty.result (omega arith) c.loop.invariant c.is_empty.ensures
