use Rattle.std.proofs.Common.{arith}
use Rattle.std.proofs.lemmas.Bool.{ltb-true}
use Rattle.section_check.proofs.Rising.{above_first, below_last}
use Rattle.section_check.proofs.faulty.comes_before.Goals as goal

pub returns-in-Some-Some : goal.returns-in-Some-Some
returns-in-Some-Some c less meet =
    let last = c.in-Some-Some.ensures.item.3.1 0 in
    let first = c.in-Some-Some.ensures'.item.3.1 0 in
    let a = below_last c.args.a.now c.requires.a meet.0 meet.1 in
    let b = above_first c.args.b.now c.requires.b meet.0 meet.2 in
    let below = ltb-true c.in-Some-Some.last.now c.in-Some-Some.first.now less in
    omega arith
