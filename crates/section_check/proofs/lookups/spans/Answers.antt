use Rattle.std.proofs.Common.{arith}
use Rattle.std.proofs.lemmas.Bool.{le-leb}
use Rattle.section_check.proofs.Rising.{above_first, below_last}
use Rattle.section_check.proofs.lookups.spans.Goals as goal

pub returns-then-first-u : goal.returns-then-first-u
returns-then-first-u c has =
    let last = c.in-Some-Some.ensures'.item.3.1 0 in
    let most = below_last c.args.nodes.now c.requires c.args.u has in
    le-leb c.args.u c.in-Some-Some.last.now (omega arith)

pub returns-else-first-u : goal.returns-else-first-u
returns-else-first-u c has =
    let first = c.in-Some-Some.ensures.item.3.1 0 in
    let least = above_first c.args.nodes.now c.requires c.args.u has in
    let less = c.if-first-u.false in
    absurd (omega arith)
