use Rattle.std.proofs.Common.{ℕ, ◌+◌, Option, sym, subst}
use Rattle.section_check.specs.Least.{IsLeast}
use Rattle.section_check.proofs.Least.{IsHeldBelow, held_more, held_all}
use Rattle.section_check.proofs.placing.first_member_beyond.Goals as goal

pub loop-i-preserved : goal.loop-i-preserved
loop-i-preserved c =
    let ls = c.args.loops.now in
    let n = c.args.n in
    let i = c.loop-i.i in
    let P : Option ℕ → Type 0 = λ o. IsLeast (IsHeldBelow n ls (i + 1)) o in
    subst P (sym c.lesser-least.ensures)
    (held_more n ls i c.index-loops-i.result c.members.result.now c.loop-i-test.true c.index-loops-i.is c.members.ensures c.loop-i.least c.first_beyond.result c.loop-i.invariant c.first_beyond.ensures)

pub returns : goal.returns
returns c = held_all c.args.n c.args.loops.now c.loop-i.i c.loop-i.least c.loop-i-test.false c.loop-i.invariant
