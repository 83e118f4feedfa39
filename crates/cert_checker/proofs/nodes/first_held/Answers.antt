use Rattle.std.proofs.Common.{ℕ, ◌+◌, Option, sym, subst}
use Rattle.section_check.specs.Least.{IsLeast}
use Rattle.cert_checker.proofs.Least.{IsHeldUnder, held_more, held_all}
use Rattle.cert_checker.proofs.nodes.first_held.Goals as goal

pub loop-l-preserved : goal.loop-l-preserved
loop-l-preserved c =
    let ls = c.args.loops.now in
    let i = c.loop-l.l-index in
    let P : Option ℕ → Type 0 = λ o. IsLeast (IsHeldUnder c.args.flags.now ls (i + 1)) o in
    subst P (sym c.lesser-least.ensures)
    (held_more c.args.flags.now ls i c.l-item.result c.members.result.now c.loop-l-test.true c.l-item.is c.members.ensures c.loop-l.least c.first_member.result c.loop-l.invariant c.first_member.ensures)

pub returns : goal.returns
returns c = held_all c.args.flags.now c.args.loops.now c.loop-l.l-index c.loop-l.least c.loop-l-test.false c.loop-l.invariant
