use Rattle.std.proofs.Common.{◌/◌, ◌%◌, sym, ◌∙◌, subst, arith}
use Rattle.std.proofs.lemmas.Bool.{both_ways, ne_eqb}
use Rattle.known_ints.specs.Code.{IsIdle}
use Rattle.known_ints.proofs.Idling.{idle_more}
use Rattle.known_ints.proofs.code.idle.Goals.{then-node-eq0, else-node-eq0}
use Rattle.known_ints.proofs.code.idle.Goals as goal

pub loop-node-preserved : goal.loop-node-preserved
loop-node-preserved c =
    let parts = c.args.parts.now in
    let n = c.loop-node.node in
    let more = idle_more parts n c.loop-node.flags.items c.push.new.self.items c.if-node-eq0.push c.loop-node.invariant in
    elim c.if-node-eq0.branch [
      | then-node-eq0 w ↦
          more (λ is. (n / 2, omega (arith, w.if-node-eq0.true), subst IsIdle w.part_at.ensures (w.is_idle.ensures (sym w.push-is ∙ is)))) c.in_ok-push.ensures.items
      | else-node-eq0 w ↦ more (λ is. absurd (both_ways c.if-node-eq0.push (w.push-is ∙ ne_eqb (n % 2) 0 w.if-node-eq0.false) is)) c.in_ok-push.ensures.items
    ]
