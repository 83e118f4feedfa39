use Rattle.std.proofs.Common.{◌+◌, Bool, length, Vec, Global, sym, ◌∙◌, subst}
use Rattle.program_tables.specs.Resolved.{resolved}
use Rattle.array_fields.proofs.Subclassing.{AreSharingBelow, sharing_more, sharing_same}
use Rattle.array_fields.proofs.sharing.sharing.Goals as goal
use Rattle.array_fields.proofs.sharing.sharing.Goals.{then-extends, else-extends}

pub loop-lower-preserved : goal.loop-lower-preserved
loop-lower-preserved c =
    let P = resolved c.args.program.now in
    let n = length c.args.program.now in
    let owner = c.args.class in
    let k = c.loop-lower.lower in
    let old = c.loop-lower.flags.items in
    elim c.if-extends.branch [
      | then-extends w ↦
          let is = sym c.extends.ensures ∙ w.if-extends.true in
          subst (λ (v : Vec Bool Global). AreSharingBelow P n (k + 1) owner v.items) (sym w.flags-is) (sharing_more P n owner k old w.mark.new.flags.items is c.loop-lower.invariant w.mark.ensures)
      | else-extends w ↦
          let not = sym c.extends.ensures ∙ w.if-extends.false in
          subst (λ (v : Vec Bool Global). AreSharingBelow P n (k + 1) owner v.items) (sym w.flags-is) (sharing_same P n owner k old not c.loop-lower.invariant)
    ]
