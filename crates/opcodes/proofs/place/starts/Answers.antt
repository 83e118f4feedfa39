use Rattle.std.proofs.Common.{List, ℕ, sym, ◌∙◌, subst, Option, Some, None}
use Rattle.opcodes.proofs.StartLemmas.{AreSoFar, begins_empty, begins, goes_on}
use Rattle.opcodes.proofs.place.starts.Goals as goal
use Rattle.opcodes.proofs.place.starts.Goals.{then-is_empty, else-is_empty}

pub loop-next-init : goal.loop-next-init
loop-next-init c =
    let start : Option ℕ → Type 0 = AreSoFar c.args.code.now c.in_ok-starts.starts.items in
    let at : List ℕ → Option ℕ → Type 0 = λ found next. AreSoFar c.args.code.now found next in
    elim c.if-is_empty.branch [
      | then-is_empty w ↦
          subst start (sym w.next-is) (subst (λ (found : List ℕ). at found None) (sym c.in_ok-starts.ensures.items) (begins_empty c.args.code.now (sym c.is_empty.ensures ∙ w.if-is_empty.true)))
      | else-is_empty w ↦
          subst start (sym w.next-is) (subst (λ (found : List ℕ). at found (Some 0)) (sym c.in_ok-starts.ensures.items) (begins c.args.code.now (sym c.is_empty.ensures ∙ w.if-is_empty.false)))
    ]

pub loop-next-preserved : goal.loop-next-preserved
loop-next-preserved c =
    subst (λ (found : List ℕ). AreSoFar c.args.code.now found c.place_behind-next.result) (sym c.in_ok-push.ensures.items)
    (goes_on c.args.code.now c.loop-next.starts.items c.in-Some.pc c.place_behind-next.result c.place_behind-next.ensures (subst (AreSoFar c.args.code.now c.loop-next.starts.items) c.in-Some.is c.loop-next.invariant))
