use Rattle.std.proofs.Common.{ℕ, ◌<◌, List, [], ◌∷◌, ◌++◌, length, get_or, take, Bool, sym, subst, arith}
use Rattle.std.proofs.lemmas.List.{take_more}
use Rattle.std.proofs.lemmas.List.Elements.{All-get_or}
use Rattle.compact_walks.specs.Charging.{AreMarkedBut}
use Rattle.compact_walks.proofs.Marks.{marked_but_more, marked_but_same}
use Rattle.compact_walks.proofs.charging.mark_but.Goals as goal
use Rattle.compact_walks.proofs.charging.mark_but.Goals.{then-u-header, else-u-header}

pub loop-u-preserved : goal.loop-u-preserved
loop-u-preserved c =
    let us = c.args.members.now in
    let out = c.args.header in
    let i = c.loop-u.u-index in
    let lt = c.loop-u-test.true in
    let old = c.args.marks.now in
    let now = c.loop-u.marks in
    let u = get_or us i 0 in
    let small = All-get_or (λ (z : ℕ). z < length old) us i 0 lt c.requires in
    let long = c.loop-u.invariant.long in
    subst (λ (vs : List ℕ). AreMarkedBut vs out old c.if-u-header.marks) (sym (take_more us i 0 lt)) (elim c.if-u-header.branch [
      | then-u-header w ↦
          subst (λ (ms : List Bool). AreMarkedBut (take i us ++ u ∷ []) out old ms) (sym w.marks-is) (marked_but_more (take i us) out old now u c.loop-u.invariant (omega arith) (λ same. w.if-u-header.true (sym same)))
      | else-u-header w ↦
          subst (λ (ms : List Bool). AreMarkedBut (take i us ++ u ∷ []) out old ms) (sym w.marks-is) (marked_but_same (take i us) out old now u c.loop-u.invariant (sym w.if-u-header.false))
    ])
