use Rattle.std.proofs.Common.{◌≡◌, ℕ, ◌+◌, true, false, List, length, Vec, Global, sym, ap, ◌∙◌, subst, arith}
use Rattle.class_pool.specs.declared.class.ClassFile.{ClassFile}
use Rattle.class_lookup.specs.Hierarchy.{is_concrete}
use Rattle.flow_table.specs.Receivers.{lists_of, AreBelow}
use Rattle.flow_table.proofs.Receiving.{none_below, below_more, below_same}
use Rattle.flow_table.proofs.receivers.receivers_of.Goals as goal
use Rattle.flow_table.proofs.receivers.receivers_of.Goals.{then-is_concrete+in_ok-put_below, else-is_concrete}

pub loop-class-init : goal.loop-class-init
loop-class-init c =
    let cs = c.args.hierarchy.now in
    let many = c.class_count-count.ensures ∙ ap (λ (ks : List ClassFile). length ks) c.classes-classes.ensures in
    none_below cs c.class_count-count.result (lists_of c.in_ok-below.below.items) many c.in_ok-below.ensures

pub loop-class-preserved : goal.loop-class-preserved
loop-class-preserved c =
    let cs = c.args.hierarchy.now in
    let n = c.loop-class.class in
    let tested = ap (λ (ks : List ClassFile). is_concrete ks n) (sym c.classes-classes.ensures) ∙ sym c.is_concrete.ensures in
    let h = c.loop-class.invariant in
    elim c.if-is_concrete.branch [
      | then-is_concrete+in_ok-put_below w ↦
          let concrete : is_concrete cs n ≡ true = tested ∙ w.if-is_concrete.true in
          subst (λ (v : Vec (Vec ℕ Global) Global). AreBelow cs (n + 1) (lists_of v.items)) (sym w.below-is)
          (below_more cs n w.supertypes.result.now (lists_of c.loop-class.below.items) (lists_of w.put_below.new.below.items) h concrete w.supertypes.ensures.search w.in_ok-put_below.ensures)
      | else-is_concrete w ↦
          let abstract : is_concrete cs n ≡ false = tested ∙ w.if-is_concrete.false in
          subst (λ (v : Vec (Vec ℕ Global) Global). AreBelow cs (n + 1) (lists_of v.items)) (sym w.below-is) (below_same cs n (lists_of c.loop-class.below.items) h abstract)
    ]

pub returns : goal.returns
returns c =
    let cs = c.args.hierarchy.now in
    let many = c.class_count-count.ensures ∙ ap (λ (ks : List ClassFile). length ks) c.classes-classes.ensures in
    let end = c.loop-class-test.false in
    let top = c.loop-class.auto.class-end in
    let last : c.loop-class.class ≡ length cs = omega arith in
    subst (λ (n : ℕ). AreBelow cs n (lists_of c.loop-class.below.items)) last c.loop-class.invariant
