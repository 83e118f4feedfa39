use Rattle.std.proofs.Common.{◌≡◌, ℕ, List, length, Vec, Global, sym, subst, arith}
use Rattle.class_pool.specs.declared.class.ClassFile.{ClassFile}
use Rattle.program_tables.specs.Numbers.{methods_by_number}
use Rattle.program_tables.specs.Resolved.{resolved}
use Rattle.flow_table.specs.Receivers.{lists_of, AreBelow}
use Rattle.flow_table.specs.Targets.{AreSelected}
use Rattle.flow_table.proofs.Making.{none_selected_yet, selected_more}
use Rattle.flow_table.proofs.targets.selected_lists.Goals as goal

pub loop-method-init : goal.loop-method-init
loop-method-init c =
    subst (λ (ls : List (List ℕ)). AreSelected (resolved c.args.program.now) c.args.marks.now 0 ls) (sym c.new-lists.ensures.items) (none_selected_yet (resolved c.args.program.now) c.args.marks.now)

pub selected_list-requires-clause-below : goal.selected_list-requires-clause-below
selected_list-requires-clause-below c =
    let cs = c.args.program.now in
    subst (λ (vs : List (Vec ℕ Global)). AreBelow cs (length cs) (lists_of vs)) (sym c.deref.ensures.value)
    (subst (λ (ks : List ClassFile). AreBelow ks (length ks) (lists_of c.in_ok-below.below.items)) c.hierarchy.ensures c.in_ok-below.ensures)

pub loop-method-preserved : goal.loop-method-preserved
loop-method-preserved c = selected_more (resolved c.args.program.now) c.args.marks.now c.loop-method.method _ _ _ c.loop-method.invariant c.in_ok-selected_list.ensures c.in_ok-push.ensures.items

pub returns : goal.returns
returns c =
    let cs = c.args.program.now in
    let end = c.loop-method-test.false in
    let top = c.loop-method.auto.method-end in
    let many = c.method_count-method-end.ensures in
    let last : c.loop-method.method ≡ length (methods_by_number cs) = omega arith in
    subst (λ (n : ℕ). AreSelected (resolved cs) c.args.marks.now n c.loop-method.lists.items) last c.loop-method.invariant
