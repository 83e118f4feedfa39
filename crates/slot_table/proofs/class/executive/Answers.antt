use Rattle.std.proofs.Common.{◌≡◌, List, length, sym, ap, ◌∙◌, subst, arith}
use Rattle.std.proofs.lemmas.Result.{IfOk-weaker}
use Rattle.class_pool.specs.declared.class.ClassFile.{ClassFile}
use Rattle.class_rules.specs.Grammar.{IsClass}
use Rattle.class_making.specs.declared.plan.ClassPlan.{ClassPlan}
use Rattle.class_making.specs.Plans.{items_of, class_of}
use Rattle.slot_table.specs.declared.slot.Slot.{Slot}
use Rattle.slot_table.specs.Executive.{executive_plan, executive_of}
use Rattle.slot_table.proofs.Plans.{plan_room}
use Rattle.slot_table.proofs.class.executive.Goals as goal

pub made-requires : goal.made-requires
made-requires c =
    let plan : c.in_ok-plan.plan ≡ executive_plan c.args.table.now c.args.rounds = c.in_ok-plan.ensures ∙ ap (λ (slots : List Slot). executive_plan slots c.args.rounds) c.slots.ensures.slots in
    let room = plan_room c.items_are_few.ensures c.args.table.now c.args.rounds c.slots.ensures.table.few in
    let same = ap (λ (p : ClassPlan). length (items_of p)) plan in
    omega (arith, room, same)

pub returns-clause-class : goal.returns-clause-class
unfolding executive_of
returns-clause-class c =
    let plan : c.in_ok-plan.plan ≡ executive_plan c.args.table.now c.args.rounds = c.in_ok-plan.ensures ∙ ap (λ (slots : List Slot). executive_plan slots c.args.rounds) c.slots.ensures.slots in
    IfOk-weaker c.made.result (λ (class : ClassFile). class ≡ class_of c.in_ok-plan.plan) (λ (class : ClassFile). class ≡ executive_of c.args.table.now c.args.rounds) (λ class e. e ∙ ap class_of plan) c.made.ensures

pub returns-clause-right : goal.returns-clause-right
unfolding executive_of
returns-clause-right c =
    let plan : c.in_ok-plan.plan ≡ executive_plan c.args.table.now c.args.rounds = c.in_ok-plan.ensures ∙ ap (λ (slots : List Slot). executive_plan slots c.args.rounds) c.slots.ensures.slots in
    let right = (c.executive_is_a_class.ensures c.args.table.now c.args.rounds c.slots.ensures.table).0 in
    IfOk-weaker c.made.result (λ (class : ClassFile). class ≡ class_of c.in_ok-plan.plan) IsClass (λ class e. subst IsClass (sym (e ∙ ap class_of plan)) right) c.made.ensures
