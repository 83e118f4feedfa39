use Rattle.std.proofs.Common.{◌≡◌, IfErr, List, sym, subst, rules}
use Rattle.std.proofs.lemmas.List.{take_all}
use Rattle.std.proofs.lemmas.Result.{IfErr-weaker}
use Rattle.slot_table.specs.declared.slot.Slot.{Slot}
use Rattle.slot_plans.specs.declared.plan.NotPlanned.{NotPlanned}
use Rattle.slot_plans.specs.PlanAnswers.{IsSlotRefusedBy, HasSlotLine, IsPlanIn, IsNotPlannedBy}
use Rattle.slot_plans.proofs.Slotting.{longer, refused_at}
use Rattle.slot_plans.proofs.plan.lines_of.Goals as goal

pub returns-in_err-put_slot-clause-refused : goal.returns-in_err-put_slot-clause-refused
returns-in_err-put_slot-clause-refused c =
    let a = c.args.analysis.now in
    let slots = c.args.slots.now in
    let i = c.loop-slot.slot in
    let parts : Slot = c.index-slots-slot.result in
    let fault = c.in_err-put_slot.field-0.0 in
    let same : IfErr c.from_residual.result (λ e. e ≡ fault) = search rules in
    let S : Slot → Type 0 = λ x. IsSlotRefusedBy a i x fault in
    let R : NotPlanned → Type 0 = λ e. IsNotPlannedBy a slots e in
    let refused : R fault = refused_at a slots i parts c.loop-slot.text.items fault c.loop-slot-test.true c.loop-slot.invariant (subst S c.index-slots-slot.is c.in_err-put_slot.ensures.refused) in
    IfErr-weaker c.from_residual.result (λ e. e ≡ fault) R (λ e is. subst R (sym is) refused) same

pub loop-slot-preserved : goal.loop-slot-preserved
loop-slot-preserved c =
    let parts : Slot = c.index-slots-slot.result in
    let S : Slot → Type 0 = λ x. HasSlotLine c.args.analysis.now c.loop-slot.slot x c.loop-slot.text.items c.put_slot.new.text.items in
    longer c.args.analysis.now c.args.slots.now c.loop-slot.slot parts c.loop-slot.text.items c.put_slot.new.text.items c.loop-slot-test.true c.loop-slot.invariant (subst S c.index-slots-slot.is c.in_ok-put_slot.ensures.put)

pub returns-clause-plan : goal.returns-clause-plan
returns-clause-plan c =
    let Q : List Slot → Type 0 = λ xs. IsPlanIn c.args.analysis.now xs c.loop-slot.text.items in
    subst Q (take_all c.loop-slot.slot c.args.slots.now c.loop-slot-test.false) c.loop-slot.invariant
