use Rattle.std.proofs.Common.{List, get_or, length, refl, sym, ap, ◌∙◌, subst, arith}
use Rattle.lists.proofs.Among.{among_at}
use Rattle.image_words.specs.Tables.{AreAbove}
use Rattle.image_words.specs.declared.class_slots.ClassSlots.{ClassSlots}
use Rattle.image_words.proofs.SlotLemmas.{made_none, made_above, made_more, made_all}
use Rattle.image_words.proofs.slots.slots_by_class.Goals as goal

pub loop-class-init : goal.loop-class-init
loop-class-init c = made_none c.args.classes.now c.args.signatures.now c.in_ok-table.table.items (c.in_ok-table.ensures ∙ (c.class_count.ensures ∙ ap length c.classes.ensures))

pub class_slots-requires-clause-class : goal.class_slots-requires-clause-class
class_slots-requires-clause-class c = c.requires.order.below (get_or c.args.order.now c.loop-class.class-index 0) (among_at c.args.order.now c.loop-class.class-index c.loop-class-test.true)

pub class_slots-requires-clause-above : goal.class_slots-requires-clause-above
class_slots-requires-clause-above c =
    let order = c.args.order.now in
    let i = c.loop-class.class-index in
    subst (λ (t : List ClassSlots). AreAbove c.args.classes.now c.args.signatures.now (get_or order i 0) t) (sym c.deref.ensures.value)
    (made_above c.args.classes.now c.args.signatures.now order i c.loop-class.table.items c.requires.order c.loop-class-test.true c.loop-class.invariant)

pub index_mut-requires : goal.index_mut-requires
index_mut-requires c =
    let below = c.requires.order.below (get_or c.args.order.now c.loop-class.class-index 0) (among_at c.args.order.now c.loop-class.class-index c.loop-class-test.true) in
    let long = c.loop-class.invariant.long in
    omega (arith, below, long)

pub loop-class-preserved : goal.loop-class-preserved
loop-class-preserved c =
    made_more c.args.classes.now c.args.signatures.now c.args.order.now c.loop-class.class-index c.loop-class.table.items _ c.in_ok-slots.slots c.requires.order c.loop-class-test.true c.loop-class.invariant c.in_ok-slots.ensures refl

pub returns : goal.returns
returns c = made_all c.args.classes.now c.args.signatures.now c.args.order.now c.loop-class.class-index c.loop-class.table.items c.loop-class-test.false c.loop-class.invariant
