use Rattle.std.proofs.Common.{List, true, false, sym, ap, ◌∙◌}
use Rattle.class_pool.specs.declared.class.ClassFile.{ClassFile}
use Rattle.class_lookup.specs.Hierarchy.{is_interface}
use Rattle.class_lookup.specs.Lookup.{Place}
use Rattle.image_words.proofs.OwnLemmas.{is_upward, slot_told, slot_class}
use Rattle.image_words.proofs.slots.Slots.slot.Goals as goal

pub returns-then-is_upward : goal.returns-then-is_upward
returns-then-is_upward c =
    let cs = c.args.classes.now in
    let named = c.args.named in
    let m = c.args.method in
    let same = ap (λ (ks : List ClassFile). is_interface ks named) (sym c.classes-listed.ensures) ∙ (sym c.is_interface.ensures ∙ c.if-is_interface.false) in
    let plain = ap (λ (p : Place). is_interface cs p.0) (sym c.method.view_is)
    ∙ (ap (λ (ks : List ClassFile). is_interface ks c.method.inside.class) (sym c.classes-listed.ensures) ∙ (sym c.is_interface-else-is_interface.ensures ∙ c.if-is_interface-2.false)) in
    let upward = ap (λ (p : Place). is_upward cs named p.0) (sym c.method.view_is) ∙ (sym c.is_upward.ensures ∙ c.if-is_upward.true) in
    c.own_slot.ensures cs c.requires.slots
    ∙ (sym (slot_told cs c.is_without_cycle.ensures (c.superclasses_stand_above.ensures cs c.is_without_cycle.ensures) named m plain true upward) ∙ sym (slot_class cs named m same plain))

pub returns-else-is_upward : goal.returns-else-is_upward
returns-else-is_upward c =
    let cs = c.args.classes.now in
    let named = c.args.named in
    let m = c.args.method in
    let same = ap (λ (ks : List ClassFile). is_interface ks named) (sym c.classes-listed.ensures) ∙ (sym c.is_interface.ensures ∙ c.if-is_interface.false) in
    let plain = ap (λ (p : Place). is_interface cs p.0) (sym c.method.view_is)
    ∙ (ap (λ (ks : List ClassFile). is_interface ks c.method.inside.class) (sym c.classes-listed.ensures) ∙ (sym c.is_interface-else-is_interface.ensures ∙ c.if-is_interface-2.false)) in
    let upward = ap (λ (p : Place). is_upward cs named p.0) (sym c.method.view_is) ∙ (sym c.is_upward.ensures ∙ c.if-is_upward.false) in
    sym (slot_told cs c.is_without_cycle.ensures (c.superclasses_stand_above.ensures cs c.is_without_cycle.ensures) named m plain false upward) ∙ sym (slot_class cs named m same plain)
