use Rattle.std.proofs.Common.{List, None, get_or, ap, ◌∙◌}
use Rattle.class_pool.specs.declared.class.ClassFile.{ClassFile}
use Rattle.image_words.specs.Slots.{own_slots}
use Rattle.image_words.specs.Tables.{own_slot}
use Rattle.image_words.proofs.SlotLemmas.{slots_made}
use Rattle.image_words.proofs.class_slots.class_slots.Goals as goal

pub returns : goal.returns
returns c =
    let cs = c.args.classes.now in
    let class = c.args.class in
    let are = c.superclasses_stand_above.ensures cs c.is_without_cycle.ensures in
    let own = c.in_ok-add_own.ensures.added ∙ ap (λ (ks : List ClassFile). own_slots ks class) c.classes-2.ensures in
    record {
      slots = slots_made cs are class c.add_own.new.slots.added.items c.add_inherited.new.slots.added.items own c.in_ok-add_inherited.ensures.slots;
      own = λ i. ap (λ xs. get_or xs i None) c.in_ok-add_inherited.ensures.own ∙ (c.in_ok-add_own.ensures.own i ∙ ap (λ (ks : List ClassFile). own_slot ks (class, i)) c.classes-2.ensures);
      so_far = c.in_ok-add_inherited.ensures.so_far;
    }
