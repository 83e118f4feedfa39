use Rattle.std.proofs.Common.{List, ap, sym, ◌∙◌, subst}
use Rattle.class_pool.specs.declared.class.ClassFile.{ClassFile}
use Rattle.image_builder.specs.declared.sums.Run.{Run}
use Rattle.image_words.specs.Outline.{AreInstances}
use Rattle.image_words.specs.Slots.{interface_methods}
use Rattle.image_words.specs.Tables.{AreSlots}
use Rattle.image_layout.proofs.outline.outline_of.Goals as goal

pub new-requires : goal.new-requires
new-requires c = c.deref.ensures.value ∙ (c.in_ok-numbered.ensures ∙ ap interface_methods c.classes.ensures)

pub places_of-requires-clause-methods : goal.places_of-requires-clause-methods
places_of-requires-clause-methods c = c.deref-2.ensures.value ∙ (c.in_ok-numbered.ensures ∙ ap interface_methods (c.classes.ensures ∙ c.hierarchy-hierarchy.ensures))

pub places_of-requires-clause-slots : goal.places_of-requires-clause-slots
places_of-requires-clause-slots c = subst (λ (ks : List ClassFile). AreSlots ks c.in_ok-slots.slots) c.hierarchy-hierarchy.ensures c.in_ok-slots.ensures

pub places_of-requires-clause-instances : goal.places_of-requires-clause-instances
places_of-requires-clause-instances c = subst (λ (runs : List Run). AreInstances c.args.program.now runs) (sym c.deref-3.ensures.value) c.in_ok-instances.ensures

pub returns : goal.returns
returns c =
    let cs = c.args.program.now in
    record {
      interface_methods = c.in_ok-numbered.ensures ∙ ap interface_methods (c.classes.ensures ∙ c.hierarchy-hierarchy.ensures);
      slots = subst (λ (ks : List ClassFile). AreSlots ks c.in_ok-slots.slots) c.hierarchy-hierarchy.ensures c.in_ok-slots.ensures;
      instances = c.in_ok-instances.ensures;
      statics = c.in_ok-tables.ensures.statics;
      type_words = c.in_ok-tables.ensures.words;
      tables = c.in_ok-tables.ensures.tables;
      interface_tables = c.in_ok-tables.ensures.interface_tables;
      pools = c.in_ok-tables.ensures.pools;
      methods = c.in_ok-tables.ensures.methods;
      objects = c.in_ok-tables.ensures.objects;
    }
