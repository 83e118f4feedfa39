use Rattle.std.proofs.Common.{rules, List, sym, ap, ◌∙◌}
use Rattle.class_pool.specs.declared.class.ClassFile.{ClassFile}
use Rattle.class_lookup.specs.Hierarchy.{is_interface}
use Rattle.class_lookup.specs.Lookup.{Place}
use Rattle.class_lookup.specs.Selection.{signature_at, select}
use Rattle.class_hierarchy.specs.Selecting.{selected_at}
use Rattle.class_hierarchy.proofs.SelectedLemmas.{select_none, selected_is, places_are, none_each}
use Rattle.class_hierarchy.proofs.hierarchy.Hierarchy.select_each.Goals as goal

pub returns-in-Some : goal.returns-in-Some
returns-in-Some c =
    let cs = c.self.inside.classes in
    let m = c.in-Some.ensures in
    let a = c.args.resolved in
    let i = c.is_interface.result in
    places_are c.places_for.result (λ k. (selected_at cs i c.in-Some.method.place k).place) (λ k. select c.args.self.now k a) c.args.receivers.now
    (λ k. ap (λ (p : Place). (selected_at cs i p k).place) m.1
    ∙ (selected_is cs a m.0.signature (ap (signature_at cs) (sym m.1) ∙ m.0.has) i (ap (is_interface cs) (sym (ap (λ (p : Place). p.0) c.resolved.view_is)) ∙ sym c.is_interface.ensures) k
    ∙ ap (λ (x : List ClassFile). select x k a) c.self.view_is))
    c.places_for.ensures

pub returns-in_ok-vec-in-None : goal.returns-in_ok-vec-in-None
returns-in_ok-vec-in-None c =
    let a = c.args.resolved in
    c.in_ok-vec-in-None.ensures.items_if_clones_equal (λ y h. search rules)
    ∙ none_each (λ k. select c.args.self.now k a) c.args.receivers.now (λ k. select_none c.self.inside.classes k a c.in-None.ensures ∙ ap (λ (x : List ClassFile). select x k a) c.self.view_is)
