use Rattle.std.proofs.Common.{◌<◌, List, ℕ, length, sym, ap, ◌∙◌, subst}
use Rattle.std.specs.List.{filter_map, find}
use Rattle.class_pool.specs.declared.class.ClassFile.{ClassFile}
use Rattle.class_lookup.specs.Hierarchy.{is_interface}
use Rattle.class_lookup.specs.Lookup.{Place}
use Rattle.class_lookup.specs.Selection.{signature_at, overriding, head, is_public_instance, select}
use Rattle.class_hierarchy.specs.Members.{declared_as}
use Rattle.class_hierarchy.proofs.Found.{superclasses_read}
use Rattle.class_hierarchy.proofs.SelectedLemmas.{select_none, select_public, select_overriding, class_there}
use Rattle.class_hierarchy.proofs.hierarchy.Hierarchy.select.Goals as goal

pub returns-in_err-method : goal.returns-in_err-method
returns-in_err-method c =
    c.from_residual.ensures ∙ (select_none c.self.inside.classes c.args.receiver c.args.resolved c.in_err-method.ensures
    ∙ ap (λ (x : List ClassFile). select x c.args.receiver c.args.resolved) c.self.view_is)

pub is_interface-requires : goal.is_interface-requires
is_interface-requires c =
    let cs = c.self.inside.classes in
    let m = c.in_ok-method.ensures in
    subst (λ (k : ℕ). k < length cs) (sym (ap (λ (p : Place). p.0) c.resolved.view_is))
    (class_there cs c.args.resolved m.0.signature (ap (signature_at cs) (sym m.1) ∙ m.0.has))

pub returns-then-is_interface : goal.returns-then-is_interface
returns-then-is_interface c =
    let cs = c.self.inside.classes in
    let m = c.in_ok-method.ensures in
    let lt = subst (λ (x : List ClassFile). c.args.receiver < length x) (sym c.self.view_is) c.requires in
    let read = c.as_slice-list.ensures ∙ superclasses_read cs c.self.inside.above c.self.invariant.1 c.args.receiver lt c.index.result.now c.index.ensures in
    c.first_public.ensures
    ∙ (ap (λ (a : Place). find (is_public_instance cs) (filter_map (declared_as cs a) c.as_slice-list.result.now)) m.1
    ∙ (select_public cs c.args.receiver c.args.resolved m.0.signature (ap (signature_at cs) (sym m.1) ∙ m.0.has) (ap (is_interface cs) (sym (ap (λ (p : Place). p.0) c.resolved.view_is)) ∙ sym c.if-is_interface.ensures) c.as_slice-list.result.now read
    ∙ ap (λ (x : List ClassFile). select x c.args.receiver c.args.resolved) c.self.view_is))

pub returns-else-is_interface : goal.returns-else-is_interface
returns-else-is_interface c =
    let cs = c.self.inside.classes in
    let m = c.in_ok-method.ensures in
    let lt = subst (λ (x : List ClassFile). c.args.receiver < length x) (sym c.self.view_is) c.requires in
    let read = c.as_slice-list.ensures ∙ superclasses_read cs c.self.inside.above c.self.invariant.1 c.args.receiver lt c.index.result.now c.index.ensures in
    c.first_overriding.ensures
    ∙ (ap (λ (a : Place). head (overriding cs a (filter_map (declared_as cs a) c.as_slice-list.result.now))) m.1
    ∙ (select_overriding cs c.args.receiver c.args.resolved m.0.signature (ap (signature_at cs) (sym m.1) ∙ m.0.has) (ap (is_interface cs) (sym (ap (λ (p : Place). p.0) c.resolved.view_is)) ∙ sym c.if-is_interface.ensures) c.as_slice-list.result.now read
    ∙ ap (λ (x : List ClassFile). select x c.args.receiver c.args.resolved) c.self.view_is))
