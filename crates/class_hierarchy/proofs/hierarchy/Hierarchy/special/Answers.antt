use Rattle.std.proofs.Common.{List, sym, ap, ◌∙◌, arith}
use Rattle.std.specs.List.{filter_map, find}
use Rattle.class_pool.specs.declared.class.ClassFile.{ClassFile}
use Rattle.class_lookup.specs.Lookup.{Place}
use Rattle.class_lookup.specs.Selection.{signature_at, is_instance, is_of_superclass, special}
use Rattle.class_hierarchy.specs.Members.{declared_as}
use Rattle.class_lookup.specs.Symbols.{symbol}
use Rattle.class_hierarchy.proofs.Filled.{superclass_below}
use Rattle.class_hierarchy.proofs.Found.{superclasses_read}
use Rattle.class_hierarchy.proofs.SelectedLemmas.{special_none, special_other, special_topmost, special_found}
use Rattle.class_hierarchy.proofs.hierarchy.Hierarchy.special.Goals as goal

pub returns-in_err-method : goal.returns-in_err-method
returns-in_err-method c =
    c.from_residual.ensures ∙ (special_none c.self.inside.classes c.args.current c.args.named c.args.resolved c.in_err-method.ensures
    ∙ ap (λ (x : List ClassFile). special x c.args.current c.args.named c.args.resolved) c.self.view_is)

pub returns-in_err-upper : goal.returns-in_err-upper
returns-in_err-upper c =
    let cs = c.self.inside.classes in
    let m = c.in_ok-method.ensures in
    let s = m.0.signature in
    let tells = ap (λ (x : List ClassFile). is_of_superclass x c.args.current c.args.named s) c.self.view_is
    ∙ (sym (c.is_of_superclass.ensures s (ap (λ (x : List ClassFile). symbol x s.name) (sym c.self.view_is) ∙ m.0.name_is)) ∙ c.if-is_of_superclass.true) in
    c.from_residual-in_err-upper.ensures
    ∙ (special_topmost cs c.args.current c.args.named c.args.resolved s (ap (signature_at cs) (sym m.1) ∙ m.0.has) tells (sym c.in_err-upper.ensures)
    ∙ ap (λ (x : List ClassFile). special x c.args.current c.args.named c.args.resolved) c.self.view_is)

pub index-requires : goal.index-requires
index-requires c =
    let below = superclass_below c.self.inside.classes c.args.current c.in_ok-upper.upper c.in_ok-upper.ensures in
    let long = c.self.invariant.1.superclasses_long in
    omega (arith, below, long)

pub returns-in_ok-upper : goal.returns-in_ok-upper
returns-in_ok-upper c =
    let cs = c.self.inside.classes in
    let m = c.in_ok-method.ensures in
    let s = m.0.signature in
    let tells = ap (λ (x : List ClassFile). is_of_superclass x c.args.current c.args.named s) c.self.view_is
    ∙ (sym (c.is_of_superclass.ensures s (ap (λ (x : List ClassFile). symbol x s.name) (sym c.self.view_is) ∙ m.0.name_is)) ∙ c.if-is_of_superclass.true) in
    let below = superclass_below cs c.args.current c.in_ok-upper.upper c.in_ok-upper.ensures in
    let read = c.as_slice-list.ensures ∙ superclasses_read cs c.self.inside.above c.self.invariant.1 c.in_ok-upper.upper below c.index.result.now c.index.ensures in
    c.first_instance.ensures
    ∙ (ap (λ (a : Place). find (is_instance cs) (filter_map (declared_as cs a) c.as_slice-list.result.now)) m.1
    ∙ (special_found cs c.args.current c.args.named c.args.resolved s (ap (signature_at cs) (sym m.1) ∙ m.0.has) tells c.in_ok-upper.upper (sym c.in_ok-upper.ensures) c.as_slice-list.result.now read
    ∙ ap (λ (x : List ClassFile). special x c.args.current c.args.named c.args.resolved) c.self.view_is))

pub returns-else-is_of_superclass : goal.returns-else-is_of_superclass
returns-else-is_of_superclass c =
    let cs = c.self.inside.classes in
    let m = c.in_ok-method.ensures in
    let s = m.0.signature in
    let tells = ap (λ (x : List ClassFile). is_of_superclass x c.args.current c.args.named s) c.self.view_is
    ∙ (sym (c.is_of_superclass.ensures s (ap (λ (x : List ClassFile). symbol x s.name) (sym c.self.view_is) ∙ m.0.name_is)) ∙ c.if-is_of_superclass.false) in
    special_other cs c.args.current c.args.named c.args.resolved s (ap (signature_at cs) (sym m.1) ∙ m.0.has) tells
    ∙ ap (λ (x : List ClassFile). special x c.args.current c.args.named c.args.resolved) c.self.view_is
