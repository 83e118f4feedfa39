use Rattle.std.proofs.Common.{◌<◌, List, ℕ, map, length, sym, ap, ◌∙◌, subst}
use Rattle.class_pool.specs.declared.class.ClassFile.{ClassFile}
use Rattle.class_lookup.specs.Hierarchy.{is_interface}
use Rattle.class_lookup.specs.Lists.{first_some}
use Rattle.class_lookup.specs.Lookup.{declared_method, find_method}
use Rattle.class_lookup.specs.Symbols.{symbol}
use Rattle.class_hierarchy.proofs.Found.{init_found, interface_found, class_found, interfaces_read}
use Rattle.class_hierarchy.proofs.hierarchy.Hierarchy.find_method_by.Goals as goal

pub returns-then-is_initializer : goal.returns-then-is_initializer
returns-then-is_initializer c = λ s n d.
    let cs = c.self.inside.classes in
    c.declared_method.ensures s (ap (λ (x : List ClassFile). symbol x s.name) c.self.view_is ∙ n) (ap (λ (x : List ClassFile). symbol x s.descriptor) c.self.view_is ∙ d)
    ∙ (init_found cs c.args.class s (sym (c.is_initializer.ensures s n) ∙ c.if-is_initializer.true) ∙ ap (λ (x : List ClassFile). find_method x c.args.class s) c.self.view_is)

pub returns-then-is_interface : goal.returns-then-is_interface
returns-then-is_interface c = λ s n d.
    let cs = c.self.inside.classes in
    let lt = subst (λ (x : List ClassFile). c.args.class < length x) (sym c.self.view_is) c.requires in
    let list = c.index.result.now in
    c.first_method.ensures s (ap (λ (x : List ClassFile). symbol x s.name) c.self.view_is ∙ n) (ap (λ (x : List ClassFile). symbol x s.descriptor) c.self.view_is ∙ d)
    ∙ (ap (λ (xs : List ℕ). first_some (map (declared_method cs s) xs)) c.as_slice-list.ensures
    ∙ (interface_found cs c.args.class s (sym (c.is_initializer.ensures s n) ∙ c.if-is_initializer.false) (sym c.if-is_interface.ensures) list
    (interfaces_read cs c.self.inside.above c.self.invariant.1 c.args.class lt list c.index.ensures)
    ∙ ap (λ (x : List ClassFile). find_method x c.args.class s) c.self.view_is))

pub returns-else-is_interface : goal.returns-else-is_interface
returns-else-is_interface c = λ s n d.
    c.find_in_class.ensures s n d
    ∙ class_found c.args.self.now c.args.class s (sym (c.is_initializer.ensures s n) ∙ c.if-is_initializer.false)
    (ap (λ (x : List ClassFile). is_interface x c.args.class) (sym c.self.view_is) ∙ sym c.if-is_interface.ensures)
