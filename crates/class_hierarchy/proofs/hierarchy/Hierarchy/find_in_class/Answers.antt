use Rattle.std.proofs.Common.{◌<◌, ◌++◌, List, ℕ, map, length, sym, ap, ◌∙◌, subst}
use Rattle.class_pool.specs.declared.class.ClassFile.{ClassFile}
use Rattle.class_lookup.specs.Hierarchy.{superclasses, all_superinterfaces}
use Rattle.class_lookup.specs.Lists.{first_some}
use Rattle.class_lookup.specs.Lookup.{declared_method}
use Rattle.class_lookup.specs.Symbols.{symbol}
use Rattle.class_hierarchy.proofs.Found.{first_above, then_above, superclasses_read, inherited_read}
use Rattle.class_hierarchy.proofs.hierarchy.Hierarchy.find_in_class.Goals as goal

pub returns-in-Some : goal.returns-in-Some
returns-in-Some c = λ s n d.
    let cs = c.self.inside.classes in
    let lt = subst (λ (x : List ClassFile). c.args.class < length x) (sym c.self.view_is) c.requires in
    let read = c.as_slice-list.ensures ∙ superclasses_read cs c.self.inside.above c.self.invariant.1 c.args.class lt c.index.result.now c.index.ensures in
    first_above cs c.args.class s c.as_slice-list.result.now read c.in-Some.place
    (c.in-Some.ensures s (ap (λ (x : List ClassFile). symbol x s.name) c.self.view_is ∙ n) (ap (λ (x : List ClassFile). symbol x s.descriptor) c.self.view_is ∙ d))
    ∙ ap (λ (x : List ClassFile). first_some (map (declared_method x s) (superclasses x c.args.class ++ all_superinterfaces x c.args.class))) c.self.view_is

pub returns-in-None : goal.returns-in-None
returns-in-None c = λ s n d.
    let cs = c.self.inside.classes in
    let lt = subst (λ (x : List ClassFile). c.args.class < length x) (sym c.self.view_is) c.requires in
    let read = c.as_slice-list.ensures ∙ superclasses_read cs c.self.inside.above c.self.invariant.1 c.args.class lt c.index.result.now c.index.ensures in
    let rest = c.index-in-None.result.now in
    let a = ap (λ (x : List ClassFile). symbol x s.name) c.self.view_is ∙ n in
    let b = ap (λ (x : List ClassFile). symbol x s.descriptor) c.self.view_is ∙ d in
    c.first_method-in-None.ensures s a b
    ∙ (ap (λ (xs : List ℕ). first_some (map (declared_method cs s) xs)) c.as_slice-list-in-None.ensures
    ∙ (then_above cs c.args.class s c.as_slice-list.result.now read (c.in-None.ensures s a b) rest (inherited_read cs c.self.inside.above c.self.invariant.1 c.args.class lt rest c.index-in-None.ensures)
    ∙ ap (λ (x : List ClassFile). first_some (map (declared_method x s) (superclasses x c.args.class ++ all_superinterfaces x c.args.class))) c.self.view_is))
