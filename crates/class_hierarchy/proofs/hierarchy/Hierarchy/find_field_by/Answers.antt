use Rattle.std.proofs.Common.{◌<◌, List, ℕ, map, length, sym, ap, ◌∙◌, subst}
use Rattle.class_pool.specs.declared.class.ClassFile.{ClassFile}
use Rattle.class_lookup.specs.Lists.{first_some}
use Rattle.class_lookup.specs.Lookup.{declared_field, find_field}
use Rattle.class_lookup.specs.Symbols.{symbol}
use Rattle.class_hierarchy.proofs.Found.{field_found, supertypes_read}
use Rattle.class_hierarchy.proofs.hierarchy.Hierarchy.find_field_by.Goals as goal

pub returns : goal.returns
returns c = λ s n d.
    let cs = c.self.inside.classes in
    let lt = subst (λ (x : List ClassFile). c.args.class < length x) (sym c.self.view_is) c.requires in
    let read = supertypes_read cs c.self.inside.above c.self.invariant.1 c.args.class lt c.index.result.now c.index.ensures in
    c.first_field.ensures s (ap (λ (x : List ClassFile). symbol x s.name) c.self.view_is ∙ n) (ap (λ (x : List ClassFile). symbol x s.descriptor) c.self.view_is ∙ d)
    ∙ (ap (λ (xs : List ℕ). first_some (map (declared_field cs s) xs)) c.as_slice-list.ensures
    ∙ (field_found cs c.args.class s c.index.result.now read ∙ ap (λ (x : List ClassFile). find_field x c.args.class s) c.self.view_is))
